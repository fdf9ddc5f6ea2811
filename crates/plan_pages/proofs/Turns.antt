-- One turn more.
use Rattle.std.proofs.Common.{◌≡◌, ℕ, zero, suc, ◌+◌, ◌<◌, List, [], ◌∷◌, ◌++◌, length, map, filter, cond, get_or, set, take}
use Rattle.std.proofs.Common.{refl, sym, ap, subst, ◌∙◌, inl, inr}
use Rattle.std.proofs.Common.{append-nil}
use Rattle.std.specs.Prelude.{◌==◌, replicate}
use Rattle.std.proofs.lemmas.Bool.{eq-eqb}
use Rattle.std.proofs.lemmas.Bool.Decides.{eqb_tells}
use Rattle.std.proofs.lemmas.List.{get_or-set_same, get_or-set_other, map-append}
use Rattle.std.proofs.lemmas.List.Elements.{filter-append}
use Rattle.plan_pictures.specs.declared.lines.order_text.Order.{Order}
use Rattle.plan_pages.specs.declared.playing.Turn.{Turn}
use Rattle.plan_pages.specs.Played.{ArePlayed, made_by, order_of}

module _ (turns : List Turn) (t : Turn) where
  one_turn : (r : ℕ) → made_by (turns ++ t ∷ []) r ≡ made_by turns r ++ map (λ u. u.step) (cond (t.rank == r) (t ∷ []) [])
  one_turn r =
      ap (map (λ u. u.step)) (filter-append (λ u. u.rank == r) turns (t ∷ []))
      ∙ map-append (λ u. u.step) (filter (λ u. u.rank == r) turns) (cond (t.rank == r) (t ∷ []) [])

  pub one_more : (orders : List Order) (made : List ℕ) → ArePlayed orders turns made → t.rank < length made
      → take (get_or made t.rank 0 + 1) (order_of orders t.rank) ≡ take (get_or made t.rank 0) (order_of orders t.rank) ++ t.step ∷ []
      → ArePlayed orders (turns ++ t ∷ []) (set made t.rank (get_or made t.rank 0 + 1))
  one_more orders made played within next r =
      let more = get_or made t.rank 0 + 1 in
      elim (eqb_tells t.rank r) [
        | inl (same, e) ↦ subst (λ k. made_by (turns ++ t ∷ []) k ≡ take (get_or (set made t.rank more) k 0) (order_of orders k)) e
            (one_turn t.rank ∙ ap (λ b. made_by turns t.rank ++ map (λ u. u.step) (cond b (t ∷ []) [])) (eq-eqb t.rank t.rank refl)
            ∙ ap (λ v. v ++ t.step ∷ []) (played t.rank) ∙ sym next
            ∙ ap (λ n. take n (order_of orders t.rank)) (sym (get_or-set_same made t.rank more 0 within)))
        | inr (other, ne) ↦ one_turn r ∙ ap (λ b. made_by turns r ++ map (λ u. u.step) (cond b (t ∷ []) [])) other
            ∙ append-nil (made_by turns r) ∙ played r
            ∙ ap (λ n. take n (order_of orders r)) (sym (get_or-set_other made t.rank r more 0 (λ z. ne (sym z))))
      ]

get_or-replicate : (n r d : ℕ) → get_or (replicate n d) r d ≡ d
get_or-replicate zero r d = refl
get_or-replicate (suc n) zero d = refl
get_or-replicate (suc n) (suc r) d = get_or-replicate n r d

-- nothing is played yet
pub none_played : (orders : List Order) (n : ℕ) → ArePlayed orders [] (replicate n 0)
none_played orders n r = ap (λ k. take k (order_of orders r)) (sym (get_or-replicate n r 0))

-- Counts that are made place by place are those of the items.
use Rattle.std.proofs.Common.{ℕ, suc, ◌+◌, ◌<◌, ◌≡◌, ◌∙◌, List, [], ◌∷◌, ◌++◌, add-one, ap, arith, drop, get_or, length, map, sym, take}
use Rattle.std.proofs.Math.ListN.{set}
use Rattle.std.proofs.Math.Seq.{drop-cons, set-append_seam}
use Rattle.std.proofs.lemmas.List.{append_assoc, length-map, length-take-le, map_more}

-- the item at the next place is counted
pub one_more : {X : Type 0} (f : X → ℕ) (xs : List X) (old counts new : List ℕ) (i n : ℕ) (x : X) → i < length xs
    → length old ≡ length xs → counts ≡ map f (take i xs) ++ drop i old → x ≡ get_or xs i x → n ≡ f x → new ≡ set counts i n
    → new ≡ map f (take (i + 1) xs) ++ drop (i + 1) old
one_more f xs old counts new i n x lt size before read count made =
    let long : length (map f (take i xs)) ≡ i = length-map (take i xs) f ∙ length-take-le i xs (omega (arith, lt)) in
    made
    ∙ ap (λ t. set t i n) before
    ∙ ap (λ t. set (map f (take i xs) ++ t) i n) (drop-cons old i 0 (omega (arith, lt, size)))
    ∙ ap (λ k. set (map f (take i xs) ++ get_or old i 0 ∷ drop (suc i) old) k n) (sym long)
    ∙ set-append_seam (map f (take i xs)) (get_or old i 0) (drop (suc i) old) n
    ∙ ap (λ y. map f (take i xs) ++ y ∷ drop (suc i) old) (count ∙ ap f read)
    ∙ sym (append_assoc (map f (take i xs)) (f (get_or xs i x) ∷ []) (drop (suc i) old))
    ∙ ap (λ t. t ++ drop (suc i) old) (sym (map_more f xs i x lt))
    ∙ ap (λ k. map f (take (i + 1) xs) ++ drop k old) (sym (add-one i))

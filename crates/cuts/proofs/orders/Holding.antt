-- The verdict is Holds exactly where the lists are the local steps of one interleaving that ends at rest.
use Rattle.std.proofs.Common.{ℕ, ◌<◌, List, [], ◌∷◌, ◌++◌, refl, ap, ◌∙◌, sym, map, append-nil, append_assoc}
use Rattle.std.proofs.lemmas.List.{map-append}
use Rattle.cuts.specs.histories.Cut.{IsPrefixOf}
use Rattle.cuts.specs.histories.System.{System}
use Rattle.cuts.specs.orders.Taking.{AreListed, IsInterleaving, IsNext, Lists, Move, histories, listed}
use Rattle.cuts.specs.orders.Verdict.{IsVerdict, IsWhole, Rests}
use Rattle.cuts.specs.declared.orders.Verdict.TheVariants.{Holds}
use Rattle.cuts.proofs.orders.Parts.{longer, longer-here, prefix-trans}
use Rattle.cuts.proofs.orders.Verdicts.{not_whole}

-- moves whose steps are beginnings of the lists are listed, one after the other
pub are_listed : (k : System) (lists : Lists) (es : List Move) → IsInterleaving k es →
    ((r : ℕ) → r < k.count → IsPrefixOf (map listed (histories es r)) (lists r)) → AreListed lists es
are_listed k lists [] made front = tt
are_listed k lists (e ∷ es) made front = (are_listed k lists es made.0 (λ r h. before r (front r h)), next (front e.rank made.1))
  where
    before : (r : ℕ) → IsPrefixOf (map listed (histories (e ∷ es) r)) (lists r) → IsPrefixOf (map listed (histories es r)) (lists r)
    before r p =
        let l = longer e es r in
        prefix-trans (map listed (histories es r)) (map listed (histories (e ∷ es) r)) (lists r)
        (map listed l.0, sym (map-append listed (histories es r) l.0) ∙ ap (map listed) l.1) p

    next : IsPrefixOf (map listed (histories (e ∷ es) e.rank)) (lists e.rank) → IsNext lists (histories es) e.rank (listed e.step)
    next p = (
      p.0,
      sym (append_assoc (map listed (histories es e.rank)) (listed e.step ∷ []) p.0)
          ∙ ap (λ q. q ++ p.0) (sym (map-append listed (histories es e.rank) (e.step ∷ []))
          ∙ ap (map listed) (sym (longer-here e es e.rank refl)))
          ∙ p.1,
    )

pub holds_from : (k : System) (lists : Lists) (es : List Move) → IsInterleaving k es →
    ((r : ℕ) → r < k.count → IsWhole lists (histories es) r × Rests k (histories es) r) → IsVerdict k lists Holds
holds_from k lists es made whole = record {
  moves = es;
  taken = record {
    made = made;
    listed = are_listed k lists es made (λ r h. ([], append-nil (map listed (histories es r)) ∙ (whole r h).0));
    stuck = λ r h e next enabled. not_whole (map listed (histories es r)) (lists r) next.0 (listed e) (whole r h).0 next.1;
  };
  says = whole;
}

-- The times of ranks, cell by cell.
use Rattle.std.proofs.Common.{ℕ, ◌≡◌, ◌<◌, ◌+◌, ◌⊎◌, inl, inr, List, length, get_or, max, replicate, set, arith, refl, sym, ◌∙◌, ap, subst}
use Rattle.std.proofs.lemmas.List.{get_or-set_same, get_or-set_other, length-set, length-replicate}
use Rattle.plan_core.specs.Plan.{Plan}
use Rattle.plan_tables.specs.Tables.{rank_of}
use Rattle.plan_costs.specs.Ranks.{AreRankTimes, IsOwn}
use Rattle.plan_costs.specs.Soonest.{IsSoonest}
use Rattle.plan_costs.specs.Times.{TimesOf}
use Rattle.plan_costs.proofs.Ends.{zero_at}
use Rattle.plan_costs.proofs.Ports.{same_or_not, soonest_more, soonest_same}

pub no_ranks : (p : Plan) (t : TimesOf) (ranks : List ℕ) → ranks ≡ replicate p.ranks 0 → AreRankTimes p t 0 ranks
no_ranks p t ranks e = record {
  count = ap length e ∙ length-replicate p.ranks 0;
  times = λ r. record {
    from_then = omega arith;
    after = λ m h. let a = h.known in absurd (omega (arith, a));
    prompt = inl (ap (λ v. get_or v r 0) e ∙ zero_at p.ranks r);
  };
}

pub more_ranks : (p : Plan) (t : TimesOf) (c rank time : ℕ) (old new : List ℕ) → AreRankTimes p t c old → rank ≡ rank_of p c
    → rank < length old → time ≡ get_or t.cells c 0 → new ≡ set old rank (max (get_or old rank 0) time) → AreRankTimes p t (c + 1) new
more_ranks p t c rank time old new so_far er lt et en = record {
  count = ap length en ∙ length-set old rank (max (get_or old rank 0) time) ∙ so_far.count;
  times = λ r. at r (same_or_not r rank);
}
  where
    f : ℕ → ℕ
    f d = get_or t.cells d 0

    on : (r d : ℕ) → IsOwn p c r d → IsOwn p (c + 1) r d
    on r d h = let a = h.known in record { known = omega (arith, a); there = h.there }

    back : (r d : ℕ) → IsOwn p (c + 1) r d → (d ≡ c) ⊎ IsOwn p c r d
    back r d h = at' (same_or_not d c)
      where
        at' : (d ≡ c) ⊎ (d ≡ c → ⊥) → (d ≡ c) ⊎ IsOwn p c r d
        at' (inl e) = inl e
        at' (inr ne) = let a = h.known in inr (record { known = omega (arith, a, ne); there = h.there })

    at : (r : ℕ) → (r ≡ rank) ⊎ (r ≡ rank → ⊥) → IsSoonest 0 (IsOwn p (c + 1) r) f (get_or new r 0)
    at r (inl e) =
        let P : ℕ → Type 0 = λ y. IsSoonest 0 (IsOwn p (c + 1) y) f (get_or new y 0) in
        subst P (sym e) (soonest_more 0 (IsOwn p c rank) (IsOwn p (c + 1) rank) f f (get_or old rank 0) (get_or new rank 0) c
        (so_far.times rank) (on rank) (λ m h. refl) (record { known = omega arith; there = sym er }) (back rank)
        (ap (λ v. get_or v rank 0) en ∙ get_or-set_same old rank (max (get_or old rank 0) time) 0 lt ∙ ap (max (get_or old rank 0)) et))
    at r (inr ne) = soonest_same 0 0 (IsOwn p c r) (IsOwn p (c + 1) r) f f (get_or old r 0) (get_or new r 0) (so_far.times r) refl
        (ap (λ v. get_or v r 0) en ∙ get_or-set_other old rank r (max (get_or old rank 0) time) 0 ne) (on r)
        (λ m h. elim (back r m h) [
          | inl z ↦ absurd (ne (sym h.there ∙ ap (rank_of p) z ∙ sym er))
          | inr o ↦ o
        ])
        (λ m h. refl)

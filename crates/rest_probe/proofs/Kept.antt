-- What the calls of a wave keep: it stays one for its plan.
use Rattle.std.proofs.Common.{◌≡◌, ◌≢◌, ◌∷◌, [], ◌∙◌, ⊎_elim, ℕ, zero, suc, false, List, length, length-set, set, ap, sym, refl, subst}
use Rattle.std.proofs.lemmas.List.{length-map}
use mathlib.Core.Option.{some, some-injective}
use lib.ListN.{get_elem?}
use Rattle.atomic_table.proofs.Lists.{at_set}
use Rattle.plan_core.specs.Plan.{Plan}
use Rattle.rest_probe.specs.declared.notes.LaneCount.{LaneCount}
use Rattle.rest_probe.specs.declared.notes.RankNote.{RankNote}
use Rattle.rest_probe.specs.Counted.{cleared, counted}
use Rattle.rest_probe.specs.Waves.{IsFor, SameLanes, emptied}
use Rattle.rest_probe.specs.Lanes.{lanes_from, lanes_to}
use Rattle.rest_probe.proofs.Elements.{at_map_back}

pub for-set : (p : Plan) (w : List RankNote) (r : ℕ) (x y : RankNote) → get_elem? w r ≡ some x → SameLanes x y → IsFor p w →
    IsFor p (set w r y)
for-set p w r x y there same is = record {
  count = length-set w r y ∙ is.count;
  sent = λ q z at. ⊎_elim
      (λ (h : (q ≡ r) × (y ≡ z)). ap (λ (v : RankNote). cleared v.note.sent) (sym h.1)
      ∙ (same.sent ∙ subst (λ n. cleared x.note.sent ≡ lanes_from p n) (sym h.0) (is.sent r x there)))
      (λ (h : (q ≢ r) × (get_elem? w q ≡ some z)). is.sent q z h.1) (at_set w r q y z at);
  got = λ q z at. ⊎_elim
      (λ (h : (q ≡ r) × (y ≡ z)). ap (λ (v : RankNote). cleared v.note.got) (sym h.1)
      ∙ (same.got ∙ subst (λ n. cleared x.note.got ≡ lanes_to p n) (sym h.0) (is.got r x there)))
      (λ (h : (q ≢ r) × (get_elem? w q ≡ some z)). is.got q z h.1) (at_set w r q y z at);
}

-- the counts cleared twice are those cleared once
pub twice-cleared : (cs : List LaneCount) → cleared (cleared cs) ≡ cleared cs
twice-cleared [] = refl
twice-cleared (c ∷ cs) = ap (λ (l : List LaneCount). counted c 0 ∷ l) (twice-cleared cs)

-- another number at one place
pub cleared-set : (cs : List LaneCount) (i : ℕ) (c : LaneCount) (k : ℕ) → get_elem? cs i ≡ some c →
    cleared (set cs i (counted c k)) ≡ cleared cs
cleared-set [] i c k e = refl
cleared-set (d ∷ cs) zero c k e = ap (λ (z : LaneCount). counted z 0 ∷ cleared cs) (sym (some-injective d c e))
cleared-set (d ∷ cs) (suc i) c k e = ap (λ (l : List LaneCount). counted d 0 ∷ l) (cleared-set cs i c k e)

pub as-many : (cs ds : List LaneCount) → cleared ds ≡ cleared cs → length ds ≡ length cs
as-many cs ds e = sym (length-map ds (λ c. counted c 0)) ∙ (ap (λ (l : List LaneCount). length l) e ∙ length-map cs (λ c. counted c 0))

-- a wave whose notes are out
pub for-emptied : (p : Plan) (w : List RankNote) → IsFor p w → IsFor p (emptied w)
for-emptied p w is = record {
  count = length-map w (λ (x : RankNote). record x { there = false }) ∙ is.count;
  sent = λ r x at. (let z = at_map_back (λ (x : RankNote). record x { there = false }) w r x at in
      ap (λ (v : RankNote). cleared v.note.sent) (sym z.2) ∙ is.sent r z.0 z.1);
  got = λ r x at. (let z = at_map_back (λ (x : RankNote). record x { there = false }) w r x at in
      ap (λ (v : RankNote). cleared v.note.got) (sym z.2) ∙ is.got r z.0 z.1);
}

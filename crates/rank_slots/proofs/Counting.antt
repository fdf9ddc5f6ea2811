-- Counts that are noted lane by lane.
use Rattle.std.proofs.Common.{◌≡◌, ◌≢◌, ◌<◌, ◌+◌, ◌∙◌, ⊎_elim, ℕ, List, length, length-set, set, set-set, ap, sym, refl, subst, arith}
use Rattle.std.specs.Prelude.{slice_set}
use mathlib.Core.Option.{some}
use Rattle.ptl_types.specs.declared.headers.Lane.{Lane}
use lib.ListN.{get_elem?}
use Rattle.atomic_table.proofs.Lists.{at_map, at_set, set_again, set_here}
use Rattle.rest_probe.specs.declared.notes.LaneCount.{LaneCount}
use Rattle.rest_probe.specs.declared.notes.RankNote.{RankNote}
use Rattle.rest_probe.specs.Counted.{cleared, counted}
use Rattle.rest_probe.proofs.Kept.{as-many, cleared-set}
use Rattle.rank_slots.specs.Probes.{Recounted}
use Rattle.rank_slots.proofs.Pairs.{at_map_back, within}

-- ---- lane by lane
-- the counts of the lanes before a place were noted; `with` puts the counts into the note
pub record Sofar (with : RankNote → List LaneCount → RankNote) (P : LaneCount → Type 0) (old : List LaneCount) (n r : ℕ) (x : RankNote)
    (before after : List RankNote) : Type 0 where
  pub counts : List LaneCount
  pub wave : after ≡ set before r (with x counts)
  pub lanes : cleared counts ≡ cleared old
  pub each : (i : ℕ) (c : LaneCount) → i < n → get_elem? counts i ≡ some c → P c

pub none-sofar : (with : RankNote → List LaneCount → RankNote) (P : LaneCount → Type 0) (old : List LaneCount) (r : ℕ) (x : RankNote)
    (w : List RankNote)
    → get_elem? w r ≡ some x → with x old ≡ x → Sofar with P old 0 r x w w
none-sofar with P old r x w at same = record {
  counts = old;
  wave = sym (set_again w r (with x old) (at ∙ ap some (sym same)));
  lanes = refl;
  each = λ i c low there. absurd (omega (arith, low));
}

-- one lane more
pub more-sofar : (with : RankNote → List LaneCount → RankNote) (P : LaneCount → Type 0) (old : List LaneCount) (n r : ℕ) (x : RankNote)
    (before after last : List RankNote)
    → (h : Sofar with P old n r x before after) (c : LaneCount) (k : ℕ) → get_elem? h.counts n ≡ some c → P (counted c k)
    → last ≡ set after r (with x (set h.counts n (counted c k))) → Sofar with P old (n + 1) r x before last
more-sofar with P old n r x before after last h c k there is now = record {
  counts = set h.counts n (counted c k);
  wave = now ∙ (ap (λ (w : List RankNote). set w r (with x (set h.counts n (counted c k)))) h.wave
      ∙ set-set before r (with x h.counts) (with x (set h.counts n (counted c k))));
  lanes = cleared-set h.counts n c k there ∙ h.lanes;
  each = λ i d low at. ⊎_elim
      (λ (e : (i ≡ n) × (counted c k ≡ d)). subst P e.1 is)
      (λ (e : (i ≢ n) × (get_elem? h.counts i ≡ some d)). h.each i d (let apart = e.0 in omega (arith, low, apart)) e.1)
      (at_set h.counts n i (counted c k) d at);
}

pub all-sofar : (with : RankNote → List LaneCount → RankNote) (P : LaneCount → Type 0) (old : List LaneCount) (n r : ℕ) (x : RankNote)
    (before after : List RankNote)
    → n ≡ length old → Sofar with P old n r x before after → (cs : List LaneCount) × (after ≡ slice_set before r (with x cs)) ×
    Recounted P old cs
all-sofar with P old n r x before after all h = (
  h.counts,
  h.wave,
  record {
    lanes = h.lanes;
    each = λ i c at. h.each i c (let k = within h.counts i c at in let m = as-many old h.counts h.lanes in
        omega (arith, k, m, all)) at;
  },
)

-- ---- lanes that differ in their numbers alone
pub same-lanes : (P : ℕ → Lane → Type 0) (cs ds : List LaneCount) → cleared ds ≡ cleared cs →
    ((i : ℕ) (c : LaneCount) → get_elem? cs i ≡ some c → P c.rank c.lane)
    → (i : ℕ) (c : LaneCount) → get_elem? ds i ≡ some c → P c.rank c.lane
same-lanes P cs ds e h i c at =
    let z = at_map_back (λ (d : LaneCount). counted d 0) cs i (counted c 0) (ap (λ (l : List LaneCount). get_elem? l i) (sym e)
    ∙ at_map (λ (d : LaneCount). counted d 0) ds i c at) in
    subst (λ (d : LaneCount). P d.rank d.lane) z.2 (h i z.0 z.1)

-- what stands at a place that was set
pub set-is : (before after : List RankNote) (r : ℕ) (y : RankNote) → r < length before → after ≡ set before r y → get_elem? after r ≡ some y
set-is before after r y low e = ap (λ (l : List RankNote). get_elem? l r) e ∙ set_here before r y low

pub set-long : (before after : List RankNote) (r : ℕ) (y : RankNote) → after ≡ set before r y → length after ≡ length before
set-long before after r y e = ap (λ (l : List RankNote). length l) e ∙ length-set before r y

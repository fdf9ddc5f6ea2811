-- The lanes of a plan, rank by rank that they come from.
use Rattle.std.proofs.Common.{ℕ, zero, suc, ◌+◌, ◌-◌, ◌*◌, ◌<◌, ◌≤◌, ◌≡◌, ◌∙◌, ⊎_elim, Bool, true, false, List, [], ◌∷◌, ◌++◌, length}
use Rattle.std.proofs.Common.{sym, refl, ap, subst, arith, append-nil, append_assoc, length-append, if◌then◌else◌}
use Rattle.std.proofs.Math.Nat.{suc-mul}
use Rattle.std.proofs.lemmas.Bool.{cases_eq}
use mathlib.Core.List.{IsPrefix}
use mathlib.Core.Option.{some}
use lib.ListN.{get_elem?}
use Rattle.ptl_types.specs.declared.headers.Lane.TheVariants.{Request, Answer}
use Rattle.pair_wires.specs.declared.bounds.Bounds.{Bounds}
use Rattle.plan_core.specs.Plan.{Plan}
use Rattle.plan_core.specs.Sound.{SoundPlan}
use Rattle.plan_core.specs.calls.Lanes.{is_used_lane}
use Rattle.worlds.proofs.opening.Laid.{at_most-pairs}
use Rattle.rank_wiring.specs.declared.lanes.OutLanes.{OutLanes}
use Rattle.rank_slots.specs.Lists.{Each}
use Rattle.rank_wiring.specs.Fans.{AreFans, IsFan}
use Rattle.rank_slots.specs.Lanes.{AreLanes, IsLane, bounds_if_used, bounds_on, lanes_before, lanes_below, lanes_from}
use Rattle.rank_slots.proofs.Snocs.{each_nil, each_snoc, front_some, snoc_at}
use Rattle.rank_wiring.proofs.UsedLanes.{AreBelow, all-lanes, none-below, pair-below}

-- ---- they are all lanes
module _ (p : Plan) where
  row-below : (s : ℕ) → AreBelow p (2 * (s * p.ranks)) (lanes_before p s) → s < p.ranks → (d : ℕ) → d ≤ p.ranks
      → AreBelow p (2 * (s * p.ranks + d)) (lanes_before p s ++ lanes_below p s d)
  row-below s h low zero le =
      subst (λ l. AreBelow p (2 * (s * p.ranks + 0)) l) (sym (append-nil (lanes_before p s)))
      (let e : 2 * (s * p.ranks) ≡ 2 * (s * p.ranks + 0) = omega arith in subst (λ m. AreBelow p m (lanes_before p s)) e h)
  row-below s h low (suc d) le =
      let before = lanes_before p s in let l = lanes_below p s d in let x = bounds_if_used p s d Request in
      let y = bounds_if_used p s d Answer in
      let one = pair-below p (s * p.ranks + d) (before ++ l) (row-below s h low d (omega (arith, le))) s d low (omega (arith, le)) refl in
      let e : 2 * (s * p.ranks + d + 1) ≡ 2 * (s * p.ranks + suc d) = omega arith in
      subst (λ m. AreBelow p m (before ++ ((l ++ x) ++ y))) e
      (subst (AreBelow p (2 * (s * p.ranks + d + 1))) (ap (λ z. z ++ y) (append_assoc before l x) ∙ append_assoc before (l ++ x) y) one)

  rows-below : (s : ℕ) → s ≤ p.ranks → AreBelow p (2 * (s * p.ranks)) (lanes_before p s)
  rows-below zero le = let e : 0 ≡ 2 * (0 * p.ranks) = omega arith in subst (λ m. AreBelow p m []) e (none-below p)
  rows-below (suc s) le =
      let h = row-below s (rows-below s (omega (arith, le))) (omega (arith, le)) p.ranks (omega arith) in
      let m = suc-mul s p.ranks in
      let e : 2 * (s * p.ranks + p.ranks) ≡ 2 * (suc s * p.ranks) = omega (arith, m) in
      subst (λ k. AreBelow p k (lanes_before p (suc s))) e h

  pub whole-lanes : (inputs : ℕ) → SoundPlan p inputs → AreLanes p (lanes_before p p.ranks)
  whole-lanes inputs sound = all-lanes p inputs (p.ranks * p.ranks) (lanes_before p p.ranks) sound refl (rows-below p.ranks (omega arith))

  -- ---- how many there are
  longer : (s k : ℕ) → length (lanes_before p s) ≤ length (lanes_before p (s + k))
  longer s zero = let e : s ≡ s + 0 = omega arith in subst (λ m. length (lanes_before p s) ≤ length (lanes_before p m)) e (omega arith)
  longer s (suc k) =
      let h = longer s k in let a = length-append (lanes_before p (s + k)) (lanes_from p (s + k)) in
      let e : suc (s + k) ≡ s + suc k = omega arith in
      subst (λ m. length (lanes_before p s) ≤ length (lanes_before p m)) e (omega (arith, h, a))

  pub at_most-before : (inputs : ℕ) → SoundPlan p inputs → (s : ℕ) → s ≤ p.ranks → length (lanes_before p s) ≤ 131072
  at_most-before inputs sound s le =
      let all = (rows-below p.ranks (omega arith)).at_most in let q = at_most-pairs p.ranks (sound.few_ranks) in
      let h = longer s (p.ranks - s) in
      let e : s + (p.ranks - s) ≡ p.ranks = omega (arith, le) in
      let k = subst (λ m. length (lanes_before p s) ≤ length (lanes_before p m)) e h in
      omega (arith, all, q, k)

  pub next-at_most : (inputs : ℕ) → SoundPlan p inputs → (s : ℕ) → s < p.ranks → length (lanes_before p s) + length (lanes_from p s)
      ≤ 131072
  next-at_most inputs sound s low =
      let a = length-append (lanes_before p s) (lanes_from p s) in let b = at_most-before inputs sound (suc s) (omega (arith, low)) in
      omega (arith, a, b)

  -- the lanes from fewer ranks come first
  front-of : (s k : ℕ) → IsPrefix (lanes_before p s) (lanes_before p (s + k))
  front-of s zero = let e : s ≡ s + 0 = omega arith in ([], append-nil (lanes_before p s) ∙ ap (λ m. lanes_before p m) e)
  front-of s (suc k) =
      let r = front-of s k in let e : suc (s + k) ≡ s + suc k = omega arith in (
        r.0 ++ lanes_from p (s + k),
        sym (append_assoc (lanes_before p s) r.0 (lanes_from p (s + k)))
            ∙ (ap (λ (l : List Bounds). l ++ lanes_from p (s + k)) r.1 ∙ ap (λ m. lanes_before p m) e),
      )

  pub first-ones : (s n : ℕ) → s ≤ n → IsPrefix (lanes_before p s) (lanes_before p n)
  first-ones s n le = let e : s + (n - s) ≡ n = omega (arith, le) in
      subst (λ m. IsPrefix (lanes_before p s) (lanes_before p m)) e (front-of s (n - s))

  -- ---- one rank more
  pub fans-more : (fans : List OutLanes) (f : OutLanes) → AreFans p fans → IsFan p (length fans) f → AreFans p (fans ++ f ∷ [])
  fans-more fans f h is s g at = ⊎_elim (λ there. h s g there)
      (λ here. subst (IsFan p s) here.1 (subst (λ m. IsFan p m f) (sym here.0) is)) (snoc_at fans f s g at)

  -- ---- each comes from its rank
  each_if : (P : Bounds → Type 0) (c : Bool) (xs : List Bounds) (b : Bounds) → Each P xs → P b → Each P (xs ++ (if c then b ∷ [] else []))
  each_if P true xs b h is = each_snoc P xs b h is
  each_if P false xs b h is = subst (Each P) (sym (append-nil xs)) h

  from-below : (s d : ℕ) → Each (λ (b : Bounds). b.source ≡ s) (lanes_below p s d)
  from-below s zero = each_nil (λ (b : Bounds). b.source ≡ s)
  from-below s (suc d) =
      each_if (λ (b : Bounds). b.source ≡ s) (is_used_lane p s d Answer) (lanes_below p s d ++ bounds_if_used p s d Request)
      (bounds_on p s d Answer)
      (each_if (λ (b : Bounds). b.source ≡ s) (is_used_lane p s d Request) (lanes_below p s d) (bounds_on p s d Request)
      (from-below s d) refl) refl

  pub from-rank : (s : ℕ) → Each (λ (b : Bounds). b.source ≡ s) (lanes_from p s)
  from-rank s = from-below s p.ranks

  -- those of ranks below come from ranks below
  pub from-before : (s : ℕ) → Each (λ (b : Bounds). b.source < s) (lanes_before p s)
  from-before zero = each_nil (λ (b : Bounds). b.source < 0)
  from-before (suc s) = each_both (λ (b : Bounds). b.source < suc s) (lanes_before p s) (lanes_from p s)
      (λ i b e. let h = from-before s i b e in omega (arith, h)) (λ i b e. let h = from-rank s i b e in omega (arith, h))
    where
      each_both : (P : Bounds → Type 0) (xs ys : List Bounds) → Each P xs → Each P ys → Each P (xs ++ ys)
      each_both P [] ys h k i b e = k i b e
      each_both P (x ∷ xs) ys h k zero b e = h zero b e
      each_both P (x ∷ xs) ys h k (suc i) b e = each_both P xs ys (λ j z f. h (suc j) z f) k i b e

  -- ---- where each stands among all
  shift_at : (xs ys : List Bounds) (i : ℕ) → get_elem? (xs ++ ys) (length xs + i) ≡ get_elem? ys i
  shift_at [] ys i = let e : 0 + i ≡ i = omega arith in ap (λ k. get_elem? ys k) e
  shift_at (x ∷ xs) ys i =
      let e : suc (length xs) + i ≡ suc (length xs + i) = omega arith in ap (λ k. get_elem? (x ∷ (xs ++ ys)) k) e ∙ shift_at xs ys i

  pub in-all : (s n : ℕ) → s < n → (i : ℕ) (b : Bounds) → get_elem? (lanes_from p s) i ≡ some b
      → get_elem? (lanes_before p n) (length (lanes_before p s) + i) ≡ some b
  in-all s zero low i b e = absurd (omega (arith, low))
  in-all s (suc n) low i b e = ⊎_elim
      (λ (is : s ≡ n).
      subst (λ m. get_elem? (lanes_before p (suc m)) (length (lanes_before p s) + i) ≡ some b) is
      (shift_at (lanes_before p s) (lanes_from p s) i ∙ e))
      (λ (not : s ≡ n → ⊥).
      front_some (lanes_before p n) (lanes_from p n) (length (lanes_before p s) + i) b (in-all s n (omega (arith, low, not)) i b e))
      (cases_eq s n)

  module _ (inputs : ℕ) (sound : SoundPlan p inputs) (s : ℕ) (low : s < p.ranks) where
    pub is-lane : (i : ℕ) (b : Bounds) → get_elem? (lanes_from p s) i ≡ some b → IsLane p b
    is-lane i b e = (whole-lanes inputs sound).each (length (lanes_before p s) + i) b (in-all s p.ranks low i b e)

    pub once-from : (i k : ℕ) (b c : Bounds) → get_elem? (lanes_from p s) i ≡ some b → get_elem? (lanes_from p s) k ≡ some c
        → b.target ≡ c.target → b.lane ≡ c.lane → i ≡ k
    once-from i k b c ei ek goes kind =
        let from = from-rank s i b ei ∙ sym (from-rank s k c ek) in
        let same = (whole-lanes inputs sound).once (length (lanes_before p s) + i) (length (lanes_before p s) + k) b c
        (in-all s p.ranks low i b ei) (in-all s p.ranks low k c ek) from goes kind in
        omega (arith, same)

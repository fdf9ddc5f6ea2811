-- A lane stands among the gathered ones exactly where messages go on it.
use Rattle.std.proofs.Common.{◌≡◌, ◌<◌, ◌≤◌, ◌+◌, ◌++◌, ◌∷◌, [], ◌⊎◌, ◌∙◌, ⊎_elim, inl, inr, ℕ, Bool, true, false, zero, suc, List}
use Rattle.std.proofs.Common.{flat_map, ap, sym, refl, arith, true≢false}
use Rattle.std.proofs.lemmas.Bool.{cases_eq}
use mathlib.Core.Option.{some, some-injective, some-ne-none}
use lib.ListN.{get_elem?}
use Rattle.ptl_types.specs.declared.headers.Lane.{Lane}
use Rattle.ptl_types.specs.declared.headers.Lane.TheVariants.{Request, Answer}
use Rattle.number_lists.specs.Numbers.{from_to}
use Rattle.plan_core.specs.Plan.{Plan}
use Rattle.plan_core.specs.calls.Lanes.{is_used_lane}
use Rattle.rest_probe.specs.declared.notes.LaneCount.{LaneCount}
use Rattle.rest_probe.specs.Lanes.{lane_if, lanes_from, lanes_to, pair_lanes}

-- ---- where an element of two lists stands
front-or-back : {A : Type 0} (xs ys : List A) (i : ℕ) (a : A) → get_elem? (xs ++ ys) i ≡ some a →
    ((j : ℕ) × (get_elem? xs j ≡ some a)) ⊎ ((j : ℕ) × (get_elem? ys j ≡ some a))
front-or-back [] ys i a e = inr (i, e)
front-or-back (x ∷ xs) ys zero a e = inl (0, e)
front-or-back (x ∷ xs) ys (suc i) a e = ⊎_elim (λ h. inl (suc h.0, h.1)) (λ h. inr h) (front-or-back xs ys i a e)

in-front : {A : Type 0} (xs ys : List A) (i : ℕ) (a : A) → get_elem? xs i ≡ some a → (j : ℕ) × (get_elem? (xs ++ ys) j ≡ some a)
in-front [] ys i a e = absurd (some-ne-none a (sym e))
in-front (x ∷ xs) ys zero a e = (0, e)
in-front (x ∷ xs) ys (suc i) a e = let h = in-front xs ys i a e in (suc h.0, h.1)

in-back : {A : Type 0} (xs ys : List A) (i : ℕ) (a : A) → get_elem? ys i ≡ some a → (j : ℕ) × (get_elem? (xs ++ ys) j ≡ some a)
in-back [] ys i a e = (i, e)
in-back (x ∷ xs) ys i a e = let h = in-back xs ys i a e in (suc h.0, h.1)

-- ---- the lanes between two ranks
if-used : (used : Bool) (other : ℕ) (lane : Lane) (i : ℕ) (c : LaneCount) → get_elem? (lane_if used other lane) i ≡ some c →
    (used ≡ true) × (c ≡ record { rank = other; lane = lane; number = 0 })
if-used true other lane zero c e = (refl, sym (some-injective _ c e))
if-used true other lane (suc i) c e = absurd (some-ne-none c (sym e))
if-used false other lane i c e = absurd (some-ne-none c (sym e))

used-if : (used : Bool) (other : ℕ) (lane : Lane) → used ≡ true →
    get_elem? (lane_if used other lane) 0 ≡ some (record { rank = other; lane = lane; number = 0 })
used-if true other lane e = refl
used-if false other lane e = absurd (true≢false (sym e))

-- the lane is one of this other rank, and is used
pub record IsUsedPair (p : Plan) (s d other : ℕ) (c : LaneCount) : Type 0 where
  pub rank : c.rank ≡ other
  pub used : is_used_lane p s d c.lane ≡ true

pair-used : (p : Plan) (s d other i : ℕ) (c : LaneCount) → get_elem? (pair_lanes p s d other) i ≡ some c → IsUsedPair p s d other c
pair-used p s d other i c e = ⊎_elim
    (λ (h : (j : ℕ) × (get_elem? (lane_if (is_used_lane p s d Request) other Request) j ≡ some c)).
    let f = if-used (is_used_lane p s d Request) other Request h.0 c h.1 in
    record { rank = ap (λ (z : LaneCount). z.rank) f.1; used = ap (λ (z : LaneCount). is_used_lane p s d z.lane) f.1 ∙ f.0 })
    (λ (h : (j : ℕ) × (get_elem? (lane_if (is_used_lane p s d Answer) other Answer) j ≡ some c)).
    let f = if-used (is_used_lane p s d Answer) other Answer h.0 c h.1 in
    record { rank = ap (λ (z : LaneCount). z.rank) f.1; used = ap (λ (z : LaneCount). is_used_lane p s d z.lane) f.1 ∙ f.0 })
    (front-or-back (lane_if (is_used_lane p s d Request) other Request) (lane_if (is_used_lane p s d Answer) other Answer) i c e)

used-pair : (p : Plan) (s d other : ℕ) (lane : Lane) → is_used_lane p s d lane ≡ true → (i : ℕ) ×
    (get_elem? (pair_lanes p s d other) i ≡ some (record { rank = other; lane = lane; number = 0 }))
used-pair p s d other Request used = in-front (lane_if (is_used_lane p s d Request) other Request)
    (lane_if (is_used_lane p s d Answer) other Answer) 0 _ (used-if _ other Request used)
used-pair p s d other Answer used = in-back (lane_if (is_used_lane p s d Request) other Request)
    (lane_if (is_used_lane p s d Answer) other Answer) 0 _ (used-if _ other Answer used)

-- ---- the lanes of one rank
pub record IsOf (f : ℕ → List LaneCount) (k n : ℕ) (c : LaneCount) : Type 0 where
  pub rank : ℕ
  pub from : k ≤ rank
  pub below : rank < k + n
  pub at : ℕ
  pub there : get_elem? (f rank) at ≡ some c

gathered : (f : ℕ → List LaneCount) (k n i : ℕ) (c : LaneCount) → get_elem? (flat_map f (from_to k n)) i ≡ some c → IsOf f k n c
gathered f k zero i c e = absurd (some-ne-none c (sym e))
gathered f k (suc n) i c e = ⊎_elim
    (λ (h : (j : ℕ) × (get_elem? (f k) j ≡ some c)). record { rank = k; from = omega arith; below = omega arith; at = h.0; there = h.1 })
    (λ (h : (j : ℕ) × (get_elem? (flat_map f (from_to (suc k) n)) j ≡ some c)). let g = gathered f (suc k) n h.0 c h.1 in
    record { rank = g.rank; from = (let a = g.from in omega arith); below = (let a = g.below in omega arith); at = g.at; there = g.there })
    (front-or-back (f k) (flat_map f (from_to (suc k) n)) i c e)

gather : (f : ℕ → List LaneCount) (k n d j : ℕ) (c : LaneCount) → k ≤ d → d < k + n → get_elem? (f d) j ≡ some c → (i : ℕ) ×
    (get_elem? (flat_map f (from_to k n)) i ≡ some c)
gather f k zero d j c low high e = absurd (omega arith)
gather f k (suc n) d j c low high e = ⊎_elim
    (λ (is : d ≡ k). in-front (f k) (flat_map f (from_to (suc k) n)) j c (ap (λ q. get_elem? (f q) j) (sym is) ∙ e))
    (λ (apart : d ≡ k → ⊥). let g = gather f (suc k) n d j c (omega (arith, low, apart)) (omega arith) e in
    in-back (f k) (flat_map f (from_to (suc k) n)) g.0 c g.1)
    (cases_eq d k)

-- a lane from rank r to another rank, that is used
pub record IsUsedFrom (p : Plan) (r : ℕ) (c : LaneCount) : Type 0 where
  pub below : c.rank < p.ranks
  pub used : is_used_lane p r c.rank c.lane ≡ true

pub record IsUsedTo (p : Plan) (r : ℕ) (c : LaneCount) : Type 0 where
  pub below : c.rank < p.ranks
  pub used : is_used_lane p c.rank r c.lane ≡ true

pub from-used : (p : Plan) (r i : ℕ) (c : LaneCount) → get_elem? (lanes_from p r) i ≡ some c → IsUsedFrom p r c
from-used p r i c e =
    let g = gathered (λ d. pair_lanes p r d d) 0 p.ranks i c e in let u = pair-used p r g.rank g.rank g.at c g.there in
    record { below = (let a = g.below in let b = u.rank in omega arith); used = ap (λ d. is_used_lane p r d c.lane) u.rank ∙ u.used }

pub to-used : (p : Plan) (r i : ℕ) (c : LaneCount) → get_elem? (lanes_to p r) i ≡ some c → IsUsedTo p r c
to-used p r i c e =
    let g = gathered (λ s. pair_lanes p s r s) 0 p.ranks i c e in let u = pair-used p g.rank r g.rank g.at c g.there in
    record { below = (let a = g.below in let b = u.rank in omega arith); used = ap (λ s. is_used_lane p s r c.lane) u.rank ∙ u.used }

pub used-from : (p : Plan) (r d : ℕ) (lane : Lane) → d < p.ranks → is_used_lane p r d lane ≡ true → (i : ℕ) ×
    (get_elem? (lanes_from p r) i ≡ some (record { rank = d; lane = lane; number = 0 }))
used-from p r d lane low used = let u = used-pair p r d d lane used in gather (λ d. pair_lanes p r d d) 0 p.ranks d u.0 _ (omega arith)
    (omega arith) u.1

pub used-to : (p : Plan) (r s : ℕ) (lane : Lane) → s < p.ranks → is_used_lane p s r lane ≡ true → (i : ℕ) ×
    (get_elem? (lanes_to p r) i ≡ some (record { rank = s; lane = lane; number = 0 }))
used-to p r s lane low used = let u = used-pair p s r s lane used in gather (λ s. pair_lanes p s r s) 0 p.ranks s u.0 _ (omega arith)
    (omega arith) u.1

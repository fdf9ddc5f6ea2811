-- The lanes of a rank, gathered one rank after the other.
use Rattle.std.proofs.Common.{◌≡◌, ◌≤◌, ◌+◌, ◌*◌, ◌++◌, ◌∷◌, [], ◌∙◌, ℕ, Bool, true, false, zero, suc, List, length, flat_map, ap, ap₂}
use Rattle.std.proofs.Common.{refl, arith, append-nil, length-append}
use Rattle.std.proofs.lemmas.Grind.{flat_map-append}
use Rattle.ptl_types.specs.declared.headers.Lane.{Lane}
use Rattle.ptl_types.specs.declared.headers.Lane.TheVariants.{Request, Answer}
use Rattle.number_lists.specs.Numbers.{from_to}
use Rattle.plan_core.specs.Plan.{Plan}
use Rattle.plan_core.specs.calls.Lanes.{is_used_lane}
use Rattle.plan_core.proofs.Drawing.{from_to-more}
use Rattle.rest_probe.specs.declared.notes.LaneCount.{LaneCount}
use Rattle.rest_probe.specs.Counted.{cleared, counted}
use Rattle.rest_probe.specs.Lanes.{lane_if, lanes_from, lanes_to, pair_lanes}

-- those of one rank more
pub lanes-more : (f : ℕ → List LaneCount) (n : ℕ) → flat_map f (from_to 0 (n + 1)) ≡ flat_map f (from_to 0 n) ++ f n
lanes-more f n =
    let next : n + 1 ≡ suc n = omega arith in
    let same : 0 + n ≡ n = omega arith in
    ap (λ m. flat_map f (from_to 0 m)) next ∙ (ap (flat_map f) (from_to-more 0 n) ∙ (flat_map-append f (from_to 0 n) ((0 + n) ∷ [])
    ∙ ap (λ v. flat_map f (from_to 0 n) ++ v) (append-nil (f (0 + n)) ∙ ap f same)))

lane-short : (used : Bool) (r : ℕ) (lane : Lane) → length (lane_if used r lane) ≤ 1
lane-short true r lane = omega arith
lane-short false r lane = omega arith

pair-short : (p : Plan) (s d other : ℕ) → length (pair_lanes p s d other) ≤ 2
pair-short p s d other =
    let all = length-append (lane_if (is_used_lane p s d Request) other Request) (lane_if (is_used_lane p s d Answer) other Answer) in
    let a = lane-short (is_used_lane p s d Request) other Request in let b = lane-short (is_used_lane p s d Answer) other Answer in
    omega (arith, all, a, b)

lanes-short : (f : ℕ → List LaneCount) → ((d : ℕ) → length (f d) ≤ 2) → (k n : ℕ) → length (flat_map f (from_to k n)) ≤ 2 * n
lanes-short f short k zero = omega arith
lanes-short f short k (suc n) =
    let all = length-append (f k) (flat_map f (from_to (suc k) n)) in let a = short k in let b = lanes-short f short (suc k) n in
    omega (arith, all, a, b)

pub from-short : (p : Plan) (r n : ℕ) → length (flat_map (λ d. pair_lanes p r d d) (from_to 0 n)) ≤ 2 * n
from-short p r n = lanes-short (λ d. pair_lanes p r d d) (λ d. pair-short p r d d) 0 n

pub to-short : (p : Plan) (r n : ℕ) → length (flat_map (λ s. pair_lanes p s r s) (from_to 0 n)) ≤ 2 * n
to-short p r n = lanes-short (λ s. pair_lanes p s r s) (λ s. pair-short p s r s) 0 n

cleared-append : (a b : List LaneCount) → cleared (a ++ b) ≡ cleared a ++ cleared b
cleared-append [] b = refl
cleared-append (c ∷ a) b = ap (λ (v : List LaneCount). counted c 0 ∷ v) (cleared-append a b)

cleared-lane : (used : Bool) (r : ℕ) (lane : Lane) → cleared (lane_if used r lane) ≡ lane_if used r lane
cleared-lane true r lane = refl
cleared-lane false r lane = refl

cleared-pair : (p : Plan) (s d other : ℕ) → cleared (pair_lanes p s d other) ≡ pair_lanes p s d other
cleared-pair p s d other =
    let a = lane_if (is_used_lane p s d Request) other Request in let b = lane_if (is_used_lane p s d Answer) other Answer in
    cleared-append a b ∙ ap₂ (λ (x y : List LaneCount). x ++ y) (cleared-lane (is_used_lane p s d Request) other Request)
    (cleared-lane (is_used_lane p s d Answer) other Answer)

cleared-lanes : (f : ℕ → List LaneCount) → ((d : ℕ) → cleared (f d) ≡ f d) → (k n : ℕ) →
    cleared (flat_map f (from_to k n)) ≡ flat_map f (from_to k n)
cleared-lanes f is k zero = refl
cleared-lanes f is k (suc n) = cleared-append (f k) (flat_map f (from_to (suc k) n))
    ∙ ap₂ (λ (x y : List LaneCount). x ++ y) (is k) (cleared-lanes f is (suc k) n)

-- lanes that were gathered have no message
pub cleared-from : (p : Plan) (r : ℕ) → cleared (lanes_from p r) ≡ lanes_from p r
cleared-from p r = cleared-lanes (λ d. pair_lanes p r d d) (λ d. cleared-pair p r d d) 0 p.ranks

pub cleared-to : (p : Plan) (r : ℕ) → cleared (lanes_to p r) ≡ lanes_to p r
cleared-to p r = cleared-lanes (λ s. pair_lanes p s r s) (λ s. cleared-pair p s r s) 0 p.ranks

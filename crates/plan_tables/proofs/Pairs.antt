-- The table of lanes by pair is that of the lanes.
use Rattle.std.proofs.Common.{ℕ, suc, Bool, true, false, ◌&&◌, not, ◌==◌, nat_lt, ◌+◌, ◌*◌, ◌≡◌, ◌<◌, ◌≤◌, refl, length, get_or, sum_by, ap}
use Rattle.std.proofs.Common.{◌∙◌, sym, arith, eqb-true, eq-eqb}
use Rattle.std.proofs.Math.Nat.{mul-le-mul_right}
use Rattle.std.proofs.lemmas.Bool.{ltb-true, ltb-false, ne_eqb}
use Rattle.plan_core.specs.declared.LinkKind.{LinkKind}
use Rattle.plan_core.specs.declared.LinkKind.TheVariants.{Put, Atomic, Bump}
use Rattle.plan_core.specs.Plan.{Plan, is_bump, link}
use Rattle.plan_core.specs.calls.Lanes.{goes_along, lane_bytes, lane_links}
use Rattle.plan_tables.specs.Rising.{of_key}
use Rattle.plan_tables.specs.Tables.{IsTabled, from_rank, key_of, lane_counts, lane_key, lane_sums, link_length, to_rank}
use Rattle.plan_tables.proofs.ByClass.{clash, filter-alike}
use Rattle.plan_tables.proofs.Passes.{get-row}

-- rows of w places don't overlap
row-first : (w a b r k : ℕ) → b < w → k < w → a * w + b ≡ r * w + k → a ≡ r
row-first w a b r k h l e = at (nat_lt a r) refl (nat_lt r a) refl
  where
    at : (u : Bool) → nat_lt a r ≡ u → (v : Bool) → nat_lt r a ≡ v → a ≡ r
    at true f v g = let x : suc a ≤ r = ltb-true _ _ f in let m = mul-le-mul_right w x in let z : suc a * w ≡ a * w + w = omega arith in
        absurd (omega (arith, m, z, e, h, l))
    at false f true g = let x : suc r ≤ a = ltb-true _ _ g in let m = mul-le-mul_right w x in let z : suc r * w ≡ r * w + w =
        omega arith in absurd
        (omega (arith, m, z, e, h, l))
    at false f false g = let x = ltb-false _ _ f in let y = ltb-false _ _ g in omega (arith, x, y)

row-second : (w a b r k : ℕ) → b < w → k < w → a * w + b ≡ r * w + k → b ≡ k
row-second w a b r k h l e = let x = ap (λ v. v * w) (row-first w a b r k h l e) in omega (arith, x, e)

-- both numbers are the same where the places are
pairs-same : (w a b r k : ℕ) → b < w → k < w → (a * w + b == r * w + k) ≡ ((a == r) && (b == k))
pairs-same w a b r k h l = at (a == r) refl (b == k) refl
  where
    unlike : (x y : ℕ) → (x == y) ≡ false → x ≡ y → ⊥
    unlike x y e f = clash (sym (eq-eqb x y f) ∙ e)

    at : (u : Bool) → (a == r) ≡ u → (v : Bool) → (b == k) ≡ v → (a * w + b == r * w + k) ≡ (u && v)
    at true e true f = let x = ap (λ v. v * w) (eqb-true _ _ e) in let y = eqb-true _ _ f in
        eq-eqb (a * w + b) (r * w + k) (omega (arith, x, y))
    at true e false f = ne_eqb (a * w + b) (r * w + k) (λ z. unlike b k f (row-second w a b r k h l z))
    at false e v f = ne_eqb (a * w + b) (r * w + k) (λ z. unlike a r e (row-first w a b r k h l z))

pub pair-in : (w s d : ℕ) → s < w → d < w → s * w + d < w * w
pair-in w s d h l = let m = mul-le-mul_right w h in let e : suc s * w ≡ s * w + w = omega arith in omega (arith, m, e, l)

pub lane-same : (p : Plan) (s d : ℕ) → IsTabled p → s < p.ranks → d < p.ranks → of_key (lane_key p) (length p.links) (s * p.ranks + d)
    ≡ lane_links p s d
lane-same p s d t h l = filter-alike (λ i. lane_key p i == s * p.ranks + d) (goes_along p s d) 0 (length p.links)
    (λ i w. at i (t.ranks_known (link p i).target (t.targets i (omega (arith, w)))) (link p i).kind)
  where
    at : (i : ℕ) → to_rank p i < p.ranks → (kind : LinkKind) →
        (key_of kind (from_rank p i * p.ranks + to_rank p i) (p.ranks * p.ranks) == s * p.ranks + d)
        ≡ (not (is_bump kind) && ((from_rank p i == s) && (to_rank p i == d)))
    at i k Put = pairs-same p.ranks (from_rank p i) (to_rank p i) s d k l
    at i k Atomic = pairs-same p.ranks (from_rank p i) (to_rank p i) s d k l
    at i k Bump = ne_eqb (p.ranks * p.ranks) (s * p.ranks + d) (λ z. let f = pair-in p.ranks s d h l in absurd (omega (arith, z, f)))

pub counted-lane : (p : Plan) (s d : ℕ) → IsTabled p → s < p.ranks → d < p.ranks → get_or (lane_counts p) (s * p.ranks + d) 0 ≡ length
    (lane_links p s d)
counted-lane p s d t h l = get-row (λ i. length (of_key (lane_key p) (length p.links) i)) (p.ranks * p.ranks) (s * p.ranks + d) 0
    (pair-in p.ranks s d h l) ∙ ap length (lane-same p s d t h l)

pub summed-lane : (p : Plan) (s d : ℕ) → IsTabled p → s < p.ranks → d < p.ranks → get_or (lane_sums p) (s * p.ranks + d) 0 ≡ lane_bytes p
    s d
summed-lane p s d t h l = get-row (λ i. sum_by (link_length p) (of_key (lane_key p) (length p.links) i)) (p.ranks * p.ranks)
    (s * p.ranks + d) 0 (pair-in p.ranks s d h l) ∙ ap (sum_by (link_length p)) (lane-same p s d t h l)

-- The tables of areas at one rank, class by class.
use Rattle.std.proofs.Common.{ℕ, suc, Bool, true, false, cond, nat_lt, ◌+◌, ◌-◌, ◌*◌, ◌^◌, ◌≡◌, ◌<◌, ◌≤◌, [], ◌∷◌, ◌++◌, refl, length, map}
use Rattle.std.proofs.Common.{filter, get_or, sum_by, ap, ◌∙◌, arith}
use Rattle.std.proofs.Math.Nat.{mul-le-mul_right}
use Rattle.std.proofs.lemmas.List.{map-append}
use Rattle.plan_core.specs.Plan.{Plan, from_to}
use Rattle.plan_core.proofs.Drawing.{from_to-more}
use Rattle.plan_tables.specs.Rising.{of_key}
use Rattle.ptl_types.specs.declared.steps.Call.{Call}
use Rattle.ptl_types.specs.declared.steps.Call.TheVariants.{Overflow}
use Rattle.plan_core.specs.calls.Bits.{bits_above}
use Rattle.plan_tables.specs.AreaTables.{area_bytes, area_counts, area_links, area_sums, counted_start, message_key}
use Rattle.plan_tables.specs.Tables.{link_length}
use Rattle.plan_tables.proofs.Passes.{get-row, upto-more}
use Rattle.plan_tables.proofs.Sums.{sum-one, sum-prefix}

pub key-in : (n r k : ℕ) → r < n → k < 81 → r * 81 + k < n * 81
key-in n r k h l = let m = mul-le-mul_right 81 h in let e : suc r * 81 ≡ r * 81 + 81 = omega arith in omega (arith, m, e, l)

pub count-at : (p : Plan) (r k : ℕ) → r < p.ranks → k < 81 → get_or (area_counts p) (r * 81 + k) 0 ≡ length (area_links p r k)
count-at p r k h l = get-row (λ i. length (of_key (message_key p) (length p.links) i)) (p.ranks * 81) (r * 81 + k) 0
    (key-in p.ranks r k h l)

pub bytes-at : (p : Plan) (r k : ℕ) → r < p.ranks → k < 81 → get_or (area_sums p) (r * 81 + k) 0 ≡ area_bytes p r k
bytes-at p r k h l = get-row (λ i. sum_by (link_length p) (of_key (message_key p) (length p.links) i)) (p.ranks * 81) (r * 81 + k) 0
    (key-in p.ranks r k h l)

pub start-next : (p : Plan) (r k : ℕ) → counted_start p r (k + 1) ≡ counted_start p r k + area_bytes p r k
start-next p r k =
    let z : k + 1 ≡ suc k = omega arith in
    let w : 0 + k ≡ k = omega arith in
    let e = ap (λ v. sum_by (area_bytes p r) (from_to 0 v)) z
    ∙ ap (sum_by (area_bytes p r)) (from_to-more 0 k ∙ ap (λ v. from_to 0 k ++ v ∷ []) w)
    ∙ sum-one (area_bytes p r) (from_to 0 k) k in
    omega (arith, e)

pub start-most : (p : Plan) (r k : ℕ) → k < 81 → counted_start p r k + area_bytes p r k ≤ counted_start p r 81
start-most p r k h = let a = sum-prefix (area_bytes p r) (k + 1) 81 (omega arith) in let b = start-next p r k in omega (arith, a, b)

-- has a message
abbrev pub present : Plan → ℕ → ℕ → Bool
present p r k = nat_lt 0 (length (area_links p r k))

-- the area's call, by the tables
abbrev pub counted_call : Plan → ℕ → ℕ → Call
counted_call p r k = Overflow (counted_start p r k) (area_bytes p r k) (bits_above k 0 * 2 ^ 16) (2 ^ 40 - 1)

pub classes-next : {X : Type 0} (f : ℕ → X) (p : Plan) (r k : ℕ) → map f (filter (present p r) (from_to 0 (k + 1))) ≡ map f
    (filter (present p r) (from_to 0 k)) ++ cond (present p r k) (f k ∷ []) []
classes-next f p r k =
    ap (map f) (upto-more (present p r) k) ∙ map-append f (filter (present p r) (from_to 0 k)) (cond (present p r k) (k ∷ []) [])
    ∙ ap (λ v. map f (filter (present p r) (from_to 0 k)) ++ v) (at (present p r k))
  where
    at : (b : Bool) → map f (cond b (k ∷ []) []) ≡ cond b (f k ∷ []) []
    at true = refl
    at false = refl

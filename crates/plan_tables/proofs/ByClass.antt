-- The table of areas by key is that of the classes of the messages that come to a rank.
use Rattle.std.proofs.Common.{ℕ, zero, suc, Bool, true, false, cond, nat_lt, subst, ◌||◌, ◌&&◌, not, ◌==◌, ◌+◌, ◌-◌, ◌*◌, ◌^◌, ◌≡◌, ◌<◌}
use Rattle.std.proofs.Common.{◌≤◌, List, [], ◌∷◌, Option, Some, None, refl, length, filter, map, sum_by, ap, ap₂, ◌∙◌, sym, arith, eqb-true}
use Rattle.std.proofs.Common.{eq-eqb}
use Rattle.std.proofs.Math.Nat.{mul-le-mul_right}
use Rattle.std.proofs.lemmas.Bool.{lt-ltb, ne_eqb}
use Rattle.std.proofs.lemmas.List.Sums.{sum_by-cons}
use Rattle.plan_core.specs.Places.{start_by}
use Rattle.ptl_types.specs.declared.elements.AtomicOp.{AtomicOp}
use Rattle.ptl_types.specs.declared.elements.AtomicOp.TheVariants.{Min, Max, Sum, Prod, Lor, Land, Bor, Band, Lxor, Bxor}
use Rattle.ptl_types.specs.declared.elements.ElemType.{ElemType}
use Rattle.ptl_types.specs.declared.elements.ElemType.TheVariants.{U8, I8, U16, I16, U32, I32, U64, I64}
use Rattle.plan_core.specs.declared.LinkKind.{LinkKind}
use Rattle.plan_core.specs.declared.LinkKind.TheVariants.{Put, Atomic, Bump}
use Rattle.plan_core.specs.Plan.{Plan, cell, link, from_to, is_bump}
use Rattle.plan_tables.specs.Rising.{of_key}
use Rattle.ptl_types.specs.declared.steps.Call.TheVariants.{Overflow}
use Rattle.plan_core.specs.calls.Bits.{bits_above, class_of, op_number, type_number}
use Rattle.plan_core.specs.calls.Calls.{area_call}
use Rattle.plan_tables.proofs.PerClass.{counted_call}
use Rattle.plan_core.specs.calls.Areas.{area_length, area_start, areas_length, classes, comes_to, has_class, is_class, link_class, links_to}
use Rattle.plan_core.specs.calls.Areas.{region_length}
use Rattle.plan_tables.specs.Tables.{arrival_key, key_of, to_rank}
use Rattle.plan_tables.specs.AreaTables.{area_bytes, area_links, counted_classes, counted_start, message_key}

op-at_most : (o : AtomicOp) → op_number o ≤ 9
op-at_most Min = omega arith
op-at_most Max = omega arith
op-at_most Sum = omega arith
op-at_most Prod = omega arith
op-at_most Lor = omega arith
op-at_most Land = omega arith
op-at_most Bor = omega arith
op-at_most Band = omega arith
op-at_most Lxor = omega arith
op-at_most Bxor = omega arith

type-at_most : (ty : ElemType) → type_number ty ≤ 7
type-at_most U8 = omega arith
type-at_most I8 = omega arith
type-at_most U16 = omega arith
type-at_most I16 = omega arith
type-at_most U32 = omega arith
type-at_most I32 = omega arith
type-at_most U64 = omega arith
type-at_most I64 = omega arith

class-at_most : (o : Option AtomicOp) (ty : ElemType) → class_of o ty < 81
class-at_most None ty = omega arith
class-at_most (Some o) ty = let a = op-at_most o in let b = type-at_most ty in omega (arith, a, b)

-- two tests one after the other
filter-both : (a b t : ℕ → Bool) (xs : List ℕ) → ((x : ℕ) → (a x && b x) ≡ t x) → filter b (filter a xs) ≡ filter t xs
filter-both a b t [] same = refl
filter-both a b t (x ∷ xs) same = at (a x) refl (filter-both a b t xs same)
  where
    inner : (v : Bool) → b x ≡ v → a x ≡ true → filter b (filter a xs) ≡ filter t xs →
        cond v (x ∷ filter b (filter a xs)) (filter b (filter a xs)) ≡ filter t (x ∷ xs)
    inner v e f rest = ap₂ (λ w ys. cond w (x ∷ ys) ys) (sym e ∙ ap (λ u. u && b x) (sym f) ∙ same x) rest

    at : (u : Bool) → a x ≡ u → filter b (filter a xs) ≡ filter t xs → filter b (cond u (x ∷ filter a xs) (filter a xs)) ≡ filter t (x ∷ xs)
    at true f rest = inner (b x) refl f rest
    at false f rest = rest ∙ ap (λ w. cond w (x ∷ filter t xs) (filter t xs)) (sym (sym (same x) ∙ ap (λ u. u && b x) f))

pub clash : true ≡ false → ⊥
clash e = cc

-- both numbers are the same where the keys are
keys-same : (a b r k : ℕ) → b < 81 → k < 81 → ((a == r) && (b == k)) ≡ (a * 81 + b == r * 81 + k)
keys-same a b r k h l = at (a == r) refl (b == k) refl
  where
    apart : (a * 81 + b ≡ r * 81 + k → ⊥) → false ≡ (a * 81 + b == r * 81 + k)
    apart ne = sym (ne_eqb (a * 81 + b) (r * 81 + k) ne)

    unlike : (x y : ℕ) → (x == y) ≡ false → x ≡ y → ⊥
    unlike x y e f = clash (sym (eq-eqb x y f) ∙ e)

    at : (u : Bool) → (a == r) ≡ u → (v : Bool) → (b == k) ≡ v → (u && v) ≡ (a * 81 + b == r * 81 + k)
    at true e true f = let x : a ≡ r = eqb-true _ _ e in let y : b ≡ k = eqb-true _ _ f in
        sym (eq-eqb (a * 81 + b) (r * 81 + k) (omega (arith, x, y)))
    at true e false f = apart (λ z. unlike b k f (omega (arith, z, h, l)))
    at false e v f = apart (λ z. unlike a r e (omega (arith, z, h, l)))

-- the links of an area are those of its class that come to the rank
pub area-same : (p : Plan) (r k : ℕ) → r < p.ranks → k < 81 → area_links p r k ≡ filter (is_class p k) (links_to p r)
area-same p r k h l = sym (filter-both (comes_to p r) (is_class p k) (λ i. message_key p i == r * 81 + k) (from_to 0 (length p.links))
    (λ i. at i (link p i).kind))
  where
    at : (i : ℕ) (kind : LinkKind) → ((not (is_bump kind) && (to_rank p i == r)) && (link_class p i == k))
        ≡ (key_of kind (to_rank p i * 81 + link_class p i) (p.ranks * 81) == r * 81 + k)
    at i Put = keys-same (to_rank p i) (link_class p i) r k (class-at_most (cell p (link p i).target).op (cell p (link p i).target).ty) l
    at i Atomic = keys-same (to_rank p i) (link_class p i) r k (class-at_most (cell p (link p i).target).op (cell p (link p i).target).ty) l
    at i Bump = sym (ne_eqb (p.ranks * 81) (r * 81 + k) (λ z. let m = mul-le-mul_right 81 h in let e : suc r * 81 ≡ r * 81 + 81 =
        omega arith in absurd
        (omega (arith, z, m, e, l))))

pub area-length : (p : Plan) (r k : ℕ) → r < p.ranks → k < 81 → area_bytes p r k ≡ area_length p r k
area-length p r k h l = ap (λ ls. sum_by (λ i. (link p i).length) ls) (area-same p r k h l)

-- ---- the classes that have a message
pub none-of : (p : Plan) (k : ℕ) (ls : List ℕ) → has_class p k ls ≡ false → filter (is_class p k) ls ≡ []
none-of p k [] e = refl
none-of p k (l ∷ ls) e = at (is_class p k l) e (λ f. none-of p k ls f)
  where
    at : (b : Bool) → (b || has_class p k ls) ≡ false → (has_class p k ls ≡ false → filter (is_class p k) ls ≡ []) →
        cond b (l ∷ filter (is_class p k) ls) (filter (is_class p k) ls) ≡ []
    at true f later = absurd (clash f)
    at false f later = later f

some-of : (p : Plan) (k : ℕ) (ls : List ℕ) → nat_lt 0 (length (filter (is_class p k) ls)) ≡ has_class p k ls
some-of p k [] = refl
some-of p k (l ∷ ls) = at (is_class p k l) (some-of p k ls)
  where
    at : (b : Bool) → nat_lt 0 (length (filter (is_class p k) ls)) ≡ has_class p k ls →
        nat_lt 0 (length (cond b (l ∷ filter (is_class p k) ls) (filter (is_class p k) ls))) ≡ (b || has_class p k ls)
    at true later = lt-ltb 0 (suc (length (filter (is_class p k) ls))) (omega arith)
    at false later = later

pub filter-alike : (s t : ℕ → Bool) (a n : ℕ) → ((i : ℕ) → i < a + n → s i ≡ t i) → filter s (from_to a n) ≡ filter t (from_to a n)
filter-alike s t a zero same = refl
filter-alike s t a (suc n) same = ap₂ (λ b xs. cond b (a ∷ xs) xs) (same a (omega arith))
    (filter-alike s t (suc a) n (λ i h. same i (omega (arith, h))))

pub classes-same : (p : Plan) (r : ℕ) → r < p.ranks → counted_classes p r ≡ classes p r
classes-same p r h = filter-alike (λ k. nat_lt 0 (length (area_links p r k))) (λ k. has_class p k (links_to p r)) 0 81
    (λ k l. ap (λ ls. nat_lt 0 (length ls)) (area-same p r k h (omega (arith, l))) ∙ some-of p k (links_to p r))

-- ---- where areas begin
sums-alike : (f g : ℕ → ℕ) (a n : ℕ) → ((i : ℕ) → i < a + n → f i ≡ g i) → sum_by f (from_to a n) ≡ sum_by g (from_to a n)
sums-alike f g a zero same = refl
sums-alike f g a (suc n) same =
    let x = sum_by-cons f a (from_to (suc a) n) in
    let y = sum_by-cons g a (from_to (suc a) n) in
    let u = same a (omega arith) in
    let v = sums-alike f g (suc a) n (λ i h. same i (omega (arith, h))) in
    omega (arith, x, y, u, v)

-- those that fail the test have no length
before-class : (t : ℕ → Bool) (len : ℕ → ℕ) (a n m : ℕ) → m < n → t (a + m) ≡ true → ((i : ℕ) → i < a + n → t i ≡ false → len i ≡ 0) →
    start_by len (filter t (from_to a n)) (a + m) ≡ sum_by len (from_to a m)
before-class t len a zero m h e none = absurd (omega arith)
before-class t len a (suc n) zero h e none =
    ap (λ b. start_by len (cond b (a ∷ filter t (from_to (suc a) n)) (filter t (from_to (suc a) n))) (a + 0))
    (ap t (let z : a ≡ a + 0 = omega arith in z) ∙ e)
    ∙ ap (λ b. cond b 0 (len a + start_by len (filter t (from_to (suc a) n)) (a + 0))) (eq-eqb a (a + 0) (omega arith))
before-class t len a (suc n) (suc m) h e none =
    let z : suc a + m ≡ a + suc m = omega arith in
    at (t a) refl (subst (λ v. start_by len (filter t (from_to (suc a) n)) v ≡ sum_by len (from_to (suc a) m)) z
    (before-class t len (suc a) n m (omega (arith, h)) (ap t z ∙ e) (λ i l f. none i (omega (arith, l)) f)))
  where
    at : (b : Bool) → t a ≡ b → start_by len (filter t (from_to (suc a) n)) (a + suc m) ≡ sum_by len (from_to (suc a) m)
        → start_by len (cond b (a ∷ filter t (from_to (suc a) n)) (filter t (from_to (suc a) n))) (a + suc m) ≡ sum_by len
        (a ∷ from_to (suc a) m)
    at true f rest =
        ap (λ b. cond b 0 (len a + start_by len (filter t (from_to (suc a) n)) (a + suc m)))
        (ne_eqb a (a + suc m) (λ w. absurd (omega arith)))
        ∙ ap (λ v. len a + v) rest ∙ sym (sum_by-cons len a (from_to (suc a) m))
    at false f rest = let x = sum_by-cons len a (from_to (suc a) m) in let y = none a (omega arith) f in rest
        ∙ (let w : sum_by len (from_to (suc a) m) ≡ sum_by len (a ∷ from_to (suc a) m) = omega (arith, x, y) in w)

pub start-same : (p : Plan) (r k : ℕ) → r < p.ranks → k < 81 → has_class p k (links_to p r) ≡ true → counted_start p r k ≡ area_start p r k
start-same p r k h l e =
    let z : 0 + k ≡ k = omega arith in
    ap (λ v. region_length p r + v)
    (sums-alike (area_bytes p r) (area_length p r) 0 k (λ i w. area-length p r i h (omega (arith, w, l)))
    ∙ sym (subst (λ v. start_by (area_length p r) (classes p r) v ≡ sum_by (area_length p r) (from_to 0 k)) z
    (before-class (λ i. has_class p i (links_to p r)) (area_length p r) 0 81 k l (ap (λ v. has_class p v (links_to p r)) z ∙ e)
    (λ i w f. ap (λ ls. sum_by (λ j. (link p j).length) ls) (none-of p i (links_to p r) f)))))

-- ---- all classes together
all-of : (t : ℕ → Bool) (len : ℕ → ℕ) (a n : ℕ) → ((i : ℕ) → i < a + n → t i ≡ false → len i ≡ 0) →
    sum_by len (from_to a n) ≡ sum_by len (filter t (from_to a n))
all-of t len a zero none = refl
all-of t len a (suc n) none = at (t a) refl (all-of t len (suc a) n (λ i l f. none i (omega (arith, l)) f))
  where
    at : (b : Bool) → t a ≡ b → sum_by len (from_to (suc a) n) ≡ sum_by len (filter t (from_to (suc a) n)) →
        sum_by len (a ∷ from_to (suc a) n) ≡ sum_by len (cond b (a ∷ filter t (from_to (suc a) n)) (filter t (from_to (suc a) n)))
    at true e rest = let x = sum_by-cons len a (from_to (suc a) n) in let y = sum_by-cons len a (filter t (from_to (suc a) n)) in
        omega (arith, x, y, rest)
    at false e rest = let x = sum_by-cons len a (from_to (suc a) n) in let y = none a (omega arith) e in omega (arith, x, y, rest)

pub end-same : (p : Plan) (r : ℕ) → r < p.ranks → counted_start p r 81 ≡ region_length p r + areas_length p r
end-same p r h =
    ap (λ v. region_length p r + v)
    (sums-alike (area_bytes p r) (area_length p r) 0 81 (λ i w. area-length p r i h w)
    ∙ all-of (λ i. has_class p i (links_to p r)) (area_length p r) 0 81
    (λ i w f. ap (λ ls. sum_by (λ j. (link p j).length) ls) (none-of p i (links_to p r) f)))

-- ---- the links that come to a rank
pub arrivals-same : (p : Plan) (r : ℕ) → r < p.ranks → of_key (arrival_key p) (length p.links) r ≡ links_to p r
arrivals-same p r h = filter-alike (λ l. arrival_key p l == r) (comes_to p r) 0 (length p.links) (λ i w. at i (link p i).kind)
  where
    at : (i : ℕ) (kind : LinkKind) → (key_of kind (to_rank p i) p.ranks == r) ≡ (not (is_bump kind) && (to_rank p i == r))
    at i Put = refl
    at i Atomic = refl
    at i Bump = ne_eqb p.ranks r (λ z. absurd (omega (arith, z, h)))

-- ---- the calls
map-filter-alike : {X : Type 0} (f g : ℕ → X) (t : ℕ → Bool) (a n : ℕ) → ((i : ℕ) → i < a + n → t i ≡ true → f i ≡ g i) →
    map f (filter t (from_to a n)) ≡ map g (filter t (from_to a n))
map-filter-alike f g t a zero same = refl
map-filter-alike f g t a (suc n) same = at (t a) refl (map-filter-alike f g t (suc a) n (λ i l e. same i (omega (arith, l)) e))
  where
    at : (b : Bool) → t a ≡ b → map f (filter t (from_to (suc a) n)) ≡ map g (filter t (from_to (suc a) n)) →
        map f (cond b (a ∷ filter t (from_to (suc a) n)) (filter t (from_to (suc a) n))) ≡ map g
        (cond b (a ∷ filter t (from_to (suc a) n)) (filter t (from_to (suc a) n)))
    at true e rest = ap₂ (λ x xs. x ∷ xs) (same a (omega arith) e) rest
    at false e rest = rest

pub calls-same : (p : Plan) (r : ℕ) → r < p.ranks → map (counted_call p r) (counted_classes p r) ≡ map (area_call p r) (classes p r)
calls-same p r h =
    ap (map (counted_call p r)) (classes-same p r h)
    ∙ map-filter-alike (counted_call p r) (area_call p r) (λ k. has_class p k (links_to p r)) 0 81
    (λ k l e. ap₂ (λ s n. Overflow s n (bits_above k 0 * 2 ^ 16) (2 ^ 40 - 1)) (start-same p r k h (omega (arith, l)) e)
    (area-length p r k h (omega (arith, l))))

-- What a rank's memory holds at the beginning, put together part by part.
use Rattle.std.proofs.Common.{ℕ, zero, suc, Bool, true, false, cond, ◌+◌, ◌-◌, ◌*◌, ◌/◌, ◌%◌, ◌≡◌, ◌≤◌, ◌<◌, List, [], ◌∷◌, ◌++◌, Option}
use Rattle.std.proofs.Common.{Some, None, refl, length, filter, flat_map, replicate, get_or, sum_by, ap, ◌∙◌, sym, arith, append_assoc}
use Rattle.std.proofs.Common.{append-nil, div-add-mod', nat_le, nat_lt, ◌&&◌}
use Rattle.std.proofs.Math.Nat.{mul-div_right, mod-eq_of_lt, add-mul-mod_self_right, lt_of_mul-lt-mul_right}
use Rattle.std.proofs.lemmas.Bool.{leb-true, ltb-true}
use Rattle.ptl_types.specs.declared.elements.AtomicOp.{AtomicOp}
use Rattle.ptl_types.specs.declared.elements.ElemType.{ElemType}
use Rattle.ptl_types.specs.Operations.{bytes_of, start_value}
use Rattle.ptl_types.specs.Elements.{repeated, starting}
use Rattle.op_laws.proofs.Bytes.{bytes-pos}
use Rattle.plan_core.specs.declared.Cell.{Cell}
use Rattle.plan_core.specs.Plan.{Plan, cell, from_to}
use Rattle.plan_core.specs.Values.{Inputs, blank, initial}
use Rattle.plan_core.proofs.Drawing.{from_to-more}
use Rattle.plan_core.specs.calls.Areas.{area_length, blank_area, blank_areas, blank_as, has_class, links_to}
use Rattle.plan_core.specs.calls.Bits.{class_op, class_type}
use Rattle.plan_tables.proofs.ByClass.{none-of}

-- ---- zeros and starting values
pub replicate-more : {X : Type 0} (x : X) (n : ℕ) → replicate n x ++ x ∷ [] ≡ replicate (n + 1) x
replicate-more x n = tail n ∙ ap (λ v. replicate v x) (let z : suc n ≡ n + 1 = omega arith in z)
  where
    tail : (n : ℕ) → replicate n x ++ x ∷ [] ≡ replicate (suc n) x
    tail zero = refl
    tail (suc n) = ap (λ v. x ∷ v) (tail n)

whole-part : (n w : ℕ) → n - n % w ≡ w * (n / w)
whole-part n w = let e = div-add-mod' n w in omega (arith, e)

pub starts-whole : (ty : ElemType) (n : ℕ) → (n - n % bytes_of ty) % bytes_of ty ≡ 0
starts-whole ty n =
    let w = bytes_of ty in
    let pos = bytes-pos ty in
    ap (λ v. v % w) (whole-part n w ∙ (let z : w * (n / w) ≡ 0 + n / w * w = omega arith in z)) ∙ add-mul-mod_self_right 0 (n / w) w
    ∙ mod-eq_of_lt pos

pub starts-same : (o : AtomicOp) (ty : ElemType) (n : ℕ) → starting o ty (n - n % bytes_of ty) ≡ starting o ty n
starts-same o ty n =
    ap (λ q. repeated (bytes_of ty) q (start_value o ty))
    (ap (λ v. v / bytes_of ty) (whole-part n (bytes_of ty)) ∙ mul-div_right (n / bytes_of ty) (bytes-pos ty))

pub blank-same : (op : Option AtomicOp) (ty : ElemType) (n : ℕ) → elim op [ Some o ↦ starting o ty n | None ↦ replicate n 0 ] ≡ blank_as
    op ty n
blank-same None ty n = refl
blank-same (Some o) ty n = refl

pub blank-cell : (k : Cell) → blank k ≡ blank_as k.op k.ty k.length
blank-cell k = blank-same k.op k.ty k.length

-- ---- areas
no-bytes : (op : Option AtomicOp) (ty : ElemType) → blank_as op ty 0 ≡ []
no-bytes None ty = refl
no-bytes (Some o) ty = ap (λ q. repeated (bytes_of ty) q (start_value o ty)) (let z : 0 / bytes_of ty ≡ 0 =
    zero-div (bytes_of ty) (bytes-pos ty) in z)
  where
    zero-div : (w : ℕ) → 0 < w → 0 / w ≡ 0
    zero-div w pos = ap (λ v. v / w) (let z : 0 ≡ w * 0 = omega arith in z) ∙ mul-div_right 0 pos

-- the area of a class, by the place of the class
abbrev pub area_of : Plan → ℕ → ℕ → List ℕ
area_of p r k = blank_area k (area_length p r k)

flat-filter : (f : ℕ → List ℕ) (t : ℕ → Bool) (xs : List ℕ) → ((x : ℕ) → t x ≡ false → f x ≡ []) → flat_map f xs ≡ flat_map f (filter t xs)
flat-filter f t [] none = refl
flat-filter f t (x ∷ xs) none = at (t x) refl (flat-filter f t xs none)
  where
    at : (b : Bool) → t x ≡ b → flat_map f xs ≡ flat_map f (filter t xs) →
        f x ++ flat_map f xs ≡ flat_map f (cond b (x ∷ filter t xs) (filter t xs))
    at true e rest = ap (λ v. f x ++ v) rest
    at false e rest = ap (λ v. v ++ flat_map f xs) (none x e) ∙ rest

pub all-areas : (p : Plan) (r : ℕ) → flat_map (area_of p r) (from_to 0 81) ≡ blank_areas p r
all-areas p r = flat-filter (area_of p r) (λ k. has_class p k (links_to p r)) (from_to 0 81)
    (λ k e. ap (λ ls. blank_area k (sum_by (λ l. (Rattle.plan_core.specs.Plan.link p l).length) ls)) (none-of p k (links_to p r) e)
    ∙ no-bytes (class_op k) (class_type k))

flat-append : (f : ℕ → List ℕ) (xs ys : List ℕ) → flat_map f (xs ++ ys) ≡ flat_map f xs ++ flat_map f ys
flat-append f [] ys = refl
flat-append f (x ∷ xs) ys = ap (λ v. f x ++ v) (flat-append f xs ys) ∙ sym (append_assoc (f x) (flat_map f xs) (flat_map f ys))

pub flat-one : (f : ℕ → List ℕ) (xs : List ℕ) (x : ℕ) → flat_map f (xs ++ x ∷ []) ≡ flat_map f xs ++ f x
flat-one f xs x = flat-append f xs (x ∷ []) ∙ ap (λ v. flat_map f xs ++ v) (append-nil (f x))

pub flat-next : (f : ℕ → List ℕ) (k : ℕ) → flat_map f (from_to 0 (k + 1)) ≡ flat_map f (from_to 0 k) ++ f k
flat-next f k =
    ap (λ v. flat_map f (from_to 0 v)) (let z : k + 1 ≡ suc k = omega arith in z)
    ∙ ap (flat_map f) (from_to-more 0 k ∙ ap (λ v. from_to 0 k ++ v ∷ []) (let z : 0 + k ≡ k = omega arith in z))
    ∙ flat-one f (from_to 0 k) k

-- ---- inputs
pub input-in : (i n m : ℕ) → 1 ≤ n → i < m * n → i / n < m
input-in i n m some h = let e = div-add-mod' i n in lt_of_mul-lt-mul_right n (let z : i / n * n < m * n = omega (arith, e, h) in z)

-- the cell's initial bytes, by whether it is an input cell
pub initial-given : (p : Plan) (inputs : Inputs) (c count : ℕ) → count ≡ length inputs →
    (nat_le p.ranks c && nat_lt c (p.ranks + count * p.ranks)) ≡ true
    → initial p inputs c ≡ get_or (get_or inputs ((c - p.ranks) / p.ranks) []) ((c - p.ranks) % p.ranks) []
initial-given p inputs c count e t =
    ap (λ b. cond b (get_or (get_or inputs ((c - p.ranks) / p.ranks) []) ((c - p.ranks) % p.ranks) []) (blank (cell p c)))
    (ap (λ v. nat_le p.ranks c && nat_lt c (p.ranks + v * p.ranks)) (sym e) ∙ t)

pub initial-blank : (p : Plan) (inputs : Inputs) (c count : ℕ) → count ≡ length inputs →
    (nat_le p.ranks c && nat_lt c (p.ranks + count * p.ranks)) ≡ false
    → initial p inputs c ≡ blank_as (cell p c).op (cell p c).ty (cell p c).length
initial-blank p inputs c count e t =
    ap (λ b. cond b (get_or (get_or inputs ((c - p.ranks) / p.ranks) []) ((c - p.ranks) % p.ranks) []) (blank (cell p c)))
    (ap (λ v. nat_le p.ranks c && nat_lt c (p.ranks + v * p.ranks)) (sym e) ∙ t)
    ∙ blank-cell (cell p c)

both-true : (a b : Bool) → (a && b) ≡ true → (a ≡ true) × (b ≡ true)
both-true true b e = (refl, e)
both-true false b e = cc

pub given-in : (ranks c count : ℕ) → (nat_le ranks c && nat_lt c (ranks + count * ranks)) ≡ true → (ranks ≤ c) × (c - ranks < count * ranks)
given-in ranks c count t =
    let q = both-true (nat_le ranks c) (nat_lt c (ranks + count * ranks)) t in
    let a = leb-true _ _ q.0 in
    let b = ltb-true _ _ q.1 in
    (a, omega (arith, a, b))

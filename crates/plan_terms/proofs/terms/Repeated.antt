-- How many times are as good as others.
use Rattle.std.proofs.Common.{ℕ, zero, suc, Bool, true, false, cond, ◌&&◌, ◌||◌, ◌+◌, ◌*◌, ◌/◌, ◌%◌, ◌^◌, ◌≡◌, ◌<◌, refl, ap, sym, ◌∙◌}
use Rattle.std.proofs.Common.{min, max, nat_le, bit_and, bit_or, bit_xor, arith, mod-lt, mod-eq_of_lt, lit<, div-add-mod'}
use Rattle.std.specs.Int.{bit_at}
use Rattle.std.proofs.lemmas.Nat.Bits.{bit_at_xor, bit_at_and, bit_at_or, same_from_bits}
use Rattle.std.proofs.Math.Nat.{add-mul-mod_self_left}
use native.Mathlib.Nat.{mod-add-mod}
use Rattle.ptl_types.specs.declared.elements.AtomicOp.TheVariants.{Min, Max, Sum, Lor, Land, Bor, Band, Lxor, Bxor}
use Rattle.ptl_types.specs.declared.elements.ElemType.{ElemType}
use Rattle.ptl_types.specs.declared.elements.ElemType.TheVariants.{U8, I8, U16, I16, U32, I32, U64, I64}
use Rattle.ptl_types.specs.Operations.{isnt_zero, one_if, op, order_key, span}
use Rattle.op_laws.proofs.OpLaws.{differ, isnt_zero-one_if, span-pos}
use Rattle.plan_terms.specs.terms.Terms.{again}
use Rattle.plan_terms.specs.terms.Folds.{IsSettled}

-- ---- what may be met twice
again-still : (f : ℕ → ℕ) (n z : ℕ) → f z ≡ z → again n f z ≡ z
again-still f zero z e = refl
again-still f (suc n) z e = ap (again n f) e ∙ again-still f n z e

once : (f : ℕ → ℕ) (n z : ℕ) → f (f z) ≡ f z → again (suc n) f z ≡ f z
once f n z e = again-still f n (f z) e

pub one_time : (f : ℕ → ℕ) (all n z : ℕ) → f (f z) ≡ f z → (all ≡ 0 → n ≡ 0) → (0 < all → n ≡ 1) → again n f z ≡ again all f z
one_time f zero n z e none some = ap (λ k. again k f z) (none refl)
one_time f (suc all) n z e none some =
    ap (λ k. again k f z) (some (let h : 0 < suc all = omega arith in h)) ∙ sym (once f all z e)

lesser_twice : (k : ℕ → ℕ) (z x : ℕ) (s t : Bool) → nat_le (k z) (k x) ≡ s → nat_le (k x) (k x) ≡ t
    → cond (nat_le (k (cond s z x)) (k x)) (cond s z x) x ≡ cond s z x
lesser_twice k z x true t e f = rw e refl
lesser_twice k z x false true e f = rw f refl
lesser_twice k z x false false e f = rw f refl

greater_twice : (k : ℕ → ℕ) (z x : ℕ) (s t : Bool) → nat_le (k z) (k x) ≡ s → nat_le (k x) (k x) ≡ t
    → cond (nat_le (k (cond s x z)) (k x)) x (cond s x z) ≡ cond s x z
greater_twice k z x false t e f = rw e refl
greater_twice k z x true true e f = rw f refl
greater_twice k z x true false e f = rw f refl

or_twice : (z x : ℕ) → bit_or (bit_or z x) x ≡ bit_or z x
or_twice z x = same_from_bits _ _ (λ i. bit_at_or (bit_or z x) x i ∙ ap (λ v. max v (bit_at x i)) (bit_at_or z x i)
    ∙ max3 (bit_at z i) (bit_at x i) ∙ sym (bit_at_or z x i))
  where
    max3 : (p q : ℕ) → max (max p q) q ≡ max p q
    max3 p q = omega arith

and_twice : (z x : ℕ) → bit_and (bit_and z x) x ≡ bit_and z x
and_twice z x = same_from_bits _ _ (λ i. bit_at_and (bit_and z x) x i ∙ ap (λ v. min v (bit_at x i)) (bit_at_and z x i)
    ∙ min3 (bit_at z i) (bit_at x i) ∙ sym (bit_at_and z x i))
  where
    min3 : (p q : ℕ) → min (min p q) q ≡ min p q
    min3 p q = omega arith

lor_twice : (p q : Bool) → ((p || q) || q) ≡ (p || q)
lor_twice true true = refl
lor_twice true false = refl
lor_twice false true = refl
lor_twice false false = refl

land_twice : (p q : Bool) → ((p && q) && q) ≡ (p && q)
land_twice true true = refl
land_twice true false = refl
land_twice false true = refl
land_twice false false = refl

pub min_times : (ty : ElemType) (x z : ℕ) → op Min ty (op Min ty z x) x ≡ op Min ty z x
min_times ty x z =
    lesser_twice (order_key ty) z x (nat_le (order_key ty z) (order_key ty x)) (nat_le (order_key ty x) (order_key ty x)) refl refl

pub max_times : (ty : ElemType) (x z : ℕ) → op Max ty (op Max ty z x) x ≡ op Max ty z x
max_times ty x z =
    greater_twice (order_key ty) z x (nat_le (order_key ty z) (order_key ty x)) (nat_le (order_key ty x) (order_key ty x)) refl refl

pub lor_times : (ty : ElemType) (x z : ℕ) → op Lor ty (op Lor ty z x) x ≡ op Lor ty z x
lor_times ty x z =
    ap (λ v. one_if (v || isnt_zero x)) (isnt_zero-one_if (isnt_zero z || isnt_zero x)) ∙ ap one_if (lor_twice (isnt_zero z) (isnt_zero x))

pub land_times : (ty : ElemType) (x z : ℕ) → op Land ty (op Land ty z x) x ≡ op Land ty z x
land_times ty x z =
    ap (λ v. one_if (v && isnt_zero x)) (isnt_zero-one_if (isnt_zero z && isnt_zero x)) ∙ ap one_if (land_twice (isnt_zero z) (isnt_zero x))

pub bor_times : (ty : ElemType) (x z : ℕ) → op Bor ty (op Bor ty z x) x ≡ op Bor ty z x
bor_times ty x z = or_twice z x

pub band_times : (ty : ElemType) (x z : ℕ) → op Band ty (op Band ty z x) x ≡ op Band ty z x
band_times ty x z = and_twice z x

-- ---- what is as it was when it is met twice
pairs : (f : ℕ → ℕ) (n z : ℕ) → f (f z) ≡ z → again (suc (suc n)) f z ≡ again n f z
pairs f n z e = ap (again n f) e

pub halved : (f : ℕ → ℕ) (z : ℕ) → f (f z) ≡ z → (n : ℕ) → again (n % 2) f z ≡ again n f z
halved f z e zero = refl
halved f z e (suc zero) = refl
halved f z e (suc (suc n)) =
    ap (λ k. again k f z) (let q : suc (suc n) % 2 ≡ n % 2 = omega arith in q) ∙ halved f z e n ∙ sym (pairs f n z e)

xor_twice : (z x : ℕ) → bit_xor (bit_xor z x) x ≡ z
xor_twice z x = same_from_bits _ _ (λ i. bit_at_xor (bit_xor z x) x i ∙ ap (λ v. (v + bit_at x i) % 2) (bit_at_xor z x i)
    ∙ two (bit_at z i) (bit_at x i) (mod-lt _ (lit< tt)))
  where
    two : (p q : ℕ) → p < 2 → ((p + q) % 2 + q) % 2 ≡ p
    two p q h = omega arith

lxor_twice : (p q : Bool) → differ (differ p q) q ≡ differ p false
lxor_twice true true = refl
lxor_twice true false = refl
lxor_twice false true = refl
lxor_twice false false = refl

pub bxor_times : (ty : ElemType) (x z : ℕ) → op Bxor ty (op Bxor ty z x) x ≡ z
bxor_times ty x z = xor_twice z x

pub lxor_times : (ty : ElemType) (x z : ℕ) → IsSettled Lxor ty z → op Lxor ty (op Lxor ty z x) x ≡ z
lxor_times ty x z settled =
    ap (λ v. one_if (differ v (isnt_zero x))) (isnt_zero-one_if (differ (isnt_zero z) (isnt_zero x)))
    ∙ ap one_if (lxor_twice (isnt_zero z) (isnt_zero x)) ∙ settled

-- ---- sums
pub added : (ty : ElemType) (x n z : ℕ) → z < span ty → again n (λ y. op Sum ty y x) z ≡ (z + n * x) % span ty
added ty x zero z h = sym (ap (λ v. v % span ty) (let e : z + 0 * x ≡ z = omega arith in e) ∙ mod-eq_of_lt h)
added ty x (suc n) z h =
    added ty x n ((z + x) % span ty) (mod-lt (z + x) (span-pos ty))
    ∙ mod-add-mod (z + x) (span ty) (n * x)
    ∙ ap (λ v. v % span ty) (let e : z + x + n * x ≡ z + suc n * x = omega arith in e)

-- the spans in 2 ^ 64
share : ElemType → ℕ
share U8 = 2 ^ 56
share I8 = 2 ^ 56
share U16 = 2 ^ 48
share I16 = 2 ^ 48
share U32 = 2 ^ 32
share I32 = 2 ^ 32
share U64 = 1
share I64 = 1

shared : (ty : ElemType) → span ty * share ty ≡ 18446744073709551616
unfolding share
shared U8 = refl
shared I8 = refl
shared U16 = refl
shared I16 = refl
shared U32 = refl
shared I32 = refl
shared U64 = refl
shared I64 = refl

regroup : (z k x n q s all : ℕ) → s * q ≡ 18446744073709551616 → all ≡ k * 18446744073709551616 + n
    → z + all * x ≡ z + n * x + s * (q * k * x)
regroup z k x n q s all e d =
    ap (λ v. z + v * x) (d ∙ ap (λ v. k * v + n) (sym e))
    ∙ (let g : z + (k * (s * q) + n) * x ≡ z + n * x + s * (q * k * x) = omega arith in g)

pub sum_times : (ty : ElemType) (x all z : ℕ) → z < span ty
    → again (all % 18446744073709551616) (λ y. op Sum ty y x) z ≡ again all (λ y. op Sum ty y x) z
sum_times ty x all z h =
    let n = all % 18446744073709551616 in
    let k = all / 18446744073709551616 in
    let d : all ≡ k * 18446744073709551616 + n = sym (div-add-mod' all 18446744073709551616) in
    added ty x n z h
    ∙ sym (add-mul-mod_self_left (z + n * x) (span ty) (share ty * k * x))
    ∙ ap (λ v. v % span ty) (sym (regroup z k x n (share ty) (span ty) all (shared ty) d))
    ∙ sym (added ty x all z h)

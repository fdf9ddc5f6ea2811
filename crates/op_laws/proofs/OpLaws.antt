-- The ten operations on bit patterns: partial results may be combined in any order, and the starting value changes none of them.
use Rattle.std.proofs.Common.{◌/◌, ◌-◌, mod-eq_of_lt, add_comm, mul_comm, ℕ, Bool, true, false, cond, not, ◌&&◌, ◌||◌, ◌+◌, ◌*◌, ◌%◌, ◌≡◌}
use Rattle.std.proofs.Common.{◌<◌, refl, ap, ◌∙◌, sym, arith, mod-lt, pow_pos, bit_and, bit_or, bit_xor, min, max, nat_le, lit<}
use Rattle.std.proofs.Common.{if◌then◌else◌, le-leb, leb-false, leb-true, mul_right_comm, lt_of_le_of_lt}
use Rattle.std.specs.Int.{bit_at}
use Rattle.std.proofs.lemmas.Bool.{false_from_ne_true}
use Rattle.std.proofs.lemmas.Nat.Bits.{bit_at-zero, bit_at_xor, bit_at_and, bit_at_or, same_from_bits}
use Rattle.std.proofs.lemmas.Nat.{xor_lt, or_lt, and_le_l, mul-mod_first, or_comm, and_comm, xor_comm, and_mask}
use native.Mathlib.Nat.{mod-add-mod}
use Rattle.ptl_types.specs.declared.elements.AtomicOp.{AtomicOp}
use Rattle.ptl_types.specs.declared.elements.ElemType.{ElemType}
use Rattle.ptl_types.specs.declared.elements.AtomicOp.TheVariants.{Min, Max, Sum, Prod, Lor, Land, Bor, Band, Lxor, Bxor}
use Rattle.ptl_types.specs.declared.elements.ElemType.TheVariants.{U8, I8, U16, I16, U32, I32, U64, I64}
use Rattle.ptl_types.specs.Operations.{op, start_value, span, bytes_of, order_key, one_if, isnt_zero}
use Rattle.op_laws.proofs.Swaps.{OpSwaps}
use Rattle.op_laws.specs.Laws.{Swaps, Commutes, Associates, Starts, Stays, Absorbs, IsClosed, StartsInRange}

-- sums and products
add_swaps : (x a b m : ℕ) → ((x + a) % m + b) % m ≡ ((x + b) % m + a) % m
add_swaps x a b m = mod-add-mod (x + a) m b ∙ ap (λ v. v % m) (let q : x + a + b ≡ x + b + a = omega arith in q)
    ∙ sym (mod-add-mod (x + b) m a)

mul_swaps : (x a b m : ℕ) → (x * a % m * b) % m ≡ (x * b % m * a) % m
mul_swaps x a b m = mul-mod_first (x * a) b m ∙ ap (λ v. v % m) (mul_right_comm x a b) ∙ sym (mul-mod_first (x * b) a m)

-- bits
and_swaps : (x a b : ℕ) → bit_and (bit_and x a) b ≡ bit_and (bit_and x b) a
and_swaps x a b = same_from_bits _ _ (λ i. bit_at_and (bit_and x a) b i ∙ ap (λ v. min v (bit_at b i)) (bit_at_and x a i)
    ∙ min3 (bit_at x i) (bit_at a i) (bit_at b i) ∙ sym (bit_at_and (bit_and x b) a i ∙ ap (λ v. min v (bit_at a i)) (bit_at_and x b i)))
  where
    min3 : (p q r : ℕ) → min (min p q) r ≡ min (min p r) q
    min3 p q r = omega arith

or_swaps : (x a b : ℕ) → bit_or (bit_or x a) b ≡ bit_or (bit_or x b) a
or_swaps x a b = same_from_bits _ _ (λ i. bit_at_or (bit_or x a) b i ∙ ap (λ v. max v (bit_at b i)) (bit_at_or x a i)
    ∙ max3 (bit_at x i) (bit_at a i) (bit_at b i) ∙ sym (bit_at_or (bit_or x b) a i ∙ ap (λ v. max v (bit_at a i)) (bit_at_or x b i)))
  where
    max3 : (p q r : ℕ) → max (max p q) r ≡ max (max p r) q
    max3 p q r = omega arith

xor_swaps : (x a b : ℕ) → bit_xor (bit_xor x a) b ≡ bit_xor (bit_xor x b) a
xor_swaps x a b = same_from_bits _ _ (λ i. bit_at_xor (bit_xor x a) b i ∙ ap (λ v. (v + bit_at b i) % 2) (bit_at_xor x a i)
    ∙ add_swaps (bit_at x i) (bit_at a i) (bit_at b i) 2 ∙ sym (bit_at_xor (bit_xor x b) a i
    ∙ ap (λ v. (v + bit_at a i) % 2) (bit_at_xor x b i)))

-- truth values
pub isnt_zero-one_if : (b : Bool) → isnt_zero (one_if b) ≡ b
isnt_zero-one_if true = refl
isnt_zero-one_if false = refl

lor3 : (p q r : Bool) → ((p || q) || r) ≡ ((p || r) || q)
lor3 true true true = refl
lor3 true true false = refl
lor3 true false true = refl
lor3 true false false = refl
lor3 false true true = refl
lor3 false true false = refl
lor3 false false true = refl
lor3 false false false = refl

land3 : (p q r : Bool) → ((p && q) && r) ≡ ((p && r) && q)
land3 true true true = refl
land3 true true false = refl
land3 true false true = refl
land3 true false false = refl
land3 false true true = refl
land3 false true false = refl
land3 false false true = refl
land3 false false false = refl

abbrev pub differ : Bool → Bool → Bool
differ p q = (p && not q) || (not p && q)

lxor3 : (p q r : Bool) → differ (differ p q) r ≡ differ (differ p r) q
lxor3 true true true = refl
lxor3 true true false = refl
lxor3 true false true = refl
lxor3 true false false = refl
lxor3 false true true = refl
lxor3 false true false = refl
lxor3 false false true = refl
lxor3 false false false = refl

logic_swaps : (f : Bool → Bool → Bool) → ((p q r : Bool) → f (f p q) r ≡ f (f p r) q) → (x a b : ℕ) →
    one_if (f (isnt_zero (one_if (f (isnt_zero x) (isnt_zero a)))) (isnt_zero b)) ≡ one_if
    (f (isnt_zero (one_if (f (isnt_zero x) (isnt_zero b)))) (isnt_zero a))
logic_swaps f h x a b =
    ap (λ v. one_if (f v (isnt_zero b))) (isnt_zero-one_if (f (isnt_zero x) (isnt_zero a)))
    ∙ ap one_if (h (isnt_zero x) (isnt_zero a) (isnt_zero b))
    ∙ sym (ap (λ v. one_if (f v (isnt_zero a))) (isnt_zero-one_if (f (isnt_zero x) (isnt_zero b))))

-- the lesser and the greater by a key that tells values apart
abbrev lesser : (ℕ → ℕ) → ℕ → ℕ → ℕ
lesser k x y = if nat_le (k x) (k y) then x else y

abbrev greater : (ℕ → ℕ) → ℕ → ℕ → ℕ
greater k x y = if nat_le (k x) (k y) then y else x

lesser_swaps : (k : ℕ → ℕ) (x a b : ℕ) → (k x ≡ k a → x ≡ a) → (k x ≡ k b → x ≡ b) → (k a ≡ k b → a ≡ b) →
    lesser k (lesser k x a) b ≡ lesser k (lesser k x b) a
lesser_swaps k x a b p q r = at (nat_le (k x) (k a)) (nat_le (k x) (k b)) refl refl
  where
    at : (s t : Bool) → nat_le (k x) (k a) ≡ s → nat_le (k x) (k b) ≡ t → lesser k (cond s x a) b ≡ lesser k (cond t x b) a
    at true true e f = rw (e, f) refl
    at true false e f = let g : nat_le (k b) (k a) ≡ true = le-leb _ _ (let i = leb-true _ _ e in let j = leb-false _ _ f in omega arith)
        in rw (f, g) refl
    at false true e f = let g : nat_le (k a) (k b) ≡ true = le-leb _ _ (let i = leb-false _ _ e in let j = leb-true _ _ f in omega arith)
        in rw (e, g) refl
    at false false e f = both (nat_le (k a) (k b)) (nat_le (k b) (k a)) refl refl
      where
        both : (s t : Bool) → nat_le (k a) (k b) ≡ s → nat_le (k b) (k a) ≡ t → cond s a b ≡ cond t b a
        both true true e f = r (let i = leb-true _ _ e in let j = leb-true _ _ f in omega arith)
        both true false e f = refl
        both false true e f = refl
        both false false e f = absurd (let i = leb-false _ _ e in let j = leb-false _ _ f in omega arith)

false_le : {s : Bool} → (s ≡ true → ⊥) → s ≡ false
false_le {s} h = false_from_ne_true s h

greater_swaps : (k : ℕ → ℕ) (x a b : ℕ) → (k x ≡ k a → x ≡ a) → (k x ≡ k b → x ≡ b) → (k a ≡ k b → a ≡ b) →
    greater k (greater k x a) b ≡ greater k (greater k x b) a
greater_swaps k x a b p q r = at (nat_le (k x) (k a)) (nat_le (k x) (k b)) refl refl
  where
    at : (s t : Bool) → nat_le (k x) (k a) ≡ s → nat_le (k x) (k b) ≡ t → greater k (cond s a x) b ≡ greater k (cond t b x) a
    at false false e f = rw (e, f) refl
    at true false e f = let g : nat_le (k a) (k b) ≡ false = false_le (λ i. let n = leb-true _ _ i in let j = leb-false _ _ f in let l =
        leb-true _ _ e in absurd (omega arith)) in rw (e, g) refl
    at false true e f = let g : nat_le (k b) (k a) ≡ false = false_le (λ i. let n = leb-true _ _ i in let j = leb-true _ _ f in let l =
        leb-false _ _ e in absurd (omega arith)) in rw (f, g) refl
    at true true e f = both (nat_le (k a) (k b)) (nat_le (k b) (k a)) refl refl
      where
        both : (s t : Bool) → nat_le (k a) (k b) ≡ s → nat_le (k b) (k a) ≡ t → cond s b a ≡ cond t a b
        both true true e f = sym (r (let i = leb-true _ _ e in let j = leb-true _ _ f in omega arith))
        both true false e f = refl
        both false true e f = refl
        both false false e f = absurd (let i = leb-false _ _ e in let j = leb-false _ _ f in omega arith)

-- ---- together
pub key_one : (ty : ElemType) (x y : ℕ) → x < span ty → y < span ty → order_key ty x ≡ order_key ty y → x ≡ y
key_one U8 x y h i e = e
key_one U16 x y h i e = e
key_one U32 x y h i e = e
key_one U64 x y h i e = e
key_one I8 x y h i e = omega arith
key_one I16 x y h i e = omega arith
key_one I32 x y h i e = omega arith
key_one I64 x y h i e = omega arith

pub span-pos : (ty : ElemType) → 0 < span ty
span-pos ty = pow_pos (8 * bytes_of ty)

span-one : (ty : ElemType) → 1 < span ty
span-one U8 = lit< tt
span-one I8 = lit< tt
span-one U16 = lit< tt
span-one I16 = lit< tt
span-one U32 = lit< tt
span-one I32 = lit< tt
span-one U64 = lit< tt
span-one I64 = lit< tt

one_if-lt : (b : Bool) (ty : ElemType) → one_if b < span ty
one_if-lt true ty = span-one ty
one_if-lt false ty = span-pos ty

pick-lt : (b : Bool) (x y n : ℕ) → x < n → y < n → cond b x y < n
pick-lt true x y n h i = h
pick-lt false x y n h i = i

-- ---- the ends of a type's order
pub least_key : (ty : ElemType) → start_value Min ty < span ty
least_key U8 = lit< tt
least_key I8 = lit< tt
least_key U16 = lit< tt
least_key I16 = lit< tt
least_key U32 = lit< tt
least_key I32 = lit< tt
least_key U64 = lit< tt
least_key I64 = lit< tt

pub most_key : (ty : ElemType) → start_value Max ty < span ty
most_key U8 = lit< tt
most_key I8 = lit< tt
most_key U16 = lit< tt
most_key I16 = lit< tt
most_key U32 = lit< tt
most_key I32 = lit< tt
most_key U64 = lit< tt
most_key I64 = lit< tt

key-lt : (ty : ElemType) (y : ℕ) → y < span ty → order_key ty y < span ty
key-lt U8 y h = h
key-lt U16 y h = h
key-lt U32 y h = h
key-lt U64 y h = h
key-lt I8 y h = mod-lt (y + span I8 / 2) (span-pos I8)
key-lt I16 y h = mod-lt (y + span I16 / 2) (span-pos I16)
key-lt I32 y h = mod-lt (y + span I32 / 2) (span-pos I32)
key-lt I64 y h = mod-lt (y + span I64 / 2) (span-pos I64)

greatest : (ty : ElemType) → order_key ty (start_value Min ty) + 1 ≡ span ty
greatest U8 = refl
greatest I8 = refl
greatest U16 = refl
greatest I16 = refl
greatest U32 = refl
greatest I32 = refl
greatest U64 = refl
greatest I64 = refl

least : (ty : ElemType) → order_key ty (start_value Max ty) ≡ 0
least U8 = refl
least I8 = refl
least U16 = refl
least I16 = refl
least U32 = refl
least I32 = refl
least U64 = refl
least I64 = refl

mod-mod_zero : (y n : ℕ) → y < n → (y + 0) % n ≡ y
mod-mod_zero y n h = ap (λ v. v % n) (let q : y + 0 ≡ y = omega arith in q) ∙ mod-eq_of_lt h

mod-times_one : (y n : ℕ) → y < n → (y * 1) % n ≡ y
mod-times_one y n h = ap (λ v. v % n) (let q : y * 1 ≡ y = omega arith in q) ∙ mod-eq_of_lt h

pub op-below : (o : AtomicOp) → IsClosed o
op-below Min ty x a h i = pick-lt (nat_le (order_key ty x) (order_key ty a)) x a (span ty) h i
op-below Max ty x a h i = pick-lt (nat_le (order_key ty x) (order_key ty a)) a x (span ty) i h
op-below Sum ty x a h i = mod-lt (x + a) (span-pos ty)
op-below Prod ty x a h i = mod-lt (x * a) (span-pos ty)
op-below Lor ty x a h i = one_if-lt (isnt_zero x || isnt_zero a) ty
op-below Land ty x a h i = one_if-lt (isnt_zero x && isnt_zero a) ty
op-below Bor ty x a h i = or_lt (8 * bytes_of ty) x a h i
op-below Band ty x a h i = lt_of_le_of_lt (and_le_l x a) h
op-below Lxor ty x a h i = one_if-lt (differ (isnt_zero x) (isnt_zero a)) ty
op-below Bxor ty x a h i = xor_lt (8 * bytes_of ty) x a h i

pub swaps : (o : AtomicOp) → Swaps o
swaps Min ty x a b h i j = lesser_swaps (order_key ty) x a b (key_one ty x a h i) (key_one ty x b h j) (key_one ty a b i j)
swaps Max ty x a b h i j = greater_swaps (order_key ty) x a b (key_one ty x a h i) (key_one ty x b h j) (key_one ty a b i j)
swaps Sum ty x a b h i j = add_swaps x a b (span ty)
swaps Prod ty x a b h i j = mul_swaps x a b (span ty)
swaps Lor ty x a b h i j = logic_swaps (λ p q. p || q) lor3 x a b
swaps Land ty x a b h i j = logic_swaps (λ p q. p && q) land3 x a b
swaps Bor ty x a b h i j = or_swaps x a b
swaps Band ty x a b h i j = and_swaps x a b
swaps Lxor ty x a b h i j = logic_swaps differ lxor3 x a b
swaps Bxor ty x a b h i j = xor_swaps x a b

pub op_laws : OpSwaps
op_laws = record { swaps = swaps; below = op-below }

-- ---- in either order
lesser-comm : (k : ℕ → ℕ) (x y : ℕ) → (k x ≡ k y → x ≡ y) → lesser k x y ≡ lesser k y x
lesser-comm k x y same = at (nat_le (k x) (k y)) (nat_le (k y) (k x)) refl refl
  where
    at : (s t : Bool) → nat_le (k x) (k y) ≡ s → nat_le (k y) (k x) ≡ t → cond s x y ≡ cond t y x
    at true true e f = same (let i = leb-true _ _ e in let j = leb-true _ _ f in omega arith)
    at true false e f = refl
    at false true e f = refl
    at false false e f = absurd (let i = leb-false _ _ e in let j = leb-false _ _ f in omega arith)

greater-comm : (k : ℕ → ℕ) (x y : ℕ) → (k x ≡ k y → x ≡ y) → greater k x y ≡ greater k y x
greater-comm k x y same = at (nat_le (k x) (k y)) (nat_le (k y) (k x)) refl refl
  where
    at : (s t : Bool) → nat_le (k x) (k y) ≡ s → nat_le (k y) (k x) ≡ t → cond s y x ≡ cond t x y
    at true true e f = sym (same (let i = leb-true _ _ e in let j = leb-true _ _ f in omega arith))
    at true false e f = refl
    at false true e f = refl
    at false false e f = absurd (let i = leb-false _ _ e in let j = leb-false _ _ f in omega arith)

lor-comm : (p q : Bool) → (p || q) ≡ (q || p)
lor-comm true true = refl
lor-comm true false = refl
lor-comm false true = refl
lor-comm false false = refl

land-comm : (p q : Bool) → (p && q) ≡ (q && p)
land-comm true true = refl
land-comm true false = refl
land-comm false true = refl
land-comm false false = refl

lxor-comm : (p q : Bool) → differ p q ≡ differ q p
lxor-comm true true = refl
lxor-comm true false = refl
lxor-comm false true = refl
lxor-comm false false = refl

pub commutes : (o : AtomicOp) → Commutes o
commutes Min ty x y h i = lesser-comm (order_key ty) x y (key_one ty x y h i)
commutes Max ty x y h i = greater-comm (order_key ty) x y (key_one ty x y h i)
commutes Sum ty x y h i = ap (λ v. v % span ty) (add_comm x y)
commutes Prod ty x y h i = ap (λ v. v % span ty) (mul_comm x y)
commutes Lor ty x y h i = ap one_if (lor-comm (isnt_zero x) (isnt_zero y))
commutes Land ty x y h i = ap one_if (land-comm (isnt_zero x) (isnt_zero y))
commutes Bor ty x y h i = or_comm x y
commutes Band ty x y h i = and_comm x y
commutes Lxor ty x y h i = ap one_if (lxor-comm (isnt_zero x) (isnt_zero y))
commutes Bxor ty x y h i = xor_comm x y

pub associates : (o : AtomicOp) → Associates o
associates o ty x y z h i j =
    ap (λ v. op o ty v z) (commutes o ty x y h i)
    ∙ swaps o ty y x z i h j
    ∙ commutes o ty (op o ty y z) x (op-below o ty y z i j) h

-- ---- the starting value
pub start-lt : (o : AtomicOp) → StartsInRange o
start-lt Min ty = least_key ty
start-lt Max ty = most_key ty
start-lt Sum ty = span-pos ty
start-lt Prod ty = span-one ty
start-lt Lor ty = span-pos ty
start-lt Land ty = span-one ty
start-lt Bor ty = span-pos ty
start-lt Band ty = omega (arith, span-pos ty)
start-lt Lxor ty = span-pos ty
start-lt Bxor ty = span-pos ty

-- a pattern and the starting value give the pattern: of the logical operations, where it is 0 or 1
pub min_stays : (ty : ElemType) (y : ℕ) → y < span ty → op Min ty y (start_value Min ty) ≡ y
min_stays ty y h = at (nat_le (order_key ty y) (order_key ty (start_value Min ty))) refl
  where
    at : (s : Bool) → nat_le (order_key ty y) (order_key ty (start_value Min ty)) ≡ s → cond s y (start_value Min ty) ≡ y
    at true e = refl
    at false e = let n = leb-false _ _ e in let k = greatest ty in let l = key-lt ty y h in absurd (omega (arith, n, k, l))

pub max_stays : (ty : ElemType) (y : ℕ) → y < span ty → op Max ty y (start_value Max ty) ≡ y
max_stays ty y h = at (nat_le (order_key ty y) (order_key ty (start_value Max ty))) refl
  where
    at : (s : Bool) → nat_le (order_key ty y) (order_key ty (start_value Max ty)) ≡ s → cond s (start_value Max ty) y ≡ y
    at false e = refl
    at true e = let n = leb-true _ _ e in let k = least ty in key_one ty (start_value Max ty) y (most_key ty) h (omega (arith, n, k))

or-zero : (y : ℕ) → bit_or y 0 ≡ y
or-zero y = same_from_bits _ _ (λ i. bit_at_or y 0 i ∙ (let z = bit_at-zero i in omega (arith, z)))

xor-zero : (y : ℕ) → bit_xor y 0 ≡ y
xor-zero y = same_from_bits _ _ (λ i. bit_at_xor y 0 i ∙ (let z = bit_at-zero i in let l : bit_at y i < 2 = mod-lt _ (lit< tt) in
    omega (arith, z, l)))

lor-false : (b : Bool) → (isnt_zero (one_if b) || false) ≡ b
lor-false true = refl
lor-false false = refl

land-true : (b : Bool) → (isnt_zero (one_if b) && true) ≡ b
land-true true = refl
land-true false = refl

lxor-false : (b : Bool) → differ (isnt_zero (one_if b)) false ≡ b
lxor-false true = refl
lxor-false false = refl

pub stays : (o : AtomicOp) → Stays o
stays Min ty x a h i = min_stays ty (op Min ty x a) (op-below Min ty x a h i)
stays Max ty x a h i = max_stays ty (op Max ty x a) (op-below Max ty x a h i)
stays Sum ty x a h i = mod-mod_zero ((x + a) % span ty) (span ty) (mod-lt (x + a) (span-pos ty))
stays Prod ty x a h i = mod-times_one ((x * a) % span ty) (span ty) (mod-lt (x * a) (span-pos ty))
stays Lor ty x a h i = ap one_if (lor-false (isnt_zero x || isnt_zero a))
stays Land ty x a h i = ap one_if (land-true (isnt_zero x && isnt_zero a))
stays Bor ty x a h i = or-zero (bit_or x a)
stays Band ty x a h i = and_mask (bit_and x a) (8 * bytes_of ty) ∙ mod-eq_of_lt (op-below Band ty x a h i)
stays Lxor ty x a h i = ap one_if (lxor-false (differ (isnt_zero x) (isnt_zero a)))
stays Bxor ty x a h i = xor-zero (bit_xor x a)

pub starts : (o : AtomicOp) → Starts o
starts Min ty = min_stays ty (start_value Min ty) (least_key ty)
starts Max ty = max_stays ty (start_value Max ty) (most_key ty)
starts Sum ty = mod-mod_zero 0 (span ty) (span-pos ty)
starts Prod ty = mod-times_one 1 (span ty) (span-one ty)
starts Lor ty = refl
starts Land ty = refl
starts Bor ty = refl
starts Band ty = and_mask (span ty - 1) (8 * bytes_of ty) ∙ mod-eq_of_lt (start-lt Band ty)
starts Lxor ty = refl
starts Bxor ty = refl

pub absorbs : (o : AtomicOp) → Absorbs o
absorbs o ty x d h i =
    let e = start-lt o ty in
    ap (λ v. op o ty x v) (commutes o ty (start_value o ty) d e i)
    ∙ sym (associates o ty x d (start_value o ty) h i e)
    ∙ stays o ty x d h i

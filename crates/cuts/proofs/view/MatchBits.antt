-- Match bits: an entry that ignores its low bits, 16 or 40 of them, matches exactly where the bits above agree.
use Rattle.std.proofs.Common.{zero-mul, ℕ, true, ◌+◌, ◌-◌, ◌*◌, ◌/◌, ◌%◌, ◌^◌, ◌≡◌, ◌<◌, ap, ◌∙◌, sym, arith, eqb-true, eq-eqb, bit_and}
use Rattle.std.proofs.Common.{bit_xor, mod-lt, div-add-mod', pow_pos, shr-shr, ap₂}
use Rattle.std.specs.Int.{bit_at}
use Rattle.std.specs.Int.Bits.{xor_self}
use Rattle.std.proofs.lemmas.Nat.{xor_lt}
use Rattle.std.proofs.lemmas.Nat.Bits.{and_high, bit_at_xor, same_from_bits_below, same_from_bits, bit_at_cat_low, bit_at-lt, bit_at-zero}
use Rattle.ptl_types.specs.Matching.{bits_match}

bit_at-mod : (m k i : ℕ) → i < k → bit_at (m % 2 ^ k) i ≡ bit_at m i
bit_at-mod m k i h = sym (bit_at_cat_low (m / 2 ^ k) k (m % 2 ^ k) i h) ∙ ap (λ v. bit_at v i) (div-add-mod' m (2 ^ k))

pub two_bits : (x y : ℕ) → x < 2 → y < 2 → (x + y) % 2 ≡ 0 → x ≡ y
two_bits x y h k e = omega arith

pub xor_zero : (a b : ℕ) → bit_xor a b ≡ 0 → a ≡ b
xor_zero a b e = same_from_bits a b (λ i. two_bits (bit_at a i) (bit_at b i) (bit_at-lt a i) (bit_at-lt b i)
    (sym (bit_at_xor a b i) ∙ ap (λ v. bit_at v i) e ∙ bit_at-zero i))

-- the hi bits above the low lo
abbrev pub bits_over : ℕ → ℕ → ℕ → ℕ
bits_over lo hi n = n / 2 ^ lo % 2 ^ hi

module _ (lo hi : ℕ) (masked : (n : ℕ) → bit_and n (2 ^ 64 - 1 - (2 ^ lo - 1)) ≡ bits_over lo hi n * 2 ^ lo)
    (cancel : (x : ℕ) → x * 2 ^ lo ≡ 0 → x ≡ 0) where
  bit_at-over : (n i : ℕ) → i < hi → bit_at (bits_over lo hi n) i ≡ bit_at n (lo + i)
  bit_at-over n i h = bit_at-mod (n / 2 ^ lo) hi i h ∙ ap (λ v. v % 2) (shr-shr n lo i)

  over-xor : (a b : ℕ) → bits_over lo hi (bit_xor a b) ≡ bit_xor (bits_over lo hi a) (bits_over lo hi b)
  over-xor a b = same_from_bits_below hi (bits_over lo hi (bit_xor a b)) (bit_xor (bits_over lo hi a) (bits_over lo hi b))
      (mod-lt (bit_xor a b / 2 ^ lo) (pow_pos hi)) (xor_lt hi (bits_over lo hi a) (bits_over lo hi b) (mod-lt (a / 2 ^ lo) (pow_pos hi))
      (mod-lt (b / 2 ^ lo) (pow_pos hi)))
      (λ i h. bit_at-over (bit_xor a b) i h ∙ bit_at_xor a b (lo + i) ∙ ap₂ (λ x y. (x + y) % 2) (sym (bit_at-over a i h))
      (sym (bit_at-over b i h)) ∙ sym (bit_at_xor (bits_over lo hi a) (bits_over lo hi b) i))

  over-true : (a b : ℕ) → bits_match (2 ^ lo - 1) a b ≡ true → bits_over lo hi a ≡ bits_over lo hi b
  over-true a b e =
      let k : bit_and (bit_xor a b) (2 ^ 64 - 1 - (2 ^ lo - 1)) ≡ 0 = eqb-true _ _ e in
      let z : bits_over lo hi (bit_xor a b) * 2 ^ lo ≡ 0 = sym (masked (bit_xor a b)) ∙ k in
      let y : bits_over lo hi (bit_xor a b) ≡ 0 = cancel (bits_over lo hi (bit_xor a b)) z in
      xor_zero (bits_over lo hi a) (bits_over lo hi b) (sym (over-xor a b) ∙ y)

  over-from : (a b : ℕ) → bits_over lo hi a ≡ bits_over lo hi b → bits_match (2 ^ lo - 1) a b ≡ true
  over-from a b e = eq-eqb _ _ (masked (bit_xor a b) ∙ ap (λ v. v * 2 ^ lo)
      (over-xor a b ∙ ap (λ v. bit_xor (bits_over lo hi a) v) (sym e) ∙ xor_self (bits_over lo hi a)) ∙ zero-mul (2 ^ lo))

-- the 48 bits above the low 16
abbrev pub high : ℕ → ℕ
high n = n / 2 ^ 16 % 2 ^ 48

masked : (n : ℕ) → bit_and n (2 ^ 64 - 1 - (2 ^ 16 - 1)) ≡ high n * 2 ^ 16
masked n = and_high n 48 16

pub bits_match-true : (a b : ℕ) → bits_match (2 ^ 16 - 1) a b ≡ true → high a ≡ high b
bits_match-true a b e = over-true 16 48 masked (λ x z. omega arith) a b e

pub bits_match-from : (a b : ℕ) → high a ≡ high b → bits_match (2 ^ 16 - 1) a b ≡ true
bits_match-from a b e = over-from 16 48 masked (λ x z. omega arith) a b e

pub high-of : (x s : ℕ) → x < 2 ^ 48 → s < 2 ^ 16 → high (x * 2 ^ 16 + s) ≡ x
high-of x s h k = omega arith

-- the 24 bits above the low 40: job and class
abbrev pub top_bits : ℕ → ℕ
top_bits n = n / 2 ^ 40 % 2 ^ 24

top_masked : (n : ℕ) → bit_and n (2 ^ 64 - 1 - (2 ^ 40 - 1)) ≡ top_bits n * 2 ^ 40
top_masked n = and_high n 24 40

pub top_match-true : (a b : ℕ) → bits_match (2 ^ 40 - 1) a b ≡ true → top_bits a ≡ top_bits b
top_match-true a b e = over-true 40 24 top_masked (λ x z. omega arith) a b e

pub top_match-from : (a b : ℕ) → top_bits a ≡ top_bits b → bits_match (2 ^ 40 - 1) a b ≡ true
top_match-from a b e = over-from 40 24 top_masked (λ x z. omega arith) a b e

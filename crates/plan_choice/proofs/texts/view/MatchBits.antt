-- An entry that ignores no bit matches exactly its own number.
use Rattle.std.proofs.Common.{ℕ, true, ◌-◌, ◌*◌, ◌/◌, ◌%◌, ◌^◌, ◌≡◌, ◌<◌, ap, ◌∙◌, sym, arith, eqb-true, eq-eqb, bit_and, bit_xor}
use Rattle.std.specs.Int.Bits.{xor_self}
use Rattle.std.proofs.lemmas.Nat.{xor_lt}
use Rattle.std.proofs.lemmas.Nat.Bits.{and_high}
use Rattle.ptl_types.specs.Matching.{bits_match}
use Rattle.cuts.proofs.view.MatchBits.{xor_zero}

-- all 64 bits are looked at
all_bits : (n : ℕ) → n < 2 ^ 64 → bit_and n (2 ^ 64 - 1 - 0) ≡ n
all_bits n h = let q : bit_and n (2 ^ 64 - 1 - 0) ≡ n / 2 ^ 0 % 2 ^ 64 * 2 ^ 0 = and_high n 64 0 in q
    ∙ (let r : n / 2 ^ 0 % 2 ^ 64 * 2 ^ 0 ≡ n = omega arith in r)

pub match_own : (a : ℕ) → bits_match 0 a a ≡ true
match_own a = eq-eqb _ _ (ap (λ n. bit_and n (2 ^ 64 - 1 - 0)) (xor_self a) ∙ all_bits 0 (omega arith))

pub match_only : (a b : ℕ) → a < 2 ^ 64 → b < 2 ^ 64 → bits_match 0 a b ≡ true → a ≡ b
match_only a b h k e = xor_zero a b (sym (all_bits (bit_xor a b) (xor_lt 64 a b h k)) ∙ eqb-true _ _ e)

-- The bit of a word that says that the value is out.
use Rattle.std.proofs.Common.{◌≡◌, ℕ, ◌+◌, ◌/◌, ◌%◌, ◌<◌, ap, ◌∙◌, arith, div-add-mod'}
use lib.Bits.{bit_or}
use Rattle.std.specs.Int.Bits.{or_zero_r}
use Rattle.std.proofs.lemmas.Nat.{or_shifted, or_comm, or_shr, or_mod}

abbrev Out : ℕ
Out = 9223372036854775808

pub taken_word : (n : ℕ) → n < 9223372036854775808 → bit_or n 9223372036854775808 ≡ n + 9223372036854775808
taken_word n h = or_comm n Out ∙ (or_shifted 1 63 n h ∙ omega arith)

pub busy_word : (n : ℕ) → n < 9223372036854775808 → bit_or (n + 9223372036854775808) 9223372036854775808 ≡ n + 9223372036854775808
busy_word n h =
    let m : ℕ = n + Out in
    let q : m / Out ≡ 1 = omega arith in
    let r : m % Out ≡ n = omega arith in
    let high : bit_or m Out / Out ≡ 1 = or_shr m Out 63 ∙ ap (λ (k : ℕ). bit_or k 1) q in
    let low : bit_or m Out % Out ≡ n = or_mod m Out 63 ∙ (ap (λ (k : ℕ). bit_or k 0) r ∙ or_zero_r n) in
    let whole = div-add-mod' (bit_or m Out) Out in
    omega arith

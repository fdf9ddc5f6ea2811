-- A number at the end of a buffer, after a space.
use Rattle.std.proofs.Common.{ℕ, ◌≡◌, ◌<◌, ◌≤◌, ◌+◌, ◌-◌, ◌∙◌, ◌∷◌, ◌++◌, ◌^◌, List, [], arith, ap, drop, set, length, append-nil}
use Rattle.std.specs.Fmt.{decimal}
use Rattle.std.proofs.lemmas.Fmt.{length-decimal-le}
use Rattle.std.proofs.lemmas.List.{drop-set}

pub at_most-digits : (n : ℕ) → n < 2 ^ 64 → length (decimal n) ≤ 20
at_most-digits n h = length-decimal-le 20 n (omega arith) (omega (arith, h)) h

-- the space stands where the digits begin, less one
pub spaced-digits : (n s : ℕ) (old new : List ℕ) → n < 2 ^ 64 → s + length (decimal n) ≡ 21 → length old ≡ 21 → length new ≡ 21 →
    drop s new ≡ decimal n ++ drop 21 old → drop 21 old ≡ []
    → drop (s - 1) (set new (s - 1) 32) ≡ 32 ∷ decimal n
spaced-digits n s old new fits start was is written none =
    let at_most = at_most-digits n fits in
    let one : s - 1 + 1 ≡ s = omega (arith, at_most, start) in
    let inside : s - 1 < length new = omega (arith, at_most, start, is) in
    drop-set new (s - 1) 32 inside
    ∙ ap (λ xs. 32 ∷ xs) (ap (λ v. drop v new) one ∙ written ∙ ap (λ xs. decimal n ++ xs) none ∙ append-nil (decimal n))

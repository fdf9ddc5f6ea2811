-- How many rounds of doubling reach all places.
use Rattle.std.proofs.Common.{ℕ, zero, suc, Bool, true, false, cond, ◌+◌, ◌^◌, ◌≡◌, ◌≤◌, ◌<◌, refl, subst, inl, inr, arith, nat_le, pow-suc}
use Rattle.std.proofs.Common.{pow_pos}
use Rattle.plan_steps.specs.Rounds.{rounds, rounds_from}
use Rattle.std.proofs.lemmas.Bool.{leb-true, leb-false}

less_pow : (m : ℕ) → m ≤ 2 ^ m
less_pow zero = omega arith
less_pow (suc m) = let h = less_pow m in let e = pow-suc 2 m in let p : 0 < 2 ^ m = pow_pos m in omega arith

enough : (fuel k m : ℕ) → m ≤ 2 ^ (k + fuel) → m ≤ 2 ^ rounds_from fuel k m
enough zero k m h = subst (λ v. m ≤ 2 ^ v) (let e : k + 0 ≡ k = omega arith in e) h
enough (suc fuel) k m h = at (nat_le m (2 ^ k)) refl (enough fuel (suc k) m
    (subst (λ v. m ≤ 2 ^ v) (let e : k + suc fuel ≡ suc k + fuel = omega arith in e) h))
  where
    at : (b : Bool) → nat_le m (2 ^ k) ≡ b → m ≤ 2 ^ rounds_from fuel (suc k) m → m ≤ 2 ^ cond b k (rounds_from fuel (suc k) m)
    at true e r = leb-true _ _ e
    at false e r = r

too_few : (fuel k m j : ℕ) → k ≤ j → j < rounds_from fuel k m → 2 ^ j < m
too_few zero k m j h l = absurd (omega arith)
too_few (suc fuel) k m j h l = at (nat_le m (2 ^ k)) refl l (λ n. too_few fuel (suc k) m j n)
  where
    at : (b : Bool) → nat_le m (2 ^ k) ≡ b → j < cond b k (rounds_from fuel (suc k) m) →
        (suc k ≤ j → j < rounds_from fuel (suc k) m → 2 ^ j < m) → 2 ^ j < m
    at true e i rest = absurd (omega arith)
    at false e i rest = elim (Rattle.std.proofs.Common.eq-or-lt_of_le h)
        [ inl q ↦ subst (λ v. 2 ^ v < m) q (leb-false _ _ e) | inr n ↦ rest n i ]

pub rounds-enough : (m : ℕ) → m ≤ 256 → m ≤ 2 ^ rounds m
unfolding rounds
rounds-enough m h = enough 8 0 m h

pub rounds-at_most : (m j : ℕ) → j < rounds m → 2 ^ j < m
unfolding rounds
rounds-at_most m j h = too_few 8 0 m j (let z : 0 ≤ j = omega arith in z) h

-- Whether a rule is kept, from a test of it.
use Rattle.std.proofs.Common.{ℕ, zero, suc, Bool, true, false, cond, ◌≡◌, ◌==◌, ◌<◌, ◌≤◌, nat_lt, Some, None, refl, ap, arith, lt-ltb}
use Rattle.std.proofs.Common.{le-ltb, eq-eqb}
use Rattle.std.proofs.lemmas.Bool.{ne_eqb}
use Rattle.guarded_ni.specs.declared.faults.Misuse.{Misuse}
use Rattle.guarded_ni.specs.Misuses.{unless}

pub broken : (b : Bool) (m : Misuse) → b ≡ false → unless b m ≡ Some m
broken false m e = refl
broken true m e = cc

pub whole : (b : Bool) (m : Misuse) → b ≡ true → unless b m ≡ None
whole true m e = refl
whole false m e = cc

pub above : (a b : ℕ) (m : Misuse) → a < b → unless (nat_lt a b) m ≡ None
above a b m h = whole (nat_lt a b) m (lt-ltb a b h)

pub not_above : (a b : ℕ) (m : Misuse) → b ≤ a → unless (nat_lt a b) m ≡ Some m
not_above a b m h = broken (nat_lt a b) m (le-ltb a b h)

pub same : (a b : ℕ) (m : Misuse) → a ≡ b → unless (a == b) m ≡ None
same a b m e = whole (a == b) m (eq-eqb a b e)

pub other : (a b : ℕ) (m : Misuse) → (a ≡ b → ⊥) → unless (a == b) m ≡ Some m
other a b m n = broken (a == b) m (ne_eqb a b n)

pub positive : (n : ℕ) → (n ≡ 0 → ⊥) → 0 < n
positive zero h = absurd (h refl)
positive (suc n) h = omega arith

pub past : (a b : ℕ) (m : Misuse) → a < b → cond (nat_lt a b) (Some m) None ≡ Some m
past a b m h = ap (λ t. cond t (Some m) None) (lt-ltb a b h)

pub within : (a b : ℕ) (m : Misuse) → b ≤ a → cond (nat_lt a b) (Some m) None ≡ None
within a b m h = ap (λ t. cond t (Some m) None) (le-ltb a b h)

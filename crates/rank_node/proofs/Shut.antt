-- Lists of gates: how many are closed, and what goes out meanwhile.
use Rattle.std.proofs.Common.{◌≡◌, ◌<◌, ℕ, zero, suc, ◌+◌, Bool, true, false, cond, List, [], ◌∷◌, length, count_by, get_or, refl, arith}
use Rattle.std.proofs.Math.ListN.{set}
use Rattle.std.proofs.lemmas.List.Sums.{sum_by-set}
use Rattle.plan_core.proofs.Lists.{count-cons}

-- how many are closed
abbrev pub shut_in : List Bool → ℕ
shut_in closed = count_by (λ b. b) closed

-- one that changes
pub shut-set : (closed : List Bool) (d : ℕ) (b : Bool) → d < length closed → shut_in (set closed d b) + cond (get_or closed d false) 1 0
    ≡ shut_in closed + cond b 1 0
shut-set closed d b lt = sum_by-set (λ v. cond v 1 0) closed d b false lt

-- where none is closed, none of them is
pub none-shut : (closed : List Bool) (d : ℕ) → shut_in closed ≡ 0 → get_or closed d false ≡ false
none-shut [] d e = refl
none-shut (true ∷ closed) d e = let k = count-cons (λ b. b) true closed in absurd (omega arith)
none-shut (false ∷ closed) zero e = refl
none-shut (false ∷ closed) (suc d) e = let k = count-cons (λ b. b) false closed in none-shut closed d (omega arith)

-- Which inputs a plan takes.
use Rattle.std.specs.Prelude.{ℕ, ◌≡◌, ◌<◌, ◌+◌, ◌*◌, ◌/◌, List, length, get_or}
use Rattle.plan_core.specs.Plan.{Plan, cell}

-- the cell of input b at rank r is as long as input b's list there: lengths.b bytes at every rank
abbrev pub AreFit : Plan → List ℕ → Type 0
AreFit p lengths = (i : ℕ) → i < length lengths * p.ranks → (cell p (p.ranks + i)).length ≡ get_or lengths (i / p.ranks) 0

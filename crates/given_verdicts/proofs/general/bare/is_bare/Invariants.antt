use Rattle.std.proofs.Common.{ℕ, ◌≡◌, ◌<◌, None}
use Rattle.plan_core.specs.Plan.{cell}
use Rattle.given_verdicts.proofs.general.bare.is_bare.Given as goal

-- none of those before has an operation
abbrev pub invariant-loop-cell : goal.invariant-loop-cell
invariant-loop-cell l = (c : ℕ) → c < l.cell-index → (cell l.plan c).op ≡ None

-- What the two ends of a wire keep.
use Rattle.std.specs.Prelude.{ℕ, true, ◌≡◌, ◌≤◌, List, [], length, Option}
use Rattle.ptl_types.specs.Messages.{Sent}
use Rattle.pair_wires.specs.declared.rule.EndView.{EndView}
use Rattle.pair_wires.specs.Bounds.{KeepsBounds}
use Rattle.pair_wires.specs.Ends.{followed_by}

-- the pass carries nothing, may push, and has pushed so many; what was sent keeps the wire's bounds
pub record OutKeeps {C : Type 0} (v : EndView) (carried : List C) (waiting : Option Sent) (pushed : ℕ) : Type 0 where
  pub idle : carried ≡ []
  pub pushes : v.pushes ≡ true
  pub counted : pushed ≡ length v.sent
  pub bounded : KeepsBounds v.bounds (followed_by v.sent waiting)

-- the pass carries nothing, may pop, and has popped so many; it was told of no more than the wire's bounds allow
pub record InKeeps {C : Type 0} (v : EndView) (carried : List C) (popped : ℕ) : Type 0 where
  pub idle : carried ≡ []
  pub pops : v.pops ≡ true
  pub counted : popped ≡ length v.received
  pub told : v.told ≤ v.bounds.messages

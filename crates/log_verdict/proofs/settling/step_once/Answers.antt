use Rattle.std.proofs.Common.{sym}
use Rattle.log_verdict.specs.Settling.Moves.{Arrival}
use Rattle.log_verdict.proofs.settling.step_once.Goals as goal

pub returns-in_ok-arrive-in-Some : goal.returns-in_ok-arrive-in-Some
returns-in_ok-arrive-in-Some c =
    Arrival c.in-Some.found.0 c.in-Some.found.1 (sym c.in-Some.ensures) c.in_ok-arrive-in-Some.ensures

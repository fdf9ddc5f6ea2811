-- By the rule that is broken, or the interface's own answer.
use Rattle.std.proofs.Common.{refl, sym, ◌∙◌}
use Rattle.guarded_ni.specs.Guarded.Guards.{Answers, Misuses, Refuses}
use Rattle.guarded_ni.proofs.starts.triggered.Goals as goal

pub returns-in-Some : goal.returns-in-Some
returns-in-Some c = Misuses c.in-Some.misuse (sym c.bad_start.ensures ∙ c.in-Some.is) refl

pub returns-in-Ok : goal.returns-in-Ok
returns-in-Ok c = Answers c.in-Ok.number (sym c.bad_start.ensures ∙ c.in_default.is) c.in-Ok.ensures.does

pub returns-in-Err : goal.returns-in-Err
returns-in-Err c = Refuses c.in-Err.fault (sym c.bad_start.ensures ∙ c.in_default.is) c.in-Err.ensures.does

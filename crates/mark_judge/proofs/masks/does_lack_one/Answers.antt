-- All of its step's entries are there.
use Rattle.std.proofs.Common.{sym}
use Rattle.mark_judge.proofs.Bits.{none_lacked}
use Rattle.mark_judge.proofs.masks.does_lack_one.Goals as goal

pub returns-then-has_step : goal.returns-then-has_step
returns-then-has_step c =
    sym (none_lacked c.args.entries.now c.args.masks.now c.args.bits c.args.step c.requires.masks
    (c.has_step.ensures.within c.if-has_step.true) (c.has_step.ensures.all c.if-has_step.true))

-- Some steps were made as the chooser named them, and fewer are left.
use Rattle.plan_choice.specs.World.{IsLater}
use Rattle.plan_choice.proofs.Running.{IsRunOf, left_in}
use Rattle.plan_choice.proofs.world.ChoiceWorld.run_chosen.Given as goal

abbrev pub invariant-loop-n : goal.invariant-loop-n
invariant-loop-n g l = record {
  later : IsLater l.fn.self l.self;
  run : IsRunOf g.C.Chooser.answer g.C.Chooser.after l.fn.self l.fn.chooser l.self l.chooser;
}

abbrev pub decreases-loop-n : goal.decreases-loop-n
decreases-loop-n g l = left_in l.self

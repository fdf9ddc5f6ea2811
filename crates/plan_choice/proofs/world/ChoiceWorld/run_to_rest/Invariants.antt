-- Each step leads to a later world, and leaves fewer to be made.
use Rattle.plan_choice.specs.World.{IsLater}
use Rattle.plan_choice.proofs.Running.{LeadsTo, left_in}
use Rattle.plan_choice.proofs.world.ChoiceWorld.run_to_rest.Given as goal

abbrev pub invariant-loop-self : goal.invariant-loop-self
invariant-loop-self l = record { later : IsLater l.fn.self l.self; leads : LeadsTo l.fn.self l.self }

abbrev pub decreases-loop-self : goal.decreases-loop-self
decreases-loop-self l = left_in l.self

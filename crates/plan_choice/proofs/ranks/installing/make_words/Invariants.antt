use Rattle.std.proofs.Common.{List, map}
use Rattle.coll_lang.specs.declared.choices.ChoiceKind.{ChoiceKind}
use Rattle.plan_core.specs.Plan.{from_to}
use Rattle.plan_choice.specs.texts.view.Calls.Call.{MeAppend}
use Rattle.plan_choice.specs.ranks.Given.{AreMade}
use Rattle.plan_choice.proofs.ranks.installing.make_words.Given as goal

abbrev pub invariant-loop-step : goal.invariant-loop-step
invariant-loop-step l = (ks : List ChoiceKind) → AreMade ks (map MeAppend (from_to 0 l.step)) l.fn.nic l.nic l.fn.kept l.kept

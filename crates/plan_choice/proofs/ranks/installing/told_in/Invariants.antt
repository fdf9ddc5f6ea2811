use Rattle.std.proofs.Common.{◌*◌, ◌≡◌, ◌≤◌}
use Rattle.std.specs.Prelude.{sum_by}
use Rattle.plan_core.specs.Plan.{from_to}
use Rattle.plan_choice.specs.texts.machine.Choices.{choice_at}
use Rattle.plan_choice.specs.texts.machine.Counted.{told_steps}
use Rattle.plan_choice.proofs.ranks.installing.told_in.Given as goal

abbrev pub invariant-loop-i : goal.invariant-loop-i
invariant-loop-i l = record {
  sum : l.sum ≡ sum_by (λ s. told_steps (choice_at l.kinds s)) (from_to 0 l.i);
  at_most : l.sum ≤ 5 * l.i;
}

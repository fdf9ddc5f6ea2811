use Rattle.std.specs.Prelude.{◌*◌}
use Rattle.plan_choice.proofs.ranks.installing.install.Given as goal

-- each step may be the receipt of a word
abbrev pub ghost-with_room : goal.ghost-with_room
ghost-with_room a = (a.steps, 8 * a.steps)

use Rattle.std.proofs.Common.{refl}
use Rattle.turn_table.proofs.Sums.{prefix_refl}
use Rattle.fabric_cases.proofs.wires.turns.give_back.Goals as goal

pub give-requires-clause-turn : goal.give-requires-clause-turn
give-requires-clause-turn c = record {
  value = c.args.turn.value;
  turn = c.requires.turn;
  grows = prefix_refl c.args.turn.value.marks.items;
  named = refl;
  short = c.requires.short;
}

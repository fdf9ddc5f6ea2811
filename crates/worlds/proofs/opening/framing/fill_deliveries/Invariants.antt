use Rattle.worlds.proofs.opening.Counted.{AreFilled}
use Rattle.worlds.proofs.opening.framing.fill_deliveries.Given as goal

abbrev pub invariant-loop-pair : goal.invariant-loop-pair
invariant-loop-pair l = AreFilled l.setting.ranks l.setting.window l.lanes l.deliveries l.pair

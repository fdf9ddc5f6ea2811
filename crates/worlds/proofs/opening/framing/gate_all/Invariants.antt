use Rattle.worlds.proofs.opening.Told.{AreGatedTo}
use Rattle.worlds.proofs.opening.framing.gate_all.Given as goal

abbrev pub invariant-loop-pair : goal.invariant-loop-pair
invariant-loop-pair l = AreGatedTo l.setting.ranks l.setting.window l.lanes l.fn.nodes l.nodes l.pair

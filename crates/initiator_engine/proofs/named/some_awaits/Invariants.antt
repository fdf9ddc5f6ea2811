use Rattle.initiator_engine.proofs.SlotWalks.{NoneBelow, awaits_one}
use Rattle.initiator_engine.proofs.named.some_awaits.Given as goal

abbrev pub invariant-loop-slot : goal.invariant-loop-slot
invariant-loop-slot l = NoneBelow awaits_one l.slot l.mds.live

use Rattle.std.proofs.Common.{◌≡◌, ◌++◌, take, drop}
use Rattle.ni_model.specs.Headers.{oldest, without_oldest}
use Rattle.match_lists.proofs.unexpected.position_of.Given as goal

abbrev pub invariant-loop-i : goal.invariant-loop-i
invariant-loop-i l = record {
  same : oldest l.pt l.entry l.unexpected ≡ oldest l.pt l.entry (drop l.i l.unexpected);
  rest : without_oldest l.pt l.entry l.unexpected ≡ take l.i l.unexpected ++ without_oldest l.pt l.entry (drop l.i l.unexpected);
}

-- The places before it have their counts.
use Rattle.std.proofs.Common.{◌≡◌, ◌++◌, drop, map, take}
use Rattle.count_tree.proofs.CountTree.count_all.Given as goal

abbrev pub invariant-loop-place : goal.invariant-loop-place
invariant-loop-place g l = l.self ≡ map g.C.Counted.count (take l.place l.items) ++ drop l.place l.fn.self

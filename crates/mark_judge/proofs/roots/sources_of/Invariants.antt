use Rattle.std.proofs.Common.{◌≡◌, length}
use Rattle.mark_judge.specs.Tables.{AreSources}
use Rattle.mark_judge.proofs.roots.sources_of.Given as goal

abbrev pub invariant-loop-l : goal.invariant-loop-l
invariant-loop-l l = record {
  many : length l.sources.items ≡ l.l;
  told : AreSources l.plan l.roots l.l l.sources.items;
}

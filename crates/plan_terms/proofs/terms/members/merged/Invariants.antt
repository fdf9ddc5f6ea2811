use Rattle.std.proofs.Common.{◌≡◌, ◌≤◌, ◌+◌, length, take}
use Rattle.plan_terms.specs.terms.Folds.{AreMore}
use Rattle.plan_terms.proofs.terms.Rising.{IsMergedTo}
use Rattle.plan_terms.proofs.terms.members.merged.Given as goal

-- what both lists have up to their next members was combined
abbrev pub invariant-loop-k : goal.invariant-loop-k
invariant-loop-k l = record {
  so_far : l.i + l.j ≡ l._k;
  first : l.i ≤ length l.first;
  second : l.j ≤ length l.second;
  more : AreMore l.op l.ty (take l.i l.first) l.all (take l.j l.second);
  order : IsMergedTo l.first l.second l.all l.i l.j;
}

use Rattle.plan_slices.specs.Checked.{AreCutLinks}
use Rattle.plan_slices.proofs.checking.are_cut_links.Given as goal

abbrev pub invariant-loop-l : goal.invariant-loop-l
invariant-loop-l l = AreCutLinks l.plan l.cuts l.l

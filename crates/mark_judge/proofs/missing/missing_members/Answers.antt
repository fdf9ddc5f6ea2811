-- The first member that lacks a line.
use Rattle.std.proofs.Common.{◌∙◌, sym, arith}
use Rattle.mark_judge.specs.Judged.{missing_member}
use Rattle.mark_judge.specs.Tables.{has}
use Rattle.mark_judge.proofs.Finds.{found_here, none_in_all, none_more}
use Rattle.mark_judge.proofs.missing.missing_members.Goals as goal

pub returns-then-is_some : goal.returns-then-is_some
returns-then-is_some c =
    found_here (missing_member (has c.args.named.now) c.args.s) c.args.members.now c.loop-rank.rank-index 0 _
    (omega arith) c.missing_member-flaw.ensures (sym c.is_some.ensures ∙ c.if-is_some.true) c.loop-rank.invariant

pub loop-rank-preserved : goal.loop-rank-preserved
loop-rank-preserved c =
    none_more (missing_member (has c.args.named.now) c.args.s) c.args.members.now c.loop-rank.rank-index 0 _
    (omega arith) c.missing_member-flaw.ensures (sym c.is_some.ensures ∙ c.if-is_some.false) c.loop-rank.invariant

pub returns : goal.returns
returns c =
    none_in_all (missing_member (has c.args.named.now) c.args.s) c.args.members.now c.loop-rank.rank-index
    (omega arith) c.loop-rank.invariant

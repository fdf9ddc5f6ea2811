-- By the table of what has a line.
use Rattle.std.proofs.Common.{◌+◌, refl, sym, subst, take}
use Rattle.mark_judge.specs.Tables.{AreNamed}
use Rattle.mark_judge.proofs.Naming.{line_right, line_wrong, named_more}
use Rattle.mark_judge.proofs.lines.line_flaw.Goals as goal

pub returns-then-is_first-clause-flaw : goal.returns-then-is_first-clause-flaw
returns-then-is_first-clause-flaw c =
    line_right c.args.plan.now c.args.shape.now c.args.marks.now c.args.i c.args.named.now.items c.mark_at.result c.mark_at.ensures
    c.requires.before c.if-is_first.ensures.first

pub returns-else-is_first-clause-flaw : goal.returns-else-is_first-clause-flaw
returns-else-is_first-clause-flaw c =
    line_wrong c.args.plan.now c.args.shape.now c.args.marks.now c.args.i c.args.named.now.items c.mark_at.result c.mark_at.ensures
    c.requires.before c.if-is_first.ensures.first

pub returns-then-is_first-clause-named : goal.returns-then-is_first-clause-named
returns-then-is_first-clause-named c = λ e.
    subst (AreNamed (take (c.args.i + 1) c.args.marks.now)) (sym (c.if-is_first.ensures.noted refl))
    (named_more c.args.marks.now c.args.i c.args.named.now.items c.mark_at.result c.mark_at.ensures c.requires.line c.requires.room
    c.requires.before (c.if-is_first.ensures.small refl))

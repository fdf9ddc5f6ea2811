-- The first line that is at fault.
use Rattle.std.proofs.Common.{length, ◌∙◌, sym, subst, arith}
use Rattle.std.proofs.lemmas.List.{take_all}
use Rattle.mark_judge.specs.Judged.{line_flaw}
use Rattle.mark_judge.specs.Tables.{AreNamed}
use Rattle.plan_judge.proofs.Rows.{found_at, none_at_all, none_more, some_none}
use Rattle.mark_judge.proofs.lines.first_line_flaw.Goals as goal

pub returns-then-is_some-clause-flaw : goal.returns-then-is_some-clause-flaw
returns-then-is_some-clause-flaw c =
    let t = c.loop-i-test.true in
    found_at (line_flaw c.args.plan.now c.args.shape.now c.args.marks.now) (length c.args.marks.now) c.loop-i.i _
    c.line_flaw-flaw.ensures.flaw
    (sym c.is_some.ensures ∙ c.if-is_some.true)
    (omega (arith, t)) c.loop-i.invariant.none

pub loop-i-preserved : goal.loop-i-preserved
loop-i-preserved c =
    let clear = some_none c.line_flaw-flaw.result (sym c.is_some.ensures ∙ c.if-is_some.false) in
    record {
      none = none_more (line_flaw c.args.plan.now c.args.shape.now c.args.marks.now) c.loop-i.i _ c.line_flaw-flaw.ensures.flaw
          (sym c.is_some.ensures ∙ c.if-is_some.false) c.loop-i.invariant.none;
      room = c.line_flaw-flaw.ensures.room clear;
      named = c.line_flaw-flaw.ensures.named clear;
    }

pub returns-clause-flaw : goal.returns-clause-flaw
returns-clause-flaw c =
    let t = c.loop-i-test.false in
    sym (none_at_all (line_flaw c.args.plan.now c.args.shape.now c.args.marks.now) (length c.args.marks.now) c.loop-i.i
    (omega (arith, t)) c.loop-i.invariant.none)

pub returns-clause-named : goal.returns-clause-named
returns-clause-named c = λ e.
    let t = c.loop-i-test.false in
    subst (λ ms. AreNamed ms c.loop-i.named.items) (take_all c.loop-i.i c.args.marks.now (omega (arith, t))) c.loop-i.invariant.named

-- The list itself, or its halves together.
use Rattle.std.proofs.Common.{List, ap, subst, sym}
use Rattle.std.proofs.lemmas.Result.{IfOk-weaker}
use Rattle.plan_terms.specs.declared.terms.term.Member.{Member}
use Rattle.plan_terms.specs.terms.Terms.{fold_of}
use Rattle.plan_terms.specs.terms.Folds.{AreRising}
use Rattle.plan_terms.proofs.terms.Folds.{halves_more}
use Rattle.plan_terms.proofs.terms.members.+settled.Goals as goal

pub returns-then-are_rising-clause-more : goal.returns-then-are_rising-clause-more
returns-then-are_rising-clause-more t c =
    IfOk-weaker c.copied.result _ _ (λ all e V. ap (fold_of V c.args.op c.args.ty) e) c.copied.ensures

pub returns-then-are_rising-clause-rising : goal.returns-then-are_rising-clause-rising
returns-then-are_rising-clause-rising t c =
    IfOk-weaker c.copied.result _ _
    (λ all e. subst (λ (ms : List Member). AreRising ms) (sym e) (c.are_rising.ensures.rising c.if-are_rising.true)) c.copied.ensures

pub returns-clause-more : goal.returns-clause-more
returns-clause-more t c =
    IfOk-weaker c.joined.result _ _
    (λ all more. halves_more c.args.op c.args.ty c.args.list.now c.halves.result.0.now c.halves.result.1.now c.in_ok-early.early
    c.in_ok-late.late all c.halves.ensures.together c.in_ok-early.ensures.more c.in_ok-late.ensures.more more)
    c.joined.ensures.more

pub returns-clause-rising : goal.returns-clause-rising
returns-clause-rising t c =
    IfOk-weaker c.joined.result _ _ (λ all rising. rising c.in_ok-early.ensures.rising c.in_ok-late.ensures.rising) c.joined.ensures.rising

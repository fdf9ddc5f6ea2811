-- One rank more in each turn.
use Rattle.std.proofs.Common.{◌≡◌, ◌++◌, ◌∷◌, [], ap, ap₂, ◌∙◌, sym, map, arith}
use Rattle.number_lists.specs.Numbers.{from_to}
use Rattle.plan_core.proofs.Drawing.{row-more}
use Rattle.plan_words.specs.Takes.{takes_of}
use Rattle.plan_words.proofs.takes.takes_of_ranks.Goals as goal

pub loop-r-preserved : goal.loop-r-preserved
loop-r-preserved c =
    c.in_ok-push.ensures.items
    ∙ ap₂ (λ v k. v ++ k ∷ []) c.loop-r.invariant c.in_ok-next.ensures
    ∙ sym (row-more (takes_of c.args.schedule.now.plan) c.loop-r.r)

pub returns : goal.returns
returns c =
    let test = c.loop-r-test.false in
    let end = c.loop-r.auto.r-end in
    let ranks = c.ranks-r-end.ensures.value in
    let all : c.loop-r.r ≡ c.args.schedule.now.plan.ranks = omega (arith, test, end, ranks) in
    c.loop-r.invariant ∙ ap (λ n. map (takes_of c.args.schedule.now.plan) (from_to 0 n)) all

use Rattle.std.proofs.Common.{◌+◌, ◌∙◌, ap, arith, length}
use Rattle.cuts.specs.declared.orders.Verdict.TheVariants.{Fails}
use Rattle.worlds.specs.World.{histories_in}
use Rattle.order_check.proofs.judging.unfinished.Goals as goal

pub next_listed-requires-clause-listed : goal.next_listed-requires-clause-listed
next_listed-requires-clause-listed c =
    c.requires.driven.listed c.loop-r.r (let t = c.loop-r-test.true in let n = c.ranks-r-end.ensures in omega (arith, t, n))

pub returns-in-Some : goal.returns-in-Some
returns-in-Some c = record {
  rank = c.loop-r.r;
  step = c.in-Some.step;
  known = (let t = c.loop-r-test.true in let n = c.ranks-r-end.ensures in omega (arith, t, n));
  stops = record { lower = c.loop-r.invariant; next = c.in-Some.ensures };
  says = c.fails.ensures ∙ ap (λ e. Fails c.loop-r.r (length (histories_in c.args.world.now c.loop-r.r) + 1) e) c.cause.ensures;
}

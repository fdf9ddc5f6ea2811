use Rattle.std.proofs.Common.{ap, ◌∙◌}
use Rattle.turn_table.specs.Views.{busy_at, without_busy}
use Rattle.turn_table.proofs.Steps.{busy_at-after_busy, without_busy-after_busy}
use Rattle.turn_table.proofs.table.Turns.take.Goals as goal

pub loop-preserved : goal.loop-preserved
loop-preserved g c = let old = c.loop.invariant in let e = c.in-None-try_take.ensures.busy in record {
  iterator = (tt, tt);
  hand = (c.try_take.ensures.hand, ap (λ v. v.turn) e ∙ old.hand.1);
  alike = ap (λ v. without_busy v) e ∙ (without_busy-after_busy c.loop.hand.knows c.args.slot ∙ old.alike);
  elsewhere = λ j other. ap (λ v. busy_at v j) e ∙ (busy_at-after_busy c.loop.hand.knows c.args.slot j other ∙ old.elsewhere j other);
}

use Rattle.std.proofs.Common.{◌∷◌, ◌++◌, drop}
use Rattle.std.specs.List.{flat_map}
use Rattle.run_text.specs.Putting.{Takes}
use Rattle.run_text.specs.Orders.{step_word}
use Rattle.run_text.proofs.orders.put_steps.Given as goal

abbrev pub invariant-loop-step : goal.invariant-loop-step
invariant-loop-step g l =
    let bytes = flat_map (λ w. 32 ∷ step_word w) in
    Takes (g.K.Sink.outflow l.fn.sink) (g.K.Sink.outflow l.sink) (l.fn.out ++ bytes l.steps) (l.out ++ bytes (drop l.step-index l.steps))

use Rattle.std.proofs.Common.{◌∷◌, ◌++◌}
use Rattle.std.specs.Prelude.{codes}
use Rattle.std.specs.List.{flat_map}
use Rattle.std.specs.Fmt.{decimal}
use Rattle.ptl_types.specs.declared.steps.LocalStep.{LocalStep}
use Rattle.run_text.specs.Orders.{step_word}
use Rattle.run_text.proofs.Taking.{Puts-exit, Puts-exit-then, Puts-then}
use Rattle.run_text.proofs.Wording.{order_line-puts}
use Rattle.run_text.proofs.orders.order_line.Goals as goal

pub returns-in_err-put_marked : goal.returns-in_err-put_marked
returns-in_err-put_marked g c =
    rw order_line-puts (Puts-exit _ _ _ _ (codes "order " ++ decimal c.args.r) _ _ c.from_residual.ensures.0
    (rw c.from.ensures at c.in_err-put_marked.ensures))

pub returns-in_err-put_steps : goal.returns-in_err-put_steps
returns-in_err-put_steps g c =
    rw order_line-puts (Puts-exit-then _ _ _ _ _ _ (codes "order " ++ decimal c.args.r)
    (flat_map (λ (s : LocalStep). 32 ∷ step_word s) c.args.steps.now) _ _
    c.from_residual-in_err-put_steps.ensures.0 (rw c.from.ensures at c.in_ok-put_marked.ensures) c.in_err-put_steps.ensures)

pub returns : goal.returns
returns g c =
    rw order_line-puts (Puts-then _ _ _ _ _ _ (codes "order " ++ decimal c.args.r) _ _ (rw c.from.ensures at c.in_ok-put_marked.ensures)
    (Puts-then _ _ _ _ _ _ (flat_map (λ (s : LocalStep). 32 ∷ step_word s) c.args.steps.now) _ _ c.in_ok-put_steps.ensures
    c.put.ensures.puts))

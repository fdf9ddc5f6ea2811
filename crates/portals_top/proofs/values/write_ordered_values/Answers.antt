use Rattle.std.proofs.Common.{◌++◌, Some}
use Rattle.run_text.proofs.Taking.{Takes-more, Takes-then, Fails-more, Fails-then, EndsWith-then, EndsWith-stops}
use Rattle.portals_top.specs.Choosing.{choice_orders_of, values_text}
use Rattle.portals_top.proofs.values.write_ordered_values.Goals as goal

pub returns-in_err-put_values : goal.returns-in_err-put_values
returns-in_err-put_values g c =
    let w = c.args.world.now in
    let text = values_text c.args.choices.now w in
    EndsWith-stops _ _ (text ++ choice_orders_of (Some w)) _ c.from_residual.ensures.0
    (Fails-more _ _ text (choice_orders_of (Some w)) (rw c.requires.empty at c.in_err-put_values.ensures))

pub returns-in_err-put_orders : goal.returns-in_err-put_orders
returns-in_err-put_orders g c =
    let w = c.args.world.now in
    let text = values_text c.args.choices.now w in
    EndsWith-stops _ _ (text ++ choice_orders_of (Some w)) _ c.from_residual-in_err-put_orders.ensures.0
    (Fails-then _ _ _ (text ++ choice_orders_of (Some w)) _
    (Takes-more _ _ text _ (choice_orders_of (Some w)) (rw c.requires.empty at c.in_ok-put_values.ensures))
    c.in_err-put_orders.ensures)

pub returns : goal.returns
returns g c =
    let w = c.args.world.now in
    let text = values_text c.args.choices.now w in
    EndsWith-then _ _ _ (text ++ choice_orders_of (Some w)) _ _
    (Takes-then _ _ _ (text ++ choice_orders_of (Some w)) _ _
    (Takes-more _ _ text _ (choice_orders_of (Some w)) (rw c.requires.empty at c.in_ok-put_values.ensures))
    c.in_ok-put_orders.ensures) c.end.ensures.ends

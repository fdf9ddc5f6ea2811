use Rattle.std.proofs.Common.{ℕ, ◌++◌, List}
use Rattle.run_text.specs.Lines.{text_of}
use Rattle.run_text.proofs.Taking.{Takes-more, Takes-then, Fails-more, Fails-then, EndsWith-then, EndsWith-stops}
use Rattle.job_runs.specs.Orders.{orders_in}
use Rattle.job_runs.proofs.writing.write_ordered.Goals as goal

pub returns-in_err-put_result : goal.returns-in_err-put_result
returns-in_err-put_result g c =
    let text : List ℕ = text_of (g.H.ResultLists.outline c.args.held.now) (g.H.ResultLists.lists c.args.held.now) in
    let orders : List ℕ = orders_in c.args.world.now in
    EndsWith-stops _ _ (text ++ orders) _ c.from_residual.ensures.0
    (Fails-more _ _ text orders (rw c.requires.empty at c.in_err-put_result.ensures))

pub returns-in_err-put_orders : goal.returns-in_err-put_orders
returns-in_err-put_orders g c =
    let text : List ℕ = text_of (g.H.ResultLists.outline c.args.held.now) (g.H.ResultLists.lists c.args.held.now) in
    let orders : List ℕ = orders_in c.args.world.now in
    EndsWith-stops _ _ (text ++ orders) _ c.from_residual-in_err-put_orders.ensures.0
    (Fails-then _ _ _ (text ++ orders) _
    (Takes-more _ _ text _ orders (rw c.requires.empty at c.in_ok-put_result.ensures))
    c.in_err-put_orders.ensures)

pub returns : goal.returns
returns g c =
    let text : List ℕ = text_of (g.H.ResultLists.outline c.args.held.now) (g.H.ResultLists.lists c.args.held.now) in
    let orders : List ℕ = orders_in c.args.world.now in
    EndsWith-then _ _ _ (text ++ orders) _ _
    (Takes-then _ _ _ (text ++ orders) _ _
    (Takes-more _ _ text _ orders (rw c.requires.empty at c.in_ok-put_result.ensures))
    c.in_ok-put_orders.ensures) c.end.ensures.ends

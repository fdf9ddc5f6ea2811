use Rattle.run_text.proofs.Taking.{Puts-exit, Puts-exit-then, Puts-then}
use Rattle.std.proofs.Common.{◌++◌}
use Rattle.plan_words.specs.declared.graph.TheConstants.{HEAD, TAIL}
use Rattle.plan_words.specs.Graph.{edges, nodes}
use Rattle.plan_words.proofs.graph.put_graph.Goals as goal

pub returns-in_err-put : goal.returns-in_err-put
returns-in_err-put g c =
    let p = c.args.plan.now in
    Puts-exit _ _ _ _ HEAD.now (nodes p ++ (edges p ++ TAIL.now)) _ c.from_residual.ensures.0 c.in_err-put.ensures.puts

pub returns-in_err-put_nodes : goal.returns-in_err-put_nodes
returns-in_err-put_nodes g c =
    let p = c.args.plan.now in
    Puts-exit-then _ _ _ _ _ _ HEAD.now (nodes p) (edges p ++ TAIL.now) _ c.from_residual-in_err-put_nodes.ensures.0
    c.in_ok-put.ensures.puts c.in_err-put_nodes.ensures

pub returns-in_err-put_edges : goal.returns-in_err-put_edges
returns-in_err-put_edges g c =
    let p = c.args.plan.now in
    Puts-then _ _ _ _ _ _ HEAD.now (nodes p ++ (edges p ++ TAIL.now)) _ c.in_ok-put.ensures.puts
    (Puts-exit-then _ _ _ _ _ _ (nodes p) (edges p) TAIL.now _ c.from_residual-in_err-put_edges.ensures.0
    c.in_ok-put_nodes.ensures c.in_err-put_edges.ensures)

pub returns : goal.returns
returns g c =
    let p = c.args.plan.now in
    Puts-then _ _ _ _ _ _ HEAD.now (nodes p ++ (edges p ++ TAIL.now)) _ c.in_ok-put.ensures.puts
    (Puts-then _ _ _ _ _ _ (nodes p) (edges p ++ TAIL.now) _ c.in_ok-put_nodes.ensures
    (Puts-then _ _ _ _ _ _ (edges p) TAIL.now _ c.in_ok-put_edges.ensures c.put-2.ensures.puts))

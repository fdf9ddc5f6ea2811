use Rattle.plan_top.proofs.Telling.{result_tells}
use Rattle.given_top.proofs.telling.tell.Goals as goal

pub returns-in-Graph : goal.returns-in-Graph
returns-in-Graph g c = record {
  written = rw c.in-Graph.is c.tell_graph.ensures;
  told = result_tells _ _ _ _ _ _ c.tell_graph.ensures;
}

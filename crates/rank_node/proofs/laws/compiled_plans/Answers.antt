use Rattle.rank_node.proofs.Plans.{begin-is, compiled-is, prepared-is}
use Rattle.rank_node.proofs.laws.compiled_plans.Goals as goal

pub returns : goal.returns
returns c = record {
  can = λ plan inputs r task sound at_most fit known for. compiled-is plan inputs sound r task at_most known for;
  prepares = λ plan inputs r task slots for. prepared-is plan inputs r slots task for;
  starts = λ plan inputs r task slots for. begin-is plan inputs r slots task for;
}

-- By `Final`.
use Rattle.schedule_compiler.proofs.shapes.Final.{result-cell}
use Rattle.schedule_compiler.proofs.shapes.laws.result_cells.Goals as goal

pub returns : goal.returns
returns c = λ o a b r d k l z. result-cell o a b r d k l z

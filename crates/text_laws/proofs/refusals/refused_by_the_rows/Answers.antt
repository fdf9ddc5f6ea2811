use Rattle.text_laws.proofs.refusals.Lines.{by_the_rows}
use Rattle.text_laws.proofs.refusals.Counting.{lines_count}
use Rattle.text_laws.proofs.refusals.refused_by_the_rows.Goals as goal

pub returns-clause-rows : goal.returns-clause-rows
returns-clause-rows c = by_the_rows

pub returns-clause-counted : goal.returns-clause-counted
returns-clause-counted c = lines_count

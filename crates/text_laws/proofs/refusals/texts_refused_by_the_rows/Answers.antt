use Rattle.text_laws.proofs.refusals.Texts.{texts_by_the_rows}
use Rattle.text_laws.proofs.refusals.texts_refused_by_the_rows.Goals as goal

pub returns : goal.returns
returns c = record { rows = texts_by_the_rows }

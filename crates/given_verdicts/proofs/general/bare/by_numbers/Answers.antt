-- By each of the four.
use Rattle.plan_agreement.proofs.Lists.{all_units}
use Rattle.given_verdicts.proofs.general.Found.{all_meant}
use Rattle.given_verdicts.proofs.general.bare.by_numbers.Goals as goal

pub wrong_by_numbers-requires-clause-units : goal.wrong_by_numbers-requires-clause-units
wrong_by_numbers-requires-clause-units c = all_units

pub returns-in-None : goal.returns-in-None
returns-in-None c =
    let t = c.args.text.now in
    all_meant t c.requires.flawless c.requires.fits (rw c.shape.ensures.shape at c.recall_form.ensures.shape) c.requires.given
    c.requires.own (rw c.in-None.is at c.in_ok-line.ensures)

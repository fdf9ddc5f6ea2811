-- The inputs that show it.
use Rattle.std.proofs.Common.{sym, ◌∙◌}
use Rattle.given_verdicts.proofs.general.Found.{shown_wrong}
use Rattle.given_verdicts.proofs.general.answering.on_witness.Goals as goal

pub wrong_for-requires-clause-inputs : goal.wrong_for-requires-clause-inputs
wrong_for-requires-clause-inputs c = c.requires.shown.1.taken

pub unreachable-requires : goal.unreachable-requires
unreachable-requires c =
    shown_wrong c.args.text.now c.requires.shown.0 c.args.inputs.now c.requires.flawless c.requires.fits c.requires.shown.1
    (sym c.in_ok-line.ensures ∙ c.in-None.is)

-- The record of what isn't known.
use Rattle.std.proofs.Common.{◌≡◌, ◌/◌, List, ℕ, ap₂, ◌∙◌}
use Rattle.given_lines.specs.declared.given.Mark.{Mark}
use Rattle.mark_judge.specs.declared.flaw.MarkFlaw.TheVariants.{BadResult}
use Rattle.mark_judge.specs.Due.{mark_at}
use Rattle.mark_judge.specs.Words.{line_of}
use Rattle.plan_core.specs.Plan.{Plan}
use Rattle.given_verdicts.specs.declared.answer.GivenCause.TheVariants.{Value}
use Rattle.given_verdicts.specs.Answers.{element_at}
use Rattle.given_verdicts.specs.general.General.{IsListOf}
use Rattle.given_verdicts.proofs.general.Found.{unknown_at}
use Rattle.given_verdicts.proofs.general.unknown.said.Goals as goal

pub returns : goal.returns
returns c =
    let t = c.args.text.now in
    let k = c.args.byte in
    let b = c.list_of-buffer.result.0 in
    let r = c.list_of-buffer.result.1 in
    let of : IsListOf (mark_at t.given.marks c.args.mark) b r = rw c.marks-marks.ensures at c.list_of-buffer.ensures in
    let is : Value c.in_ok-name_of.field-0 r (k / c.element_size.result) ≡ element_at t.description.shape b r k =
    rw c.shape-shape.ensures.shape
    at (ap₂ (λ (name : List ℕ) (size : ℕ). Value name r (k / size)) c.in_ok-name_of.ensures c.element_size.ensures.value) in
    let line : c.line_of.result ≡ line_of t.line t.given.plan t.given.marks (BadResult c.args.mark) =
    c.line_of.ensures
    ∙ ap₂ (λ (p : Plan) (ms : List Mark). line_of t.line p ms (BadResult c.args.mark)) c.plan.ensures c.marks-marks.ensures in
    unknown_at t c.args.mark k b r c.line_of.result _ _ c.requires.flawless c.requires.fits c.requires.unknown c.requires.numbers
    c.requires.own c.requires.combined of line is

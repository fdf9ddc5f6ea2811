use Rattle.std.proofs.Common.{◌≡◌, Some, None, true, false, sym, ◌∙◌}
use Rattle.std.specs.Prelude.{codes}
use Rattle.std.specs.Str.{bytes_eq}
use Rattle.std.proofs.lemmas.Result.{err_from_is_err_and}
use Rattle.coll_text.specs.Text.{words}
use Rattle.given_lines.specs.Words.{mark_of}
use Rattle.given_lines.proofs.MarksRead.{ends, is_bad, no_line, turn}
use Rattle.given_lines.proofs.marks.marks_in.Goals as goal

pub returns-in_err-line : goal.returns-in_err-line
returns-in_err-line c =
    let p = err_from_is_err_and c.from_residual.result c.from_residual.ensures.1 in
    rw (p.1, p.2)
    (no_line c.args.buffers.now c.loop-marks.left.number c.loop-marks.marks.items c.loop-marks.left.rest.now _ c.in_err-line.field-0.0
    c.loop-marks.invariant.read c.in_err-line.ensures.taken)

pub returns-then-is : goal.returns-then-is
returns-then-is c =
    let left = c.take.new.self in
    let last : bytes_eq c.in_ok-line.line.now (codes "end") ≡ true = sym c.is.ensures.value ∙ c.if-is.true in
    let taken = c.in_ok-line.ensures.taken in
    rw (ends c.args.buffers.now c.loop-marks.left.number left.number c.loop-marks.marks.items c.loop-marks.left.rest.now
    c.in_ok-line.line.now left.rest.now _ c.loop-marks.invariant.read taken.0 last taken.1)
    c.ended.ensures

pub returns-in-None : goal.returns-in-None
returns-in-None c =
    let line = c.in_ok-line.line.now in
    let other : bytes_eq line (codes "end") ≡ false = sym c.is.ensures.value ∙ c.if-is.false in
    let none : mark_of c.args.buffers.now (words line) ≡ None = rw c.of.ensures.makes at (sym c.in-None.ensures) in
    rw c.refused-bad.ensures
    (is_bad c.args.buffers.now c.loop-marks.left.number c.loop-marks.marks.items c.loop-marks.left.rest.now line c.take.new.self.rest.now _
    c.loop-marks.invariant.read c.in_ok-line.ensures.taken.0 other none)

pub loop-marks-preserved : goal.loop-marks-preserved
loop-marks-preserved c =
    let line = c.in_ok-line.line.now in
    let left = c.take.new.self in
    let taken = c.in_ok-line.ensures.taken in
    let other : bytes_eq line (codes "end") ≡ false = sym c.is.ensures.value ∙ c.if-is.false in
    let said : mark_of c.args.buffers.now (words line) ≡ Some c.in-Some.mark = rw c.of.ensures.makes at (sym c.in-Some.ensures) in
    record {
      read = turn c.args.buffers.now c.loop-marks.left.number left.number c.loop-marks.marks.items _ c.loop-marks.left.rest.now line
          left.rest.now c.in-Some.mark _ c.loop-marks.invariant.read taken.0 other said taken.1 c.in_ok-push-in-Some.ensures.items;
      at_most = c.take.ensures.at_most;
    }

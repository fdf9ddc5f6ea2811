use Rattle.std.proofs.Common.{ℕ, ◌+◌, subst, sym, ◌∙◌, arith}
use Rattle.triggered_ops.proofs.Passing.{IsPassed, passed-begin, passed-none, passed-some, passed-here}
use Rattle.triggered_ops.proofs.spots.place_at.Goals as goal
use Rattle.triggered_ops.proofs.spots.place_at.Goals.{then-waits+else-left-eq0, else-waits}

pub loop-place-init : goal.loop-place-init
loop-place-init g c = passed-begin c.args.spots.now.spots c.args.i

pub loop-place-preserved : goal.loop-place-preserved
loop-place-preserved g c =
    let ss = c.args.spots.now.spots in
    elim c.if-waits.branch [
      | then-waits+else-left-eq0 w ↦ passed-some ss c.args.i c.loop-place.place c.loop-place.left (c.loop-place.place + 1) c.if-waits.left
          (omega arith) (omega (arith, w.left-is, w.if-left-eq0.false)) c.loop-place.invariant (sym c.waits.ensures ∙ w.if-waits.true)
      | else-waits w ↦ subst (λ (n : ℕ). IsPassed ss c.args.i (c.loop-place.place + 1) n) (sym w.left-is)
          (passed-none ss c.args.i c.loop-place.place c.loop-place.left (c.loop-place.place + 1) (omega arith) c.loop-place.invariant
          (sym c.waits.ensures ∙ w.if-waits.false))
    ]

pub returns-then-left-eq0-clause-some : goal.returns-then-left-eq0-clause-some
returns-then-left-eq0-clause-some g c = passed-here c.args.spots.now.spots c.args.i c.loop-place.place c.loop-place.left
    c.if-left-eq0.true c.loop-place.invariant (sym c.waits.ensures ∙ c.if-waits.true)

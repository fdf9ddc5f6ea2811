use Rattle.std.proofs.Common.{◌≡◌, ℕ, ◌+◌, Bool, true, false, drop, filter, length, if◌then◌else◌, sym, ◌∙◌, add-one, arith}
use Rattle.ni_model.specs.Ready.{is_rank, posted_at, target_of}
use Rattle.triggered_ops.specs.Operations.{due_numbers, posted_all}
use Rattle.portals_ni.specs.Pendings.{action_in}
use Rattle.portals_ni.proofs.Readies.{counted-on}
use Rattle.portals_ni.proofs.fires.count_to.Goals as goal
use Rattle.portals_ni.proofs.fires.count_to.Goals.{then-goes_to, else-goes_to}

pub loop-i-preserved : goal.loop-i-preserved
loop-i-preserved c =
    let f : ℕ → Bool = λ t. is_rank c.args.target (target_of (posted_at t (posted_all action_in c.args.pending.now))) in
    let on : length (filter f (drop c.loop-i.i (due_numbers c.args.pending.now))) ≡ (if f c.ready_at.result then 1 else 0) + length
    (filter f (drop (c.loop-i.i + 1) (due_numbers c.args.pending.now))) =
    rw (add-one c.loop-i.i) (counted-on f (due_numbers c.args.pending.now) c.loop-i.i c.ready_at.result c.ready_at.ensures.value) in
    let old = c.loop-i.invariant in
    elim c.if-goes_to.branch [
      | then-goes_to w ↦
          let is : f c.ready_at.result ≡ true = sym c.goes_to.ensures ∙ w.if-goes_to.true in
          record { at_most = omega (arith, old.at_most, w.count-is); same = omega (arith, old.same, w.count-is, rw is at on) }
      | else-goes_to w ↦
          let is : f c.ready_at.result ≡ false = sym c.goes_to.ensures ∙ w.if-goes_to.false in
          record { at_most = omega (arith, old.at_most, w.count-is); same = omega (arith, old.same, w.count-is, rw is at on) }
    ]

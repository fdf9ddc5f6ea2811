-- One member more in each turn.
use Rattle.std.proofs.Common.{ℕ, ◌+◌, ◌*◌, length, refl, ap}
use Rattle.marked_plans.proofs.Rows.{member_more}
use Rattle.marked_plans.proofs.barriers.mark_members.Goals as goal

pub loop-place-preserved : goal.loop-place-preserved
loop-place-preserved c =
    let g = c.args.members.now in
    let i = c.loop-place.place in
    member_more c.args.step c.args.first g c.args.marks.now.items c.loop-place.marks.items _ i _ _ _ c.loop-place.invariant
    c.in_ok-mark_member.ensures refl refl (ap (λ (k : ℕ). c.args.first + (k * length g + i)) c.rounds.ensures.value)

use Rattle.std.proofs.Common.{◌≡◌, [], take}
use Rattle.std.specs.List.{fold}
use Rattle.plan_top.specs.notes.Parts.{filled_by}
use Rattle.plan_top.proofs.notes.parts.shown.Given as goal

abbrev pub invariant-loop-b : goal.invariant-loop-b
invariant-loop-b l =
    l.filling ≡ fold (filled_by l.plan l.shape l.subject l.message.parts.now) (record { text = []; parts = 0 })
    (take l.b-index l.message.words.now)

use Rattle.std.proofs.Common.{◌≡◌, take}
use Rattle.text_notes.specs.notes.Notes.{then_steps}
use Rattle.text_notes.proofs.notes.detail.show_steps.Given as goal

abbrev pub invariant-loop-kind : goal.invariant-loop-kind
invariant-loop-kind l = l.text ≡ then_steps l.fn.text (take l.kind-index l.kinds)

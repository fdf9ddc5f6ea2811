use Rattle.std.proofs.Common.{◌≡◌, take}
use Rattle.text_notes.specs.notes.Notes.{then_operations}
use Rattle.text_notes.proofs.notes.detail.show_operations.Given as goal

abbrev pub invariant-loop-op : goal.invariant-loop-op
invariant-loop-op l = l.text ≡ then_operations l.fn.text (take l.op-index l.ops)

use Rattle.std.proofs.Common.{◌≡◌, take}
use Rattle.text_notes.specs.notes.Notes.{then_types}
use Rattle.text_notes.proofs.notes.detail.show_types.Given as goal

abbrev pub invariant-loop-ty : goal.invariant-loop-ty
invariant-loop-ty l = l.text ≡ then_types l.fn.text (take l.ty-index l.types)

use Rattle.std.proofs.Common.{◌≡◌, take}
use Rattle.std.specs.List.{fold}
use Rattle.text_notes.specs.notes.Shown.{with_shown}
use Rattle.text_notes.proofs.notes.printable.Printable.show.Given as goal

abbrev pub invariant-loop-b : goal.invariant-loop-b
invariant-loop-b l = l.self ≡ fold with_shown l.fn.self (take l.b-index l.bytes)

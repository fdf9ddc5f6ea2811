use Rattle.std.proofs.Common.{ap, length, refl, arith}
use Rattle.std.proofs.lemmas.Bool.Decides.{nat_tests}
use Rattle.triggered_ops.specs.Layout.{numbers_of}
use Rattle.triggered_ops.proofs.Packing.{thin-same}
use Rattle.triggered_ops.proofs.parts.make_room.Goals as goal

pub returns-then-is_full-clause-room : goal.returns-then-is_full-clause-room
returns-then-is_full-clause-room g c =
    let e = c.lay_anew.ensures in
    let n = ap length e.value in
    omega (arith, e.full, n, e.room, c.requires.room)

pub returns-else-is_full-clause-room : goal.returns-else-is_full-clause-room
returns-else-is_full-clause-room g c = grind (arith, nat_tests, c.is_full.ensures, c.if-is_full.false)

pub returns-else-is_full-clause-numbers : goal.returns-else-is_full-clause-numbers
returns-else-is_full-clause-numbers g c = thin-same (numbers_of c.args.spots.now.spots) (numbers_of c.args.spots.now.spots) refl

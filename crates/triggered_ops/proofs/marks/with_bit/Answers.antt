use Rattle.std.proofs.Common.{◌≡◌, ◌^◌, ◌/◌, ◌%◌, arith}
use Rattle.triggered_ops.proofs.marks.Words.{bits-set, bits-same, set-fits}
use Rattle.triggered_ops.proofs.marks.with_bit.Goals as goal

pub overflow_add-result : goal.overflow_add-result
overflow_add-result c =
    let none : c.args.word / 2 ^ c.args.bit % 2 ≡ 0 = grind arith in
    let fits = set-fits 64 c.args.word c.args.bit c.requires (omega arith) none in
    omega (arith, fits, c.power.ensures)

pub returns-then-is_set : goal.returns-then-is_set
returns-then-is_set c = bits-same 64 c.args.word c.args.bit 1 c.requires (grind arith)

pub returns-else-is_set : goal.returns-else-is_set
returns-else-is_set c =
    let none : c.args.word / 2 ^ c.args.bit % 2 ≡ 0 = grind arith in
    rw c.power.ensures (bits-set 64 c.args.word c.args.bit c.requires none)

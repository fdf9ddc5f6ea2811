use Rattle.std.proofs.Common.{◌≡◌, ◌^◌, ◌/◌, ◌%◌, arith}
use Rattle.triggered_ops.proofs.marks.Words.{bits-unset, bits-same}
use Rattle.triggered_ops.proofs.marks.without_bit.Goals as goal

pub returns-then-is_set : goal.returns-then-is_set
returns-then-is_set c =
    let one : c.args.word / 2 ^ c.args.bit % 2 ≡ 1 = grind arith in
    rw c.power.ensures (bits-unset 64 c.args.word c.args.bit c.requires one).1

pub returns-else-is_set : goal.returns-else-is_set
returns-else-is_set c = bits-same 64 c.args.word c.args.bit 0 c.requires (grind arith)

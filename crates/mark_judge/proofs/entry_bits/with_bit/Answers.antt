-- By `Bits`.
use Rattle.std.proofs.Common.{◌*◌, ◌%◌, ◌^◌, ◌-◌, refl}
use Rattle.std.specs.Int.RustNames.{bit_or}
use Rattle.mark_judge.proofs.Bits.{bits_with_high, bits_with_low}
use Rattle.mark_judge.proofs.entry_bits.with_bit.Goals as goal

pub returns-then-k-lt128 : goal.returns-then-k-lt128
returns-then-k-lt128 c = λ j.
    let a = c.args.bits in
    bits_with_low a (bit_or a.low (1 * 2 ^ c.args.k % 2 ^ 128)) c.args.k j c.if-k-lt128.true refl

pub returns-else-k-lt128 : goal.returns-else-k-lt128
returns-else-k-lt128 c = λ j.
    let a = c.args.bits in
    bits_with_high a (bit_or a.high (1 * 2 ^ (c.args.k - 128) % 2 ^ 128)) c.args.k j c.if-k-lt128.false c.requires refl

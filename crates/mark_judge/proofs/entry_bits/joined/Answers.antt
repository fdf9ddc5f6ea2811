-- By `Bits`.
use Rattle.std.proofs.Common.{refl}
use Rattle.std.specs.Int.RustNames.{bit_or}
use Rattle.mark_judge.proofs.Bits.{bits_joined}
use Rattle.mark_judge.proofs.entry_bits.joined.Goals as goal

pub returns : goal.returns
returns c = λ j.
    let a = c.args.a in
    let b = c.args.b in
    bits_joined a b (bit_or a.low b.low) (bit_or a.high b.high) j refl refl

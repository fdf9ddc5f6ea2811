-- A number below 2^64 has at most twenty digits.
use Rattle.std.proofs.Common.{arith}
use Rattle.run_text.proofs.Digits.{at_most-digits}
use Rattle.run_text.proofs.values.write_number.Goals as goal

pub write_digits-requires : goal.write_digits-requires
write_digits-requires c =
    let f = at_most-digits c.args.number c.ranges.number.fits in
    let r = c.requires.room in let i = c.requires.inside in
    (omega (arith, f, r), i)

pub returns-clause-near : goal.returns-clause-near
returns-clause-near c =
    let f = at_most-digits c.args.number c.ranges.number.fits in
    let s = c.write_digits.ensures.start in
    omega (arith, f, s)

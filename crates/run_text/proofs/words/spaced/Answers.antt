-- A number below 2^64 has at most twenty digits.
use Rattle.std.proofs.Common.{◌-◌, arith}
use Rattle.std.proofs.Math.ListN.{drop_of_length-le}
use Rattle.run_text.proofs.Digits.{at_most-digits, spaced-digits}
use Rattle.run_text.proofs.words.spaced.Goals as goal

pub write_digits-start-requires : goal.write_digits-start-requires
write_digits-start-requires c =
    let f = at_most-digits c.args.number c.ranges.number.fits in
    let e = c.requires in
    (omega (arith, f), omega (arith, e))

pub overflow_sub-buffer : goal.overflow_sub-buffer
overflow_sub-buffer c =
    let f = at_most-digits c.args.number c.ranges.number.fits in
    let s = c.write_digits-start.ensures.start in
    omega (arith, f, s)

pub overflow_sub-result : goal.overflow_sub-result
overflow_sub-result c =
    let f = at_most-digits c.args.number c.ranges.number.fits in
    let s = c.write_digits-start.ensures.start in
    omega (arith, f, s)

pub returns-clause-written : goal.returns-clause-written
returns-clause-written c =
    let e = c.requires in
    let a = c.write_digits-start.auto.buf in
    spaced-digits c.args.number c.write_digits-start.result c.args.buffer.now c.write_digits-start.new.buf c.ranges.number.fits
    c.write_digits-start.ensures.start
    e (omega (arith, a, e)) c.write_digits-start.ensures.written (drop_of_length-le c.args.buffer.now {i = 21} (omega (arith, e)))

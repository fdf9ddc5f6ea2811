-- The number tells the input and the rank.
use Rattle.std.proofs.Common.{◌<◌, ◌/◌, ◌%◌, length, arith, mod-lt}
use Rattle.schedule_compiler.proofs.Memory.{input-in}
use Rattle.schedule_compiler.proofs.loading.add_input.Goals as goal

pub list-requires-clause-input : goal.list-requires-clause-input
list-requires-clause-input c = input-in c.args.i c.args.ranks (length c.args.inputs.now) c.requires.nonempty c.requires.input

pub list-requires-clause-rank : goal.list-requires-clause-rank
list-requires-clause-rank c =
    let e = c.requires.lists (c.args.i / c.args.ranks) (input-in c.args.i c.args.ranks (length c.args.inputs.now) c.requires.nonempty
    c.requires.input) in
    let s = c.requires.nonempty in
    let m : c.args.i % c.args.ranks < c.args.ranks = mod-lt c.args.i (let z : 0 < c.args.ranks = omega (arith, s) in z) in
    omega (arith, e, m)

-- The number tells the input and the rank.
use Rattle.std.proofs.Common.{◌≡◌, ◌<◌, ◌/◌, ◌%◌, [], length, get_or, arith, mod-lt}
use Rattle.plan_judge.proofs.values.Judged.{input_in}
use Rattle.plan_judge.proofs.values.initial.input_bytes.Goals as goal

pub list-requires-clause-input : goal.list-requires-clause-input
list-requires-clause-input c =
    rw c.ranks-ranks.ensures (input_in c.args.i c.args.plan.now.ranks (length c.args.inputs.now) c.requires.input)

pub list-requires-clause-rank : goal.list-requires-clause-rank
list-requires-clause-rank c =
    let n = c.args.plan.now.ranks in
    let some = c.requires.given.sound.some_rank in
    let e : length (get_or c.args.inputs.now (c.args.i / n) []) ≡ n =
    c.requires.given.rows (c.args.i / n) (input_in c.args.i n (length c.args.inputs.now) c.requires.input) in
    let m : c.args.i % n < n = mod-lt c.args.i (let z : 0 < n = omega (arith, some) in z) in
    rw (c.ranks-ranks.ensures, e) m

pub returns : goal.returns
returns c = rw c.ranks-ranks.ensures at c.list.ensures.value

-- Each link that comes to a cell is one of the plan.
use Rattle.std.proofs.Common.{length, ap, arith}
use Rattle.plan_judge.proofs.KnownLinks.{all_known, few_in}
use Rattle.plan_judge.proofs.cells.other_cause.Goals as goal

pub bytes_put-requires-clause-known : goal.bytes_put-requires-clause-known
bytes_put-requires-clause-known c = all_known c.args.plan.now c.args.c c.args.links.now c.requires.links

pub bytes_put-requires-clause-at_most : goal.bytes_put-requires-clause-at_most
bytes_put-requires-clause-at_most c =
    let m = few_in c.args.plan.now c.args.c in
    let e = ap length c.requires.links in
    let f = c.requires.at_most in
    omega (arith, m, e, f)

pub puts_overlap-requires : goal.puts_overlap-requires
puts_overlap-requires c = all_known c.args.plan.now c.args.c c.args.links.now c.requires.links

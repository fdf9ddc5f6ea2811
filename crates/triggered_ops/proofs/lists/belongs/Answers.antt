use Rattle.std.proofs.Common.{◌≤◌, length, sym, arith}
use Rattle.std.proofs.lemmas.Bool.Decides.{nat_tests}
use Rattle.triggered_ops.proofs.Hanging.{belongs-past}
use Rattle.triggered_ops.proofs.lists.belongs.Goals as goal

pub returns-in-None : goal.returns-in-None
returns-in-None c =
    let out = c.in-None.ensures.lookup in
    let le : length c.args.stamps.now ≤ c.args.ct.slot = grind (arith, nat_tests) in
    sym (belongs-past c.args.stamps.now c.args.ct le)

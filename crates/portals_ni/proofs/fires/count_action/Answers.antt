use Rattle.std.proofs.Common.{◌≡◌, false}
use Rattle.ni_model.specs.Counts.{passes_end}
use Rattle.portals_ni.proofs.Counts.{set-whole}
use Rattle.portals_ni.proofs.fires.count_action.Goals as goal

pub returns-in-Set-clause-counts : goal.returns-in-Set-clause-counts
returns-in-Set-clause-counts c =
    let fits : passes_end c.in-Set.to ≡ false = rw c.in-Set.is at c.requires in
    rw c.in-Set.is (set-whole c.set_counter.result c.in-Set.ct c.in-Set.to c.args.cts.now c.set_counter.new.cts
    c.set_counter.ensures.answer fits c.set_counter.ensures.ok c.set_counter.ensures.err)

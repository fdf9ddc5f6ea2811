use Rattle.std.proofs.Common.{sym, ◌∙◌}
use Rattle.portals_ni.proofs.Uses.{used-ct}
use Rattle.portals_ni.proofs.triggers.Triggers.names_ct.Goals as goal

pub returns-in-Some : goal.returns-in-Some
returns-in-Some c =
    let t = c.self.inside in
    let alone = rw (← c.self.view_is) at c.requires.alone in
    record {
      value = rw (← c.self.view_is) (used-ct c.args.ct c.in-Some.uses t.pending t.cts t.mds c.self.invariant
          (sym c.at.ensures.value ∙ c.in-Some.is) alone);
    }

use Rattle.std.proofs.Common.{sym, ◌∙◌}
use Rattle.portals_ni.proofs.Uses.{used-md}
use Rattle.portals_ni.proofs.triggers.Triggers.names_md.Goals as goal

pub returns-in-Some : goal.returns-in-Some
returns-in-Some c =
    let t = c.self.inside in
    let alone = rw (← c.self.view_is) at c.requires.alone in
    record {
      value = rw (← c.self.view_is) (used-md c.args.md c.in-Some.uses t.pending t.cts t.mds c.self.invariant
          (sym c.at.ensures.value ∙ c.in-Some.is) alone);
    }

use Rattle.std.proofs.Common.{sym, ◌∙◌}
use Rattle.target_engine.specs.PortalTable.{seen_in}
use Rattle.target_engine.proofs.Counted.{names-ct}
use Rattle.target_engine.proofs.target.Target.names_ct.Goals as goal

pub returns-in-Some : goal.returns-in-Some
returns-in-Some c =
    let i = c.self.inside in
    let alone = rw (← c.self.view_is) at c.requires.alone in
    record {
      value = rw (← c.self.view_is) (names-ct c.args.ct c.in-Some.users (seen_in i.indices.items) i.headers.unexpected i.records
          c.self.invariant.kept.recorded c.self.invariant.counted (sym c.at.ensures.value ∙ c.in-Some.is) alone);
    }

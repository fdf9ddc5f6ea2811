use Rattle.std.proofs.Common.{sym, ◌∙◌}
use Rattle.target_engine.specs.PortalTable.{seen_in}
use Rattle.target_engine.proofs.Counted.{names-eq}
use Rattle.target_engine.proofs.target.Target.names_eq.Goals as goal

pub returns-in-Some : goal.returns-in-Some
returns-in-Some c =
    let i = c.self.inside in
    let alone = rw (← c.self.view_is) at c.requires.alone in
    record {
      value = rw (← c.self.view_is) (names-eq c.args.eq c.in-Some.users (seen_in i.indices.items) i.eqs c.self.invariant.queues
          (sym c.at.ensures.value ∙ c.in-Some.is) alone);
    }

use Rattle.std.proofs.Common.{sym, ◌∙◌}
use Rattle.ni_objects.proofs.users.SlotLemmas.{own-slot}
use Rattle.initiator_engine.proofs.initiator.Initiator.is_bound.Goals as goal

pub returns-clause-alone : goal.returns-clause-alone
returns-clause-alone c =
    let at = c.at-found.ensures in
    λ bound. rw (← c.self.view_is) (own-slot c.at-found.result (λ p. p.0) c.args.md c.self.inside.mds (sym c.is_live.ensures ∙ bound)
    at.none at.alone)

use Rattle.std.proofs.Common.{◌∙◌}
use Rattle.target_engine.proofs.Kept.{full-where}
use Rattle.target_engine.proofs.target.Target.is_full.Goals as goal

pub returns-else-self : goal.returns-else-self
returns-else-self c = rw (← c.self.view_is) (c.is_full.ensures ∙ full-where c.self.inside.limit c.self.inside.linked
    c.self.inside.indices.items c.self.inside.records.by_entry c.self.inside.headers c.self.invariant.kept c.if-self.false)

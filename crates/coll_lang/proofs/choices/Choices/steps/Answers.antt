use Rattle.std.proofs.Common.{subst}
use Rattle.coll_lang.specs.Readable.{AreChoices}
use Rattle.coll_lang.proofs.Kept.{choices_kept}
use Rattle.coll_lang.proofs.choices.Choices.steps.Goals as goal

pub returns-clause-are : goal.returns-clause-are
returns-clause-are c = subst AreChoices c.self.view_is (choices_kept _ c.self.invariant)

-- The term whose first place it is.
use Rattle.std.proofs.Common.{get_or}
use Rattle.plan_terms.specs.declared.terms.term.Making.TheVariants.{Fold}
use Rattle.plan_terms.specs.terms.Terms.{no_term}
use Rattle.plan_terms.proofs.terms.Elements.{fold_word}
use Rattle.plan_terms.proofs.terms.Tables.{its_fold}
use Rattle.plan_terms.proofs.terms.table.Terms.fold_at.Goals as goal

pub returns-then-is_fold-clause-is : goal.returns-then-is_fold-clause-is
returns-then-is_fold-clause-is c =
    let t = c.args.self.now in
    fold_word t c.args.op c.args.ty c.args.word (get_or t.terms c.in-Some.r no_term).members
    (its_fold t c.in-Some.r c.args.word (Fold c.args.op c.args.ty) (c.is_fold.ensures.known c.if-is_fold.true) c.in-Some.ensures
    (c.is_fold.ensures.is c.if-is_fold.true))

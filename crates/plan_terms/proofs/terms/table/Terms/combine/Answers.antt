-- A fold's members, or a word.
use Rattle.std.proofs.Common.{get_or, subst}
use Rattle.std.proofs.lemmas.Result.{on_ok_weaker}
use Rattle.plan_terms.specs.terms.Folds.{AreMore}
use Rattle.plan_terms.specs.terms.Terms.{no_term}
use Rattle.plan_terms.proofs.terms.Folds.{combined_fold, combined_word}
use Rattle.plan_terms.proofs.terms.table.Terms.combine.Goals as goal

pub returns-in-Some : goal.returns-in-Some
returns-in-Some c =
    let t = c.args.self.now in
    let ms = (get_or t.terms c.in-Some.r no_term).members in
    let old = c.args.members.now in
    let new = c.add_all.new.self in
    on_ok_weaker c.add_all.result
    (λ more. combined_fold t c.args.op c.args.ty old new ms c.args.word (subst (AreMore c.args.op c.args.ty old new) c.members.ensures more)
    c.in-Some.ensures.is)
    c.add_all.ensures

pub returns-in-None : goal.returns-in-None
returns-in-None c =
    on_ok_weaker c.add.result
    (λ more. combined_word c.args.self.now c.args.op c.args.ty c.args.members.now c.add.new.self c.args.word more) c.add.ensures

-- As many times as are kept, or none.
use Rattle.std.proofs.Common.{◌<◌, ◌+◌, List, length, ap, ◌∙◌, refl, subst, sym, arith}
use Rattle.plan_terms.specs.declared.terms.term.Member.{Member}
use Rattle.plan_terms.specs.terms.Terms.{fold_of}
use Rattle.plan_terms.specs.terms.Folds.{AreRising, AreTimes, AreUpTo}
use Rattle.plan_terms.proofs.terms.Folds.{remove-more, set-more}
use Rattle.plan_terms.proofs.terms.Rising.{remove_rising, remove_up_to, set_rising, set_up_to}
use Rattle.plan_terms.proofs.terms.members.Members.count_up.Goals as goal

pub returns-then-kept-eq0 : goal.returns-then-kept-eq0
returns-then-kept-eq0 c =
    let ms = c.args.self.now in
    let at = c.args.at in
    let last = c.requires in
    let within : at < length ms = omega (arith, last) in
    let good = subst (λ k. AreTimes c.args.op (k + c.args.times) c.in-Some.kept) c.times_at.ensures c.in-Some.ensures in
    let new = sym c.take_out.ensures in
    record {
      more = λ V. ap (fold_of V c.args.op c.args.ty) c.take_out.ensures
          ∙ remove-more c.args.op c.args.ty ms at c.args.times c.in-Some.kept within good c.if-kept-eq0.true V;
      rising = λ r. subst (λ (ns : List Member). AreRising ns) new (remove_rising ms at last r);
      up_to = λ word r. subst (λ (ns : List Member). AreUpTo word ns) new (remove_up_to ms at last word r);
    }

pub returns-else-kept-eq0 : goal.returns-else-kept-eq0
returns-else-kept-eq0 c =
    let ms = c.args.self.now in
    let at = c.args.at in
    let last = c.requires in
    let within : at < length ms = omega (arith, last) in
    let good = subst (λ k. AreTimes c.args.op (k + c.args.times) c.in-Some.kept) c.times_at.ensures c.in-Some.ensures in
    let new = sym c.set_times.ensures in
    record {
      more = λ V. ap (fold_of V c.args.op c.args.ty) c.set_times.ensures
          ∙ set-more c.args.op c.args.ty ms at c.args.times c.in-Some.kept _ within good refl refl V;
      rising = λ r. subst (λ (ns : List Member). AreRising ns) new (set_rising ms at _ within refl r);
      up_to = λ word r. subst (λ (ns : List Member). AreUpTo word ns) new (set_up_to ms at _ within refl word r);
    }

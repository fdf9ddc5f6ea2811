-- Two types of one size and sign are one.
use Rattle.std.proofs.Common.{Bool, true, false, rules, ◌≡◌, ap, ◌∙◌, sym}
use Rattle.std.proofs.lemmas.Bool.{false_from_ne_true}
use denote.Enum.Bare.{same_false, same_true, sameb}
use Rattle.ptl_types.specs.declared.elements.ElemType.{ElemType}
use Rattle.ptl_types.specs.contracts.elements.ElemType.{the_type}
use Rattle.plan_judge.specs.Causes.{same_type}
use Rattle.plan_judge.proofs.LinkRows.{itself, one_type}
use Rattle.plan_judge.proofs.links.same_type.Goals as goal

told : (a b : ElemType) (r : Bool) → sameb the_type a b ≡ r → r ≡ same_type a b
told a b true e = sym (ap (same_type a) (sym (same_true the_type (search rules) a b e)) ∙ itself a)
told a b false e = sym (false_from_ne_true (same_type a b) (λ t. same_false the_type a b e (one_type a b t)))

pub returns : goal.returns
returns c = told c.args.a c.args.b c.eq.result (sym c.eq.ensures)

-- The first that isn't in the table.
use Rattle.std.proofs.Common.{ℕ, Bool, true, cond, Option, Some, None, length, ◌≡◌, ap, sym, ◌∙◌, arith, refl}
use Rattle.mark_judge.specs.declared.flaw.MarkFlaw.{MarkFlaw}
use Rattle.mark_judge.specs.declared.flaw.MarkFlaw.TheVariants.{EarlyEntry}
use Rattle.mark_judge.specs.Due.{mark_at}
use Rattle.mark_judge.specs.Tables.{is_unbound}
use Rattle.plan_judge.proofs.Rows.{found_at, none_at_all}
use Rattle.mark_judge.proofs.bound.first_unbound.Goals as goal

abbrev if_so : ℕ → Bool → Option MarkFlaw
if_so i b = cond b (Some (EarlyEntry i)) None

pub returns-then-is_unbound : goal.returns-then-is_unbound
returns-then-is_unbound c =
    let bound = c.args.bound.now in
    let ms = c.args.marks.now in
    let i = c.loop-i.i in
    let t = c.loop-i-test.true in
    let so : is_unbound bound (mark_at ms i) ≡ true =
    ap (is_unbound bound) (sym c.mark_at.ensures) ∙ sym c.is_unbound.ensures ∙ c.if-is_unbound.true in
    found_at (λ j. if_so j (is_unbound bound (mark_at ms j))) (length ms) i (Some (EarlyEntry i))
    (sym (ap (if_so i) so)) refl (omega (arith, t)) (λ j h. ap (if_so j) (c.loop-i.invariant j h))

pub returns : goal.returns
returns c =
    let bound = c.args.bound.now in
    let ms = c.args.marks.now in
    let t = c.loop-i-test.false in
    sym (none_at_all (λ j. if_so j (is_unbound bound (mark_at ms j))) (length ms) c.loop-i.i (omega (arith, t))
    (λ j h. ap (if_so j) (c.loop-i.invariant j h)))

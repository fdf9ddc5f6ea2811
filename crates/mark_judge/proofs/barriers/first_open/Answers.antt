-- The first that is noted.
use Rattle.std.proofs.Common.{ℕ, Bool, false, cond, Option, Some, None, length, get_or, refl, ap, sym, arith}
use Rattle.mark_judge.specs.declared.flaw.MarkFlaw.{MarkFlaw}
use Rattle.mark_judge.specs.declared.flaw.MarkFlaw.TheVariants.{BarrierOpen}
use Rattle.plan_judge.proofs.Rows.{found_at, none_at_all}
use Rattle.mark_judge.proofs.barriers.first_open.Goals as goal

pub returns-then-unmet-i : goal.returns-then-unmet-i
returns-then-unmet-i c =
    let unmet = c.args.unmet.now in
    let t = c.loop-i-test.true in
    found_at (λ (i : ℕ). cond (get_or unmet i false) (Some (BarrierOpen i)) None) (length unmet) c.loop-i.i (Some (BarrierOpen c.loop-i.i))
    (sym (ap (λ (b : Bool). cond {A = Option MarkFlaw} b (Some (BarrierOpen c.loop-i.i)) None) c.if-unmet-i.true)) refl (omega (arith, t))
    (λ j h. ap (λ (b : Bool). cond {A = Option MarkFlaw} b (Some (BarrierOpen j)) None) (c.loop-i.invariant j h))

pub returns : goal.returns
returns c =
    let unmet = c.args.unmet.now in
    let t = c.loop-i-test.false in
    sym (none_at_all (λ (i : ℕ). cond {A = Option MarkFlaw} (get_or unmet i false) (Some (BarrierOpen i)) None) (length unmet) c.loop-i.i
    (omega (arith, t))
    (λ j h. ap (λ (b : Bool). cond {A = Option MarkFlaw} b (Some (BarrierOpen j)) None) (c.loop-i.invariant j h)))

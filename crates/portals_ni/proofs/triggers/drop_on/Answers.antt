use Rattle.std.proofs.Common.{refl, sym, ◌∙◌}
use Rattle.portals_ni.proofs.Uses.{fewer-wait, still-cancelled, still-rising, none-cancelled}
use Rattle.portals_ni.proofs.triggers.drop_on.Goals as goal

pub loop-number-init : goal.loop-number-init
loop-number-init c = record { used = c.requires; rising = c.len-many.ensures.kept.rising; rest = refl }

pub loop-number-preserved-in-Some : goal.loop-number-preserved-in-Some
loop-number-preserved-in-Some c =
    let ops = c.loop-number.pending in
    let h = c.loop-number.invariant in
    record {
      used = c.take_out.ensures.used;
      rising = rw c.take_out.ensures.rest (still-rising c.in-Some.number ops h.rising);
      rest = rw c.take_out.ensures.rest (still-cancelled c.args.ct c.in-Some.number ops h.rising c.in-Some.ensures.found ∙ h.rest);
    }

pub loop-number-smaller-in-Some : goal.loop-number-smaller-in-Some
loop-number-smaller-in-Some c = rw c.take_out.ensures.rest (fewer-wait c.args.ct c.in-Some.number c.loop-number.pending
    c.in-Some.ensures.found)

pub returns-clause-rest : goal.returns-clause-rest
returns-clause-rest c = sym (none-cancelled c.args.ct c.loop-number.pending c.in_default.ensures.none) ∙ c.loop-number.invariant.rest

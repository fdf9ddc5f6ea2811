use Rattle.std.proofs.Common.{◌≡◌, ◌<◌, true, false, sym, ◌∙◌, arith}
use Rattle.std.specs.Prelude.{All}
use Rattle.std.proofs.lemmas.Bool.Decides.{nat_tests}
use Rattle.ni_model.specs.declared.Bound.{Bound}
use Rattle.ni_model.specs.Tables.{Live}
use Rattle.initiator_engine.proofs.SlotWalks.{awaits_one, awaited-some, slots-found, slots-empty, slots-other, slots-end}
use Rattle.initiator_engine.proofs.named.some_awaits.Goals as goal
use Rattle.initiator_engine.proofs.named.some_awaits.Goals.{in-Some+else-bound-gt0, in_default}

pub returns-then-bound-gt0 : goal.returns-then-bound-gt0
returns-then-bound-gt0 c =
    let awaits : awaits_one c.in-Some.bound.now ≡ true = grind (arith, nat_tests) in
    sym (awaited-some c.args.mds.now.live ∙ slots-found awaits_one c.in-Some.field-0-0 c.in-Some.bound.now c.args.mds.now.live
    c.in-Some.ensures.found.1 awaits)

pub loop-slot-preserved : goal.loop-slot-preserved
loop-slot-preserved c =
    elim c.match-at.branch [
      | in-Some+else-bound-gt0 w ↦
          let none : awaits_one w.in-Some.bound.now ≡ false = grind (arith, nat_tests) in
          slots-other awaits_one c.loop-slot.slot w.in-Some.bound.now c.args.mds.now.live c.loop-slot.invariant w.in-Some.ensures.only none
      | in_default w ↦ slots-empty awaits_one c.loop-slot.slot c.args.mds.now.live c.loop-slot.invariant w.in_default.ensures.none
    ]

pub returns : goal.returns
returns c =
    let below : All (λ (x : Live Bound). x.handle.slot < c.loop-slot.slot) c.args.mds.now.live = λ i d lt. let all =
    c.slots-slot-end.ensures.below i d lt in omega arith in
    sym (awaited-some c.args.mds.now.live ∙ slots-end awaits_one c.loop-slot.slot c.args.mds.now.live c.loop-slot.invariant below)

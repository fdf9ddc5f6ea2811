-- What the done counter of a rank of a world tells.
use Rattle.std.proofs.Common.{ℕ, true, ◌≡◌, ◌<◌, ◌∙◌, Some, [], ap, ap₂, subst, sym}
use Rattle.op_laws.proofs.Starts.{combined-starts}
use Rattle.schedule_compiler.specs.Schedules.{ScheduleOf}
use Rattle.ni_model.specs.State.{State}
use Rattle.ni_model.specs.Tables.{lookup}
use Rattle.plan_core.specs.calls.RankOps.{done_threshold}
use Rattle.cuts.specs.histories.Cut.{IsCut}
use Rattle.cuts.specs.histories.Plans.{system_of}
use Rattle.cuts.specs.histories.System.{state_at}
use Rattle.cuts.specs.view.Slots.{Slots, done_ct}
use Rattle.ptl_types.specs.declared.handles.Count.{Count}
use Rattle.cuts.proofs.done.Later.{left_alone, stays_done}
use Rattle.cuts.proofs.done.Left.{none_pending}
use Rattle.cuts.specs.done.Done.{GoesOn, HasCounted, IsDone}
use Rattle.cuts.proofs.cells.Cells.{done_values}
use Rattle.cuts.specs.cells.Cells.{AreValuesAt}
use Rattle.worlds.specs.Done.{StaysAlone, KeepsValues}
use Rattle.worlds.specs.Later.{IsLater}
use Rattle.worlds.specs.Standing.{IsStanding}
use Rattle.worlds.specs.World.{AreSlots, WorldState, histories_in, memory_in, nic_in, ranks_in}
use Rattle.worlds.proofs.Ends.{cut_in, given_slots, slots_given}

module _ (w : WorldState) (is : IsStanding w) (r : ℕ) (h : r < w.schedule.plan.ranks) (count : Count)
    (told : (slots : ℕ → Slots) → AreSlots w slots → lookup (done_ct (slots r)) (nic_in w r).cts.live ≡ Some count)
    (enough : HasCounted count (done_threshold w.schedule.plan r)) where
  is_done : (slots : ℕ → Slots) → AreSlots w slots → IsDone w.schedule.plan w.inputs slots (histories_in w) r
  is_done slots agree = record {
    count = count;
    counter = ap (λ (s : State). lookup (done_ct (slots r)) s.cts.live) (sym (is.nic slots agree r h)) ∙ told slots agree;
    enough = enough;
  }

  pub values_at : AreValuesAt w.schedule.plan w.inputs r (memory_in w r)
  values_at =
      let slots = given_slots w in
      let agree = slots_given w is in
      subst (λ (s : State). AreValuesAt w.schedule.plan w.inputs r s.memory) (sym (is.nic slots agree r h))
      (done_values w.schedule.plan w.inputs is.sound is.fit slots (histories_in w) (cut_in w slots is agree) r h
      (is_done slots agree))

  pub none_left : w.schedule.plan.remote ≡ true → (nic_in w r).pending.waiting ≡ []
  none_left rem =
      let slots = given_slots w in
      let agree = slots_given w is in
      ap (λ (s : State). s.pending.waiting) (is.nic slots agree r h)
      ∙ none_pending combined-starts w.schedule.plan w.inputs is.sound is.fit slots (histories_in w) (cut_in w slots is agree) r h
      (is_done slots agree) rem

-- ---- in a later world
module _ (w : WorldState) (is : IsStanding w) (r : ℕ) (h : r < w.schedule.plan.ranks) (count : Count)
    (told : (slots : ℕ → Slots) → AreSlots w slots → lookup (done_ct (slots r)) (nic_in w r).cts.live ≡ Some count)
    (enough : HasCounted count (done_threshold w.schedule.plan r))
    (v : WorldState) (then : IsStanding v) (later : IsLater w v) where
  -- its histories are a later cut of the same ranks
  cut_then : (slots : ℕ → Slots) → AreSlots v slots → IsCut (ranks_in w slots) (histories_in v)
  cut_then slots agree =
      subst (λ (o : ScheduleOf). IsCut (system_of o.plan w.inputs slots) (histories_in v)) later.schedule
      (subst (λ i. IsCut (system_of v.schedule.plan i slots) (histories_in v)) later.inputs (cut_in v slots then agree))

  goes_on : (slots : ℕ → Slots) → GoesOn (ranks_in w slots) (histories_in w) (histories_in v)
  goes_on slots q k = later.begins q

  rank_then : r < v.schedule.plan.ranks
  rank_then = subst (λ (o : ScheduleOf). r < o.plan.ranks) (sym later.schedule) h

  nic_then : (slots : ℕ → Slots) → AreSlots v slots → nic_in v r ≡ state_at (ranks_in w slots) (histories_in v) r
  nic_then slots agree =
      then.nic slots agree r rank_then
      ∙ ap₂ (λ (o : ScheduleOf) i. state_at (system_of o.plan i slots) (histories_in v) r) later.schedule later.inputs

  pub values_then : AreValuesAt w.schedule.plan w.inputs r (memory_in v r)
  values_then =
      let slots = given_slots v in
      let agree = slots_given v then in
      let before = later.slots (given_slots v) agree in
      subst (λ (s : State). AreValuesAt w.schedule.plan w.inputs r s.memory) (sym (nic_then slots agree))
      (done_values w.schedule.plan w.inputs is.sound is.fit slots (histories_in v) (cut_then slots agree) r h
      (stays_done combined-starts w.schedule.plan w.inputs is.sound is.fit slots
      (histories_in w) (cut_in w slots is before) r h (is_done w is r h count told enough slots before)
      (histories_in v) (cut_then slots agree) (goes_on slots)))

  pub alone_then : (nic_in w r).pending.waiting ≡ [] → nic_in v r ≡ record (nic_in w r) { drops = (nic_in v r).drops }
  alone_then none =
      let slots = given_slots v in
      let agree = slots_given v then in
      let before = later.slots (given_slots v) agree in
      let nic = is.nic slots before r h in
      let left = left_alone combined-starts w.schedule.plan w.inputs is.sound
      is.fit slots (histories_in w) (cut_in w slots is before) r h
      (is_done w is r h count told enough slots before) (histories_in v) (cut_then slots agree) (goes_on slots)
      (ap (λ (s : State). s.pending.waiting) (sym nic) ∙ none) in
      nic_then slots agree ∙ left.state
      ∙ ap₂ (λ (s : State) d. record s { drops = d }) (sym nic) (ap (λ (s : State). s.drops) (sym (nic_then slots agree)))

pub keeps_values : (w : WorldState) → IsStanding w → (r : ℕ) → r < w.schedule.plan.ranks → (count : Count)
    → ((slots : ℕ → Slots) → AreSlots w slots → lookup (done_ct (slots r)) (nic_in w r).cts.live ≡ Some count)
    → HasCounted count (done_threshold w.schedule.plan r) → KeepsValues w r
keeps_values w is r h count told enough v then later = values_then w is r h count told enough v then later

pub stays_alone : (w : WorldState) → IsStanding w → (r : ℕ) → r < w.schedule.plan.ranks → (count : Count)
    → ((slots : ℕ → Slots) → AreSlots w slots → lookup (done_ct (slots r)) (nic_in w r).cts.live ≡ Some count)
    → HasCounted count (done_threshold w.schedule.plan r) → (nic_in w r).pending.waiting ≡ [] → StaysAlone w r
stays_alone w is r h count told enough none v then later = alone_then w is r h count told enough v then later none

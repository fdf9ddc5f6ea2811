-- What the fields of a choice world keep is what is said of it: the number of its enabled steps, and which stands at a number.
use Rattle.std.proofs.Common.{ℕ, ◌+◌, ◌*◌, ◌<◌, ◌≡◌, ◌∙◌, List, [], Some, sym, ap, arith, count_by, get_or, length, map, nat_lt, sum, take}
use Rattle.std.proofs.Common.{if◌then◌else◌}
use Rattle.std.proofs.lemmas.List.{length-map}
use Rattle.std.specs.List.{slice_get}
use Rattle.coll_lang.specs.declared.choices.ChoiceKind.{ChoiceKind}
use Rattle.ptl_types.specs.Handles.{top}
use Rattle.ni_model.specs.Tables.{lookup}
use Rattle.ni_model.specs.Ready.{ready_numbers}
use Rattle.ni_model.specs.State.{State}
use Rattle.cuts.specs.histories.History.{is_start}
use Rattle.cuts.specs.histories.Moment.{IsStill}
use Rattle.cuts.specs.histories.System.{System, state_at}
use Rattle.cuts.proofs.orders.Choosing.{none_listed_still}
use Rattle.cuts.specs.orders.Chosen.{Scene, start_at}
use Rattle.cuts.specs.declared.orders.Step.TheVariants.{Deliver, Fire, Start}
use Rattle.cuts.proofs.windows.Counted.{counts_by}
use Rattle.cuts.specs.windows.Places.{counts, delivery_at, fires_at, destination_at, kind_at, source_at}
use Rattle.cuts.specs.windows.Possible.{is_possible, possible_steps}
use Rattle.worlds.specs.declared.parts.traffic.Traffic.{Traffic}
use Rattle.worlds.specs.parts.Layout.{held_in}
use Rattle.worlds.proofs.parts.Placed.{place_told, ranks_told}
use Rattle.worlds.proofs.Numbered.{delivery_numbered, firing_numbered, start_numbered, total_of}
use Rattle.worlds.proofs.Places.{lane_may_be, one_delivery, one_start}
use Rattle.plan_choice.specs.texts.machine.Choices.{choice_at}
use Rattle.plan_choice.specs.texts.view.Install.{ct_of}
use Rattle.plan_choice.specs.texts.view.Install.Counter.{Done}
use Rattle.plan_choice.specs.texts.laws.Decided.{IsDecided, result_of}
use Rattle.plan_choice.proofs.texts.laws.Resting.{rest_decided, right_same}
use Rattle.plan_choice.specs.ranks.Seats.{ChoiceRankState}
use Rattle.plan_choice.specs.Acts.{seat_at}
use Rattle.plan_choice.specs.World.{
  AreFields,
  ChoiceState,
  IsDecidedWorld,
  IsStanding,
  histories_in,
  ranks_in,
  scene_in,
  state_of,
  steps_in,
}
use Rattle.plan_choice.specs.World.{value_in}
use Rattle.plan_choice.proofs.Moving.{moment_in, slots_at}
use Rattle.plan_choice.proofs.Possible.{fires_all, possible_all}

-- each enabled step is possible under the widest window
pub possible_in : (w : ChoiceState) → IsStanding w → possible_steps (ranks_in w) top (scene_in w) ≡ steps_in w
possible_in w is = possible_all w.ranks w.kinds (slots_at w) is.in_range is.few_steps (scene_in w) is.reached

-- where no step is enabled nothing is left to do
pub still : (w : ChoiceState) → steps_in w ≡ [] → IsStill (ranks_in w) (histories_in w) (scene_in w).held
still w none = none_listed_still (ranks_in w) (scene_in w) none

-- and the results are decided
pub decided : (w : ChoiceState) → IsStanding w → steps_in w ≡ [] → IsDecidedWorld w
decided w is none = record {
  done = λ r h. ap (λ (v : State). lookup (ct_of (slots_at w r) w.kinds Done) v.cts.live) (is.nic r h) ∙ rest.done r h;
  right = λ s i. right_same (choice_at w.kinds s) w.ranks (λ r. result_of s (state_at (ranks_in w) (histories_in w) r)) (value_in w s)
      (λ r h. ap (result_of s) (is.nic r h)) (rest.right s i);
}
  where
    rest : IsDecided w.ranks w.kinds (slots_at w) (histories_in w)
    rest = rest_decided w.ranks w.kinds (slots_at w) is.in_range (histories_in w) (scene_in w).held (moment_in w is)
        (still w none)

module _ (kinds : List ChoiceKind) (seats : List ChoiceRankState) (traffic : Traffic) (fields : AreFields kinds seats traffic) where
  abbrev w : ChoiceState
  w = state_of kinds seats traffic

  abbrev starts : List ℕ
  starts = traffic.starts

  abbrev deliveries : List ℕ
  deliveries = traffic.deliveries

  abbrev firings : List ℕ
  firings = traffic.firings

  abbrev k : System
  k = ranks_in w

  abbrev z : Scene
  z = scene_in w

  abbrev n : ℕ
  n = w.ranks

  starts_are : starts ≡ counts (start_at z) n
  starts_are = counts_by (start_at z) n starts fields.counted.wide_starts (λ i h.
      fields.counted.of_starts i h ∙ one_start (Start i) (nat_lt 0 (count_by is_start (seat_at w.seats i).diary.locals)))

  -- the firings of a rank
  pub fires_are : (r : ℕ) → r < n → fires_at k top z r ≡ map (Fire r) (ready_numbers (seat_at w.seats r).nic)
  fires_are r h =
      fires_all n w.kinds (slots_at w) fields.standing.in_range fields.standing.few_steps z fields.standing.reached r h
      ∙ ap (λ v. map (Fire r) (ready_numbers v)) (sym (fields.standing.nic r h))

  firings_are : firings ≡ counts (fires_at k top z) n
  firings_are = counts_by (fires_at k top z) n firings fields.counted.wide_firings (λ i h.
      fields.counted.of_firings i h ∙ sym (length-map (ready_numbers (seat_at w.seats i).nic) (Fire i)) ∙ ap length (sym (fires_are i h)))

  deliveries_are : deliveries ≡ counts (delivery_at k top z) (2 * (n * n))
  deliveries_are = counts_by (delivery_at k top z) (2 * (n * n)) deliveries fields.counted.wide_deliveries (λ i h.
      let q = ranks_told n i h in
      let s = source_at n i in
      let d = destination_at n i in
      let lane = kind_at i in
      ap (λ j. get_or deliveries j 0) (sym (place_told n i))
      ∙ fields.counted.of_deliveries s d lane q.0 q.1
      ∙ ap (λ b. if b then 1 else 0) (sym (lane_may_be k z.world n w.lanes top s d lane q.0 q.1))
      ∙ one_delivery (is_possible k top z) s d lane (held_in n w.lanes s d lane))

  pub number : sum starts + (sum deliveries + sum firings) ≡ length (steps_in w)
  number = total_of k z top starts deliveries firings starts_are deliveries_are firings_are ∙ ap length (possible_in w fields.standing)

  -- the step of a number, by the counts
  pub start_in : (r rest i : ℕ) → r < length starts → sum (take r starts) + rest ≡ i → rest < get_or starts r 0 → i < sum starts
      → slice_get (steps_in w) i ≡ Some (Start r)
  start_in r rest i h before within small =
      ap (λ xs. slice_get xs i) (sym (possible_in w fields.standing))
      ∙ start_numbered k z top starts deliveries firings starts_are deliveries_are firings_are r rest i h before within small

  pub delivery_in : (j rest i : ℕ) → j < length deliveries → sum (take j deliveries) + rest ≡ i → rest < get_or deliveries j 0
      → i < sum deliveries → slice_get (steps_in w) (sum starts + i) ≡ Some (Deliver (source_at n j) (destination_at n j) (kind_at j))
  delivery_in j rest i h before within small =
      ap (λ xs. slice_get xs (sum starts + i)) (sym (possible_in w fields.standing))
      ∙ delivery_numbered k z top starts deliveries firings starts_are deliveries_are firings_are j rest i h before within small

  pub firing_in : (r rest i t : ℕ) → r < length firings → sum (take r firings) + rest ≡ i → rest < get_or firings r 0 → i < sum firings
      → slice_get (ready_numbers (seat_at w.seats r).nic) rest ≡ Some t
      → slice_get (steps_in w) (sum starts + (sum deliveries + i)) ≡ Some (Fire r t)
  firing_in r rest i t h before within small told =
      let size = fields.counted.wide_firings in
      let known : r < n = omega (arith, h, size) in
      ap (λ xs. slice_get xs (sum starts + (sum deliveries + i))) (sym (possible_in w fields.standing))
      ∙ firing_numbered k z top starts deliveries firings starts_are deliveries_are firings_are r rest i t
      (ready_numbers (seat_at w.seats r).nic) (fires_are r known) known before within small told

  -- a rank with firings has a seat, which has as many ready
  pub firings_there : (r rest : ℕ) → r < length firings → rest < get_or firings r 0
      → (r < length w.seats) × (rest < length (ready_numbers (seat_at w.seats r).nic))
  firings_there r rest h within =
      let wide = fields.counted.wide_firings in
      let size = fields.standing.size in
      let right = fields.counted.of_firings r (omega (arith, h, wide)) in
      (omega (arith, h, wide, size), omega (arith, within, right))

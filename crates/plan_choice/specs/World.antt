-- What is seen of a choice world, and what holds of it whatever was done with it.
use Rattle.std.specs.Prelude.{ℕ, ◌+◌, ◌*◌, ◌<◌, ◌≤◌, ◌≡◌, List, Some, length, slice_index_or, if◌then◌else◌}
use Rattle.coll_lang.specs.declared.choices.ChoiceKind.{ChoiceKind}
use Rattle.ptl_types.specs.declared.headers.Lane.{Lane}
use Rattle.ptl_types.specs.Handles.{top}
use Rattle.ni_model.specs.Counts.{successes}
use Rattle.ni_model.specs.State.{State}
use Rattle.ni_model.specs.Tables.{lookup}
use Rattle.pair_wires.specs.Lanes.{Plain}
use Rattle.cuts.specs.histories.Cut.{IsPrefixOf}
use Rattle.cuts.specs.histories.System.{Histories, System, state_at}
use Rattle.cuts.specs.orders.Chosen.{Scene, enabled_steps}
use Rattle.cuts.specs.orders.Reached.{IsReached}
use Rattle.cuts.specs.declared.orders.Step.{Step}
use Rattle.cuts.specs.windows.Places.{lane_place}
use Rattle.worlds.specs.declared.parts.traffic.Traffic.{Traffic}
use Rattle.worlds.specs.parts.Layout.{held_in, lane_at}
use Rattle.worlds.specs.parts.Marks.{delivery_count}
use Rattle.plan_choice.specs.texts.machine.Choices.{IsRight, choice_at}
use Rattle.plan_choice.specs.texts.machine.Counted.{steps_due}
use Rattle.plan_choice.specs.texts.view.Install.{ct_of}
use Rattle.plan_choice.specs.texts.view.Install.Counter.{Done, Go}
use Rattle.plan_choice.specs.texts.laws.Decided.{IsInRange, choice_system, is_choice_lane, result_of}
use Rattle.plan_choice.specs.ranks.Seats.{ChoiceRankState, go_of, slots_in}
use Rattle.plan_choice.specs.Acts.{firing_count, seat_at, start_count}

-- the steps of the text; a seat for each rank; the lanes by source, target, request before answer
pub record ChoiceState : Type 0 where
  pub ranks : ℕ
  pub kinds : List ChoiceKind
  pub seats : List ChoiceRankState
  pub lanes : List Plain

-- the interface of a rank
abbrev pub nic_in : ChoiceState → ℕ → State
nic_in w r = (seat_at w.seats r).nic

-- the interfaces of the text, whose tables gave these slots
abbrev pub ranks_in : ChoiceState → System
ranks_in w = choice_system w.ranks w.kinds (λ r. slots_in (seat_at w.seats r))

-- the histories, and what is on its way
abbrev pub scene_in : ChoiceState → Scene
scene_in w = record { world = λ r. (seat_at w.seats r).diary.locals; held = held_in w.ranks w.lanes }

-- the histories alone
abbrev pub histories_in : ChoiceState → Histories
histories_in w = (scene_in w).world

-- the enabled steps in their fixed order
abbrev pub steps_in : ChoiceState → List Step
steps_in w = enabled_steps (ranks_in w) (scene_in w)

-- the result of a step at a rank, as it stands in its memory
abbrev pub value_in : ChoiceState → ℕ → ℕ → ℕ
value_in w s r = result_of s (nic_in w r)

-- each rank has told all steps, and none failed; each elect names one rank at every rank, and the results of each tickets are the
-- numbers of the ranks, each once
pub record IsDecidedWorld (w : ChoiceState) : Type 0 where
  pub done : (r : ℕ) → r < w.ranks →
      lookup (ct_of (slots_in (seat_at w.seats r)) w.kinds Done) (nic_in w r).cts.live ≡ Some (successes (length w.kinds))
  pub right : (s : ℕ) → s < length w.kinds → IsRight (choice_at w.kinds s) w.ranks (value_in w s)

-- the same ranks and steps under the same slots, and each history begins with what it was
pub record IsLater (w v : ChoiceState) : Type 0 where
  pub ranks : v.ranks ≡ w.ranks
  pub kinds : v.kinds ≡ w.kinds
  pub system : ranks_in v ≡ ranks_in w
  pub begins : (r : ℕ) → IsPrefixOf (histories_in w r) (histories_in v r)

-- the histories and lanes are those of a moment to which steps led, and each interface is that of the end of its history
pub record IsStanding (w : ChoiceState) : Type 0 where
  pub in_range : IsInRange w.ranks w.kinds
  pub few_steps : length w.kinds ≤ 64
  pub size : length w.seats ≡ w.ranks
  pub reached : IsReached (ranks_in w) (histories_in w) (scene_in w).held
  pub nic : (r : ℕ) → r < w.ranks → nic_in w r ≡ state_at (ranks_in w) (histories_in w) r

-- ---- the fields

-- the handle of each rank's go counter is that of the text
pub record HasGo (w : ChoiceState) : Type 0 where
  pub some : (r : ℕ) → r < w.ranks → 0 < length (seat_at w.seats r).kept.counters
  pub go : (r : ℕ) → r < w.ranks → go_of (seat_at w.seats r) ≡ ct_of (slots_in (seat_at w.seats r)) w.kinds Go

-- there is room for all steps that are due, each of which may be a receipt of a word, and for a message of each step of the text on
-- each lane that is used
pub record HasRoom (w : ChoiceState) : Type 0 where
  pub steps : (r : ℕ) → r < w.ranks →
      steps_due w.ranks w.kinds r ≤ length (histories_in w r) + (seat_at w.seats r).diary.room
  pub receipts : (r : ℕ) → r < w.ranks →
      steps_due w.ranks w.kinds r ≤ length (histories_in w r) + (seat_at w.seats r).diary.receipts
  pub bytes : (r : ℕ) → r < w.ranks →
      8 * steps_due w.ranks w.kinds r ≤ 8 * length (histories_in w r) + (seat_at w.seats r).diary.bytes
  pub wide : length w.lanes ≡ 2 * (w.ranks * w.ranks)
  pub lanes : (s d : ℕ) (lane : Lane) → s < w.ranks → d < w.ranks →
      (if is_choice_lane s d lane then length w.kinds else 0) ≤ (lane_at w.lanes (lane_place w.ranks s d lane)).capacity

-- the counts are those of the enabled steps, place by place
pub record AreCounted (w : ChoiceState) (starts deliveries firings : List ℕ) : Type 0 where
  pub wide_starts : length starts ≡ w.ranks
  pub wide_deliveries : length deliveries ≡ 2 * (w.ranks * w.ranks)
  pub wide_firings : length firings ≡ w.ranks
  pub of_starts : (r : ℕ) → r < w.ranks → slice_index_or starts r 0 ≡ start_count (seat_at w.seats r)
  pub of_firings : (r : ℕ) → r < w.ranks → slice_index_or firings r 0 ≡ firing_count (seat_at w.seats r)
  pub of_deliveries : (s d : ℕ) (lane : Lane) → s < w.ranks → d < w.ranks →
      slice_index_or deliveries (lane_place w.ranks s d lane) 0 ≡ delivery_count w.lanes w.ranks top s d lane

-- a choice world with such seats, and such traffic between them
abbrev pub state_of : List ChoiceKind → List ChoiceRankState → Traffic → ChoiceState
state_of kinds seats t = record { ranks = t.setting.ranks; kinds = kinds; seats = seats; lanes = t.lanes }

-- what the fields of a choice world keep
pub record AreFields (kinds : List ChoiceKind) (seats : List ChoiceRankState) (t : Traffic) : Type 0 where
  pub window : t.setting.window ≡ top
  pub standing : IsStanding (state_of kinds seats t)
  pub go : HasGo (state_of kinds seats t)
  pub room : HasRoom (state_of kinds seats t)
  pub counted : AreCounted (state_of kinds seats t) t.starts t.deliveries t.firings

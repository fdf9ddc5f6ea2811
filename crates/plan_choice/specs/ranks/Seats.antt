-- One rank of a choice world: its interface, the handles that its tables gave, and its history.
use Rattle.std.specs.Prelude.{ℕ, ◌*◌, ◌<◌, ◌≡◌, List, [], length, map, slice_index_or}
use Rattle.coll_lang.specs.declared.choices.ChoiceKind.{ChoiceKind}
use Rattle.coll_lang.specs.declared.choices.ChoiceKind.TheVariants.{Elect, Tickets}
use Rattle.coll_lang.specs.declared.choices.ChoiceStep.{ChoiceStep}
use Rattle.coll_lang.specs.declared.choices.ChoiceStep.TheVariants as steps
use Rattle.ptl_types.specs.declared.handles.Handle.{Handle}
use Rattle.ptl_types.specs.declared.headers.Lane.{Lane}
use Rattle.ptl_types.specs.declared.steps.LocalStep.TheVariants.{Fire, Start}
use Rattle.ptl_types.specs.Messages.{Sent}
use Rattle.ni_model.specs.Ready.{fired}
use Rattle.ni_model.specs.State.{State, target}
use Rattle.ni_model.specs.Tables.{handle}
use Rattle.cuts.specs.start.Start.{go_raised}
use Rattle.cuts.specs.histories.History.Local.{Fire as Fired, Start as Started}
use Rattle.rank_node.specs.Copies.{Diary, with_receipt, with_step}
use Rattle.rank_node.specs.Handles.{Handles, slot_at}
use Rattle.plan_choice.specs.texts.machine.Counted.{steps_due}
use Rattle.plan_choice.specs.texts.view.Calls.{install}
use Rattle.plan_choice.specs.texts.view.Install.{Slots, ct_of}
use Rattle.plan_choice.specs.texts.view.Install.Counter.{Go}

-- what a step of a description does, its name left out
abbrev pub kind_of : ChoiceStep → ChoiceKind
kind_of (steps.Elect name) = Elect
kind_of (steps.Tickets name) = Tickets

-- of all steps
abbrev pub kinds_of : List ChoiceStep → List ChoiceKind
kinds_of xs = map kind_of xs

-- what is seen of a rank: the handles that its interface gave, its history, and the interface
pub record ChoiceRankState : Type 0 where
  pub kept : Handles
  pub diary : Diary
  pub nic : State

-- the slots that the tables gave
abbrev pub slots_in : ChoiceRankState → Slots
slots_in s = record { ct = slot_at s.kept.counters; me = slot_at s.kept.entries; md = slot_at s.kept.descriptors }

-- its go counter is the first that was made
abbrev pub go_of : ChoiceRankState → Handle
go_of s = slice_index_or s.kept.counters 0 (handle 0 0)

-- no steps, and room for so many
abbrev pub empty_diary : ℕ → Diary
empty_diary due = record { locals = []; steps = []; room = due; receipts = due; bytes = 8 * due }

-- the interface of a rank on which the calls of the text were made, with room for so many steps, each of which may be the receipt of a
-- word; the go counter is the first that was made
pub record IsInstalled (ranks : ℕ) (ks : List ChoiceKind) (r : ℕ) (s : ChoiceRankState) : Type 0 where
  pub nic : s.nic ≡ install (slots_in s) ranks ks r
  pub some : 0 < length s.kept.counters
  pub go : go_of s ≡ ct_of (slots_in s) ks Go
  pub diary : s.diary ≡ empty_diary (steps_due ranks ks r)

-- ---- the steps

-- the host raises it by one
abbrev pub started_seat : ChoiceRankState → ChoiceRankState
started_seat s = record s { diary = with_step Start Started s.diary; nic = go_raised (go_of s) s.nic }

-- an operation fires
abbrev pub fired_seat : ℕ → ChoiceRankState → ChoiceRankState
fired_seat t s = record s { diary = with_step (Fire t) (Fired t) s.diary; nic = (fired s.nic t).state }

-- a message is received
abbrev pub received_seat : ℕ → Lane → Sent → ChoiceRankState → ChoiceRankState
received_seat source lane m s = record s { diary = with_receipt source lane m s.diary; nic = (target s.nic m).state }

-- What a start leaves of an interface and of the handles that it gave.
use Rattle.std.specs.Prelude.{ℕ, ◌≤◌, ◌+◌, ◌≡◌, List, length}
use Rattle.ptl_types.specs.declared.entries.Entry.{Entry}
use Rattle.ptl_types.specs.declared.entries.List.TheVariants.{Priority}
use Rattle.ni_model.specs.State.{State}
use Rattle.ni_model.specs.Calls.{me_append}
use Rattle.cuts.specs.view.Slots.{Slots}
use Rattle.plan_core.specs.declared.calls.OwnCell.{OwnCell}
use Rattle.cuts.specs.start.Start.{cells_started}
use Rattle.rank_node.specs.Handles.{Handles, Agrees, AreAllOf}

-- entries are all that may have been made, and at most so many
pub record OnlyEntries (before after : Handles) (most : ℕ) : Type 0 where
  pub counters : after.counters ≡ before.counters
  pub descriptors : after.descriptors ≡ before.descriptors
  pub room : after.room ≡ before.room
  pub at_most : length after.entries ≤ length before.entries + most

-- one append
pub record IsAppended (e : Entry) (old new : State) (before after : Handles) : Type 0 where
  pub state : (k : Slots) → Agrees k after → new ≡ (me_append (k.me old.entries_given) 0 Priority e old).state
  pub kept : (k : Slots) → Agrees k after → Agrees k before
  pub all : AreAllOf new after
  pub only : OnlyEntries before after 1

-- the cells of a list, in order
pub record AreStarted (longest : ℕ) (cells : List ℕ) (own : List OwnCell) (old new : State) (before after : Handles) : Type 0 where
  pub state : (k : Slots) → Agrees k after → new ≡ cells_started longest k cells own old
  pub kept : (k : Slots) → Agrees k after → Agrees k before
  pub all : AreAllOf new after
  pub only : OnlyEntries before after (length own)

-- What holds of the fields of the two lists.
use Rattle.std.specs.Prelude.{◌≡◌, ℕ, ◌+◌, List, ◌++◌, length, get_or, Option, None}
use Rattle.ptl_types.specs.declared.entries.List.TheVariants.{Priority, Overflow}
use Rattle.chain_list.specs.Chain.{ChainList}
use Rattle.ni_model.specs.declared.Linked.{Linked}
use Rattle.match_lists.specs.declared.lists.LinkedAt.{LinkedAt}
use Rattle.match_lists.specs.Slots.{Tagged, tagged, SlotsApart, where_slot}

-- the entries of both lists, each with its list
abbrev pub all_of : ChainList Linked → ChainList Linked → List Tagged
all_of priority overflow = tagged Priority priority.entries ++ tagged Overflow overflow.entries

pub record IsLists (priority overflow : ChainList Linked) (table : List (Option LinkedAt)) (limit slots : ℕ) : Type 0 where
  pub room : priority.spare + length priority.entries ≡ limit
  pub overflow_room : overflow.spare + length overflow.entries ≡ limit
  pub long : length table ≡ slots
  pub apart : SlotsApart (all_of priority overflow)
  pub tabled : (slot : ℕ) → get_or table slot None ≡ where_slot slot (all_of priority overflow)

-- What a target is seen as, and how its parts make up the model's.
use Rattle.std.specs.Prelude.{ℕ, ◌<◌, List, Option, Some, None, All}
use Rattle.ptl_types.specs.declared.handles.Handle.{Handle}
use Rattle.ptl_types.specs.declared.entries.Entry.{Entry}
use Rattle.ptl_types.specs.declared.entries.List.{List as EntryList}
use Rattle.ptl_types.specs.declared.calls.Appended.{Appended}
use Rattle.ptl_types.specs.declared.calls.Appended.TheVariants.{Linked as IsLinked, Consumed}
use Rattle.ptl_types.specs.declared.entries.UnexpectedHeader.{UnexpectedHeader}
use Rattle.ni_model.specs.declared.Linked.{Linked}
use Rattle.ni_model.specs.Lists.{Index}
use Rattle.ni_model.specs.Headers.{UnexpectedList}
use Rattle.ni_model.specs.Arrive.{Side, Parts}
use Rattle.ni_model.specs.Append.{Appends, Searched, append}
use Rattle.ni_model.specs.Calls.{Makes, entry_taken}
use Rattle.ni_objects.specs.users.Rows.{IsAlone}

-- a target: its rank, how many entries may be linked, its indices, the stamps given to entries, its headers
abbrev pub side : ℕ → ℕ → List (Option Index) → ℕ → UnexpectedList → Side
side rank limit indices given headers = record { rank = rank; limit = limit; indices = indices; given = given; headers = headers }

-- what a search leaves, and the header that it found
abbrev pub has_searched : Parts → Option UnexpectedHeader → Searched
has_searched p found = record { parts = p; found = found }

-- what an append leaves, its answer, and the counting event that rose
abbrev pub has_appended : Parts → Appended → Option Handle → Appends
has_appended p appended counted = record { parts = p; appended = appended; counted = counted }

-- the handle of an entry that was linked has a slot below n
abbrev pub SlotBelow : ℕ → Appended → Type 0
SlotBelow n (IsLinked h) = h.slot < n
SlotBelow n (Consumed x) = Unit {0}

-- the append, with some slot that no linked entry has and in whose entry none of the headers that it leaves lies
abbrev pub AppendsSome : ℕ → EntryList → Entry → Parts → Appends → Type 0
AppendsSome pt list e old end =
    Makes (entry_taken old.side.indices end.parts.side.headers.unexpected) (λ slot. append slot pt list e old) end

-- the counting event of each entry of an index, if it has one, is ct or has another slot
abbrev pub EntriesAlone : Handle → Option Index → Type 0
EntriesAlone ct None = Unit {0}
EntriesAlone ct (Some i) = All (λ (x : Linked). IsAlone ct x.entry.ct) i.priority × All (λ (x : Linked). IsAlone ct x.entry.ct) i.overflow

-- The unexpected headers of an interface, oldest first, and which of them an entry finds: this profile's own.
use Rattle.std.specs.Prelude.{ℕ, Bool, false, ◌==◌, ◌&&◌, ◌||◌, not, nat_le, List, [], ◌∷◌, filter, length, Option, if◌then◌else◌, find}
use Rattle.ptl_types.specs.declared.handles.Handle.{Handle}
use Rattle.ptl_types.specs.declared.entries.Entry.{Entry}
use Rattle.ptl_types.specs.declared.headers.MessageKind.{MessageKind}
use Rattle.ptl_types.specs.declared.headers.MessageKind.TheVariants.{Put, Get, Atomic}
use Rattle.ptl_types.specs.Handles.{same_handle}
use Rattle.ptl_types.specs.Matching.{is_match}
use Rattle.ni_model.specs.declared.IndexedHeader.{IndexedHeader}

-- the headers of all portal table indices together, and how many there may be
pub record UnexpectedList : Type 0 where
  pub unexpected : List IndexedHeader
  pub limit : ℕ

-- both together
abbrev pub unexpected_list : List IndexedHeader → ℕ → UnexpectedList
unexpected_list unexpected limit = record { unexpected = unexpected; limit = limit }

-- as many headers as there may be
abbrev pub no_room : UnexpectedList → Bool
no_room hs = nat_le hs.limit (length hs.unexpected)

-- the operations that an entry allows: a fetching atomic or a swap reads and writes
abbrev pub allows : Entry → MessageKind → Bool
allows e Put = e.allow_put
allows e Atomic = e.allow_put
allows e Get = e.allow_get
allows e _ = e.allow_put && e.allow_get

-- the header is of this index, and the entry matches it and allows its operation; lengths aren't looked at
abbrev pub finds : ℕ → Entry → IndexedHeader → Bool
finds pt e a = (a.pt == pt) && (is_match e a.header.header && allows e a.header.header.kind)

-- the oldest header that the entry finds
abbrev pub oldest : ℕ → Entry → List IndexedHeader → Option IndexedHeader
oldest pt e hs = find (finds pt e) hs

-- the headers without the oldest that is found
abbrev pub without_oldest : ℕ → Entry → List IndexedHeader → List IndexedHeader
without_oldest pt e [] = []
without_oldest pt e (a ∷ hs) = if finds pt e a then hs else a ∷ without_oldest pt e hs

-- the headers that are found, in order of arrival, and those that aren't
abbrev pub found_in : ℕ → Entry → List IndexedHeader → List IndexedHeader
found_in pt e hs = filter (finds pt e) hs

-- the headers that it does not find
abbrev pub left_in : ℕ → Entry → List IndexedHeader → List IndexedHeader
left_in pt e hs = filter (λ a. not (finds pt e a)) hs

-- a header lies in this entry's memory
abbrev pub names_entry : Handle → List IndexedHeader → Bool
names_entry me [] = false
names_entry me (a ∷ hs) = same_handle a.header.entry me || names_entry me hs

-- the headers of one index
abbrev pub is_of : ℕ → IndexedHeader → Bool
is_of pt a = a.pt == pt

-- in order of arrival
abbrev pub headers_of : ℕ → List IndexedHeader → List IndexedHeader
headers_of pt hs = filter (is_of pt) hs

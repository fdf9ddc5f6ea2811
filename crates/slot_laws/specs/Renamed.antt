-- What an interface holds and is handed, with each handle renamed.
use Rattle.std.specs.Prelude.{ℕ, List, map, Option, option_map}
use Rattle.ptl_types.specs.declared.handles.Handle.{Handle}
use Rattle.ptl_types.specs.declared.headers.Header.{Header}
use Rattle.ptl_types.specs.declared.entries.Entry.{Entry}
use Rattle.ptl_types.specs.declared.entries.Descriptor.{Descriptor}
use Rattle.ptl_types.specs.declared.entries.UnexpectedHeader.{UnexpectedHeader}
use Rattle.ptl_types.specs.declared.calls.PutArgs.{PutArgs}
use Rattle.ptl_types.specs.declared.calls.GetArgs.{GetArgs}
use Rattle.ptl_types.specs.declared.calls.Appended.{Appended}
use Rattle.ptl_types.specs.declared.calls.Appended.TheVariants.{Linked as IsLinked, Consumed}
use Rattle.ptl_types.specs.declared.calls.TriggeredOp.{TriggeredOp}
use Rattle.ptl_types.specs.declared.calls.TriggeredOp.TheVariants.{Put, Get, Atomic, FetchAtomic, Swap, Inc, Set}
use Rattle.ptl_types.specs.Messages.{Sent}
use Rattle.log_answers.specs.Items.{home_rank}
use Rattle.ni_model.specs.declared.Linked.{Linked}
use Rattle.ni_model.specs.declared.Bound.{Bound}
use Rattle.ni_model.specs.declared.IndexedHeader.{IndexedHeader}
use Rattle.ni_model.specs.Tables.{Live, Table}
use Rattle.ni_model.specs.Lists.{Index}
use Rattle.ni_model.specs.Headers.{UnexpectedList}
use Rattle.ni_model.specs.Arrive.{Parts, Side}
use Rattle.ni_model.specs.Answers.{Home}
use Rattle.ni_model.specs.State.{Operations, Posted, State}
use Rattle.slot_laws.specs.Renaming.{Renaming}

-- ---- tables

-- a thing, and the handle that names it
abbrev pub renamed_live : {A : Type 0} → (Handle → Handle) → (A → A) → Live A → Live A
renamed_live f g x = record { handle = f x.handle; value = g x.value }

-- each thing of a table; how many were given stays
abbrev pub renamed_table : {A : Type 0} → (Handle → Handle) → (A → A) → Table A → Table A
renamed_table f g t = record t { live = map (renamed_live f g) t.live }

-- things that hold no handle
abbrev pub renamed_things : {A : Type 0} → (Handle → Handle) → Table A → Table A
renamed_things f t = renamed_table f (λ x. x) t

-- ---- messages: the descriptor at home is one of the rank that sent the request

-- a header, and the descriptor at home that it names
abbrev pub renamed_header : Renaming → Header → Header
renamed_header r h = record h { home = option_map (r.md (home_rank h)) h.home }

-- a message, with its header
abbrev pub renamed_message : Renaming → Sent → Sent
renamed_message r m = record m { header = renamed_header r m.header }

-- a header that waits, and the match entry that took it
abbrev pub renamed_unexpected : Renaming → UnexpectedHeader → UnexpectedHeader
renamed_unexpected r u = record u { entry = r.me u.entry; header = renamed_header r u.header }

-- ---- entries, indices and headers that wait

-- the counting event of a match entry
abbrev pub renamed_entry : Renaming → Entry → Entry
renamed_entry r e = record e { ct = option_map r.ct e.ct }

-- a match entry that is linked
abbrev pub renamed_linked : Renaming → Linked → Linked
renamed_linked r x = record x { handle = r.me x.handle; entry = renamed_entry r x.entry }

-- a portal table index: its event queue and its two lists
abbrev pub renamed_index : Renaming → Index → Index
renamed_index r i = record {
  eq = option_map r.eq i.eq;
  priority = map (renamed_linked r) i.priority;
  overflow = map (renamed_linked r) i.overflow;
}

-- the portal table
abbrev pub renamed_indices : Renaming → List (Option Index) → List (Option Index)
renamed_indices r is = map (option_map (renamed_index r)) is

-- a header that waits at an index
abbrev pub renamed_indexed : Renaming → IndexedHeader → IndexedHeader
renamed_indexed r a = record a { header = renamed_unexpected r a.header }

-- the unexpected headers
abbrev pub renamed_headers : Renaming → UnexpectedList → UnexpectedList
renamed_headers r hs = record hs { unexpected = map (renamed_indexed r) hs.unexpected }

-- the portal table and the unexpected headers
abbrev pub renamed_side : Renaming → Side → Side
renamed_side r s = record s { indices = renamed_indices r s.indices; headers = renamed_headers r s.headers }

-- what a request and an append may change
abbrev pub renamed_parts : Renaming → Parts → Parts
renamed_parts r p = record p {
  side = renamed_side r p.side;
  cts = renamed_things r.ct p.cts;
  eqs = renamed_things r.eq p.eqs;
}

-- what an append answers
abbrev pub renamed_appended : Renaming → Appended → Appended
renamed_appended r (IsLinked h) = IsLinked (r.me h)
renamed_appended r (Consumed u) = Consumed (renamed_unexpected r u)

-- ---- descriptors, of the interface of a rank

-- the event queue and the counting event of a descriptor
abbrev pub renamed_md : Renaming → Descriptor → Descriptor
renamed_md r d = record d { eq = option_map r.eq d.eq; ct = option_map r.ct d.ct }

-- a descriptor that is bound
abbrev pub renamed_bound : Renaming → Bound → Bound
renamed_bound r b = record b { md = renamed_md r b.md }

-- what a start and an answer that comes home may change
abbrev pub renamed_home : Renaming → ℕ → Home → Home
renamed_home r rank p = record p {
  mds = renamed_table (r.md rank) (renamed_bound r) p.mds;
  cts = renamed_things r.ct p.cts;
  eqs = renamed_things r.eq p.eqs;
}

-- ---- operations, of the interface of a rank

-- the descriptor of a put
abbrev pub renamed_put : Renaming → ℕ → PutArgs → PutArgs
renamed_put r rank a = record a { md = r.md rank a.md }

-- the descriptor of a get
abbrev pub renamed_get : Renaming → ℕ → GetArgs → GetArgs
renamed_get r rank g = record g { md = r.md rank g.md }

-- what an operation does: the descriptors it sends from, or the counting event it changes
abbrev pub renamed_action : Renaming → ℕ → TriggeredOp → TriggeredOp
renamed_action r rank (Put a) = Put (renamed_put r rank a)
renamed_action r rank (Get g) = Get (renamed_get r rank g)
renamed_action r rank (Atomic a op ty) = Atomic (renamed_put r rank a) op ty
renamed_action r rank (FetchAtomic g a op ty) = FetchAtomic (renamed_get r rank g) (renamed_put r rank a) op ty
renamed_action r rank (Swap g a op ty operand) = Swap (renamed_get r rank g) (renamed_put r rank a) op ty operand
renamed_action r rank (Inc ct by) = Inc (r.ct ct) by
renamed_action r rank (Set ct to) = Set (r.ct ct) to

-- an operation that waits, and the counting event it waits on
abbrev pub renamed_posted : Renaming → ℕ → Posted → Posted
renamed_posted r rank p = record p { action = renamed_action r rank p.action; ct = r.ct p.ct }

-- all that wait
abbrev pub renamed_operations : Renaming → ℕ → Operations → Operations
renamed_operations r rank ops = record ops { waiting = map (renamed_posted r rank) ops.waiting }

-- ---- an interface

-- the whole of it
abbrev pub renamed : Renaming → State → State
renamed r s = record s {
  indices = renamed_indices r s.indices;
  headers = renamed_headers r s.headers;
  cts = renamed_things r.ct s.cts;
  eqs = renamed_things r.eq s.eqs;
  mds = renamed_table (r.md s.rank) (renamed_bound r) s.mds;
  pending = renamed_operations r s.rank s.pending;
}

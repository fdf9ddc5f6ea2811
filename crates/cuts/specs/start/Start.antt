-- The start of a rank: the bytes that came before it are brought into the cells, the cells' entries are appended, and the go
-- counter rises.
use Rattle.std.specs.Prelude.{ℕ, Bool, true, ◌&&◌, ◌==◌, nat_le, ◌+◌, ◌%◌, ◌≡◌, List, Option, Some, None, [], ◌∷◌, if◌then◌else◌, length}
use Rattle.ptl_types.specs.declared.handles.Handle.{Handle}
use Rattle.ptl_types.specs.declared.elements.AtomicOp.{AtomicOp}
use Rattle.ptl_types.specs.declared.elements.ElemType.{ElemType}
use Rattle.ptl_types.specs.declared.entries.Entry.{Entry}
use Rattle.ptl_types.specs.declared.entries.UnexpectedHeader.{UnexpectedHeader}
use Rattle.ptl_types.specs.declared.entries.List.TheVariants.{Priority}
use Rattle.ptl_types.specs.Operations.{bytes_of}
use Rattle.ptl_types.specs.Elements.{part, written, combined}
use Rattle.ni_model.specs.declared.IndexedHeader.{IndexedHeader}
use Rattle.ni_model.specs.Headers.{found_in}
use Rattle.ni_model.specs.Append.{append_fault}
use Rattle.ni_model.specs.State.{State, parts_of}
use Rattle.ni_model.specs.Counts.{successes}
use Rattle.ni_model.specs.Calls.{me_append, ct_inc}
use Rattle.cuts.specs.view.Slots.{Slots, counter_at}
use Rattle.cuts.specs.view.Calls.{cell_entry}
use Rattle.plan_core.specs.declared.calls.OwnCell.{OwnCell}

-- the entry of an own cell
abbrev pub entry_of : Handle → OwnCell → Entry
entry_of ct c = cell_entry ct c.start c.length c.match_bits c.ignore_bits

-- ---- what came early

-- whole elements, where the cell has an operation
abbrev pub fits_elements : Option AtomicOp → ElemType → ℕ → Bool
fits_elements None ty n = true
fits_elements (Some o) ty n = n % bytes_of ty == 0

-- what a header brought is used: it lies within the cell, is no longer than the longest message of the plan to this rank, and is of whole
-- elements; the bytes of others are passed over
abbrev pub is_used : ℕ → OwnCell → UnexpectedHeader → Bool
is_used longest c u =
    nat_le (u.header.offset + u.delivered) c.length && (nat_le u.delivered longest && fits_elements c.op c.ty u.delivered)

-- the bytes of the cell, once those that came are written or combined
abbrev pub brought_by : Option AtomicOp → ElemType → List ℕ → List ℕ → List ℕ
brought_by None ty old new = new
brought_by (Some o) ty old new = combined o ty old new

-- the bytes at the header's place go into the cell
abbrev pub brought : OwnCell → UnexpectedHeader → List ℕ → List ℕ
brought c u memory =
    written (c.start + u.header.offset)
    (brought_by c.op c.ty (part (c.start + u.header.offset) u.delivered memory) (part u.place u.delivered memory)) memory

-- where they are used; parts that reach past the region are never met
abbrev pub lies_in : OwnCell → UnexpectedHeader → ℕ → Bool
lies_in c u size = nat_le (c.start + c.length) size && nat_le (u.place + u.delivered) size

-- one header
unfoldable pub bring : ℕ → OwnCell → UnexpectedHeader → List ℕ → List ℕ
bring longest c u memory = if is_used longest c u && lies_in c u (length memory) then brought c u memory else memory

-- these headers, one after the other
abbrev pub bring_all : ℕ → OwnCell → List IndexedHeader → List ℕ → List ℕ
bring_all longest c [] memory = memory
bring_all longest c (a ∷ hs) memory = bring_all longest c hs (bring longest c a.header memory)

-- ---- the cells

-- what the headers that the cell's entry finds brought is in the cell
abbrev pub with_brought : ℕ → Handle → OwnCell → State → State
with_brought longest ct c s = record s { memory = bring_all longest c (found_in 0 (entry_of ct c) s.headers.unexpected) s.memory }

-- and then its entry is appended; a refused append changes nothing
unfoldable pub cell_started : ℕ → (ℕ → ℕ) → Handle → OwnCell → State → State
cell_started longest f ct c s = (me_append (f s.entries_given) 0 Priority (entry_of ct c) (with_brought longest ct c s)).state

-- all cells, in order
abbrev pub cells_started : ℕ → Slots → List ℕ → List OwnCell → State → State
cells_started longest k cells [] s = s
cells_started longest k cells (c ∷ cs) s = cells_started longest k cells cs (cell_started longest k.me (counter_at k cells c.number) c s)

-- the host's count by one; a refused one changes nothing
abbrev pub go_raised : Handle → State → State
go_raised go s = (ct_inc go (successes 1) s).state

-- and then the go counter rises
abbrev pub rank_started : ℕ → Slots → List ℕ → ℕ → List OwnCell → State → State
rank_started longest k cells go own s = go_raised (counter_at k cells go) (cells_started longest k cells own s)

-- ---- what holds of each start of a plan's ranks

-- what each of these headers brought is used, and lies in a region of this size
abbrev pub AllUsed : ℕ → OwnCell → ℕ → List IndexedHeader → Type 0
AllUsed longest c size [] = Unit {0}
AllUsed longest c size (a ∷ hs) =
    (is_used longest c a.header ≡ true) × (lies_in c a.header size ≡ true) × AllUsed longest c size hs

-- cell by cell: each header that the cell's entry finds is used, and the append isn't refused
abbrev pub AreAccepted : ℕ → Slots → List ℕ → List OwnCell → State → Type 0
AreAccepted longest k cells [] s = Unit {0}
AreAccepted longest k cells (c ∷ cs) s =
    AllUsed longest c (length s.memory) (found_in 0 (entry_of (counter_at k cells c.number) c) s.headers.unexpected)
    × (append_fault 0 (entry_of (counter_at k cells c.number) c)
    (parts_of (with_brought longest (counter_at k cells c.number) c s)) ≡ None)
    × AreAccepted longest k cells cs (cell_started longest k.me (counter_at k cells c.number) c s)

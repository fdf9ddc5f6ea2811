-- What a step of a plan begins with, and the cells and links that steps are made of.
use Rattle.std.specs.Prelude.{ℕ, ◌+◌, ◌*◌, ◌/◌, ◌<◌, ◌≤◌, ◌≡◌, ◌^◌, List, Some, None, [], ◌∷◌, length, map, get_or}
use Rattle.std.specs.List.{flat_map}
use Rattle.ptl_types.specs.declared.elements.AtomicOp.{AtomicOp}
use Rattle.ptl_types.specs.declared.elements.ElemType.{ElemType}
use Rattle.ptl_types.specs.declared.elements.ElemType.TheVariants.{U8}
use Rattle.plan_core.specs.declared.Incoming.{Incoming}
use Rattle.plan_core.specs.declared.Part.{Part}
use Rattle.plan_core.specs.declared.LinkKind.TheVariants.{Put, Atomic, Bump}
use Rattle.plan_core.specs.Plan.{from_to}
use Rattle.plan_core.specs.Draw.{NewCell, new_cell}

-- its members (the rank of each place), the number of its first cell; for each place the exit of the step before and the cell
-- that holds A; A's type and length in bytes, and the places of the members that hold A
pub record StepContext : Type 0 where
  pub members : List ℕ
  pub first : ℕ
  pub exits : List ℕ
  pub sources : List ℕ
  pub ty : ElemType
  pub length : ℕ
  pub holding : List ℕ

-- how many members there are, the places, and the rank of a place
abbrev pub count : StepContext → ℕ
count s = length s.members

abbrev pub places : StepContext → List ℕ
places s = from_to 0 (count s)

abbrev pub rank_at : StepContext → ℕ → ℕ
rank_at s i = get_or s.members i 0

abbrev pub exit_at : StepContext → ℕ → ℕ
exit_at s i = get_or s.exits i 0

abbrev pub source_at : StepContext → ℕ → ℕ
source_at s i = get_or s.sources i 0

-- the bytes of a member's block of A, where A has one for each member
abbrev pub block_length : StepContext → ℕ
block_length s = s.length / count s

-- within the limits of descriptions and plans
pub record IsSite (s : StepContext) : Type 0 where
  pub some : 1 ≤ count s
  pub at_most : count s ≤ 256
  pub exits : length s.exits ≡ count s
  pub sources : length s.sources ≡ count s
  pub first : s.first < 2 ^ 24
  pub bytes : s.length ≤ 2 ^ 27
  pub holding : length s.holding ≤ count s
  pub low : (i : ℕ) → i < length s.holding → get_or s.holding i 0 < count s

-- ---- links
abbrev pub bump : ℕ → Incoming
bump c = record { source = c; source_offset = 0; length = 0; target_offset = 0; kind = Bump }

-- n bytes of cell c at `from`, to `at`
abbrev pub put : ℕ → ℕ → ℕ → ℕ → Incoming
put n c from at = record { source = c; source_offset = from; length = n; target_offset = at; kind = Put }

abbrev pub put_whole : ℕ → ℕ → Incoming
put_whole n c = put n c 0 0

abbrev pub atomic : ℕ → ℕ → Incoming
atomic n c = record { source = c; source_offset = 0; length = n; target_offset = 0; kind = Atomic }

-- ---- cells: without data, with n bytes of A's type, and one that combines
abbrev pub silent_part : ℕ → Part
silent_part r = record { rank = r; ty = U8; op = None; length = 0 }

abbrev pub holding_part : StepContext → ℕ → ℕ → Part
holding_part s n r = record { rank = r; ty = s.ty; op = None; length = n }

abbrev pub summing_part : StepContext → AtomicOp → ℕ → Part
summing_part s o r = record { rank = r; ty = s.ty; op = Some o; length = s.length }

abbrev pub silent : ℕ → List Incoming → NewCell
silent r into = new_cell (silent_part r) into

abbrev pub holding : StepContext → ℕ → ℕ → List Incoming → NewCell
holding s n r into = new_cell (holding_part s n r) into

abbrev pub summing : StepContext → AtomicOp → ℕ → List Incoming → NewCell
summing s o r into = new_cell (summing_part s o r) into

-- ---- entries: the step's first cells, one a place
abbrev pub entry : StepContext → ℕ → ℕ
entry s i = s.first + i

abbrev pub bare_entry : StepContext → ℕ → NewCell
bare_entry s i = silent (rank_at s i) (bump (exit_at s i) ∷ [])

abbrev pub full_entry : StepContext → ℕ → NewCell
full_entry s i = holding s s.length (rank_at s i) (bump (exit_at s i) ∷ put_whole s.length (source_at s i) ∷ [])

abbrev pub bare_entries : StepContext → List NewCell
bare_entries s = map (bare_entry s) (places s)

abbrev pub entries : StepContext → List NewCell
entries s = map (full_entry s) (places s)

-- the number of the cell at place r of row k, counted from the first entry, and of cell j after the entries
abbrev pub in_row : StepContext → ℕ → ℕ → ℕ
in_row s k r = s.first + (k * count s + r)

abbrev pub further : StepContext → ℕ → ℕ
further s j = s.first + (count s + j)

-- a row of cells for each k from a on, n rows, one cell a place in each
abbrev pub row : StepContext → (ℕ → ℕ → NewCell) → ℕ → List NewCell
row s f k = map (f k) (places s)

abbrev pub rows : StepContext → (ℕ → ℕ → NewCell) → ℕ → ℕ → List NewCell
rows s f a n = flat_map (row s f) (from_to a n)

-- Tables of what was found so far.
use Rattle.std.specs.Prelude.{ℕ, Bool, true, false, not, ◌≡◌, ◌<◌, ◌≤◌, ◌==◌, ◌&&◌, ◌||◌, ◌+◌, ◌-◌, ◌*◌, nat_lt, List, Option}
use Rattle.std.specs.Prelude.{Some, None, length, get_or, if◌then◌else◌}
use Rattle.std.specs.Int.{bit_at}
use Rattle.std.specs.List.{filter_map, list_any}
use Rattle.number_lists.specs.Numbers.{from_to}
use Rattle.coll_shape.specs.declared.limits.TheConstants.{MOST_BUFFERS, MOST_RANKS, MOST_STEPS}
use Rattle.given_lines.specs.declared.given.Mark.{Mark}
use Rattle.given_lines.specs.declared.given.Mark.TheVariants as marks
use Rattle.mark_judge.specs.declared.flaw.Due.{Due}
use Rattle.mark_judge.specs.declared.flaw.Due.TheVariants.{Result, Enter, Leave}
use Rattle.mark_judge.specs.declared.entry_bits.Bits.{Bits}
use Rattle.mark_judge.specs.declared.entries.Entry.{Entry}
use Rattle.mark_judge.specs.Bound.{is_bound}
use Rattle.mark_judge.specs.Due.{is_named}
use Rattle.mark_judge.specs.Leading.{leads}
use Rattle.plan_core.specs.Plan.{Plan, is_bump, link}

-- ---- what has a line
-- within the limits of descriptions
abbrev pub is_small : Due → Bool
is_small (Result b r) = nat_lt b MOST_BUFFERS && nat_lt r MOST_RANKS
is_small (Enter s r) = nat_lt s MOST_STEPS && nat_lt r MOST_RANKS
is_small (Leave s r) = nat_lt s MOST_STEPS && nat_lt r MOST_RANKS

-- a place for each: of results, of where barriers are entered, and of where they are left
abbrev pub place_of : Due → ℕ
place_of (Result b r) = b * MOST_RANKS + r
place_of (Enter s r) = (MOST_BUFFERS + s) * MOST_RANKS + r
place_of (Leave s r) = (MOST_BUFFERS + MOST_STEPS + s) * MOST_RANKS + r

abbrev pub places : ℕ
places = (MOST_BUFFERS + MOST_STEPS + MOST_STEPS) * MOST_RANKS

abbrev pub has : List Bool → Due → Bool
has named d = is_small d && get_or named (place_of d) false

-- the table tells which of them these lines are for
abbrev pub AreNamed : List Mark → List Bool → Type 0
AreNamed ms named = (d : Due) → has named d ≡ is_named ms d

-- ---- cells that can't be reached before their rank's start
-- link l is a message, or comes from a cell of which the table says that it is one of them
abbrev pub does_bind : Plan → List Bool → ℕ → Bool
does_bind p bound l = not (is_bump (link p l).kind) || get_or bound (link p l).source false

-- the table tells of each cell below n whether it is one
abbrev pub AreBound : Plan → ℕ → List Bool → Type 0
AreBound p n bound = (c : ℕ) → c < n → get_or bound c false ≡ is_bound p c

-- ---- where barriers are entered
-- the line names where a rank enters a step, in a cell of which the table doesn't say that it is reached after its rank's start alone
abbrev pub is_unbound : List Bool → Mark → Bool
is_unbound bound (marks.Enter s r c) = not (get_or bound c false)
is_unbound bound _ = false

abbrev pub no_entry : Entry
no_entry = record { step = 0; cell = 0 }

abbrev pub entry_at : List Entry → ℕ → Entry
entry_at es k = get_or es k no_entry

-- that of a line
abbrev pub entry_of : Mark → Option Entry
entry_of (marks.Enter s r c) = Some (record { step = s; cell = c })
entry_of _ = None

-- of these lines, in order
abbrev pub entries_in : List Mark → List Entry
entries_in ms = filter_map entry_of ms

-- one of the first n of these entries lies in a cell below `cells`: the table tells so
abbrev pub AreEntered : List Entry → ℕ → ℕ → List Bool → Type 0
AreEntered es n cells entered = (k : ℕ) → k < n → (entry_at es k).cell < cells → get_or entered (entry_at es k).cell false ≡ true

-- ---- roots: of each cell one that is reached from the same roots
-- of each cell below n a cell that is no later one and its own root; the roots that lead to the cell are those that lead to its root
pub record AreRoots (p : Plan) (n : ℕ) (roots : List ℕ) : Type 0 where
  pub low : (c : ℕ) → c < n → get_or roots c 0 ≤ c
  pub own : (c : ℕ) → c < n → get_or roots (get_or roots c 0) 0 ≡ get_or roots c 0
  pub same : (b c : ℕ) → c < n → (b < n → get_or roots b 0 ≡ b) → leads p b c ≡ leads p b (get_or roots c 0)

-- these entries lie in roots
abbrev pub AreKept : List Entry → ℕ → List ℕ → Type 0
AreKept es n roots = (k : ℕ) → k < length es → (entry_at es k).cell < n → get_or roots (entry_at es k).cell 0 ≡ (entry_at es k).cell

-- of each of the first n links, the root of the cell from which it comes
abbrev pub AreSources : Plan → List ℕ → ℕ → List ℕ → Type 0
AreSources p roots n sources = (l : ℕ) → l < n → get_or sources l 0 ≡ get_or roots (link p l).source 0

-- ---- a bit for each of up to 256 entries
abbrev pub no_bits : Bits
no_bits = record { low = 0; high = 0 }

abbrev pub has_bit : Bits → ℕ → Bool
has_bit bits k = if nat_lt k 128 then bit_at bits.low k == 1 else bit_at bits.high (k - 128) == 1

-- which of these entries lead to each cell, at its root
abbrev pub AreReached : Plan → List Entry → List ℕ → List Bits → Type 0
AreReached p es roots words = (c k : ℕ) → c < length p.cells → k < length es
    → has_bit (get_or words (get_or roots c 0) no_bits) k ≡ leads p (entry_at es k).cell c

-- which of them lie in each cell
abbrev pub AreBegun : List Entry → ℕ → List Bits → Type 0
AreBegun es cells words = (c k : ℕ) → c < cells → k < length es → has_bit (get_or words c no_bits) k ≡ ((entry_at es k).cell == c)

-- of each step, which of these entries are into it
abbrev pub AreMasks : List Entry → List Bits → Type 0
AreMasks es masks = (s k : ℕ) → s < length masks → k < length es → has_bit (get_or masks s no_bits) k ≡ ((entry_at es k).step == s)

-- entry k is one into step s and none of these
abbrev pub does_lack : Bits → List Entry → ℕ → ℕ → Bool
does_lack bits es s k = ((entry_at es k).step == s) && not (has_bit bits k)

-- one of them is
abbrev pub lacks_one : Bits → List Entry → ℕ → Bool
lacks_one bits es s = list_any (does_lack bits es s) (from_to 0 (length es))

-- the line names where a rank leaves a step, and one of these entries into it doesn't lead to the root of that cell
abbrev pub is_unmet : List ℕ → List Bits → List Entry → Mark → Bool
is_unmet roots words es (marks.Leave s r c) = lacks_one (get_or words (get_or roots c 0) no_bits) es s
is_unmet roots words es _ = false

-- it names where a rank leaves a step, and this entry is one into it and doesn't lead there
abbrev pub does_miss : Plan → Mark → Entry → Bool
does_miss p (marks.Leave s r c) e = (e.step == s) && not (leads p e.cell c)
does_miss p _ e = false

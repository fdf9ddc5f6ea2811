-- What is the first at fault in a plan, and why. Each row has a test, true where the plan is at fault, beside its cause.
use Rattle.std.specs.Prelude.{ℕ, Bool, true, false, not, ◌&&◌, ◌||◌, ◌==◌, ◌+◌, ◌-◌, ◌*◌, ◌/◌, ◌%◌, ◌^◌, nat_le, nat_lt, List, [], ◌∷◌}
use Rattle.std.specs.Prelude.{length}
use Rattle.std.specs.Prelude.{map, filter, sum_by, get_or, Option, Some, None, option_map, is_some, is_none, if◌then◌else◌}
use Rattle.std.specs.List.{list_any}
use Rattle.std.specs.Option.{option_or}
use Rattle.ptl_types.specs.declared.elements.ElemType.{ElemType}
use Rattle.ptl_types.specs.Operations.{bytes_of, is_signed}
use Rattle.plan_core.specs.declared.Cell.{Cell}
use Rattle.plan_core.specs.declared.Link.{Link}
use Rattle.plan_core.specs.declared.LinkKind.{LinkKind}
use Rattle.plan_core.specs.declared.LinkKind.TheVariants.{Put, Atomic, Bump}
use Rattle.plan_core.specs.Plan.{Plan, all_cells, all_links, cell, in_links, is_atomic, is_bump, link}
use Rattle.plan_core.specs.Sound.{put_bytes}
use Rattle.plan_judge.specs.declared.flaw.Flaw.{Flaw}
use Rattle.plan_judge.specs.declared.flaw.Flaw.TheVariants as flaws
use Rattle.plan_judge.specs.declared.flaw.PlanCause.{PlanCause}
use Rattle.plan_judge.specs.declared.flaw.PlanCause.TheVariants.{NoRank, TooManyRanks, MissingCells, TooManyCells, TooManyLinks}
use Rattle.plan_judge.specs.declared.flaw.PlanCause.TheVariants.{TooManyBytes}
use Rattle.plan_judge.specs.declared.flaw.CellCause.{CellCause}
use Rattle.plan_judge.specs.declared.flaw.CellCause.TheVariants.{BadRank, PartElement, BadGo, Needs, BadInput, Unguarded, NotCovered}
use Rattle.plan_judge.specs.declared.flaw.CellCause.TheVariants.{Overlap}
use Rattle.plan_judge.specs.declared.flaw.LinkCause.{LinkCause}
use Rattle.plan_judge.specs.declared.flaw.LinkCause.TheVariants.{NotRising, OutOfSource, OutOfTarget, BadBump, NotAtomic, BadAtomic}
use Rattle.plan_judge.specs.declared.flaw.LinkCause.TheVariants.{ToInput}
use Rattle.plan_judge.specs.Guards.{is_guarded}

-- the cause of the first row whose test is true
abbrev pub first_cause : {A : Type 0} → List (Bool × A) → Option A
first_cause [] = None
first_cause (row ∷ rows) = if row.0 then Some row.1 else first_cause rows

-- what is found first among these
abbrev pub first_found : {A B : Type 0} → (A → Option B) → List A → Option B
first_found find [] = None
first_found find (x ∷ xs) = option_or (find x) (first_found find xs)

-- ---- the plan as a whole

-- so many cells are go cells or hold inputs; all others come after them
abbrev pub first_other : Plan → List ℕ → ℕ
first_other p lengths = p.ranks + length lengths * p.ranks

abbrev pub plan_rows : Plan → List ℕ → List (Bool × PlanCause)
plan_rows p lengths =
    (p.ranks == 0, NoRank)
    ∷ (nat_lt 256 p.ranks, TooManyRanks)
    ∷ (nat_lt (length p.cells) (first_other p lengths), MissingCells)
    ∷ (nat_le (2 ^ 24) (length p.cells), TooManyCells)
    ∷ (nat_le (2 ^ 32 - 1) (length p.cells + length p.links), TooManyLinks)
    ∷ (nat_le (2 ^ 64) (sum_by (λ k. k.length) p.cells + sum_by (λ k. k.length) p.links), TooManyBytes)
    ∷ []

-- ---- a cell

-- a go cell lies on its rank, holds nothing, needs the one increment of its host, and no link comes to it
abbrev pub is_go : Plan → ℕ → Bool
is_go p c = ((cell p c).rank == c) && ((cell p c).length == 0) && ((cell p c).needs == 1) && (length (in_links p c) == 0)

-- one message or increment a link
abbrev pub needs_its_links : Plan → ℕ → Bool
needs_its_links p c = (cell p c).needs == length (in_links p c)

-- input cell number i, input by input and by rank in each, combines nothing, lies on its rank, and is as long as its list
abbrev pub is_input_cell : Plan → List ℕ → ℕ → Bool
is_input_cell p lengths i =
    is_none (cell p (p.ranks + i)).op
    && ((cell p (p.ranks + i)).rank == i % p.ranks)
    && ((cell p (p.ranks + i)).length == get_or lengths (i / p.ranks) 0)

-- the part of its target that a link writes: where it begins, and how many bytes it has
abbrev pub part_of : Link → ℕ × ℕ
part_of k = (k.target_offset, k.length)

abbrev pub is_put : LinkKind → Bool
is_put Put = true
is_put _ = false

-- the parts that the puts among these links write
abbrev pub put_parts : Plan → List ℕ → List (ℕ × ℕ)
put_parts p links = map (λ l. part_of (link p l)) (filter (λ l. is_put (link p l).kind) links)

-- one of two parts ends before the other begins
abbrev pub are_apart : ℕ × ℕ → ℕ × ℕ → Bool
are_apart x y = nat_le (x.0 + x.1) y.0 || nat_le (y.0 + y.1) x.0

-- two of these parts aren't apart
abbrev pub overlap : List (ℕ × ℕ) → Bool
overlap [] = false
overlap (x ∷ xs) = list_any (λ y. not (are_apart x y)) xs || overlap xs

abbrev pub go_rows : Plan → ℕ → List (Bool × CellCause)
go_rows p c = (not (is_go p c), BadGo) ∷ []

abbrev pub input_rows : Plan → List ℕ → ℕ → List (Bool × CellCause)
input_rows p lengths c =
    (not (needs_its_links p c), Needs)
    ∷ (not (is_input_cell p lengths (c - p.ranks)), BadInput)
    ∷ (not (is_guarded p c), Unguarded)
    ∷ []

-- the puts to a cell that combines nothing have its bytes together, and no byte twice
abbrev pub other_rows : Plan → ℕ → List (Bool × CellCause)
other_rows p c =
    (not (needs_its_links p c), Needs)
    ∷ (is_none (cell p c).op && not (put_bytes p c == (cell p c).length), NotCovered)
    ∷ (is_none (cell p c).op && overlap (put_parts p (in_links p c)), Overlap)
    ∷ []

abbrev pub rows_of_its_kind : Plan → List ℕ → ℕ → List (Bool × CellCause)
rows_of_its_kind p lengths c =
    if nat_lt c p.ranks then go_rows p c else if nat_lt c (first_other p lengths) then input_rows p lengths c else other_rows p c

abbrev pub cell_rows : Plan → List ℕ → ℕ → List (Bool × CellCause)
cell_rows p lengths c =
    (nat_le p.ranks (cell p c).rank, BadRank)
    ∷ (not ((cell p c).length % bytes_of (cell p c).ty == 0), PartElement)
    ∷ rows_of_its_kind p lengths c

-- ---- a link k, from the cell s to the cell t

-- of one size, and both signed or both not
abbrev pub same_type : ElemType → ElemType → Bool
same_type a b = (bytes_of a == bytes_of b) && ((is_signed a && is_signed b) || not (is_signed a || is_signed b))

-- from a lower cell to a higher one, of so many cells
abbrev pub is_rising : Link → ℕ → Bool
is_rising k cells = nat_lt k.source k.target && nat_lt k.target cells

-- it stays on its rank and carries nothing
abbrev pub is_bare : Link → Cell → Cell → Bool
is_bare k s t = (s.rank == t.rank) && (k.length == 0)

-- over the whole of a cell that combines, from a cell of its type and length
abbrev pub is_whole : Link → Cell → Cell → Bool
is_whole k s t =
    is_some t.op && (k.target_offset == 0) && (k.length == t.length) && same_type s.ty t.ty && (s.length == t.length)

-- the cells below `others` are go cells or hold inputs
abbrev pub rows_between : Link → Cell → Cell → ℕ → List (Bool × LinkCause)
rows_between k s t others =
    (nat_lt s.length (k.source_offset + k.length), OutOfSource)
    ∷ (nat_lt t.length (k.target_offset + k.length), OutOfTarget)
    ∷ (is_bump k.kind && not (is_bare k s t), BadBump)
    ∷ (is_some t.op && not (is_atomic k.kind), NotAtomic)
    ∷ (is_atomic k.kind && not (is_whole k s t), BadAtomic)
    ∷ (nat_lt k.target others && not (is_bump k.kind), ToInput)
    ∷ []

abbrev pub link_rows : Plan → ℕ → ℕ → List (Bool × LinkCause)
link_rows p others l =
    (not (is_rising (link p l) (length p.cells)), NotRising)
    ∷ rows_between (link p l) (cell p (link p l).source) (cell p (link p l).target) others

-- ---- all of them

abbrev pub plan_flaw : Plan → List ℕ → Option Flaw
plan_flaw p lengths = option_map (λ cause. flaws.Plan cause) (first_cause (plan_rows p lengths))

abbrev pub cell_flaw : Plan → List ℕ → ℕ → Option Flaw
cell_flaw p lengths c = option_map (λ cause. flaws.Cell c cause) (first_cause (cell_rows p lengths c))

abbrev pub link_flaw : Plan → List ℕ → ℕ → Option Flaw
link_flaw p lengths l = option_map (λ cause. flaws.Link l cause) (first_cause (link_rows p (first_other p lengths) l))

-- The first flaw of a plan for inputs whose lists have so many bytes: of the plan as a whole, then of its cells in order, then of its
-- links.
abbrev pub judged : Plan → List ℕ → Option Flaw
judged p lengths =
    option_or (plan_flaw p lengths)
    (option_or (first_found (cell_flaw p lengths) (all_cells p)) (first_found (link_flaw p lengths) (all_links p)))

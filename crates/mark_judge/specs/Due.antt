-- What the lines after a plan are for, and which of them a description asks for: a result of each buffer that is printed at each rank
-- that holds a list, and of each member of a barrier where it enters and where it leaves.
use Rattle.std.specs.Prelude.{ℕ, Bool, true, false, ◌==◌, ◌&&◌, nat_lt, List, length, get_or}
use Rattle.std.specs.List.{list_any}
use Rattle.coll_shape.specs.Collectives.{is_in}
use Rattle.coll_shape.specs.Outline.{Outline, buffer_at, group_at, list_bytes, step_at}
use Rattle.coll_shape.specs.declared.types.CollStep.{CollStep}
use Rattle.coll_shape.specs.declared.types.CollStep.TheVariants.{Barrier}
use Rattle.given_lines.specs.declared.given.Mark.{Mark}
use Rattle.given_lines.specs.declared.given.Mark.TheVariants as marks
use Rattle.mark_judge.specs.declared.flaw.Due.{Due}
use Rattle.mark_judge.specs.declared.flaw.Due.TheVariants.{Result, Enter, Leave}
use Rattle.plan_core.specs.Plan.{Plan, cell}
use Rattle.plan_judge.specs.Causes.{same_type}

-- ---- a line
-- what it is for
abbrev pub due_of : Mark → Due
due_of (marks.Result b r c) = Result b r
due_of (marks.Enter s r c) = Enter s r
due_of (marks.Leave s r c) = Leave s r

-- the cell that it names
abbrev pub cell_of : Mark → ℕ
cell_of (marks.Result b r c) = c
cell_of (marks.Enter s r c) = c
cell_of (marks.Leave s r c) = c

-- past the last
abbrev pub no_mark : Mark
no_mark = marks.Result 0 0 0

abbrev pub mark_at : List Mark → ℕ → Mark
mark_at ms i = get_or ms i no_mark

-- two are for the same
abbrev pub is_same : Due → Due → Bool
is_same (Result b r) (Result a q) = (b == a) && (r == q)
is_same (Enter s r) (Enter t q) = (s == t) && (r == q)
is_same (Leave s r) (Leave t q) = (s == t) && (r == q)
is_same _ _ = false

-- one of these lines is for it
abbrev pub is_named : List Mark → Due → Bool
is_named ms d = list_any (λ m. is_same d (due_of m)) ms

-- ---- what is asked for
abbrev pub is_barrier : CollStep → Bool
is_barrier Barrier = true
is_barrier _ = false

-- step s is a barrier of the description
abbrev pub is_barrier_at : Outline → ℕ → Bool
is_barrier_at o s = nat_lt s (length o.steps) && is_barrier (step_at o s)

abbrev pub is_due : Outline → Due → Bool
is_due o (Result b r) = is_in b o.prints && is_in r (buffer_at o b).spread.holders
is_due o (Enter s r) = is_barrier_at o s && is_in r (group_at o s)
is_due o (Leave s r) = is_barrier_at o s && is_in r (group_at o s)

-- ---- which cell may be named
-- it is one of the plan, on rank r
abbrev pub is_on : Plan → ℕ → ℕ → Bool
is_on p r c = nat_lt c (length p.cells) && ((cell p c).rank == r)

-- it has the type of buffer b and the bytes of a list of it
abbrev pub is_list_of : Plan → Outline → ℕ → ℕ → Bool
is_list_of p o b c = same_type (cell p c).ty (buffer_at o b).ty && ((cell p c).length == list_bytes (buffer_at o b))

abbrev pub does_fit : Plan → Outline → Due → ℕ → Bool
does_fit p o (Result b r) c = is_on p r c && is_list_of p o b c
does_fit p o (Enter s r) c = is_on p r c
does_fit p o (Leave s r) c = is_on p r c

-- a line that is asked for and names a cell that fits
abbrev pub is_good : Plan → Outline → Mark → Bool
is_good p o m = is_due o (due_of m) && does_fit p o (due_of m) (cell_of m)

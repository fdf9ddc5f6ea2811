-- What the lines after the links of a plan say where none is at fault.
use Rattle.std.specs.Prelude.{ℕ, ◌≡◌, ◌<◌, List, length, get_or}
use Rattle.coll_shape.specs.Outline.{Outline, buffer_at, group_at, list_bytes, step_at}
use Rattle.coll_shape.specs.declared.types.CollStep.TheVariants.{Barrier}
use Rattle.cuts.specs.machine.Machine.{Leads}
use Rattle.given_lines.specs.declared.given.Mark.{Mark}
use Rattle.given_lines.specs.declared.given.Mark.TheVariants as marks
use Rattle.mark_judge.specs.declared.flaw.Due.{Due}
use Rattle.mark_judge.specs.declared.flaw.Due.TheVariants.{Result, Enter, Leave}
use Rattle.mark_judge.specs.Bound.{IsBound}
use Rattle.mark_judge.specs.Due.{cell_of, due_of, mark_at}
use Rattle.plan_core.specs.calls.RankOps.{done_threshold}
use Rattle.plan_core.specs.Members.{In}
use Rattle.plan_core.specs.Plan.{Plan, cell}

-- rank r is a member of the barrier that is step s
abbrev pub IsMember : Outline → ℕ → ℕ → Type 0
IsMember o s r = (s < length o.steps) × (step_at o s ≡ Barrier) × In r (group_at o s)

-- the description asks for it
abbrev pub IsDue : Outline → Due → Type 0
IsDue o (Result b r) = In b o.prints × In r (buffer_at o b).spread.holders
IsDue o (Enter s r) = IsMember o s r
IsDue o (Leave s r) = IsMember o s r

-- cell c lies on rank r
abbrev pub IsOn : Plan → ℕ → ℕ → Type 0
IsOn p r c = (c < length p.cells) × ((cell p c).rank ≡ r)

-- cell c may be named for it
abbrev pub DoesFit : Plan → Outline → Due → ℕ → Type 0
DoesFit p o (Result b r) c = IsOn p r c × ((cell p c).ty ≡ (buffer_at o b).ty) × ((cell p c).length ≡ list_bytes (buffer_at o b))
DoesFit p o (Enter s r) c = IsOn p r c
DoesFit p o (Leave s r) c = IsOn p r c

-- each done counter is said to stand where it does; there is one line for each thing that the description asks for, and none for
-- another; each names a cell that fits; no member enters a barrier before its rank's start; and from where a member enters one links lead
-- to where any member leaves it
pub record AreMarked (p : Plan) (o : Outline) (said : List ℕ) (ms : List Mark) : Type 0 where
  pub done : (r : ℕ) → r < p.ranks → get_or said r 0 ≡ done_threshold p r
  pub due : (i : ℕ) → i < length ms → IsDue o (due_of (mark_at ms i))
  pub fit : (i : ℕ) → i < length ms → DoesFit p o (due_of (mark_at ms i)) (cell_of (mark_at ms i))
  pub once : (i j : ℕ) → i < j → j < length ms → due_of (mark_at ms i) ≡ due_of (mark_at ms j) → ⊥
  pub all : (d : Due) → IsDue o d → (i : ℕ) × (i < length ms) × (due_of (mark_at ms i) ≡ d)
  pub begun : (s r c : ℕ) → In (marks.Enter s r c) ms → IsBound p c
  pub closed : (s r q b c : ℕ) → In (marks.Enter s r b) ms → In (marks.Leave s q c) ms → Leads p b c

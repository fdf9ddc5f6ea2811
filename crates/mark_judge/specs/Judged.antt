-- What is the first at fault in the lines after the links of a plan.
use Rattle.std.specs.Prelude.{ℕ, Bool, false, not, ◌==◌, ◌&&◌, List, Option, Some, None, if◌then◌else◌, length, get_or, take}
use Rattle.std.specs.List.{list_any}
use Rattle.std.specs.Option.{option_or}
use Rattle.number_lists.specs.Numbers.{from_to}
use Rattle.coll_shape.specs.Outline.{Outline, buffer_at, group_at}
use Rattle.given_lines.specs.declared.given.Mark.{Mark}
use Rattle.given_lines.specs.declared.given.Mark.TheVariants as marks
use Rattle.mark_judge.specs.declared.flaw.Due.{Due}
use Rattle.mark_judge.specs.declared.flaw.Due.TheVariants as dues
use Rattle.mark_judge.specs.declared.flaw.MarkFlaw.{MarkFlaw}
use Rattle.mark_judge.specs.declared.flaw.MarkFlaw.TheVariants.{BadDone, BadResult, NoResult, EarlyEntry, BarrierOpen}
use Rattle.mark_judge.specs.Bound.{is_bound}
use Rattle.mark_judge.specs.Due.{due_of, is_barrier_at, is_good, is_named, mark_at}
use Rattle.mark_judge.specs.Leading.{leads}
use Rattle.plan_core.specs.calls.RankOps.{done_threshold}
use Rattle.plan_core.specs.Plan.{Plan}
use Rattle.plan_judge.specs.Causes.{first_found}

-- ---- where a rank's done counter stands when it is done
abbrev pub done_flaw : Plan → List ℕ → ℕ → Option MarkFlaw
done_flaw p done r = if get_or done r 0 == done_threshold p r then None else Some (BadDone r)

-- ---- line i after the `done` lines: it is asked for, names a cell that fits, and no line before it is for the same
abbrev pub line_flaw : Plan → Outline → List Mark → ℕ → Option MarkFlaw
line_flaw p o ms i =
    if is_good p o (mark_at ms i) && not (is_named (take i ms) (due_of (mark_at ms i))) then None else Some (BadResult i)

-- ---- what is asked for and missing, where this tells what has a line
abbrev pub missing : (Due → Bool) → Due → Option MarkFlaw
missing named d = if named d then None else Some (NoResult d)

-- by the order of prints, and by ranks
abbrev pub missing_results : Outline → (Due → Bool) → Option MarkFlaw
missing_results o named =
    first_found (λ b. first_found (λ r. missing named (dues.Result b r)) (buffer_at o b).spread.holders) o.prints

abbrev pub missing_member : (Due → Bool) → ℕ → ℕ → Option MarkFlaw
missing_member named s r = option_or (missing named (dues.Enter s r)) (missing named (dues.Leave s r))

abbrev pub missing_at : Outline → (Due → Bool) → ℕ → Option MarkFlaw
missing_at o named s = if is_barrier_at o s then first_found (missing_member named s) (group_at o s) else None

-- by the order of steps, and by members
abbrev pub missing_barriers : Outline → (Due → Bool) → Option MarkFlaw
missing_barriers o named = first_found (missing_at o named) (from_to 0 (length o.steps))

-- ---- a barrier
-- the line names where a rank enters a step, in a cell that may be reached before that rank's start
abbrev pub is_early : Plan → Mark → Bool
is_early p (marks.Enter s r c) = not (is_bound p c)
is_early p _ = false

abbrev pub early_flaw : Plan → List Mark → ℕ → Option MarkFlaw
early_flaw p ms i = if is_early p (mark_at ms i) then Some (EarlyEntry i) else None

-- the line names where a rank enters step s, from where no chain of links leads to cell c
abbrev pub is_apart : Plan → ℕ → ℕ → Mark → Bool
is_apart p s c (marks.Enter t r b) = (t == s) && not (leads p b c)
is_apart p s c _ = false

-- the line names where a rank leaves a step, and not every rank need have entered it
abbrev pub is_open : Plan → List Mark → Mark → Bool
is_open p ms (marks.Leave s r c) = list_any (is_apart p s c) ms
is_open p ms _ = false

abbrev pub open_flaw : Plan → List Mark → ℕ → Option MarkFlaw
open_flaw p ms i = if is_open p ms (mark_at ms i) then Some (BarrierOpen i) else None

-- of those where ranks enter, then of those where they leave
abbrev pub barriers_flaw : Plan → List Mark → Option MarkFlaw
barriers_flaw p ms =
    option_or (first_found (early_flaw p ms) (from_to 0 (length ms))) (first_found (open_flaw p ms) (from_to 0 (length ms)))

-- ---- all of them

-- of the lines one by one, in order, then of what is missing, then of the barriers
abbrev pub marks_flaw : Plan → Outline → List Mark → Option MarkFlaw
marks_flaw p o ms =
    option_or (first_found (line_flaw p o ms) (from_to 0 (length ms)))
    (option_or (missing_results o (is_named ms))
    (option_or (missing_barriers o (is_named ms)) (barriers_flaw p ms)))

-- The first flaw of the lines after the links of a plan, for a description.
abbrev pub marks_judged : Plan → Outline → List ℕ → List Mark → Option MarkFlaw
marks_judged p o done ms = option_or (first_found (done_flaw p done) (from_to 0 p.ranks)) (marks_flaw p o ms)

-- The cells that the lines after a shape's own plan name: those of the results, and those at which barriers are entered and left.
use Rattle.std.specs.Prelude.{ℕ, ◌+◌, ◌*◌, List, [], ◌∷◌, ◌++◌, Option, Some, None, length, get_or, take, if◌then◌else◌}
use Rattle.std.specs.List.{flat_map}
use Rattle.number_lists.specs.Numbers.{from_to}
use Rattle.coll_shape.specs.Collectives.{is_in}
use Rattle.coll_shape.specs.Outline.{Outline, group_at, step_at}
use Rattle.coll_shape.specs.declared.types.CollStep.{CollStep}
use Rattle.coll_shape.specs.declared.types.CollStep.TheVariants.{Barrier}
use Rattle.plan_core.specs.Draw.{HeldCells, held_cell}
use Rattle.plan_core.specs.Plan.{Plan}
use Rattle.plan_steps.specs.Rounds.{rounds}
use Rattle.schedule_compiler.specs.shapes.Drawing.{drawing_of, drawn_upto, plan_of}
use Rattle.given_lines.specs.declared.given.Mark.{Mark}
use Rattle.given_lines.specs.declared.given.Mark.TheVariants as marks

-- ---- results

-- the cell that holds buffer b at rank r, where one does
abbrev pub result_mark : ℕ → ℕ → Option ℕ → List Mark
result_mark b r None = []
result_mark b r (Some c) = marks.Result b r c ∷ []

-- rank by rank
abbrev pub buffer_marks : ℕ → HeldCells → ℕ → List Mark
buffer_marks ranks held b = flat_map (λ r. result_mark b r (held_cell held b r)) (from_to 0 ranks)

abbrev pub print_at : Outline → ℕ → ℕ
print_at o i = get_or o.prints i 0

-- of the buffer that print i names, unless an earlier one names it
abbrev pub print_marks : Outline → HeldCells → ℕ → List Mark
print_marks o held i = if is_in (print_at o i) (take i o.prints) then [] else buffer_marks o.ranks held (print_at o i)

abbrev pub result_marks : Outline → HeldCells → List Mark
result_marks o held = flat_map (print_marks o held) (from_to 0 (length o.prints))

-- ---- barriers

-- The cells of a barrier follow one another, one a member in each row. The member at place i enters at its cell of the first row, and
-- leaves at its cell of the last.
abbrev pub member_marks : ℕ → ℕ → List ℕ → ℕ → List Mark
member_marks s first g i =
    marks.Enter s (get_or g i 0) (first + i) ∷ marks.Leave s (get_or g i 0) (first + (rounds (length g) * length g + i)) ∷ []

abbrev pub row_marks : ℕ → ℕ → List ℕ → List Mark
row_marks s first g = flat_map (member_marks s first g) (from_to 0 (length g))

-- the first cell of step s
abbrev pub first_cell : Outline → ℕ → ℕ
first_cell o s = length (drawn_upto o s).plan.cells

-- no other step has such cells
abbrev pub of_barrier : CollStep → List Mark → List Mark
of_barrier Barrier ms = ms
of_barrier _ ms = []

abbrev pub step_marks : Outline → ℕ → List Mark
step_marks o s = of_barrier (step_at o s) (row_marks s (first_cell o s) (group_at o s))

abbrev pub barrier_marks : Outline → List Mark
barrier_marks o = flat_map (step_marks o) (from_to 0 (length o.steps))

-- ---- all of them: by the order of prints and by ranks, and by the order of steps and by members

unfoldable pub marks_of : Outline → List Mark
marks_of o = result_marks o (drawing_of o).held ++ barrier_marks o

-- a plan and the cells that its lines name
pub record Marked : Type 0 where
  pub plan : Plan
  pub marks : List Mark

abbrev pub marked_of : Outline → Marked
marked_of o = record { plan = plan_of o; marks = marks_of o }

-- The lines of a rank.
use Rattle.std.specs.Prelude.{ℕ, List, [], Option, Some, None, get_or}
use Rattle.std.specs.List.{flat_map}
use Rattle.ptl_types.specs.Elements.{part}
use Rattle.coll_shape.specs.Outline.{Outline, buffer_at}
use Rattle.cuts.specs.cells.Cells.{result_in}
use Rattle.run_text.specs.Lines.{result_line}
use Rattle.schedule_compiler.specs.declared.schedule.Place.{Place}
use Rattle.schedule_compiler.specs.Schedules.{ScheduleOf}

-- the line of buffer b at rank r, whose list this is
abbrev pub print_line : Outline → ℕ → ℕ → List ℕ → List ℕ
print_line o r b list = result_line (buffer_at o b).name r (buffer_at o b).ty list

-- as a schedule's cells hold the list, in this memory of rank r
abbrev pub own_line : Outline → ScheduleOf → ℕ → List ℕ → ℕ → List ℕ
own_line o s r memory b = print_line o r b (result_in s.plan s.held b r memory)

-- its list of each buffer that is printed, in order
abbrev pub own_lines : Outline → ScheduleOf → ℕ → List ℕ → List ℕ
own_lines o s r memory = flat_map (own_line o s r memory) o.prints

-- ---- by places

-- what a rank prints of its memory: the list of each buffer, where it lies
pub record PrintsOf : Type 0 where
  pub shape : Outline
  pub rank : ℕ
  pub places : List (Option Place)

-- what lies there
abbrev pub part_at : Option Place → List ℕ → List ℕ
part_at None memory = []
part_at (Some place) memory = part place.start place.length memory

abbrev pub placed_line : PrintsOf → List ℕ → ℕ → List ℕ
placed_line x memory b = print_line x.shape x.rank b (part_at (get_or x.places b None) memory)

abbrev pub placed_lines : PrintsOf → List ℕ → List ℕ
placed_lines x memory = flat_map (placed_line x memory) x.shape.prints

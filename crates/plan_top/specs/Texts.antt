-- The text of a plan with the lines that name its cells.
use Rattle.std.specs.Prelude.{ℕ, List, [], ◌∷◌, ◌++◌, get_or, codes}
use Rattle.std.specs.List.{flat_map}
use Rattle.std.specs.Fmt.{decimal}
use Rattle.number_lists.specs.Numbers.{from_to}
use Rattle.coll_text.specs.Text.{line}
use Rattle.coll_shape.specs.Outline.{no_buffer}
use Rattle.coll_shape.specs.declared.types.Buffer.{Buffer}
use Rattle.given_lines.specs.declared.given.Mark.{Mark}
use Rattle.given_lines.specs.declared.given.Mark.TheVariants.{Result, Enter, Leave}
use Rattle.run_text.specs.Plans.{done_line_of, drawn_text, plan_line}
use Rattle.run_text.specs.declared.plans.PlanLine.TheVariants.{EndLine}
use Rattle.marked_plans.specs.Marks.{Marked}

-- `result NAME RANK CELL`, `enter STEP RANK CELL` or `leave STEP RANK CELL`
abbrev pub mark_line : List Buffer → Mark → List ℕ
mark_line buffers (Result b r c) = line (codes "result" ∷ (get_or buffers b no_buffer).name ∷ decimal r ∷ decimal c ∷ [])
mark_line buffers (Enter s r c) = line (codes "enter" ∷ decimal s ∷ decimal r ∷ decimal c ∷ [])
mark_line buffers (Leave s r c) = line (codes "leave" ∷ decimal s ∷ decimal r ∷ decimal c ∷ [])

-- the plan, where each rank's done counter stands when it is done, the named cells, and the end
abbrev pub marked_text : List Buffer → Marked → List ℕ
marked_text buffers m =
    drawn_text m.plan
    ++ (flat_map (done_line_of m.plan) (from_to 0 m.plan.ranks) ++ (flat_map (mark_line buffers) m.marks ++ plan_line EndLine))

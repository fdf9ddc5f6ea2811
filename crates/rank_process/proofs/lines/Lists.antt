-- A rank's list of a buffer, by where it lies.
use Rattle.std.proofs.Common.{ℕ, suc, ◌+◌, ◌≡◌, ◌<◌, List, [], ◌∷◌, ◌++◌, Option, None, Some, refl, ap, ap₂, ◌∙◌, arith, length, get_or}
use Rattle.std.specs.List.{flat_map}
use Rattle.std.specs.Option.{option_map}
use Rattle.plan_core.specs.Draw.{held_cell}
use Rattle.plan_core.specs.Plan.{Plan}
use Rattle.plan_core.proofs.Drawing.{length-row}
use Rattle.plan_tables.proofs.Passes.{get-row}
use Rattle.coll_shape.specs.Outline.{Outline}
use Rattle.coll_shape.specs.WellFormed.{IsWellFormed}
use Rattle.cuts.specs.cells.Cells.{cell_part, result_in}
use Rattle.schedule_compiler.specs.Answers.{place_of}
use Rattle.schedule_compiler.specs.Schedules.{ScheduleOf}
use Rattle.rank_process.specs.lines.Lines.{own_line, own_lines, part_at, placed_line, placed_lines, print_line}
use Rattle.rank_process.specs.lines.Places.{place_held, places_in}

-- lines that agree, one by one
pub same-each : (f g : ℕ → List ℕ) (xs : List ℕ) → ((i : ℕ) → i < length xs → f (get_or xs i 0) ≡ g (get_or xs i 0))
    → flat_map f xs ≡ flat_map g xs
same-each f g [] same = refl
same-each f g (x ∷ xs) same =
    ap₂ (λ (a b : List ℕ). a ++ b) (same 0 (omega arith)) (same-each f g xs (λ i h. same (suc i) (omega (arith, h))))

part-is : (p : Plan) (memory : List ℕ) (x : Option ℕ) → part_at (option_map (place_of p) x) memory ≡ cell_part p memory x
part-is p memory None = refl
part-is p memory (Some c) = refl

pub as-many : (s : ScheduleOf) (r : ℕ) → length (places_in s r) ≡ s.held.buffers
as-many s r = length-row (place_held s r) 0 s.held.buffers

-- what lies there is the list
list-is : (s : ScheduleOf) (r : ℕ) (memory : List ℕ) (b : ℕ) → b < s.held.buffers
    → part_at (get_or (places_in s r) b None) memory ≡ result_in s.plan s.held b r memory
list-is s r memory b h =
    ap (λ x. part_at x memory) (get-row (place_held s r) s.held.buffers b None h) ∙ part-is s.plan memory (held_cell s.held b r)

-- so the lines by places are the rank's lines
pub own-lines : (o : Outline) (s : ScheduleOf) (r : ℕ) (memory : List ℕ) → IsWellFormed o → s.held.buffers ≡ length o.buffers
    → placed_lines (record { shape = o; rank = r; places = places_in s r }) memory ≡ own_lines o s r memory
own-lines o s r memory formed many =
    same-each (placed_line (record { shape = o; rank = r; places = places_in s r }) memory) (own_line o s r memory) o.prints
    (λ i h. let b = get_or o.prints i 0 in
    let inside = formed.shape.printed i h in
    ap (print_line o r b) (list-is s r memory b (omega (arith, inside, many))))

-- The text of a plan that is given, and the first line of it at fault.
use Rattle.std.specs.Prelude.{ℕ, Bool, zero, suc, ◌+◌, List, [], ◌∷◌, Option, Some, None, Result, Ok, Err, if◌then◌else◌, codes}
use Rattle.std.specs.Str.{bytes_eq}
use Rattle.coll_text.specs.Text.{is_empty, words}
use Rattle.coll_shape.specs.declared.types.Buffer.{Buffer}
use Rattle.plan_core.specs.declared.Cell.{Cell}
use Rattle.plan_core.specs.declared.Link.{Link}
use Rattle.plan_core.specs.Plan.{Plan}
use Rattle.given_lines.specs.declared.fault.GivenRefusal.{GivenRefusal}
use Rattle.given_lines.specs.declared.fault.GivenRefusal.TheVariants.{AfterEnd, BadPlan, Unended}
use Rattle.given_lines.specs.declared.given.Counts.{Counts}
use Rattle.given_lines.specs.declared.given.Mark.{Mark}
use Rattle.given_lines.specs.Words.{bounded_links, cell_of, counts_of, done_of, link_of, mark_of}

-- what a text says: a plan, where each rank's done counter stands when it is done, and the cells that results and barriers name
pub record Given : Type 0 where
  pub plan : Plan
  pub done : List ℕ
  pub marks : List Mark

abbrev pub given : ℕ → Bool → List Cell → List Link → List ℕ → List Mark → Given
given ranks remote cells links done marks =
    record { plan = record { ranks = ranks; remote = remote; cells = cells; links = links }; done = done; marks = marks }

-- what is read, or a line with the name of its refusal
abbrev pub Read : Type 0 → Type 0
Read A = Result A (ℕ × GivenRefusal)

abbrev pub and_then : {A B : Type 0} → Read A → (A → Read B) → Read B
and_then (Err refusal) next = Err refusal
and_then (Ok x) next = next x

-- what line k says, if it says something
abbrev pub unless_bad : {A : Type 0} → ℕ → Option A → Read A
unless_bad k None = Err (k, BadPlan)
unless_bad k (Some x) = Ok x

abbrev pub at_line : {A : Type 0} → ℕ → Result A GivenRefusal → Read A
at_line k (Err name) = Err (k, name)
at_line k (Ok x) = Ok x

-- One thing a line, so many lines, numbered from n on, of the pieces of a text from line k on; and the pieces after them. No LF stands
-- after the last piece.
unfoldable pub rows : {A : Type 0} → (ℕ → List (List ℕ) → Option A) → ℕ → ℕ → ℕ → List (List ℕ) → Read (List A × List (List ℕ))
rows read zero n k pieces = Ok ([], pieces)
rows read (suc count) n k [] = Err (k, Unended)
rows read (suc count) n k (piece ∷ []) = Err (k, Unended)
rows read (suc count) n k (line ∷ piece ∷ pieces) =
    and_then (unless_bad k (read n (words line))) (λ x.
    and_then (rows read count (n + 1) (k + 1) (piece ∷ pieces)) (λ more. Ok (x ∷ more.0, more.1)))

-- nothing stands after the line `end`
abbrev pub ended : ℕ → List (List ℕ) → Read (List Mark)
ended k [] = Ok []
ended k (piece ∷ []) = if is_empty piece then Ok [] else Err (k, AfterEnd)
ended k (line ∷ piece ∷ pieces) = Err (k, AfterEnd)

-- the cells that results and barriers name, up to the line `end`
unfoldable pub marks_from : List Buffer → ℕ → List (List ℕ) → Read (List Mark)
marks_from buffers k [] = Err (k, Unended)
marks_from buffers k (piece ∷ []) = Err (k, Unended)
marks_from buffers k (line ∷ piece ∷ pieces) =
    if bytes_eq line (codes "end") then ended (k + 1) (piece ∷ pieces)
    else and_then (unless_bad k (mark_of buffers (words line))) (λ x.
    and_then (marks_from buffers (k + 1) (piece ∷ pieces)) (λ more. Ok (x ∷ more)))

-- the first of these pieces, line k, as the head; and the pieces after it
unfoldable pub head_read : ℕ → ℕ → ℕ → List (List ℕ) → Read (Counts × List (List ℕ))
head_read ranks least k [] = Err (k, Unended)
head_read ranks least k (piece ∷ []) = Err (k, Unended)
head_read ranks least k (line ∷ piece ∷ pieces) =
    and_then (at_line k (bounded_links (counts_of ranks least (words line)))) (λ counts. Ok (counts, piece ∷ pieces))

-- after the head, whose line is line k
abbrev pub after_head : ℕ → List Buffer → ℕ → Counts → List (List ℕ) → Read Given
after_head ranks buffers k counts pieces =
    and_then (rows cell_of counts.cells 0 (k + 1) pieces) (λ cells.
    and_then (rows link_of counts.links 0 (k + 1 + counts.cells) cells.1) (λ links.
    and_then (rows done_of ranks 0 (k + 1 + counts.cells + counts.links) links.1) (λ done.
    and_then (marks_from buffers (k + 1 + counts.cells + counts.links + ranks) done.1) (λ marks.
    Ok (given ranks counts.remote cells.0 links.0 done.0 marks)))))

-- The pieces of a text from line k on, for a description of so many ranks with these buffers; the plan has so many cells at least.
unfoldable pub read_given : ℕ → ℕ → List Buffer → ℕ → List (List ℕ) → Read Given
read_given ranks least buffers k pieces = and_then (head_read ranks least k pieces) (λ head. after_head ranks buffers k head.0 head.1)

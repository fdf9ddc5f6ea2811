-- The summary of a generated run: how large its plan is, and the sum of each buffer's values.
use Rattle.std.specs.Prelude.{ℕ, ◌%◌, ◌^◌, List, [], ◌∷◌, ◌++◌, codes, sum, sum_by}
use Rattle.std.specs.List.{flat_map}
use Rattle.std.specs.Fmt.{decimal}
use Rattle.number_lists.specs.Numbers.{from_to}
use Rattle.coll_text.specs.Text.{line}
use Rattle.coll_text.specs.Elements.{elements}
use Rattle.coll_shape.specs.Folding.{at}
use Rattle.coll_shape.specs.Outline.{Outline, buffer_at}
use Rattle.coll_shape.specs.Meaning.{Lists, lists_of}
use Rattle.run_text.specs.Lines.{rest_line}

-- the number that chose the inputs, and the size of the plan on 64 ranks
abbrev pub summary_head : ℕ → ℕ → ℕ → List ℕ
summary_head k cells links =
    line (codes "large" ∷ decimal k ∷ codes "ranks" ∷ decimal 64 ∷ codes "cells" ∷ decimal cells ∷ codes "links" ∷ decimal links ∷ [])

abbrev pub sum_line : List ℕ → ℕ → List ℕ
sum_line name sum = line (name ∷ decimal sum ∷ [])

-- The values of a buffer at a rank, added up. A value of an unsigned type is its bit pattern.
abbrev pub rank_sum : Outline → Lists → ℕ → ℕ → ℕ
rank_sum o lists b r = sum (elements (buffer_at o b).ty (at (lists_of lists b) r))

-- the sum over all ranks, modulo 2 ^ 64
abbrev pub buffer_sum : Outline → Lists → ℕ → ℕ
buffer_sum o lists b = sum_by (rank_sum o lists b) (from_to 0 o.ranks) % 2 ^ 64

abbrev pub sum_line_at : Outline → Lists → ℕ → List ℕ
sum_line_at o lists b = sum_line (buffer_at o b).name (buffer_sum o lists b)

-- the head, a line for each buffer that is printed, in order, and the end
abbrev pub summary_of : ℕ → ℕ → ℕ → Outline → Lists → List ℕ
summary_of k cells links o lists = summary_head k cells links ++ (flat_map (sum_line_at o lists) o.prints ++ rest_line)

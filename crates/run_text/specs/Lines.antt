-- The lines that the program writes.
use Rattle.std.specs.Prelude.{ℕ, List, [], ◌∷◌, ◌++◌, map, codes}
use Rattle.std.specs.List.{flat_map}
use Rattle.std.specs.Fmt.{decimal}
use Rattle.ptl_types.specs.declared.elements.ElemType.{ElemType}
use Rattle.number_lists.specs.Numbers.{from_to}
use Rattle.coll_text.specs.Text.{line}
use Rattle.coll_text.specs.Elements.{elements, value_word}
use Rattle.coll_shape.specs.Folding.{at}
use Rattle.coll_shape.specs.Outline.{Outline, buffer_at}
use Rattle.coll_shape.specs.Meaning.{Lists, lists_of, meaning_of}

-- one rank's list of a buffer, from its bytes: the name, the rank and the values
abbrev pub result_line : List ℕ → ℕ → ElemType → List ℕ → List ℕ
result_line name rank ty bytes = line (name ∷ decimal rank ∷ map (value_word ty) (elements ty bytes))

-- the result of a step of a choice text at a rank: the step's name, the rank and the value
abbrev pub value_line : List ℕ → ℕ → ℕ → List ℕ
value_line name rank value = line (name ∷ decimal rank ∷ decimal value ∷ [])

-- what follows the last of them
abbrev pub rest_line : List ℕ
rest_line = line (codes "rest" ∷ [])

-- the line of a buffer at a rank, where each buffer's lists are these
abbrev pub line_at : Outline → Lists → ℕ → ℕ → List ℕ
line_at o lists b rank = result_line (buffer_at o b).name rank (buffer_at o b).ty (at (lists_of lists b) rank)

-- a line for each rank
abbrev pub buffer_lines : Outline → Lists → ℕ → List ℕ
buffer_lines o lists b = flat_map (line_at o lists b) (from_to 0 o.ranks)

-- the lines of each buffer that is printed, in order
abbrev pub text_of : Outline → Lists → List ℕ
text_of o lists = flat_map (buffer_lines o lists) o.prints ++ rest_line

-- what a run of a description writes on its inputs
abbrev pub result_text : Outline → Lists → List ℕ
result_text o inputs = text_of o (meaning_of o inputs)

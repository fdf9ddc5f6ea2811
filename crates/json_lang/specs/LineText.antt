-- The line text of a JSON value: the text of the description language that it stands for. A value that isn't of the form
-- has some text too, of which nobody speaks.
use Rattle.std.specs.Prelude.{ℕ, List, [], ◌∷◌, ◌++◌, length, map, unwrap_or, Bool, false, codes}
use Rattle.std.specs.List.{flat_map}
use Rattle.std.specs.Option.{option_map_or}
use Rattle.std.specs.Fmt.{decimal}
use Rattle.coll_text.specs.Text.{line}
use Rattle.coll_lang.specs.Spelling.{remote_text}
use Rattle.serde_json.specs.Data.{Data}
use Rattle.serde_json.specs.Find.{get, as_bool}
use Rattle.json_lang.specs.Values.{list_in, word_of}

-- the values of a list; none where it isn't one
abbrev pub values_of : Data → List Data
values_of d = unwrap_or (list_in d) []

-- the word of the member of that name
abbrev pub word_at : List ℕ → Data → List ℕ
word_at name d = option_map_or word_of (get name d) []

-- the values of the member of that name, none where it is absent
abbrev pub list_at : List ℕ → Data → List Data
list_at name d = option_map_or values_of (get name d) []

-- a list as a line: its words
abbrev pub list_line : Data → List ℕ
list_line d = line (map word_of (values_of d))

-- `group`, its name and its members
abbrev pub group_line : Data → List ℕ
group_line d = line (codes "group" ∷ map word_of (values_of d))

abbrev pub is_remote : Data → Bool
is_remote d = option_map_or (λ b. unwrap_or (as_bool b) false) (get (codes "remote") d) false

-- `complete remote`, where `remote` is true
abbrev pub remote_line : Data → List ℕ
remote_line d = remote_text (is_remote d)

-- the number of values in the first row, 0 where there is none
abbrev pub first_length : List Data → ℕ
first_length [] = 0
first_length (row ∷ rows) = length (values_of row)

-- the line of an input with such rows
unfoldable pub input_line : Data → List Data → List ℕ
input_line d rows = line (codes "input" ∷ word_at (codes "name") d ∷ word_at (codes "type") d ∷ decimal (first_length rows) ∷ [])

-- the line of an input, and each row as a line
abbrev pub input_lines : Data → List ℕ
input_lines d = input_line d (list_at (codes "rows") d) ++ flat_map list_line (list_at (codes "rows") d)

abbrev pub print_line : Data → List ℕ
print_line d = line (codes "print" ∷ word_of d ∷ [])

-- the line text of a value
unfoldable pub line_text : Data → List ℕ
line_text d =
    line (codes "coll" ∷ word_at (codes "coll") d ∷ []) ++ (line (codes "ranks" ∷ word_at (codes "ranks") d ∷ []) ++ (remote_line d
    ++ (flat_map group_line (list_at (codes "groups") d) ++ (flat_map input_lines (list_at (codes "inputs") d)
    ++ (flat_map list_line (list_at (codes "steps") d) ++ (flat_map print_line (list_at (codes "prints") d) ++ line (codes "end" ∷ [])))))))

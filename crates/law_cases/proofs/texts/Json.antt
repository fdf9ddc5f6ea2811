-- JSON values: which have the form of a description, and the text that they stand for.
use Rattle.std.specs.Prelude.{negsuc, ℕ, true, false, ◌≡◌, List, [], ◌∷◌, ◌++◌, None, Err, codes, refl}
use Rattle.std.specs.Fmt.{digits}
use Rattle.coll_text.specs.Text.{is_name, is_name_byte}
use Rattle.coll_lang.specs.Language.{is_allowed}
use Rattle.serde_json.specs.Data.{Data, Items, array, boolean, item, member, negative, no_items, no_members, null, number}
use Rattle.serde_json.specs.Data.{object, string, unsigned}
use Rattle.json_lang.specs.declared.fault.JsonRefusal.TheVariants.{BadForm, BadJson}
use Rattle.json_lang.specs.Form.{are_visible, is_form, is_group, is_input, is_step, is_visible, is_whole, is_word}
use Rattle.json_lang.specs.LineText.{input_line, input_lines, line_text, remote_line}
use Rattle.json_lang.specs.Reading.{described, described_by}

abbrev ends : List ℕ → List ℕ
ends bytes = bytes ++ 10 ∷ []

-- ---- bytes: 33 to 126 are visible, 32 is allowed in a line beside these, and 127 is neither; names have letters, digits and `_`
visible : (is_visible 33 ≡ true) × (is_visible 126 ≡ true) × (is_visible 32 ≡ false) × (is_visible 127 ≡ false)
visible = (refl, refl, refl, refl)

allowed : (is_allowed 32 ≡ true) × (is_allowed 126 ≡ true) × (is_allowed 31 ≡ false) × (is_allowed 127 ≡ false)
allowed = (refl, refl, refl, refl)

name_bytes : (is_name_byte 97 ≡ true) × (is_name_byte 122 ≡ true) × (is_name_byte 48 ≡ true) × (is_name_byte 57 ≡ true)
    × (is_name_byte 95 ≡ true)
name_bytes = (refl, refl, refl, refl, refl)

no_name_bytes : (is_name_byte 96 ≡ false) × (is_name_byte 123 ≡ false) × (is_name_byte 47 ≡ false) × (is_name_byte 58 ≡ false)
    × (is_name_byte 127 ≡ false) × (is_name_byte 65 ≡ false) × (is_name_byte 45 ≡ false)
no_name_bytes = (refl, refl, refl, refl, refl, refl, refl)

names : (is_name (codes "a23456789012345_") ≡ true) × (is_name (codes "a23456789012345_7") ≡ false) × (is_name (codes "1a") ≡ false)
    × (is_name (codes "_a") ≡ false) × (is_name [] ≡ false) × (is_name (codes "a" ++ 127 ∷ []) ≡ false)
names = (refl, refl, refl, refl, refl, refl)

words_of_json : (are_visible (codes "a~!") ≡ true) × (are_visible [] ≡ false) × (are_visible (codes "a b") ≡ false)
    × (are_visible (codes "a" ++ 127 ∷ []) ≡ false)
words_of_json = (refl, refl, refl, refl)

-- ---- values
abbrev word : List ℕ → Data
word = string

abbrev number_of : ℕ → Data
number_of n = number (unsigned n)

abbrev items_of : List Data → Items
items_of [] = no_items
items_of (d ∷ ds) = item d (items_of ds)

abbrev list_of : List Data → Data
list_of ds = array (items_of ds)

words_and_numbers : (is_word (word (codes "sum")) ≡ true) × (is_word (number_of 7) ≡ false) × (is_whole (number_of 7) ≡ true)
    × (is_whole (word (codes "7")) ≡ false) × (is_whole null ≡ false) × (is_word (word []) ≡ false)
words_and_numbers = (refl, refl, refl, refl, refl, refl)

-- ---- the parts of a description
abbrev two_rows : Data
two_rows = list_of (list_of (number_of 4 ∷ number_of 5 ∷ []) ∷ list_of (number_of 6 ∷ number (negative (negsuc 6)) ∷ []) ∷ [])

abbrev input_of : Data → Data
input_of rows = object (member (codes "name") (word (codes "a"))
    (member (codes "rows") rows (member (codes "type") (word (codes "i8")) no_members)))

groups : (is_group (list_of (word (codes "g") ∷ number_of 0 ∷ number_of 2 ∷ [])) ≡ true)
    × (is_group (list_of (word (codes "g") ∷ [])) ≡ true)
    × (is_group (list_of []) ≡ false) × (is_group (list_of (number_of 0 ∷ [])) ≡ false)
    × (is_group (list_of (word (codes "g") ∷ word (codes "0") ∷ [])) ≡ false) × (is_group (word (codes "g")) ≡ false)
groups = (refl, refl, refl, refl, refl, refl)

inputs : (is_input (input_of two_rows) ≡ true) × (is_input (input_of (list_of [])) ≡ true) × (is_input (input_of (number_of 1)) ≡ false)
    × (is_input (input_of (list_of (number_of 1 ∷ []))) ≡ false)
    × (is_input (input_of (list_of (list_of (word (codes "1") ∷ []) ∷ []))) ≡ false)
inputs = (refl, refl, refl, refl, refl)

-- each of its members is due, and no other may stand there
other_inputs : (is_input (object (member (codes "name") (word (codes "a")) (member (codes "rows") two_rows no_members))) ≡ false)
    × (is_input (object (member (codes "name") (word (codes "a")) (member (codes "type") (word (codes "i8")) no_members))) ≡ false)
    × (is_input (object (member (codes "rows") two_rows (member (codes "type") (word (codes "i8")) no_members))) ≡ false)
    × (is_input (object (member (codes "name") (word (codes "a")) (member (codes "other") null (member (codes "rows") two_rows
    (member (codes "type") (word (codes "i8")) no_members))))) ≡ false)
other_inputs = (refl, refl, refl, refl)

steps : (is_step (list_of (word (codes "reduce") ∷ number_of 1 ∷ word (codes "sum") ∷ [])) ≡ true)
    × (is_step (list_of (word (codes "barrier") ∷ [])) ≡ true)
    × (is_step (list_of []) ≡ false) × (is_step (list_of (number_of 1 ∷ word (codes "sum") ∷ [])) ≡ false)
    × (is_step (list_of (word (codes "reduce") ∷ null ∷ [])) ≡ false)
steps = (refl, refl, refl, refl, refl)

-- ---- a whole description: members in the order of their names, as a value keeps them
abbrev described_as : Data → Data → Data → Data → Data
described_as remote ranks prints steps = object (
    member (codes "coll") (number_of 2) (
    member (codes "groups") (list_of (list_of (word (codes "g") ∷ number_of 0 ∷ number_of 1 ∷ []) ∷ [])) (
    member (codes "inputs") (list_of (input_of two_rows ∷ [])) (
    member (codes "prints") prints (member (codes "ranks") ranks (member (codes "remote") remote (member (codes "steps") steps no_members)))
    )
    )
    )
    )

abbrev some_steps : Data
some_steps =
    list_of (list_of (word (codes "on") ∷ word (codes "g") ∷ word (codes "barrier") ∷ [])
    ∷ list_of (word (codes "reduce") ∷ number_of 1 ∷ word (codes "sum") ∷ word (codes "a") ∷ word (codes "b") ∷ []) ∷ [])

abbrev some_prints : Data
some_prints = list_of (word (codes "b") ∷ word (codes "a") ∷ [])

whole : is_form (described_as (boolean true) (number_of 2) some_prints some_steps) ≡ true
unfolding is_form
whole = refl

least : is_form (object (member (codes "coll") (number_of 1) (member (codes "ranks") (number_of 1) no_members))) ≡ true
unfolding is_form
least = refl

not_of_the_form : (is_form (described_as (number_of 1) (number_of 2) some_prints some_steps) ≡ false)
    × (is_form (described_as (boolean true) (word (codes "2")) some_prints some_steps) ≡ false)
    × (is_form (described_as (boolean true) (number_of 2) (list_of (number_of 1 ∷ [])) some_steps) ≡ false)
    × (is_form (described_as (boolean true) (number_of 2) some_prints (list_of (word (codes "barrier") ∷ []))) ≡ false)
    × (is_form (object (member (codes "coll") (number_of 1) no_members)) ≡ false)
    × (is_form (object (member (codes "ranks") (number_of 1) no_members)) ≡ false) × (is_form (list_of []) ≡ false)
    × (is_form (object (member (codes "coll") (number_of 1)
    (member (codes "other") null (member (codes "ranks") (number_of 1) no_members)))) ≡ false)
unfolding is_form
not_of_the_form = (refl, refl, refl, refl, refl, refl, refl, refl)

refused : (described (list_of []) ≡ Err BadForm) × (described_by None ≡ Err BadJson)
unfolding described is_form
refused = (refl, refl)

-- ---- the text that it stands for
its_text : line_text (described_as (boolean true) (number_of 2) some_prints some_steps)
    ≡ ends (codes "coll 2") ++ ends (codes "ranks 2") ++ ends (codes "complete remote") ++ ends (codes "group g 0 1")
    ++ ends (codes "input a i8 2") ++ ends (codes "4 5") ++ ends (codes "6 -7") ++ ends (codes "on g barrier")
    ++ ends (codes "reduce 1 sum a b")
    ++ ends (codes "print b") ++ ends (codes "print a") ++ ends (codes "end")
unfolding line_text input_line digits
its_text = refl

least_text : line_text (object (member (codes "coll") (number_of 1) (member (codes "ranks") (number_of 1) no_members)))
    ≡ ends (codes "coll 1") ++ ends (codes "ranks 1") ++ ends (codes "end")
unfolding line_text input_line digits
least_text = refl

not_remote : (remote_line (object (member (codes "remote") (boolean false) no_members)) ≡ []) × (remote_line (object no_members) ≡ [])
not_remote = (refl, refl)

without_rows : input_lines (input_of (list_of [])) ≡ ends (codes "input a i8 0")
unfolding input_line digits
without_rows = refl

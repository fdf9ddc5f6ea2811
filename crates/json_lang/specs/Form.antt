-- The form of a description in JSON. Of members of one name a value keeps the last alone.
use Rattle.std.specs.Prelude.{ℕ, List, [], ◌∷◌, Bool, true, false, ◌&&◌, ◌||◌, not, nat_le, is_some, codes}
use Rattle.std.specs.List.{list_all, list_any}
use Rattle.std.specs.Option.{option_map_or}
use Rattle.std.specs.Str.{bytes_eq}
use Rattle.coll_text.specs.Text.{is_empty}
use Rattle.serde_json.specs.Data.{Data, Members}
use Rattle.serde_json.specs.Find.{get, as_bool, as_number, as_str, as_object, is_float}
use Rattle.json_lang.specs.Values.{list_in, names_in}

-- 0x21 to 0x7E
abbrev pub is_visible : ℕ → Bool
is_visible b = nat_le 33 b && nat_le b 126

-- at least one byte, all of them visible
abbrev pub are_visible : List ℕ → Bool
are_visible bytes = not (is_empty bytes) && list_all is_visible bytes

-- a string that may stand as a word of a line
abbrev pub is_word : Data → Bool
is_word d = option_map_or are_visible (as_str d) false

-- a number that is kept as u64 or i64, and not as a float
abbrev pub is_whole : Data → Bool
is_whole d = option_map_or (λ n. not (is_float n)) (as_number d) false

abbrev pub is_word_or_whole : Data → Bool
is_word_or_whole d = is_word d || is_whole d

abbrev pub is_truth : Data → Bool
is_truth d = is_some (as_bool d)

abbrev pub is_list_of : (Data → Bool) → Data → Bool
is_list_of p d = option_map_or (list_all p) (list_in d) false

-- the first value is a word, and each other one is so
abbrev pub word_then : (Data → Bool) → List Data → Bool
word_then p [] = false
word_then p (d ∷ ds) = is_word d && list_all p ds

abbrev pub is_named_list : (Data → Bool) → Data → Bool
is_named_list p d = option_map_or (word_then p) (list_in d) false

-- each of these members has one of the names
abbrev pub all_among : List (List ℕ) → Members → Bool
all_among known ms = list_all (λ k. list_any (bytes_eq k) known) (names_in ms)

-- an object without members of other names
abbrev pub has_only : List (List ℕ) → Data → Bool
has_only known d = option_map_or (all_among known) (as_object d) false

-- it has a member of that name, which is so
abbrev pub has : List ℕ → (Data → Bool) → Data → Bool
has name p d = option_map_or p (get name d) false

-- its member of that name is so, if it has one
abbrev pub may_have : List ℕ → (Data → Bool) → Data → Bool
may_have name p d = option_map_or p (get name d) true

-- a list of whole numbers
abbrev pub is_row : Data → Bool
is_row = is_list_of is_whole

-- a name, and numbers if there are any
abbrev pub is_group : Data → Bool
is_group = is_named_list is_whole

abbrev pub input_names : List (List ℕ)
input_names = codes "name" ∷ codes "type" ∷ codes "rows" ∷ []

abbrev pub is_input : Data → Bool
is_input d =
    has_only input_names d && has (codes "name") is_word d && has (codes "type") is_word d
    && has (codes "rows") (is_list_of is_row) d

-- words and numbers, a word first
abbrev pub is_step : Data → Bool
is_step = is_named_list is_word_or_whole

abbrev pub member_names : List (List ℕ)
member_names = codes "coll" ∷ codes "ranks" ∷ codes "remote" ∷ codes "groups" ∷ codes "inputs" ∷ codes "steps" ∷ codes "prints" ∷ []

-- the form of a description
unfoldable pub is_form : Data → Bool
is_form d =
    has_only member_names d && has (codes "coll") is_whole d && has (codes "ranks") is_whole d && may_have (codes "remote") is_truth d
    && may_have (codes "groups") (is_list_of is_group) d && may_have (codes "inputs") (is_list_of is_input) d
    && may_have (codes "steps") (is_list_of is_step) d && may_have (codes "prints") (is_list_of is_word) d

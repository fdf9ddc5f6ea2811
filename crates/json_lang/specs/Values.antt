-- Lists, members and words of a JSON value.
use Rattle.std.specs.Prelude.{ℕ, List, [], ◌∷◌, Option, option_map}
use Rattle.std.specs.Option.{option_map_or}
use Rattle.serde_json.specs.Data.{Data, Items, no_items, item, Members, no_members, member}
use Rattle.serde_json.specs.Find.{as_array, as_str, as_number}
use Rattle.serde_json.specs.Written.{number_text}

-- a list's values in order
abbrev pub items_in : Items → List Data
items_in no_items = []
items_in (item d ds) = d ∷ items_in ds

-- the names of an object's members
abbrev pub names_in : Members → List (List ℕ)
names_in no_members = []
names_in (member k d ms) = k ∷ names_in ms

-- the values of a list, if the value is one
abbrev pub list_in : Data → Option (List Data)
list_in d = option_map items_in (as_array d)

-- the word of a string or of a whole number; nothing for another value
abbrev pub word_of : Data → List ℕ
word_of d = option_map_or (λ s. s) (as_str d) (option_map_or number_text (as_number d) [])

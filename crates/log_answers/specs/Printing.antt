-- What is owed, as a verdict tells it: each word behind a space.
use Rattle.std.specs.Prelude.{ℕ, List, [], ◌∷◌, ◌++◌, Option, Some, None, codes}
use Rattle.std.specs.List.{flat_map}
use Rattle.std.specs.Fmt.{decimal}
use Rattle.log_answers.specs.Known.{Known}
use Rattle.log_answers.specs.Texts.{hex_word}
use Rattle.log_answers.specs.Items.{field_in, fields_owed, word_owed}
use Rattle.log_answers.specs.declared.owed.Item.{Item}
use Rattle.log_answers.specs.declared.owed.Item.TheVariants as items
use Rattle.log_answers.specs.declared.owed.Owed.{Owed}
use Rattle.log_answers.specs.declared.owed.Owed.TheVariants as owed
use Rattle.log_answers.specs.declared.items.Place.TheVariants.{First, Second}

-- what stands for a word that the device chooses is in capitals
abbrev pub item_text : Item → List ℕ
item_text (items.Exact word) = word
item_text (items.Amount n) = decimal n
item_text (items.Raw bytes) = hex_word bytes
item_text items.SomeReady = codes "READY"
item_text (items.NewThing sort) = codes "HANDLE"
item_text items.NewMessage = codes "MESSAGE"
item_text items.Nameless = codes "?"

abbrev pub word_text : Option Item → List ℕ
word_text None = []
word_text (Some item) = 32 ∷ item_text item

abbrev pub field_text : List ℕ → Option Item → List ℕ
field_text key None = []
field_text key (Some item) = 32 ∷ key ++ 61 ∷ item_text item

abbrev pub event_keys : List (List ℕ)
event_keys =
    codes "source" ∷ codes "pt" ∷ codes "bits" ∷ codes "data" ∷ codes "requested" ∷ codes "delivered" ∷ codes "place" ∷ codes "ok" ∷ []

-- of a header, and behind them those of an unexpected header and of a message
abbrev pub header_keys : List (List ℕ)
header_keys =
    codes "kind" ∷ codes "source" ∷ codes "target" ∷ codes "pt" ∷ codes "bits" ∷ codes "offset" ∷ codes "length" ∷ codes "data" ∷ codes "op"
    ∷ codes "swap" ∷ codes "type" ∷ codes "operand" ∷ codes "ack" ∷ codes "home" ∷ codes "home_offset" ∷ codes "ok" ∷ codes "place"
    ∷ codes "delivered" ∷ codes "entry" ∷ codes "bytes" ∷ []

abbrev pub keys_owed : Owed → List (List ℕ)
keys_owed (owed.Event e) = event_keys
keys_owed (owed.Found u) = header_keys
keys_owed (owed.Taken u) = header_keys
keys_owed (owed.Told h) = header_keys
keys_owed _ = []

abbrev pub owed_text : Known → Owed → List ℕ
owed_text k o =
    word_text (word_owed k o First) ++ word_text (word_owed k o Second)
    ++ flat_map (λ key. field_text key (field_in key (fields_owed k o))) (keys_owed o)

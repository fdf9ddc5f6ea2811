-- Whether what a device said is what is owed.
use Rattle.std.specs.Prelude.{ℕ, Bool, true, false, ◌==◌, ◌&&◌, ◌||◌, ◌-◌, ◌^◌, List, [], ◌∷◌, Option, Some, None, is_some, codes}
use Rattle.std.specs.Prelude.{if◌then◌else◌}
use Rattle.std.specs.Str.{bytes_eq}
use Rattle.log_words.specs.Words.{Word, Rest, amount_within, is_last, is_name_word, key_of, value_of}
use Rattle.log_answers.specs.Known.{Known}
use Rattle.log_answers.specs.Texts.{hex_word}
use Rattle.log_answers.specs.Items.{field_in, fields_owed, word_owed}
use Rattle.log_answers.specs.declared.owed.Item.{Item}
use Rattle.log_answers.specs.declared.owed.Item.TheVariants as items
use Rattle.log_answers.specs.declared.owed.Owed.{Owed}
use Rattle.log_answers.specs.declared.items.Place.{Place}
use Rattle.log_answers.specs.declared.items.Place.TheVariants.{First, Second, Behind}
use Rattle.log_answers.specs.declared.agreement.Judgement.{Judgement}
use Rattle.log_answers.specs.declared.agreement.Judgement.TheVariants.{Wrong, Field, Plain, New}
use Rattle.log_answers.specs.declared.agreement.Found.{Found}
use Rattle.log_answers.specs.declared.agreement.Found.TheVariants.{Agrees, Differs}

-- ---- one word

abbrev pub is_number : ℕ → Option ℕ → Bool
is_number n None = false
is_number n (Some m) = m == n

abbrev pub is_said : Known → List ℕ → Item → Bool
is_said k w (items.Exact word) = bytes_eq w word
is_said k w (items.Amount n) = is_number n (amount_within (2 ^ 64 - 1) w)
is_said k w (items.Raw bytes) = bytes_eq w (hex_word bytes)
is_said k w items.SomeReady = k.ready w
is_said k w (items.NewThing sort) = is_name_word w && k.free sort w
is_said k w items.NewMessage = is_name_word w
is_said k w items.Nameless = false

-- `?`: the device can't tell
abbrev pub is_unknown : List ℕ → Bool
is_unknown w = bytes_eq w (codes "?")

abbrev pub agrees : Known → List ℕ → Option Item → Bool
agrees k w None = false
agrees k w (Some item) = is_unknown w || is_said k w item

-- ---- a word of an answer: one with `=` is a field, another is what is owed at its place

-- a word that agrees is that of a new thing or message, or another
abbrev pub plain : Option Item → Judgement
plain (Some (items.NewThing sort)) = New
plain (Some items.NewMessage) = New
plain _ = Plain

abbrev pub judged_by : Known → Owed → Place → Word → Option Word → Judgement
judged_by k o place w None = if agrees k w.text (word_owed k o place) then plain (word_owed k o place) else Wrong
judged_by k o place w (Some v) = if agrees k v.text (field_in (key_of w) (fields_owed k o)) then Field else Wrong

unfoldable pub judged : Known → Owed → Place → Word → Judgement
judged k o place w = judged_by k o place w (value_of w)

-- ---- the whole answer

abbrev pub next_place : Place → Place
next_place First = Second
next_place _ = Behind

abbrev pub place_after : Judgement → Place → Place
place_after Field place = place
place_after _ place = next_place place

-- the word that names what is new; `?` gives none
abbrev pub given : Judgement → Word → Option Word → Option Word
given New w before = if is_unknown w.text then None else Some w
given _ w before = before

abbrev pub is_wrong : Judgement → Bool
is_wrong Wrong = true
is_wrong _ = false

-- Words from this place on: they agree, with the word for what is new; or the first that doesn't has this column. One that is missing is
-- told where it would begin.
abbrev pub compared : Known → Owed → Place → Option Word → List Word → ℕ → Found
compared k o place new [] past = if is_some (word_owed k o place) then Differs past else Agrees new
compared k o place new (w ∷ ws) past =
    if is_wrong (judged k o place w) then Differs w.column
    else compared k o (place_after (judged k o place w) place) (given (judged k o place w) w new) ws past

-- `?` alone tells nothing of an answer
abbrev pub is_silent : List Word → Bool
is_silent [] = false
is_silent (w ∷ ws) = is_unknown w.text && is_last ws

unfoldable pub found : Known → Owed → Rest → Found
found k o said = if is_silent said.words then Agrees None else compared k o First None said.words said.past

-- The messages under way in the order of their sending, and the log's words for them.
use Rattle.std.specs.Prelude.{ℕ, Bool, ◌==◌, ◌&&◌, List, [], ◌∷◌, Option, Some, None, option_map, if◌then◌else◌}
use mathlib.Core.Bool.{beq}
use Rattle.ptl_types.specs.declared.headers.Header.{Header}
use Rattle.ptl_types.specs.Handles.{one_more}
use Rattle.ptl_types.specs.Kinds.{is_answer}
use Rattle.ptl_types.specs.Messages.{Sent}
use Rattle.log_answers.specs.names.Keys.{Numbers, Words, word_lookup, with_word, without_word, number_lookup, with_number, without_number}
use Rattle.log_answers.specs.declared.names.flights.Flight.{Flight}
use Rattle.log_answers.specs.declared.names.flights.Flights.{Flights}

abbrev pub no_flights : Flights
no_flights = record { sent = 0; messages = []; words = [] }

-- the number of the message of a word: how many were sent before it
abbrev pub age_of : List ℕ → Flights → Option ℕ
age_of word fs = word_lookup word fs.words

-- the message of a number
abbrev pub flight_at : ℕ → Flights → Option Flight
flight_at age fs = number_lookup age fs.messages

-- both go from one rank to another, and both are requests, or both answers
abbrev pub same_lane : Header → Header → Bool
same_lane a b = (a.source == b.source) && ((a.target == b.target) && beq (is_answer a.kind) (is_answer b.kind))

-- the oldest of the lane of a header
abbrev pub first_of_lane : Header → Numbers Flight → Option ℕ
first_of_lane h [] = None
first_of_lane h (e ∷ es) = if same_lane h e.1.message.header then Some e.0 else first_of_lane h es

abbrev pub oldest : Header → Flights → Option ℕ
oldest h fs = first_of_lane h fs.messages

-- ---- a message arrives, or is lost

abbrev pub words_without : Option (List ℕ) → Words ℕ → Words ℕ
words_without None words = words
words_without (Some word) words = without_word word words

abbrev pub word_in : Option Flight → Option (List ℕ)
word_in None = None
word_in (Some f) = f.word

unfoldable pub taken : ℕ → Flights → Flights
taken age fs = record fs { messages = without_number age fs.messages; words = words_without (word_in (flight_at age fs)) fs.words }

-- ---- a message is sent: it is the youngest

abbrev pub words_with : Option (List ℕ) → ℕ → Words ℕ → Words ℕ
words_with None age words = words
words_with (Some word) age words = with_word word age words

unfoldable pub with_sent : Sent → Option (List ℕ) → Flights → Flights
with_sent m word fs = record {
  sent = one_more fs.sent;
  messages = with_number fs.sent (record { word = word; message = m }) fs.messages;
  words = words_with word fs.sent fs.words;
}

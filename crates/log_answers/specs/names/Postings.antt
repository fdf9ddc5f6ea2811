-- The triggered operations that wait, and the log's words for them.
use Rattle.std.specs.Prelude.{ℕ, List, [], ◌∷◌, Option, Some, None, option_map, if◌then◌else◌}
use Rattle.ptl_types.specs.declared.handles.Handle.{Handle}
use Rattle.ptl_types.specs.Handles.{same_handle}
use Rattle.log_answers.specs.names.Keys.{Numbers, Words, word_lookup, with_word, without_word, number_lookup, with_number, without_number}
use Rattle.log_answers.specs.declared.names.postings.Waiting.{Waiting}
use Rattle.log_answers.specs.declared.names.postings.Postings.{Postings}

abbrev pub no_postings : Postings
no_postings = record { numbers = []; waiting = [] }

-- the number of the operation of a word, and the word of an operation
abbrev pub number_of : List ℕ → Postings → Option ℕ
number_of word p = word_lookup word p.numbers

abbrev pub word_of_number : ℕ → Postings → Option (List ℕ)
word_of_number t p = option_map (λ (x : Waiting). x.word) (number_lookup t p.waiting)

-- one more
unfoldable pub posted : ℕ → Handle → List ℕ → Postings → Postings
posted t ct word p = record {
  numbers = with_word word t p.numbers;
  waiting = with_number t (record { ct = ct; word = word }) p.waiting;
}

-- it was fired or cancelled
abbrev pub numbers_without : Option Waiting → Words ℕ → Words ℕ
numbers_without None numbers = numbers
numbers_without (Some x) numbers = without_word x.word numbers

unfoldable pub removed : ℕ → Postings → Postings
removed t p = record { numbers = numbers_without (number_lookup t p.waiting) p.numbers; waiting = without_number t p.waiting }

abbrev pub each_removed : List ℕ → Postings → Postings
each_removed [] p = p
each_removed (t ∷ ts) p = each_removed ts (removed t p)

-- the numbers of those that wait on a counting event
abbrev pub waiting_on : Handle → Numbers Waiting → List ℕ
waiting_on ct [] = []
waiting_on ct (e ∷ es) = if same_handle e.1.ct ct then e.0 ∷ waiting_on ct es else waiting_on ct es

unfoldable pub cancelled : Handle → Postings → Postings
cancelled ct p = each_removed (waiting_on ct p.waiting) p

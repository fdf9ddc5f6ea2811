-- What words name where an answer was given, and which bytes stand there.
use Rattle.std.specs.Prelude.{ℕ, Bool, List, Option}
use Rattle.ptl_types.specs.declared.handles.Handle.{Handle}
use Rattle.log_answers.specs.declared.owed.Sort.{Sort}

pub record Known : Type 0 where
  -- whether a device may give the word to a new thing
  pub free : Sort → List ℕ → Bool
  -- whether the word is that of an operation that is ready
  pub ready : List ℕ → Bool
  -- the words of a rank's descriptor, of an entry, and of an operation by its number
  pub descriptor_word : ℕ → Handle → Option (List ℕ)
  pub entry_word : Handle → Option (List ℕ)
  pub operation_word : ℕ → Option (List ℕ)
  -- so many bytes of the region from a place on, and those of the message that is told
  pub part : ℕ → ℕ → List ℕ
  pub message : List ℕ

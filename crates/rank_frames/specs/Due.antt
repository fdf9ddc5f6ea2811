-- What has still to come to a rank.
use Rattle.std.specs.Prelude.{ℕ, ◌+◌, ◌-◌, List, sum, slice_index, slice_set}
use Rattle.ptl_types.specs.declared.headers.Lane.{Lane}
use Rattle.ptl_types.specs.declared.headers.Lane.TheVariants.{Request, Answer}

-- how many requests and how many answers of each rank, by its number, and how many bytes in all
pub record Dues : Type 0 where
  pub requests : List ℕ
  pub answers : List ℕ
  pub bytes : ℕ

-- of one rank on a lane
abbrev pub due_on : Dues → ℕ → Lane → ℕ
due_on d s Request = slice_index d.requests s
due_on d s Answer = slice_index d.answers s

-- in all
abbrev pub messages_due : Dues → ℕ
messages_due d = sum d.requests + sum d.answers

-- one message less on a lane
abbrev pub with_one_less : Dues → ℕ → Lane → Dues
with_one_less d s Request = record d { requests = slice_set d.requests s (slice_index d.requests s - 1) }
with_one_less d s Answer = record d { answers = slice_set d.answers s (slice_index d.answers s - 1) }

-- one message less, of so many bytes
abbrev pub with_taken : Dues → ℕ → Lane → ℕ → Dues
with_taken d s lane n = record (with_one_less d s lane) { bytes = d.bytes - n }

-- What a list of messages and a history come to: how many bytes, how many receipts.
use Rattle.std.specs.Prelude.{ℕ, Bool, true, false, ◌+◌, List, [], ◌∷◌, if◌then◌else◌, length, sum_by}
use Rattle.ptl_types.specs.Messages.{Sent}
use Rattle.cuts.specs.histories.Cut.{is_stray}
use Rattle.cuts.specs.histories.History.{Local}
use Rattle.cuts.specs.histories.History.Local.{Receive}

-- the bytes of messages
abbrev pub bytes_in : List Sent → ℕ
bytes_in ms = sum_by (λ m. length m.bytes) ms

-- a receipt
abbrev pub is_receipt : Local → Bool
is_receipt (Receive source lane m) = true
is_receipt _ = false

-- the bytes that were received, strays left out
abbrev pub received_bytes : List Local → ℕ
received_bytes [] = 0
received_bytes (Receive source lane m ∷ es) = (if is_stray m then 0 else length m.bytes) + received_bytes es
received_bytes (_ ∷ es) = received_bytes es

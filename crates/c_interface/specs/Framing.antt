-- Messages as bytes that cross machines, and back.
use Rattle.std.specs.Prelude.{ℕ, ◌≡◌, ◌<◌, ◌≤◌, List, Result, Ok, Err, length}
use Rattle.ptl_types.specs.Messages.{Sent}
use Rattle.message_codec.specs.declared.fault.Fault.{Fault}
use Rattle.message_codec.specs.Encoding.{encoding}
use Rattle.c_interface.specs.declared.messages.CMessage.{CMessage}
use Rattle.c_interface.specs.Messages.{handed, onto}

-- the numbers are read as a message, whose encoding goes out with its length where there is room for all of it; else nothing is written
pub data Encodes (read : Result Sent ℕ → Type 0) (old new : ℕ × List ℕ) (status : ℕ) : Type 0 where
  Misread : read (Err status) → new ≡ old → Encodes read old new status
  Lacking : (m : Sent) → read (Ok m) → status ≡ 6 → new ≡ old → Encodes read old new status
  Cramped : (m : Sent) → read (Ok m) → length old.1 < length (encoding m) → status ≡ 34 → new ≡ old → Encodes read old new status
  Encoded : (m : Sent) → read (Ok m) → length (encoding m) ≤ length old.1 → status ≡ 0
      → new ≡ (length (encoding m), onto (encoding m) old.1) → Encodes read old new status

-- the message that the bytes encode is handed out where there is room for all of its bytes; else nothing is written
pub data Decodes (read : Result Sent Fault) (old new : CMessage × List ℕ) (status : ℕ) : Type 0 where
  Decoded : (m : Sent) → read ≡ Ok m → length m.bytes ≤ length old.1 → status ≡ 0 → new ≡ handed m old → Decodes read old new status
  Cramped : (m : Sent) → read ≡ Ok m → length old.1 < length m.bytes → status ≡ 34 → new ≡ old → Decodes read old new status
  Malformed : (fault : Fault) → read ≡ Err fault → status ≡ 36 → new ≡ old → Decodes read old new status
  Lacking : status ≡ 6 → new ≡ old → Decodes read old new status

-- A history as a node keeps it: the steps, and in clauses alone what was received.
use Rattle.std.specs.Prelude.{ℕ, Bool, nat_lt, ◌+◌, ◌-◌, List, [], ◌∷◌, ◌++◌, length, count_by}
use Rattle.ptl_types.specs.declared.headers.Lane.{Lane}
use Rattle.ptl_types.specs.declared.steps.LocalStep.{LocalStep}
use Rattle.ptl_types.specs.declared.steps.LocalStep.TheVariants.{Start, Receive, Fire}
use Rattle.ptl_types.specs.Messages.{Sent}
use Rattle.cuts.specs.histories.History.{Local, is_start}
use Rattle.cuts.specs.histories.History.Local.{Start as Started, Receive as Received, Fire as Fired}

-- a step without its message
abbrev pub listed : Local → LocalStep
listed Started = Start
listed (Received source lane m) = Receive source lane
listed (Fired t) = Fire t

-- a start stands in the history
abbrev pub has_start : List Local → Bool
has_start es = nat_lt 0 (count_by is_start es)

-- how many bytes the received messages have together, strays among them
abbrev pub bytes_received : List Local → ℕ
bytes_received [] = 0
bytes_received (Received source lane m ∷ es) = length m.bytes + bytes_received es
bytes_received (Started ∷ es) = bytes_received es
bytes_received (Fired t ∷ es) = bytes_received es

-- a history, its steps alone, the room that is left for steps, and how many receipts are left, and bytes that come with them
pub record Diary : Type 0 where
  pub locals : List Local
  pub steps : List LocalStep
  pub room : ℕ
  pub receipts : ℕ
  pub bytes : ℕ

-- a step more
abbrev pub with_step : LocalStep → Local → Diary → Diary
with_step step e d = record d { locals = d.locals ++ e ∷ []; steps = d.steps ++ step ∷ []; room = d.room - 1 }

-- a receipt more
abbrev pub with_receipt : ℕ → Lane → Sent → Diary → Diary
with_receipt source lane m d =
    record (with_step (Receive source lane) (Received source lane m) d) { receipts = d.receipts - 1; bytes = d.bytes - length m.bytes }

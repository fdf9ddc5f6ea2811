-- How a call of a program ends, and what it then has written and read.
use Rattle.std.specs.Prelude.{◌≡◌, ◌≢◌, ℕ, List, [], Option, Some, None, Result, Ok, Err}
use Rattle.port_io.specs.declared.ends.Failed.{Failed}
use Rattle.port_io.specs.Ends.{Inflow, Outflow}
use Rattle.coll_lang.specs.declared.fault.Refusal.{Refusal}
use Rattle.run_text.specs.declared.status.Status.{Status}
use Rattle.run_text.specs.declared.status.Status.TheVariants.{Done, Usage, Refused, ReadFault, WriteFault, NoMemory}
use Rattle.run_text.specs.Putting.{Ends, FailsWithin}
use Rattle.run_text.specs.Refused.{refusal_line}

-- the number with which the program ends
abbrev pub number_of : Status → ℕ
number_of Done = 0
number_of Usage = 2
number_of Refused = 3
number_of ReadFault = 4
number_of WriteFault = 5
number_of NoMemory = 6

-- the status that is owed, which is Done, Usage or Refused, and the text
pub record Due : Type 0 where
  pub status : Status
  pub text : List ℕ

abbrev pub done : List ℕ → Due
done text = record { status = Done; text = text }

-- a line counted from 1, or 0 for the whole text, and why
abbrev pub refused : ℕ → Refusal → Due
refused number name = record { status = Refused; text = refusal_line number name }

-- These are the bytes, where they are told.
abbrev pub IsTold : Option (List ℕ) → List ℕ → Type 0
IsTold None bytes = Unit {0}
IsTold (Some told) bytes = told ≡ bytes

-- Which status may be answered where which one is owed: it is the owed one, or there was a fault or no memory. Only a command
-- reads and takes memory.
abbrev pub MayAnswer : Status → Status → Type 0
MayAnswer Done owed = owed ≡ Done
MayAnswer Usage owed = owed ≡ Usage
MayAnswer Refused owed = owed ≡ Refused
MayAnswer ReadFault owed = owed ≢ Usage
MayAnswer WriteFault owed = Unit {0}
MayAnswer NoMemory owed = owed ≢ Usage

-- What stands in the sink: the whole text, finished; at a fault of the sink a beginning of it, and else nothing.
abbrev pub Stands : Status → Outflow → Outflow → List ℕ → Type 0
Stands Done sink sink' text = Ends sink sink' text
Stands Usage sink sink' text = Ends sink sink' text
Stands Refused sink sink' text = Ends sink sink' text
Stands ReadFault sink sink' text = sink' ≡ sink
Stands WriteFault sink sink' text = FailsWithin sink sink' text
Stands NoMemory sink sink' text = sink' ≡ sink

-- What stays in the source, where it tells that. Nothing is said of a source that failed, or where there was no memory.
abbrev pub Leaves : Status → Inflow → List ℕ → Type 0
Leaves Done source' rest = IsTold source'.left rest × IsTold source'.left []
Leaves Usage source' rest = IsTold source'.left rest
Leaves Refused source' rest = IsTold source'.left rest
Leaves ReadFault source' rest = Unit {0}
Leaves WriteFault source' rest = IsTold source'.left rest
Leaves NoMemory source' rest = Unit {0}

-- What holds after the part of a call that writes, where this is owed.
pub record Written (owed : Due) (sink sink' : Outflow) (status : Status) : Type 0 where
  pub allowed : MayAnswer status owed.status
  pub no_read : status ≢ ReadFault
  pub text : Stands status sink sink' owed.text

-- after a text was handed to the sink
abbrev pub status_of : Result (Unit {0}) Failed → Status
status_of (Ok done) = Done
status_of (Err failed) = WriteFault

-- The numbers that calls answer: 0, or why the call wasn't made.
use Rattle.std.specs.Prelude.{ℕ, Result, Ok, Err}
use Rattle.ptl_types.specs.declared.calls.NiFault.{NiFault}
use Rattle.ptl_types.specs.declared.calls.NiFault.TheVariants.{Stale, NoSpace, OutOfRegion, InUse, CountFull, NoMemory}
use Rattle.guarded_ni.specs.declared.faults.CallFault.{CallFault}
use Rattle.guarded_ni.specs.declared.faults.CallFault.TheVariants.{Misused, Refused}
use Rattle.guarded_ni.specs.declared.faults.Misuse.{Misuse}
use Rattle.guarded_ni.specs.declared.faults.Misuse.TheVariants.{UnknownRank, UnfitLimits, TooLong, PartialElement, HalvesDiffer}
use Rattle.guarded_ni.specs.declared.faults.Misuse.TheVariants.{AsksAcknowledgement, NoRoom, OutsideRegion, Elsewhere, NotReady}

-- of a refusal
abbrev pub refusal_number : NiFault → ℕ
refusal_number Stale = 1
refusal_number NoSpace = 2
refusal_number OutOfRegion = 3
refusal_number InUse = 4
refusal_number CountFull = 5
refusal_number NoMemory = 6

-- of a rule that arguments break
abbrev pub misuse_number : Misuse → ℕ
misuse_number UnknownRank = 16
misuse_number UnfitLimits = 17
misuse_number TooLong = 18
misuse_number PartialElement = 19
misuse_number HalvesDiffer = 20
misuse_number AsksAcknowledgement = 21
misuse_number NoRoom = 22
misuse_number OutsideRegion = 23
misuse_number Elsewhere = 24
misuse_number NotReady = 25

-- of either
abbrev pub fault_number : CallFault → ℕ
fault_number (Misused rule) = misuse_number rule
fault_number (Refused fault) = refusal_number fault

-- of a call's answer, by the numbers of its faults
abbrev pub status_by : {A E : Type 0} → (E → ℕ) → Result A E → ℕ
status_by number (Ok x) = 0
status_by number (Err fault) = number fault

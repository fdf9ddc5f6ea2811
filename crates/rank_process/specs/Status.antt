-- The numbers with which the process ends.
use Rattle.std.specs.Prelude.{ℕ}
use Rattle.given_verdicts.specs.declared.answer.GivenAnswer.{GivenAnswer}
use Rattle.given_verdicts.specs.declared.answer.GivenAnswer.TheVariants.{Fails}
use Rattle.rank_frames.specs.declared.fault.Stop.{Stop}
use Rattle.rank_frames.specs.declared.fault.Stop.TheVariants as stops
use Rattle.rank_process.specs.declared.status.Status.{Status}
use Rattle.rank_process.specs.declared.status.Status.TheVariants.{Ended, Usage, WrongRank, Answered, ReadFault, WriteFault, NoMemory, Frame}

-- of a plan with a flaw; of a text that is refused
abbrev pub answer_number : GivenAnswer → ℕ
answer_number (Fails line cause) = 8
answer_number _ = 3

abbrev pub number_of : Status → ℕ
number_of Ended = 0
number_of Usage = 2
number_of WrongRank = 2
number_of (Answered answer) = answer_number answer
number_of ReadFault = 4
number_of WriteFault = 5
number_of NoMemory = 6
number_of (Frame fault) = 7

-- of a rank that stops
abbrev pub status_of : Stop → Status
status_of stops.Read = ReadFault
status_of stops.Write = WriteFault
status_of stops.NoMemory = NoMemory
status_of (stops.Frame fault) = Frame fault

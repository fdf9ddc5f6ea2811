-- How a call of the program ends, and what is said of it on standard error.
use Rattle.std.specs.Prelude.{ℕ, ◌≡◌, ◌++◌, List, Option, Some, None, Result, codes}
use Rattle.port_io.specs.declared.ends.Failed.{Failed}
use Rattle.port_io.specs.Ends.{Outflow}
use Rattle.run_text.specs.Putting.{EndsWith}
use Rattle.run_text.specs.declared.status.Status.{Status}
use Rattle.run_text.specs.declared.status.Status.TheVariants.{Done, NoMemory, ReadFault, Refused, Usage, WriteFault}
use Rattle.log_words.specs.declared.faults.Flaw.{Flaw}
use Rattle.log_words.specs.declared.faults.Flaw.TheVariants as flaws
use Rattle.log_top.specs.declared.ending.Ended.{Ended}

-- nothing is to be known of a text
abbrev pub alone : Status → Ended
alone status = record { status = status; flaw = None }

-- what a person is to know of a flaw
abbrev pub flaw_note : Flaw → List ℕ
flaw_note flaws.TooLong = codes "the line is longer than 16777216 bytes\n"
flaw_note flaws.BadByte = codes "a byte may not stand in a line\n"
flaw_note flaws.BadSpace = codes "a word is empty: one space parts two words, and none stands at an end\n"
flaw_note flaws.BadHeader = codes "line 1 is `ni 1`, line 2 is `ranks N`\n"
flaw_note flaws.BadLine = codes "a word is missing or one too many, or the line begins with no rank\n"
flaw_note flaws.BadCall = codes "there is no such call\n"
flaw_note flaws.BadWord = codes "this word may not stand there\n"
flaw_note flaws.WordTwice = codes "a field or a flag stands twice\n"
flaw_note flaws.BadNumber = codes "it is no number, or too large a one\n"
flaw_note flaws.BadHex = codes "it isn't bytes in hexadecimal\n"
flaw_note flaws.NoAnswer = codes "the call has no answer\n"
flaw_note flaws.NameTaken = codes "what is named so is there already\n"
flaw_note flaws.NotOpen = codes "the rank has no open interface\n"
flaw_note flaws.UnknownMessage = codes "no message under way has this name\n"
flaw_note flaws.Unended = codes "the text ends before its line `end`\n"
flaw_note flaws.AfterEnd = codes "bytes follow `end`\n"

-- a line for each form of the command line
abbrev pub forms : List ℕ
forms =
    codes "judge: reads a log, and writes whether each answer is what is owed\n"
    ++ codes "fill: reads a log of calls without answers, and writes it with those that are owed\n"
    ++ codes "serve: writes the answer that is owed to each line, before it reads the next\n"
    ++ codes "any-order: the messages of one lane may overtake each other\n"

-- standard error took this text as a whole, or it failed and took a beginning of it
pub record Says (text : List ℕ) (old new : Outflow) : Type 0 where
  pub result : Result (Unit {0}) Failed
  pub ends : EndsWith old new text result

abbrev pub ExplainedFlaw : Option Flaw → Outflow → Outflow → Type 0
ExplainedFlaw None old new = new ≡ old
ExplainedFlaw (Some flaw) old new = Says (flaw_note flaw) old new

-- Beside a result nothing is said, nor beside an answer that differs, which tells all there is.
abbrev pub Explained : Status → Option Flaw → Outflow → Outflow → Type 0
Explained Done flaw old new = new ≡ old
Explained Usage flaw old new = Says forms old new
Explained Refused flaw old new = ExplainedFlaw flaw old new
Explained ReadFault flaw old new = Says (codes "standard input can't be read\n") old new
Explained WriteFault flaw old new = Says (codes "standard output can't be written\n") old new
Explained NoMemory flaw old new = Says (codes "there is not enough memory\n") old new

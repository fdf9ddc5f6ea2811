-- The names of flaws, as they are printed.
use Rattle.std.specs.Prelude.{ℕ, List, codes}
use Rattle.log_words.specs.declared.faults.Flaw.{Flaw}
use Rattle.log_words.specs.declared.faults.Flaw.TheVariants as flaws

abbrev pub flaw_name : Flaw → List ℕ
flaw_name flaws.TooLong = codes "TooLong"
flaw_name flaws.BadByte = codes "BadByte"
flaw_name flaws.BadSpace = codes "BadSpace"
flaw_name flaws.BadHeader = codes "BadHeader"
flaw_name flaws.BadLine = codes "BadLine"
flaw_name flaws.BadCall = codes "BadCall"
flaw_name flaws.BadWord = codes "BadWord"
flaw_name flaws.WordTwice = codes "WordTwice"
flaw_name flaws.BadNumber = codes "BadNumber"
flaw_name flaws.BadHex = codes "BadHex"
flaw_name flaws.NoAnswer = codes "NoAnswer"
flaw_name flaws.NameTaken = codes "NameTaken"
flaw_name flaws.NotOpen = codes "NotOpen"
flaw_name flaws.UnknownMessage = codes "UnknownMessage"
flaw_name flaws.Unended = codes "Unended"
flaw_name flaws.AfterEnd = codes "AfterEnd"

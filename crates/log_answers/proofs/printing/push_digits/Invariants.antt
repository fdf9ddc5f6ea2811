use Rattle.std.proofs.Common.{◌≡◌, ◌++◌, drop}
use Rattle.log_answers.specs.Texts.{hex_digits}
use Rattle.log_answers.proofs.printing.push_digits.Given as goal

-- what stands there with what is left is the whole
abbrev pub invariant-loop-b : goal.invariant-loop-b
invariant-loop-b l = l.out.items ++ hex_digits (drop l.b-index l.bytes) ≡ l.fn.out.items ++ hex_digits l.bytes

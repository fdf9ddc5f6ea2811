use Rattle.std.proofs.Common.{◌≡◌, drop}
use Rattle.std.specs.Str.{bytes_eq}
use Rattle.log_answers.specs.Texts.{hex_digits}
use Rattle.log_answers.proofs.hexes.are_digits_of.Given as goal

-- what is left of the word is the digits of the bytes that are left where the whole is that of all
abbrev pub invariant-loop-b : goal.invariant-loop-b
invariant-loop-b l = bytes_eq l.rest (hex_digits (drop l.b-index l.bytes)) ≡ bytes_eq l.word (hex_digits l.bytes)

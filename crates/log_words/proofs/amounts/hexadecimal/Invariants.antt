use Rattle.std.proofs.Common.{◌≡◌, ◌≤◌, ◌-◌, ◌^◌, drop}
use Rattle.log_words.specs.Words.{hexadecimal, with_hex_digits, within}
use Rattle.log_words.proofs.amounts.hexadecimal.Given as goal

-- the number so far goes on with the digits that are left
abbrev pub invariant-loop-b : goal.invariant-loop-b
invariant-loop-b l = record {
  small : l.number ≤ 2 ^ 64 - 1;
  reads : within (2 ^ 64 - 1) (with_hex_digits l.number (drop l.b-index l.digits)) ≡ within (2 ^ 64 - 1) (hexadecimal l.digits);
}

use Rattle.std.proofs.Common.{◌≡◌, ◌≤◌, ◌-◌, length, take, true}
use Rattle.std.specs.List.{list_all}
use Rattle.coll_text.specs.Text.{is_digit, with_digits}
use Rattle.coll_text.proofs.numerals.leading_digits.Given as goal

abbrev pub invariant-loop-count : goal.invariant-loop-count
invariant-loop-count l = record {
  within : l.count ≤ length l.bytes;
  digits : list_all is_digit (take l.count l.bytes) ≡ true;
  value : with_digits 0 (take l.count l.bytes) ≡ l.number;
}

abbrev pub decreases-loop-count : goal.decreases-loop-count
decreases-loop-count l = length l.bytes - l.count

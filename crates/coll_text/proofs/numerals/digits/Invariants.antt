use Rattle.std.proofs.Common.{◌≡◌, ℕ, drop}
use Rattle.coll_text.specs.Cuts.{Holds, goes_on}
use Rattle.coll_text.proofs.numerals.digits.Given as goal

-- the number so far, which goes on with what is left
abbrev pub invariant-loop-b : goal.invariant-loop-b
invariant-loop-b l = (n : ℕ) × Holds l.number n × (goes_on l.front l.others ≡ goes_on n (drop l.b-index l.others))

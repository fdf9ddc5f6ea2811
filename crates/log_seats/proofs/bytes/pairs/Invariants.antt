use Rattle.std.proofs.Common.{◌≡◌, ◌++◌, length}
use Rattle.log_seats.specs.Bytes.{byte_pairs}
use Rattle.log_seats.proofs.bytes.pairs.Given as goal

-- the bytes that stand there with those of the digits that are left are all
abbrev pub invariant-loop-byte : goal.invariant-loop-byte
invariant-loop-byte l = l.bytes.items ++ byte_pairs l.rest ≡ byte_pairs l.word

abbrev pub decreases-loop-byte : goal.decreases-loop-byte
decreases-loop-byte l = length l.rest

use Rattle.std.proofs.Common.{◌≡◌, ◌≤◌, ◌+◌, ◌++◌, List, ℕ, length, map}
use denote.Ref.{Bor}
use Rattle.coll_text.specs.Text.{lines}
use Rattle.coll_lang.proofs.block.cut_lines.Given as goal

abbrev pub invariant-loop-rest : goal.invariant-loop-rest
invariant-loop-rest l = record {
  at_most : length l.found.items ≤ l.most;
  short : length l.rest + length l.found.items ≤ length l.bytes;
  parts : lines l.bytes ≡ map (λ (x : Bor (List ℕ)). x.now) l.found.items ++ lines l.rest;
}

abbrev pub decreases-loop-rest : goal.decreases-loop-rest
decreases-loop-rest l = length l.rest

use Rattle.std.proofs.Common.{◌≡◌, length}
use Rattle.mark_judge.proofs.Rooted.{AreReachedTo}
use Rattle.mark_judge.proofs.reaching.reach.Given as goal

abbrev pub invariant-loop-c : goal.invariant-loop-c
invariant-loop-c l = record {
  many : length l.words.items ≡ length l.initial.words.items;
  reached : AreReachedTo l.plan l.entries l.roots l.c l.words.items;
}

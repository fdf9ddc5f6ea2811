use Rattle.std.proofs.Common.{ℕ, true, false, ◌≡◌, ◌<◌, length, get_or}
use Rattle.mark_judge.specs.Tables.{AreRoots}
use Rattle.mark_judge.proofs.roots.roots_of.Given as goal

abbrev pub invariant-loop-c : goal.invariant-loop-c
invariant-loop-c l = record {
  many : length l.roots.items ≡ l.c;
  roots : AreRoots l.plan l.c l.roots.items;
  kept : (d : ℕ) → d < l.c → get_or l.entered.items d false ≡ true → get_or l.roots.items d 0 ≡ d;
}

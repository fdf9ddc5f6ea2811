use Rattle.std.proofs.Common.{ℕ, ◌≡◌, ◌<◌, None, length, take}
use Rattle.mark_judge.specs.Judged.{line_flaw}
use Rattle.mark_judge.specs.Tables.{AreNamed, places}
use Rattle.mark_judge.proofs.lines.first_line_flaw.Given as goal

abbrev pub invariant-loop-i : goal.invariant-loop-i
invariant-loop-i l = record {
  none : (j : ℕ) → j < l.i → line_flaw l.plan l.shape l.marks j ≡ None;
  room : length l.named.items ≡ places;
  named : AreNamed (take l.i l.marks) l.named.items;
}

use Rattle.std.proofs.Common.{ℕ, ◌≡◌, ◌<◌, None}
use Rattle.given_verdicts.specs.Answers.{wrong_result}
use Rattle.given_verdicts.proofs.results.first_wrong.Given as goal

-- none of those before shows one
abbrev pub invariant-loop-mark : goal.invariant-loop-mark
invariant-loop-mark l =
    (j : ℕ) → j < l.mark → wrong_result l.first l.given.plan l.shape l.values l.meant l.given.marks j ≡ None

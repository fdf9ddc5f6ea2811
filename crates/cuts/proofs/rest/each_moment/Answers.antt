-- The laws of `Moments`.
use Rattle.std.proofs.Common.{false, inl, inr, IsTrue}
use Rattle.cuts.specs.histories.Plans.{system_of}
use Rattle.op_laws.proofs.OpLaws.{op_laws}
use Rattle.op_laws.proofs.Starts.{combined-starts}
use Rattle.op_laws.proofs.Swaps.{combined-swaps}
use Rattle.cuts.proofs.rest.Moments.{first_moment, next_local, next_stray, none_still, rest_still, still_none, still_rest}
use Rattle.cuts.proofs.rest.each_moment.Goals as goal

no_truth : IsTrue false → ⊥
no_truth h = cc

pub returns-clause-first : goal.returns-clause-first
returns-clause-first c = λ plan inputs slots. first_moment plan inputs slots

pub returns-clause-next : goal.returns-clause-next
returns-clause-next c = λ plan inputs slots world next held later sound fit moment step. elim step [
  | inl s ↦ next_local combined-starts plan inputs sound fit (combined-swaps op_laws) slots world held moment next later s
  | inr s ↦ next_stray plan inputs slots world held moment next later s
]

pub returns-clause-rest : goal.returns-clause-rest
returns-clause-rest c = λ plan inputs slots world held m none. still_rest plan inputs slots world held m
    (none_still (system_of plan inputs slots) world held (λ r e h k. no_truth (none r e h k)))

pub returns-clause-converse : goal.returns-clause-converse
returns-clause-converse c = λ plan inputs slots world held m none rest r e h k. absurd
    (still_none (system_of plan inputs slots) world held (rest_still plan inputs slots world held m none rest) r e h k)

pub returns-clause-still : goal.returns-clause-still
returns-clause-still c = λ plan inputs slots world held. (
  (λ still r e h k. absurd (still_none (system_of plan inputs slots) world held still r e h k)),
  (λ none. none_still (system_of plan inputs slots) world held (λ r e h k. no_truth (none r e h k))),
)

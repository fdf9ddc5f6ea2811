-- The laws of `LaneRequests`, `LaneAnswers`, `LaneEmpty` and `Clean`.
use Rattle.std.proofs.Common.{ℕ, ◌≡◌, ◌≤◌, ◌==◌, List, [], ◌∷◌, refl, length, arith, false}
use Rattle.std.proofs.lemmas.Bool.{and_parts}
use Rattle.ptl_types.specs.Kinds.{is_answer}
use Rattle.ptl_types.specs.Messages.{Sent}
use Rattle.ptl_types.specs.declared.headers.Lane.TheVariants.{Answer, Request}
use Rattle.plan_core.proofs.Lists.{In-filter_cases}
use Rattle.cuts.specs.histories.History.{is_for, made, sent}
use Rattle.plan_core.specs.calls.Lanes.{lane_links}
use Rattle.cuts.specs.view.Calls.{prepare}
use Rattle.cuts.specs.histories.Plans.{start_of}
use Rattle.cuts.proofs.histories.FromCut.{prepared_of}
use Rattle.cuts.proofs.histories.LaneRequests.{few_bytes, few_messages}
use Rattle.cuts.proofs.histories.LaneAnswers.{few_answers}
use Rattle.cuts.proofs.histories.LaneEmpty.{answers-empty}
use Rattle.cuts.proofs.histories.Clean.{made-clean}
use Rattle.cuts.proofs.histories.lanes_of_one_history.Goals as goal

pub returns-clause-messages : goal.returns-clause-messages
returns-clause-messages c = λ plan inputs slots r d history sound legal. few_messages plan slots r (start_of plan slots r) history false
    (prepare plan inputs slots r) (prepared_of plan inputs sound slots r) legal d

pub returns-clause-bytes : goal.returns-clause-bytes
returns-clause-bytes c = λ plan inputs slots r d history sound legal. few_bytes plan slots r (start_of plan slots r) history false
    (prepare plan inputs slots r) (prepared_of plan inputs sound slots r) legal d

none : (ms : List Sent) (n : ℕ) → length ms ≤ n → n ≡ 0 → ms ≡ []
none [] n h e = refl
none (m ∷ ms) n h e = absurd (omega arith)

pub returns-clause-unused : goal.returns-clause-unused
returns-clause-unused c = λ plan inputs slots r d history sound legal empty.
    none (sent (start_of plan slots r) (prepare plan inputs slots r) history d Request) (length (lane_links plan r d))
    (few_messages plan slots r (start_of plan slots r) history false (prepare plan inputs slots r)
    (prepared_of plan inputs sound slots r) legal d) empty

pub returns-clause-answers : goal.returns-clause-answers
returns-clause-answers c = λ plan inputs slots r d history sound legal. few_answers plan slots r (start_of plan slots r) history false
    (prepare plan inputs slots r) (prepared_of plan inputs sound slots r) legal d

pub returns-clause-no_bytes : goal.returns-clause-no_bytes
returns-clause-no_bytes c = λ plan inputs slots r d history m sound i.
    let q = In-filter_cases (is_for d Answer) m (made (start_of plan slots r) (prepare plan inputs slots r) history) i in
    answers-empty plan inputs sound slots r history m (prepared_of plan inputs sound slots r) q.0
    (and_parts (m.header.target == d) (is_answer m.header.kind) q.1).1

pub returns-clause-clean : goal.returns-clause-clean
returns-clause-clean c = λ plan inputs slots r d history lane m sound i.
    made-clean plan inputs sound slots r history m (In-filter_cases (is_for d lane) m
    (made (start_of plan slots r) (prepare plan inputs slots r) history) i).0

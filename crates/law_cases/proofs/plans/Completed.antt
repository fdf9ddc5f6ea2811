-- When a rank is complete, and when a cell's counter has reached its needs: three ranks that count acknowledgements. Each rank of the
-- cut at
-- rest is complete; and histories that need not be legal, each of which leaves a rank incomplete by one fault.
use Rattle.std.proofs.Common.{ℕ, zero, suc, ◌≡◌, ◌<◌, ◌≤◌, ◌+◌, ◌*◌, ◌^◌, List, [], ◌∷◌, ◌++◌, Option, Some, None, refl, arith, ap, sym}
use Rattle.std.proofs.Common.{◌∙◌, lit<, lit≤, length, get_or, false}
use Rattle.ptl_types.specs.Elements.{part}
use Rattle.ptl_types.specs.Messages.{Sent}
use Rattle.ptl_types.specs.declared.handles.Count.{Count}
use Rattle.ptl_types.specs.declared.headers.Lane.TheVariants.{Answer, Request}
use Rattle.ptl_types.specs.declared.headers.MessageKind.TheVariants.{Get}
use Rattle.ni_model.specs.Answers.{answered}
use Rattle.ni_model.specs.Append.{append}
use Rattle.ni_model.specs.Arrive.{request}
use Rattle.ni_model.specs.Counts.{successes}
use Rattle.ni_model.specs.Ready.{fired}
use Rattle.ni_model.specs.Starts.{started}
use Rattle.ni_model.specs.State.{target}
use Rattle.ni_model.specs.Tables.{lookup}
use Rattle.plan_core.specs.Places.{start_in}
use Rattle.plan_core.specs.Plan.{cell, own}
use Rattle.plan_core.specs.Values.{value}
use Rattle.cuts.specs.view.Calls.{call_made}
use Rattle.cuts.specs.view.Slots.{Slots, cell_ct}
use Rattle.cuts.specs.start.Start.{bring, cell_started}
use Rattle.cuts.specs.histories.Barrier.{HasEntered, HasPassed, IsBarrierKept}
use Rattle.cuts.specs.histories.History.Local.{Fire, Receive, Start}
use Rattle.cuts.specs.histories.Plans.{CounterReached, IsComplete, cell_bytes, system_of}
use Rattle.cuts.specs.histories.System.{Histories, state_at}
use Rattle.law_cases.proofs.plans.Broadcast.{slots}
use Rattle.law_cases.proofs.plans.Acknowledged.{ack, ahead, each, inputs, order0, order1, order2, says, short, system, three}
use Rattle.law_cases.proofs.plans.Acknowledged.{unacknowledged, whole}

below11 : (P : ℕ → Type 0) → P 0 → P 1 → P 2 → P 3 → P 4 → P 5 → P 6 → P 7 → P 8 → P 9 → P 10 → (c : ℕ) → c < 11 → P c
below11 P a b c d e f g h i j k zero below = a
below11 P a b c d e f g h i j k (suc zero) below = b
below11 P a b c d e f g h i j k (suc (suc zero)) below = c
below11 P a b c d e f g h i j k (suc (suc (suc zero))) below = d
below11 P a b c d e f g h i j k (suc (suc (suc (suc zero)))) below = e
below11 P a b c d e f g h i j k (suc (suc (suc (suc (suc zero))))) below = f
below11 P a b c d e f g h i j k (suc (suc (suc (suc (suc (suc zero)))))) below = g
below11 P a b c d e f g h i j k (suc (suc (suc (suc (suc (suc (suc zero))))))) below = h
below11 P a b c d e f g h i j k (suc (suc (suc (suc (suc (suc (suc (suc zero)))))))) below = i
below11 P a b c d e f g h i j k (suc (suc (suc (suc (suc (suc (suc (suc (suc zero))))))))) below = j
below11 P a b c d e f g h i j k (suc (suc (suc (suc (suc (suc (suc (suc (suc (suc zero)))))))))) below = k
below11 P a b c d e f g h i j k (suc (suc (suc (suc (suc (suc (suc (suc (suc (suc (suc n))))))))))) below = absurd (omega arith)

-- ---- complete

-- what `cells` asks of one cell
abbrev Holds_at : (ℕ → Slots) → Histories → ℕ → ℕ → Type 0
Holds_at k w r c = (cell three c).rank ≡ r → part (start_in three (own three r) c) (cell three c).length
    (state_at (system_of three inputs k) w r).memory ≡ value three inputs c

abbrev Holds : Histories → ℕ → ℕ → Type 0
Holds w r c = Holds_at (λ k. slots) w r c

rank_0_is_complete : IsComplete three inputs (λ r. slots) whole 0
unfolding target request answered started fired append call_made cell_started bring value
rank_0_is_complete = record {
  done = refl;
  none_pending = refl;
  no_header = refl;
  drops = refl;
  violations = refl;
  cells = below11 (Holds whole 0) (λ e. refl) (λ e. absurd (omega (arith, e))) (λ e. absurd (omega (arith, e))) (λ e. refl)
      (λ e. absurd (omega (arith, e))) (λ e. absurd (omega (arith, e))) (λ e. refl) (λ e. absurd (omega (arith, e)))
      (λ e. refl) (λ e. absurd (omega (arith, e))) (λ e. refl);
}

-- it has dropped a stray
rank_1_is_complete : IsComplete three inputs (λ r. slots) whole 1
unfolding target request answered started fired append call_made cell_started bring value
rank_1_is_complete = record {
  done = refl;
  none_pending = refl;
  no_header = refl;
  drops = refl;
  violations = refl;
  cells = below11 (Holds whole 1) (λ e. absurd (omega (arith, e))) (λ e. refl) (λ e. absurd (omega (arith, e)))
      (λ e. absurd (omega (arith, e)))
      (λ e. refl) (λ e. absurd (omega (arith, e))) (λ e. absurd (omega (arith, e))) (λ e. absurd (omega (arith, e)))
      (λ e. absurd (omega (arith, e))) (λ e. absurd (omega (arith, e))) (λ e. absurd (omega (arith, e)));
}

rank_2_is_complete : IsComplete three inputs (λ r. slots) whole 2
unfolding target request answered started fired append call_made cell_started bring value
rank_2_is_complete = record {
  done = refl;
  none_pending = refl;
  no_header = refl;
  drops = refl;
  violations = refl;
  cells = below11 (Holds whole 2) (λ e. absurd (omega (arith, e))) (λ e. absurd (omega (arith, e))) (λ e. refl)
      (λ e. absurd (omega (arith, e)))
      (λ e. absurd (omega (arith, e))) (λ e. refl) (λ e. absurd (omega (arith, e))) (λ e. refl)
      (λ e. absurd (omega (arith, e))) (λ e. refl) (λ e. absurd (omega (arith, e)));
}

what_came : cell_bytes three inputs (λ r. slots) whole 10 ≡ 9 ∷ []
unfolding target request answered started fired append call_made cell_started bring
what_came = refl

-- ---- incomplete
abbrev success_in : Option Count → ℕ
success_in None = 0
success_in (Some count) = count.success

abbrev failure_in : Option Count → ℕ
failure_in None = 0
failure_in (Some count) = count.failure

-- all was fired, but an acknowledgement isn't counted
not_all_acknowledged : IsComplete three inputs (λ r. slots) (each unacknowledged order1 order2) 0 → ⊥
unfolding target request answered started fired append call_made cell_started bring
not_all_acknowledged h = let q : 5 ≡ 6 = ap success_in h.done in absurd (omega (arith, q))

-- a failed acknowledgement is counted as a failure
abbrev failed : Sent
failed = record (ack 8) { header = record (ack 8).header { ok = false; length = 0 } }

one_has_failed : IsComplete three inputs (λ r. slots) (each (unacknowledged ++ Receive 2 Answer failed ∷ []) order1 order2) 0 → ⊥
unfolding target request answered started fired append call_made cell_started bring
one_has_failed h = let q : 1 ≡ 0 = ap failure_in h.done in absurd (omega (arith, q))

one_is_pending : IsComplete three inputs (λ r. slots) (each order0 order1 short) 2 → ⊥
unfolding target request answered started fired append call_made cell_started bring
one_is_pending h = let q : 1 ≡ 0 = ap length h.none_pending in absurd (omega (arith, q))

-- a message of the job for a cell that isn't there
abbrev astray : Sent
astray = record (says 6 []) { header = record (says 6 []).header { match_bits = (2 ^ 32 + 11) * 2 ^ 16 + 2 } }

a_header_is_left : IsComplete three inputs (λ r. slots) (each (order0 ++ Receive 2 Request astray ∷ []) order1 order2) 0 → ⊥
unfolding target request answered started fired append call_made cell_started bring
a_header_is_left h = let q : 1 ≡ 0 = ap length h.no_header in absurd (omega (arith, q))

-- an answer that is dropped is no stray
an_answer_is_dropped : IsComplete three inputs (λ r. slots) (each (order0 ++ Receive 2 Answer (ack 8) ∷ []) order1 order2) 0 → ⊥
unfolding target request answered started fired append call_made cell_started bring
an_answer_is_dropped h = let q : 1 ≡ 0 = h.drops in absurd (omega (arith, q))

-- a get of what came
abbrev asks : Sent
asks = record { header = record (says 10 []).header { kind = Get }; bytes = [] }

a_get_is_refused : IsComplete three inputs (λ r. slots) (each (order0 ++ Receive 2 Request asks ∷ []) order1 order2) 0 → ⊥
unfolding target request answered started fired append call_made cell_started bring
a_get_is_refused h = let q : 1 ≡ 0 = h.violations in absurd (omega (arith, q))

-- another byte came after the one that is due
another_byte : IsComplete three inputs (λ r. slots) (each (order0 ++ Receive 2 Request (says 10 (5 ∷ [])) ∷ []) order1 order2) 0 → ⊥
unfolding target request answered started fired append call_made cell_started bring value
another_byte h = let q : 5 ≡ 9 = ap (λ (bytes : List ℕ). get_or bytes 0 0) (h.cells 10 (lit< tt) refl) in absurd (omega (arith, q))

-- ---- counters: at its needs, past them, one below
abbrev Reached : Histories → ℕ → Type 0
Reached w c = CounterReached three inputs (λ r. slots) w c

exit_reached : Reached whole 8
unfolding target request answered started fired append call_made cell_started bring
exit_reached = record { count = successes 2; counter = refl; enough = lit≤ tt }

past_its_needs : Reached (each (order0 ++ Receive 2 Request (says 10 (9 ∷ [])) ∷ []) order1 order2) 10
unfolding target request answered started fired append call_made cell_started bring
past_its_needs = record { count = successes 3; counter = refl; enough = lit≤ tt }

one_below : Reached (each [] [] ahead) 9 → ⊥
unfolding target request answered started fired append call_made cell_started bring
one_below h =
    let s : 1 ≡ h.count.success = ap success_in h.counter in
    let f : 0 ≡ h.count.failure = ap failure_in h.counter in
    let q : 2 ≤ h.count.success + h.count.failure = h.enough in absurd (omega (arith, s, f, q))

-- no counter of a rank of a plan counts a failure; one that stood so would have reached its needs, or one below them
abbrev Stands : Histories → ℕ → ℕ → ℕ → Type 0
Stands w c success failure =
    lookup (cell_ct three slots c) (state_at system w (cell three c).rank).cts.live ≡ Some (record { success = success; failure = failure })

a_failure_counts : (w : Histories) → Stands w 9 1 1 → Reached w 9
a_failure_counts w e = record { count = record { success = 1; failure = 1 }; counter = e; enough = lit≤ tt }

failures_alone_count : (w : Histories) → Stands w 9 0 2 → Reached w 9
failures_alone_count w e = record { count = record { success = 0; failure = 2 }; counter = e; enough = lit≤ tt }

one_failure_is_too_few : (w : Histories) → Stands w 9 0 1 → Reached w 9 → ⊥
one_failure_is_too_few w e h =
    let s : 0 ≡ h.count.success = ap success_in (sym e ∙ h.counter) in
    let f : 1 ≡ h.count.failure = ap failure_in (sym e ∙ h.counter) in
    let q : 2 ≤ h.count.success + h.count.failure = h.enough in absurd (omega (arith, s, f, q))

-- ---- slots of each rank's own: a rank's counters stand at the slots that its own tables gave
abbrev own_slots : ℕ → Slots
own_slots r = record { ct = λ t. t + 10 * r; me = λ t. t; md = r }

abbrev some_steps : Histories
some_steps = each [] (Start ∷ Fire 0 ∷ Fire 1 ∷ Fire 2 ∷ []) (Start ∷ Fire 0 ∷ Fire 1 ∷ [])

reached_at_its_slot : CounterReached three inputs own_slots some_steps 7
unfolding target request answered started fired append call_made cell_started bring
reached_at_its_slot = record { count = successes 1; counter = refl; enough = lit≤ tt }

complete_at_its_slots : IsComplete three inputs own_slots some_steps 1
unfolding target request answered started fired append call_made cell_started bring value
complete_at_its_slots = record {
  done = refl;
  none_pending = refl;
  no_header = refl;
  drops = refl;
  violations = refl;
  cells = below11 (Holds_at own_slots some_steps 1) (λ e. absurd (omega (arith, e))) (λ e. refl) (λ e. absurd (omega (arith, e)))
      (λ e. absurd (omega (arith, e))) (λ e. refl) (λ e. absurd (omega (arith, e))) (λ e. absurd (omega (arith, e)))
      (λ e. absurd (omega (arith, e))) (λ e. absurd (omega (arith, e))) (λ e. absurd (omega (arith, e))) (λ e. absurd (omega (arith, e)));
}

-- ---- the barrier of the group of rank 0 and rank 2, in one round
abbrev round : ℕ → ℕ → ℕ
round k m = 6 + 2 * k + m

below2 : (P : ℕ → Type 0) → P 0 → P 1 → (m : ℕ) → m < 2 → P m
below2 P a b zero h = a
below2 P a b (suc zero) h = b
below2 P a b (suc (suc m)) h = absurd (omega arith)

abbrev Kept : Histories → Type 0
Kept w = IsBarrierKept three inputs (λ r. slots) w 2 round 1

both_have_passed : Kept whole
unfolding target request answered started fired append call_made cell_started bring
both_have_passed a m h k passed = below2 (λ a. HasEntered three inputs (λ r. slots) whole round a)
    (record { count = successes 1; counter = refl; enough = lit≤ tt })
    (record { count = successes 1; counter = refl; enough = lit≤ tt }) a h

-- rank 2 has entered and not passed
not_passed : HasPassed three inputs (λ r. slots) (each [] [] ahead) round 1 1 → ⊥
not_passed h = one_below h

not_passed_there : HasPassed three inputs (λ r. slots) (each [] [] ahead) round 1 0 → ⊥
unfolding target request answered started fired append call_made cell_started bring
not_passed_there h =
    let s : 0 ≡ h.count.success = ap success_in h.counter in
    let f : 0 ≡ h.count.failure = ap failure_in h.counter in
    let q : 2 ≤ h.count.success + h.count.failure = h.enough in absurd (omega (arith, s, f, q))

one_has_entered : HasEntered three inputs (λ r. slots) (each [] [] ahead) round 1
unfolding target request answered started fired append call_made cell_started bring
one_has_entered = record { count = successes 1; counter = refl; enough = lit≤ tt }

while_none_has_passed : Kept (each [] [] ahead)
while_none_has_passed a m h k passed = absurd (below2 (λ m. HasPassed three inputs (λ r. slots) (each [] [] ahead) round 1 m → ⊥)
    not_passed_there not_passed m k passed)

-- where rank 2 has done nothing rank 0 may not have passed, and the other way round
not_entered : HasEntered three inputs (λ r. slots) (each order0 order1 []) round 1 → ⊥
unfolding target request answered started fired append call_made cell_started bring
not_entered h =
    let s : 0 ≡ h.count.success = ap success_in h.counter in
    let f : 0 ≡ h.count.failure = ap failure_in h.counter in
    let q : 1 ≤ h.count.success + h.count.failure = h.enough in absurd (omega (arith, s, f, q))

passed_alone : Kept (each order0 order1 []) → ⊥
unfolding target request answered started fired append call_made cell_started bring
passed_alone h = not_entered (h 1 0 (lit< tt) (lit< tt) (record { count = successes 2; counter = refl; enough = lit≤ tt }))

not_entered_there : HasEntered three inputs (λ r. slots) (each [] order1 order2) round 0 → ⊥
unfolding target request answered started fired append call_made cell_started bring
not_entered_there h =
    let s : 0 ≡ h.count.success = ap success_in h.counter in
    let f : 0 ≡ h.count.failure = ap failure_in h.counter in
    let q : 1 ≤ h.count.success + h.count.failure = h.enough in absurd (omega (arith, s, f, q))

passed_alone_there : Kept (each [] order1 order2) → ⊥
unfolding target request answered started fired append call_made cell_started bring
passed_alone_there h = not_entered_there (h 0 1 (lit< tt) (lit< tt) (record { count = successes 2; counter = refl; enough = lit≤ tt }))

-- A job of three ranks that counts acknowledgements: the group of rank 0 and rank 2 meets and sums to rank 2, then all meet. Its plan
-- cell by
-- cell, its barriers, and what its memories hold in the end.
use Rattle.std.proofs.Common.{ℕ, zero, suc, true, ◌≡◌, ◌==◌, ◌<◌, ◌≤◌, ◌+◌, List, [], ◌∷◌, Option, Some, None, codes}
use Rattle.std.proofs.Common.{◌*◌, ◌∙◌, refl, arith, ap, subst, sym, lit<, lit≤, length, get_or, if◌then◌else◌}
use Rattle.ptl_types.specs.Messages.{Sent}
use Rattle.ptl_types.specs.declared.elements.AtomicOp.{AtomicOp}
use Rattle.ptl_types.specs.declared.elements.AtomicOp.TheVariants.{Sum}
use Rattle.ptl_types.specs.declared.elements.ElemType.TheVariants.{U8}
use Rattle.ptl_types.specs.declared.handles.Count.{Count}
use Rattle.ptl_types.specs.declared.headers.Lane.TheVariants.{Request}
use Rattle.ni_model.specs.Answers.{answered}
use Rattle.ni_model.specs.Append.{append}
use Rattle.ni_model.specs.Arrive.{request}
use Rattle.ni_model.specs.Counts.{successes}
use Rattle.ni_model.specs.Ready.{fired}
use Rattle.ni_model.specs.Starts.{started}
use Rattle.ni_model.specs.State.{target}
use Rattle.ni_model.specs.Tables.{lookup}
use Rattle.plan_core.specs.declared.Cell.{Cell}
use Rattle.plan_core.specs.declared.Link.{Link}
use Rattle.plan_core.specs.declared.LinkKind.TheVariants.{Atomic}
use Rattle.plan_core.specs.Draw.{add, add_all, add_cell, add_link, add_links, go_plan, hold}
use Rattle.plan_core.specs.Plan.{Plan, cell}
use Rattle.plan_core.specs.Values.{Inputs}
use Rattle.cuts.specs.view.Calls.{call_made}
use Rattle.cuts.specs.view.TriggeredOps.{link_message}
use Rattle.cuts.specs.view.Slots.{cell_ct}
use Rattle.cuts.specs.start.Start.{bring, cell_started}
use Rattle.cuts.specs.histories.Barrier.{IsBarrierKept}
use Rattle.cuts.specs.histories.History.{Local}
use Rattle.cuts.specs.histories.History.Local.{Fire, Receive, Start}
use Rattle.cuts.specs.histories.Plans.{CounterReached, system_of}
use Rattle.cuts.specs.histories.System.{Histories, state_at}
use Rattle.coll_shape.specs.declared.types.CollStep.TheVariants.{Barrier, Reduce}
use Rattle.coll_shape.specs.declared.types.Version.TheVariants.{Two}
use Rattle.coll_shape.specs.Folding.{at}
use Rattle.coll_shape.specs.Meaning.{lists_of, meaning_of, meant_upto}
use Rattle.coll_shape.specs.Outline.{Outline, group_at, step_at}
use Rattle.plan_steps.specs.Steps.{exits_by, held_by}
use Rattle.plan_steps.specs.Trees.{parent}
use Rattle.plan_steps.specs.Rounds.{rounds}
use Rattle.schedule_compiler.specs.shapes.Drawing.{drawing_of, drawn_inputs, drawn_upto, hold_row, plan_of}
use Rattle.job_laws.specs.steps.Order.{IsAt, entry_cell}
use Rattle.job_laws.specs.Barriers.{AreBarriersKept, barrier_cell}
use Rattle.cuts.specs.cells.Cells.{result_in}
use Rattle.job_laws.specs.Results.{AreMeant}
use Rattle.law_cases.proofs.plans.Broadcast.{bump_link, put_link, slots}
use Rattle.law_cases.proofs.plans.Orders.{empty_on, sync_link}
use Rattle.law_cases.proofs.plans.Three.{below3}

below2 : (P : ℕ → Type 0) → P 0 → P 1 → (m : ℕ) → m < 2 → P m
below2 P a b zero h = a
below2 P a b (suc zero) h = b
below2 P a b (suc (suc m)) h = absurd (omega arith)

abbrev pub job : Outline
job = record {
  version = Two;
  ranks = 3;
  remote = true;
  groups = record { name = codes "g"; members = 0 ∷ 2 ∷ [] } ∷ [];
  buffers =
      record { name = codes "a"; ty = U8; spread = record { length = 1; holders = 0 ∷ 1 ∷ 2 ∷ [] } }
      ∷ record { name = codes "b"; ty = U8; spread = record { length = 1; holders = 2 ∷ [] } } ∷ [];
  inputs = 1;
  steps = Barrier ∷ Reduce 1 Sum 0 1 ∷ Barrier ∷ [];
  on = Some 0 ∷ Some 0 ∷ None ∷ [];
  prints = [];
}

abbrev given : Inputs
given = ((200 ∷ []) ∷ (7 ∷ []) ∷ (100 ∷ []) ∷ []) ∷ []

-- ---- the plan, by hand
abbrev byte_on : ℕ → Option AtomicOp → ℕ → Cell
byte_on r op k = record { rank = r; ty = U8; op = op; length = 1; needs = k }

abbrev sum_link : ℕ → ℕ → Link
sum_link a b = record { source = a; source_offset = 0; length = 1; target = b; target_offset = 0; kind = Atomic }

-- go cells and inputs; entries 6 and 7 and exits 8 and 9 of the group's barrier; entries 10 and 11 and sums 12 and 13; entries 14 to 16 of
-- the barrier of all, their first round, and their exits 20 to 22
abbrev by_hand : Plan
by_hand = record {
  ranks = 3;
  remote = true;
  cells = empty_on 0 1 ∷ empty_on 1 1 ∷ empty_on 2 1 ∷ byte_on 0 None 1 ∷ byte_on 1 None 1 ∷ byte_on 2 None 1
      ∷ empty_on 0 1 ∷ empty_on 2 1 ∷ empty_on 0 2 ∷ empty_on 2 2 ∷ byte_on 0 None 2 ∷ byte_on 2 None 2
      ∷ byte_on 0 (Some Sum) 1 ∷ byte_on 2 (Some Sum) 2 ∷ empty_on 0 1 ∷ empty_on 1 1 ∷ empty_on 2 1 ∷ empty_on 0 2
      ∷ empty_on 1 2 ∷ empty_on 2 2 ∷ empty_on 0 2 ∷ empty_on 1 2 ∷ empty_on 2 2 ∷ [];
  links = bump_link 0 3 ∷ bump_link 1 4 ∷ bump_link 2 5 ∷ bump_link 0 6 ∷ bump_link 2 7 ∷ bump_link 6 8
      ∷ sync_link 7 8 ∷ bump_link 7 9 ∷ sync_link 6 9 ∷ bump_link 8 10 ∷ put_link 3 10 ∷ bump_link 9 11
      ∷ put_link 5 11 ∷ sum_link 10 12 ∷ sum_link 11 13 ∷ sum_link 12 13 ∷ bump_link 12 14 ∷ bump_link 1 15
      ∷ bump_link 13 16 ∷ bump_link 14 17 ∷ sync_link 16 17 ∷ bump_link 15 18 ∷ sync_link 14 18 ∷ bump_link 16 19
      ∷ sync_link 15 19 ∷ bump_link 17 20 ∷ sync_link 18 20 ∷ bump_link 18 21 ∷ sync_link 19 21 ∷ bump_link 19 22
      ∷ sync_link 17 22 ∷ [];
}

plan_is_by_hand : plan_of job ≡ by_hand
unfolding drawing_of drawn_upto drawn_inputs hold_row add add_all add_cell add_link add_links go_plan hold exits_by held_by parent rounds
plan_is_by_hand = refl

-- ---- the cells of the barriers
entries_and_exits : (barrier_cell job 0 0 0 ≡ 6) × (barrier_cell job 0 0 1 ≡ 7) × (barrier_cell job 0 1 0 ≡ 8)
    × (barrier_cell job 0 1 1 ≡ 9)
    × (barrier_cell job 2 0 2 ≡ 16) × (barrier_cell job 2 1 0 ≡ 17) × (barrier_cell job 2 2 1 ≡ 21)
unfolding drawn_upto drawn_inputs hold_row add add_all add_cell add_link add_links go_plan hold exits_by held_by parent rounds
entries_and_exits = (refl, refl, refl, refl, refl, refl, refl)

rounds_of_members : (rounds 1 ≡ 0) × (rounds 2 ≡ 1) × (rounds 3 ≡ 2) × (rounds 4 ≡ 2) × (rounds 5 ≡ 3)
unfolding rounds
rounds_of_members = (refl, refl, refl, refl, refl)

-- ---- barriers
abbrev each : List Local → List Local → List Local → Histories
each a b c r = if r == 0 then a else (if r == 1 then b else c)

abbrev Reached : Histories → ℕ → Type 0
Reached w c = CounterReached by_hand given (λ r. slots) w c

abbrev success_in : Option Count → ℕ
success_in None = 0
success_in (Some count) = count.success

abbrev failure_in : Option Count → ℕ
failure_in None = 0
failure_in (Some count) = count.failure

abbrev counter_of : Histories → ℕ → Option Count
counter_of w c =
    lookup (cell_ct by_hand slots c) (state_at (system_of by_hand given (λ r. slots)) w (cell by_hand c).rank).cts.live

-- a counter that stands at nothing has reached no needs
uncounted : (w : Histories) (c : ℕ) → Reached w c → (counter : Option Count) → counter_of w c ≡ counter
    → success_in counter ≡ 0 → failure_in counter ≡ 0 → (cell by_hand c).needs ≤ 0
uncounted w c h counter e s f =
    let a : success_in counter ≡ h.count.success = ap success_in (sym e ∙ h.counter) in
    let b : failure_in counter ≡ h.count.failure = ap failure_in (sym e ∙ h.counter) in
    let q = h.enough in omega (arith, a, b, q, s, f)

-- what the cells of a barrier say, on the plan by hand
kept_by_hand : (w : Histories) → AreBarriersKept job given (λ r. slots) w →
    (j : ℕ) → j < 3 → step_at job j ≡ Barrier → (round : ℕ → ℕ → ℕ) (k : ℕ) (places : ℕ) → length (group_at job j) ≡ places
    → rounds places ≡ k → (a m : ℕ) → a < places → m < places
    → barrier_cell job j k m ≡ round k m → barrier_cell job j 0 a ≡ round 0 a → Reached w (round k m) → Reached w (round 0 a)
kept_by_hand w h j below is round k places g n a m ha hm last first passed =
    let q = subst (λ p. IsBarrierKept p given (λ r. slots) w (length (group_at job j)) (barrier_cell job j)
    (rounds (length (group_at job j))))
    plan_is_by_hand ((h j below is).0) in
    let q' = subst (λ n. IsBarrierKept by_hand given (λ r. slots) w n (barrier_cell job j) (rounds n)) g q in
    let q'' = subst (λ n. IsBarrierKept by_hand given (λ r. slots) w places (barrier_cell job j) n) n q' in
    subst (λ c. Reached w c) first (q'' a m ha hm (subst (λ c. Reached w c) (sym last) passed))

-- rank 0 has passed the group's barrier, where rank 2 has done nothing
abbrev tells : ℕ → Sent
tells l = link_message by_hand slots l []

abbrev first_passed : Histories
first_passed = each (Start ∷ Fire 0 ∷ Fire 1 ∷ Fire 2 ∷ Receive 2 Request (tells 6) ∷ []) [] []

not_entered : Reached first_passed 7 → ⊥
unfolding target request answered started fired append call_made cell_started bring
not_entered h = let q : 1 ≤ 0 = uncounted first_passed 7 h _ refl refl refl in absurd (omega (arith, q))

abbrev of_group : ℕ → ℕ → ℕ
of_group k m = 6 + 2 * k + m

the_first_is_broken : AreBarriersKept job given (λ r. slots) first_passed → ⊥
unfolding target request answered started fired append call_made cell_started bring drawn_upto drawn_inputs hold_row add add_all
    add_cell add_link add_links go_plan hold exits_by held_by parent rounds
the_first_is_broken h = not_entered (kept_by_hand first_passed h 0 (lit< tt) refl of_group 1 2 refl refl 1 0 (lit< tt) (lit< tt) refl refl
    (record { count = successes 2; counter = refl; enough = lit≤ tt }))

-- rank 1 has passed the barrier of all, where rank 2 has done nothing
abbrev last_passed : Histories
last_passed = each [] (Start ∷ Receive 2 Request (tells 28) ∷ Receive 2 Request (tells 28) ∷ []) []

not_entered_by_all : Reached last_passed 16 → ⊥
unfolding target request answered started fired append call_made cell_started bring
not_entered_by_all h = let q : 1 ≤ 0 = uncounted last_passed 16 h _ refl refl refl in absurd (omega (arith, q))

abbrev of_all : ℕ → ℕ → ℕ
of_all k m = 14 + 3 * k + m

the_last_is_broken : AreBarriersKept job given (λ r. slots) last_passed → ⊥
unfolding target request answered started fired append call_made cell_started bring drawn_upto drawn_inputs hold_row add add_all
    add_cell add_link add_links go_plan hold exits_by held_by parent rounds
the_last_is_broken h = not_entered_by_all (kept_by_hand last_passed h 2 (lit< tt) refl of_all 2 3 refl refl 2 1 (lit< tt)
    (lit< tt) refl refl
    (record { count = successes 2; counter = refl; enough = lit≤ tt }))

-- where nothing was done nobody has passed
abbrev untouched : Histories
untouched r = []

not_passed : (c : ℕ) → counter_of untouched c ≡ Some (successes 0) → 0 < (cell by_hand c).needs → Reached untouched c → ⊥
not_passed c e some h = let q = uncounted untouched c h (Some (successes 0)) e refl refl in absurd (omega (arith, q, some))

-- nor begun a step
not_begun : (k i r : ℕ) → IsAt job k i r → CounterReached (plan_of job) given (λ r. slots) untouched (entry_cell job k i) → ⊥
unfolding target request answered started fired append call_made cell_started bring drawn_upto drawn_inputs hold_row add add_all
    add_cell add_link add_links go_plan hold exits_by held_by parent rounds
not_begun k i r here reached =
    let by = subst (λ p. CounterReached p given (λ r. slots) untouched (entry_cell job k i)) plan_is_by_hand reached in
    below3 (λ k. i < length (group_at job k) → Reached untouched (entry_cell job k i) → ⊥)
    (λ p h. below2 (λ i. Reached untouched (entry_cell job 0 i) → ⊥) (not_passed 6 refl (lit< tt)) (not_passed 7 refl (lit< tt)) i p h)
    (λ p h. below2 (λ i. Reached untouched (entry_cell job 1 i) → ⊥) (not_passed 10 refl (lit< tt)) (not_passed 11 refl (lit< tt)) i p h)
    (λ p h. below3 (λ i. Reached untouched (entry_cell job 2 i) → ⊥) (not_passed 14 refl (lit< tt)) (not_passed 15 refl (lit< tt))
    (not_passed 16 refl (lit< tt)) i p h)
    k here.step here.place by

none_has_passed : (j : ℕ) → j < 3 → step_at job j ≡ Barrier →
    IsBarrierKept (plan_of job) given (λ r. slots) untouched (length (group_at job j)) (barrier_cell job j)
    (rounds (length (group_at job j)))
unfolding target request answered started fired append call_made cell_started bring drawn_upto drawn_inputs hold_row add add_all
    add_cell add_link add_links go_plan hold exits_by held_by parent rounds
none_has_passed j h is a m ha hm passed =
    let by = subst (λ p. CounterReached p given (λ r. slots) untouched (barrier_cell job j (rounds (length (group_at job j))) m))
    plan_is_by_hand passed in
    absurd (below3 (λ j. step_at job j ≡ Barrier → m < length (group_at job j)
    → Reached untouched (barrier_cell job j (rounds (length (group_at job j))) m) → ⊥)
    (λ is k r. below2 (λ m. Reached untouched (barrier_cell job 0 1 m) → ⊥) (not_passed 8 refl (lit< tt))
    (not_passed 9 refl (lit< tt)) m k r)
    (λ is k r. (let q : Reduce 1 Sum 0 1 ≡ Barrier = is in cc))
    (λ is k r. below3 (λ m. Reached untouched (barrier_cell job 2 2 m) → ⊥) (not_passed 20 refl (lit< tt))
    (not_passed 21 refl (lit< tt))
    (not_passed 22 refl (lit< tt)) m k r) j h is hm by)

kept_where_none_has_passed : AreBarriersKept job given (λ r. slots) untouched
kept_where_none_has_passed j h is = (
  none_has_passed j h is,
  λ k i m r a later first second here entered. absurd
      (not_begun k i r second entered),
)

-- ---- what the memories hold: inputs at the first byte of each rank, and the sum behind rank 2's input and its entry
abbrev memories : List ℕ → List ℕ → List ℕ → ℕ → List ℕ
memories a b c r = if r == 0 then a else (if r == 1 then b else c)

abbrev Means : (ℕ → List ℕ) → Type 0
Means memory = AreMeant job given memory

abbrev in_the_end : ℕ → List ℕ
in_the_end = memories (200 ∷ 0 ∷ 0 ∷ []) (7 ∷ []) (100 ∷ 0 ∷ 44 ∷ [])

sum_at_rank_2 : meaning_of job given ≡ ((200 ∷ []) ∷ (7 ∷ []) ∷ (100 ∷ []) ∷ []) ∷ ([] ∷ [] ∷ (44 ∷ []) ∷ []) ∷ []
unfolding meaning_of meant_upto
sum_at_rank_2 = refl

all_is_meant : Means in_the_end
unfolding meaning_of meant_upto drawing_of drawn_upto drawn_inputs hold_row add add_all add_cell add_link add_links go_plan hold
    exits_by held_by parent rounds
all_is_meant b r h k = below2
    (λ b. result_in (plan_of job) (drawing_of job).held b r (in_the_end r) ≡ at (lists_of (meaning_of job given) b) r)
    (below3 (λ r. result_in (plan_of job) (drawing_of job).held 0 r (in_the_end r) ≡ at (lists_of (meaning_of job given) 0) r) refl refl
    refl r k)
    (below3 (λ r. result_in (plan_of job) (drawing_of job).held 1 r (in_the_end r) ≡ at (lists_of (meaning_of job given) 1) r) refl refl
    refl r k) b h

-- the first byte of a list
abbrev first_of : List ℕ → ℕ
first_of bytes = get_or bytes 0 0

-- the sum of all three ranks; an input of the last rank that was changed; one of the first
of_one_too_many : Means (memories (200 ∷ 0 ∷ 0 ∷ []) (7 ∷ []) (100 ∷ 0 ∷ 51 ∷ [])) → ⊥
unfolding meaning_of meant_upto drawing_of drawn_upto drawn_inputs hold_row add add_all add_cell add_link add_links go_plan hold
    exits_by held_by parent rounds
of_one_too_many h = let q : 51 ≡ 44 = ap first_of (h 1 2 (lit< tt) (lit< tt)) in absurd (omega (arith, q))

the_last_input_changed : Means (memories (200 ∷ 0 ∷ 0 ∷ []) (7 ∷ []) (101 ∷ 0 ∷ 44 ∷ [])) → ⊥
unfolding meaning_of meant_upto drawing_of drawn_upto drawn_inputs hold_row add add_all add_cell add_link add_links go_plan hold
    exits_by held_by parent rounds
the_last_input_changed h = let q : 101 ≡ 100 = ap first_of (h 0 2 (lit< tt) (lit< tt)) in absurd (omega (arith, q))

the_first_input_changed : Means (memories (201 ∷ 0 ∷ 0 ∷ []) (7 ∷ []) (100 ∷ 0 ∷ 44 ∷ [])) → ⊥
unfolding meaning_of meant_upto drawing_of drawn_upto drawn_inputs hold_row add add_all add_cell add_link add_links go_plan hold
    exits_by held_by parent rounds
the_first_input_changed h = let q : 201 ≡ 200 = ap first_of (h 0 0 (lit< tt) (lit< tt)) in absurd (omega (arith, q))

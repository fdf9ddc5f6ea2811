-- Two barriers of two ranks. Where the second begins behind the exits of the first, nobody enters it before both have entered the first.
-- Where each step waits for its rank's go cell alone, and not for the step before it, one does.
use Rattle.std.proofs.Common.{ℕ, zero, suc, false, ◌+◌, ◌≡◌, ◌<◌, ◌≤◌, ◌==◌, ◌++◌, List, Option, Some, None, [], ◌∷◌, refl, ap, sym}
use Rattle.std.proofs.Common.{subst, inl, inr, arith, lit≤, if◌then◌else◌}
use Rattle.ptl_types.specs.declared.elements.ElemType.TheVariants.{U8}
use Rattle.ptl_types.specs.declared.handles.Count.{Count}
use Rattle.ptl_types.specs.declared.headers.Lane.{Lane}
use Rattle.ni_model.specs.Answers.{answered}
use Rattle.ni_model.specs.Append.{append}
use Rattle.ni_model.specs.Arrive.{request}
use Rattle.ni_model.specs.Counts.{successes}
use Rattle.ni_model.specs.Ready.{fired}
use Rattle.ni_model.specs.Starts.{started}
use Rattle.ni_model.specs.State.{target}
use Rattle.plan_core.specs.Draw.{go_plan}
use Rattle.plan_core.specs.Plan.{Plan, link}
use Rattle.cuts.specs.histories.Cut.{IsCut, owned}
use Rattle.cuts.specs.histories.History.{Legal, got}
use Rattle.cuts.specs.histories.History.Local.{Fire, Start}
use Rattle.cuts.specs.histories.Plans.{CounterReached, system_of}
use Rattle.cuts.specs.histories.System.{Histories, System, sent_by}
use Rattle.plan_steps.specs.Sounding.{with_cells}
use Rattle.cuts.specs.machine.Machine.{Leads}
use Rattle.cuts.specs.machine.Machine.Leads.{along, here}
use Rattle.plan_steps.specs.Collectives.Barrier.{barrier_cells}
use Rattle.plan_steps.specs.Rounds.{rounds}
use Rattle.cuts.specs.start.Start.{bring, cell_started}
use Rattle.plan_steps.specs.StepContext.{StepContext}
use Rattle.cuts.specs.view.Calls.{call_made}
use Rattle.cuts.specs.view.Slots.{Slots}
use Rattle.law_cases.proofs.plans.Broadcast.{bump_link}
use Rattle.law_cases.proofs.plans.Orders.{empty_on, sync_link}

-- ---- the plans
-- a barrier of ranks 0 and 1 whose first cell has this number, behind these exits
abbrev behind : ℕ → List ℕ → StepContext
behind first exits = record {
  members = 0 ∷ 1 ∷ [];
  first = first;
  exits = exits;
  sources = 0 ∷ 0 ∷ [];
  ty = U8;
  length = 0;
  holding = [];
}

-- two of them, the second behind these exits; the first has its exits in the cells 4 and 5
abbrev two_barriers : List ℕ → Plan
two_barriers exits = with_cells (with_cells (go_plan 2 false) (barrier_cells (behind 2 (0 ∷ 1 ∷ [])))) (barrier_cells (behind 6 exits))

-- written out: go cells, and twice two entries and two cells of a round; the cells a and b are those that the second entries wait for
abbrev written : ℕ → ℕ → Plan
written a b = record {
  ranks = 2;
  remote = false;
  cells = empty_on 0 1 ∷ empty_on 1 1
      ∷ empty_on 0 1 ∷ empty_on 1 1 ∷ empty_on 0 2 ∷ empty_on 1 2
      ∷ empty_on 0 1 ∷ empty_on 1 1 ∷ empty_on 0 2 ∷ empty_on 1 2 ∷ [];
  links = bump_link 0 2 ∷ bump_link 1 3 ∷ bump_link 2 4 ∷ sync_link 3 4 ∷ bump_link 3 5 ∷ sync_link 2 5
      ∷ bump_link a 6 ∷ bump_link b 7 ∷ bump_link 6 8 ∷ sync_link 7 8 ∷ bump_link 7 9 ∷ sync_link 6 9 ∷ [];
}

ordered_is : two_barriers (4 ∷ 5 ∷ []) ≡ written 4 5
unfolding go_plan rounds
ordered_is = refl

skipping_is : two_barriers (0 ∷ 1 ∷ []) ≡ written 0 1
unfolding go_plan rounds
skipping_is = refl

-- ---- chains of links
-- behind the exits of the first barrier the second follows
first_leads : Leads (written 4 5) 4 6
first_leads = along 6 6 (inl refl) here

entries_lead : Leads (written 4 5) 3 6
entries_lead = along 6 6 (inl refl) (along 4 3 (inr (inl refl)) here)

-- with the exits left as they were it follows nothing but the start
none_to_go : (b : ℕ) → Leads (written 0 1) b 0 → b ≡ 0
none_to_go b here = refl
none_to_go b (along c l i path) = absurd i

only_the_start_leads : (b : ℕ) → Leads (written 0 1) b 6 → (b ≡ 6 → ⊥) → b ≡ 0
only_the_start_leads b here differ = absurd (differ refl)
only_the_start_leads b (along c l (inl e) path) differ =
    none_to_go b (subst (λ n. Leads (written 0 1) b (link (written 0 1) n).source) (sym e) path)
only_the_start_leads b (along c l (inr i) path) differ = absurd i

exit_no_longer_leads : Leads (written 0 1) 4 6 → ⊥
exit_no_longer_leads path = let e = only_the_start_leads 4 path (λ e. absurd (omega (arith, e))) in absurd (omega (arith, e))

-- ---- a cut that breaks the law: rank 0 starts and enters the second barrier, and rank 1 does nothing
abbrev slots : ℕ → Slots
slots r = record { ct = λ t. t; me = λ t. t; md = 0 }

abbrev system : System
system = system_of (written 0 1) [] slots

-- the links of rank 0 are 0, 2, 5, 6, 8 and 11, so its operation along link 6 is number 3
abbrev world : Histories
world r = if r == 0 then Start ∷ Fire 3 ∷ [] else []

below2 : (P : ℕ → Type 0) → P 0 → P 1 → (r : ℕ) → r < 2 → P r
below2 P a b zero h = a
below2 P a b (suc zero) h = b
below2 P a b (suc (suc r)) h = absurd (omega arith)

legal : (r : ℕ) → r < 2 → Legal (system.go r) false (system.first r) (world r)
unfolding target request answered started fired append call_made cell_started bring
legal = below2 (λ r. Legal (system.go r) false (system.first r) (world r)) (refl, (refl, tt)) tt

nothing_got : (r s : ℕ) (lane : Lane) → r < 2 → got (world r) s lane ≡ []
nothing_got r s lane h = below2 (λ r. got (world r) s lane ≡ []) refl refl r h

cut : IsCut (system_of (written 0 1) [] slots) world
cut = record {
  legal = legal;
  known = λ r s lane h k. nothing_got r s lane h;
  lanes = λ s d lane h k. (sent_by system world s d lane, ap (λ ms. owned ms ++ sent_by system world s d lane) (nothing_got d s lane k));
}

entered_the_second : CounterReached (written 0 1) [] slots world 6
unfolding target request answered started fired append call_made cell_started bring
entered_the_second = record { count = successes 1; counter = refl; enough = lit≤ tt }

total_of : (a b : Count) → Some a ≡ Some b → a.success + a.failure ≡ b.success + b.failure
total_of a b e = ap (λ (o : Option Count). elim o [ Some c ↦ c.success + c.failure | None ↦ 0 ]) e

not_passed_the_first : CounterReached (written 0 1) [] slots world 4 → ⊥
unfolding target request answered started fired append call_made cell_started bring
not_passed_the_first h =
    let e = total_of (successes 0) h.count h.counter in let n : 2 ≤ h.count.success + h.count.failure = h.enough in absurd
    (omega (arith, e, n))

nor_has_rank_1_entered_it : CounterReached (written 0 1) [] slots world 3 → ⊥
unfolding target request answered started fired append call_made cell_started bring
nor_has_rank_1_entered_it h =
    let e = total_of (successes 0) h.count h.counter in let n : 1 ≤ h.count.success + h.count.failure = h.enough in absurd
    (omega (arith, e, n))

-- so with such exits neither half of the law holds
steps_would_not_follow : ((w : Histories) → IsCut (system_of (written 0 1) [] slots) w → CounterReached (written 0 1) [] slots w 6
    → CounterReached (written 0 1) [] slots w 4) → ⊥
steps_would_not_follow law = not_passed_the_first (law world cut entered_the_second)

barrier_would_not_be_first : ((w : Histories) → IsCut (system_of (written 0 1) [] slots) w → CounterReached (written 0 1) [] slots w 6
    → CounterReached (written 0 1) [] slots w 3) → ⊥
barrier_would_not_be_first law = nor_has_rank_1_entered_it (law world cut entered_the_second)

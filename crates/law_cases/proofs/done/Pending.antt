-- A barrier of two ranks. Rank 0 has got rank 1's message and told all its cells, and its own message has still to go.
use Rattle.std.proofs.Common.{ℕ, Bool, true, false, ◌+◌, ◌≡◌, ◌≤◌, ◌==◌, Some, None, [], ◌∷◌, refl, ap, length, arith, lit≤}
use Rattle.std.proofs.Common.{if◌then◌else◌, Option}
use Rattle.ptl_types.specs.declared.handles.Count.{Count}
use Rattle.ptl_types.specs.declared.headers.Lane.TheVariants.{Request}
use Rattle.ptl_types.specs.Messages.{Sent}
use Rattle.ni_model.specs.Answers.{answered}
use Rattle.ni_model.specs.Append.{append}
use Rattle.ni_model.specs.Arrive.{request}
use Rattle.ni_model.specs.Counts.{successes}
use Rattle.ni_model.specs.Ready.{fired, is_ready}
use Rattle.ni_model.specs.Starts.{started}
use Rattle.ni_model.specs.State.{target}
use Rattle.plan_core.specs.calls.RankOps.{done_threshold}
use Rattle.plan_core.specs.Plan.{Plan}
use Rattle.cuts.specs.histories.History.{Legal, got}
use Rattle.cuts.specs.histories.History.Local.{Fire, Receive, Start}
use Rattle.cuts.specs.histories.Plans.{system_of}
use Rattle.cuts.specs.histories.System.{Histories, System, sent_by, state_at}
use Rattle.cuts.specs.start.Start.{bring, cell_started}
use Rattle.cuts.specs.view.Calls.{call_made}
use Rattle.cuts.specs.view.TriggeredOps.{link_message}
use Rattle.cuts.specs.view.Slots.{Slots}
use Rattle.cuts.specs.done.Done.{IsDone}
use Rattle.law_cases.proofs.plans.Broadcast.{bump_link}
use Rattle.law_cases.proofs.plans.Orders.{empty_on, sync_link}

-- go cells, entries, and one round
abbrev barrier : Bool → Plan
barrier remote = record {
  ranks = 2;
  remote = remote;
  cells = empty_on 0 1 ∷ empty_on 1 1 ∷ empty_on 0 1 ∷ empty_on 1 1 ∷ empty_on 0 2 ∷ empty_on 1 2 ∷ [];
  links = bump_link 0 2 ∷ bump_link 1 3 ∷ bump_link 2 4 ∷ sync_link 3 4 ∷ bump_link 3 5 ∷ sync_link 2 5 ∷ [];
}

abbrev slots : ℕ → Slots
slots r = record { ct = λ t. t; me = λ t. t; md = 0 }

abbrev system : Bool → System
system remote = system_of (barrier remote) [] slots

-- rank 1's message, along link 3
abbrev sync : Bool → Sent
sync remote = link_message (barrier remote) (slots 1) 3 []

-- rank 0: its increments are its operations 0 and 1, its message is 2, and 3 to 5 tell its cells; rank 1 sends and goes no further
abbrev world : Bool → Histories
world remote r =
    if r == 0
    then Start ∷ Fire 0 ∷ Fire 1 ∷ Receive 1 Request (sync remote) ∷ Fire 3 ∷ Fire 4 ∷ Fire 5 ∷ []
    else Start ∷ Fire 0 ∷ Fire 1 ∷ []

legal_0 : Legal ((system false).go 0) false ((system false).first 0) (world false 0)
unfolding target request answered started fired append call_made cell_started bring
legal_0 = (refl, (refl, (refl, ((refl, refl, refl, refl, tt), (refl, (refl, (refl, tt)))))))

legal_1 : Legal ((system false).go 1) false ((system false).first 1) (world false 1)
unfolding target request answered started fired append call_made cell_started bring
legal_1 = (refl, (refl, (refl, tt)))

what_came_was_sent : got (world false 0) 1 Request ≡ sent_by (system false) (world false) 1 0 Request
unfolding target request answered started fired append call_made cell_started bring
what_came_was_sent = refl

-- ---- without acknowledgements
threshold_of_cells : done_threshold (barrier false) 0 ≡ 3
threshold_of_cells = refl

is_done : IsDone (barrier false) [] slots (world false) 0
unfolding target request answered started fired append call_made cell_started bring
is_done = record { count = successes 3; counter = refl; enough = lit≤ tt }

one_is_left : length (state_at (system false) (world false) 0).pending.waiting ≡ 1
unfolding target request answered started fired append call_made cell_started bring
one_is_left = refl

which_is_ready : is_ready (state_at (system false) (world false) 0) 2 ≡ true
unfolding target request answered started fired append call_made cell_started bring
which_is_ready = refl

-- ---- with them
threshold_of_cells_and_messages : done_threshold (barrier true) 0 ≡ 4
threshold_of_cells_and_messages = refl

not_done_yet : IsDone (barrier true) [] slots (world true) 0 → ⊥
unfolding target request answered started fired append call_made cell_started bring
not_done_yet h = let e = total_of (successes 3) h.count h.counter in let n : 4 ≤ h.count.success + h.count.failure = h.enough in
    absurd (omega (arith, e, n))
  where
    total_of : (a b : Count) → Some a ≡ Some b → a.success + a.failure ≡ b.success + b.failure
    total_of a b e = ap (λ (o : Option Count). elim o [ Some c ↦ c.success + c.failure | None ↦ 0 ]) e

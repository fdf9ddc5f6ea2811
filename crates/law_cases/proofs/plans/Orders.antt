-- Histories of a barrier of two ranks and of a barrier of one, step by step: the check computes what each leaves.
--
-- Of two ranks: the plan's calls leave the interface that waits for its start; each rank's history receives what the other's sends; after
-- both all is done and nothing waits; and a rank's last operation is ready only behind the other's message. Of one rank: nothing is ready
-- before the start, the go cell may be told before it sets off the entry, and a second start is one too many. Then a product of elements
-- of sixteen bits, and that the barrier of two ranks is one of one round.
use Rattle.std.specs.Prelude.{ℕ, true, false, ◌≡◌, List, [], ◌∷◌, Some, None, refl, ◌+◌, ◌*◌, ◌^◌, ◌%◌, ◌<◌}
use Rattle.ptl_types.specs.declared.elements.ElemType.TheVariants.{U8, I16}
use Rattle.ptl_types.specs.declared.elements.AtomicOp.TheVariants.{Prod}
use Rattle.ptl_types.specs.declared.headers.Lane.TheVariants.{Request}
use Rattle.ptl_types.specs.Elements.{combined, starting}
use Rattle.ptl_types.specs.Messages.{Sent}
use Rattle.ni_model.specs.Answers.{answered}
use Rattle.ni_model.specs.Arrive.{request}
use Rattle.ni_model.specs.Counts.{successes}
use Rattle.ni_model.specs.Ready.{is_ready, fired}
use Rattle.ni_model.specs.Starts.{started}
use Rattle.ni_model.specs.State.{State, target}
use Rattle.ni_model.specs.Tables.{lookup}
use Rattle.plan_core.specs.declared.Cell.{Cell}
use Rattle.plan_core.specs.declared.Link.{Link}
use Rattle.plan_core.specs.declared.LinkKind.TheVariants.{Put}
use Rattle.plan_core.specs.Plan.{Plan, link, in_links}
use Rattle.plan_core.specs.calls.RankOps.{rank_ops}
use Rattle.plan_core.specs.calls.RankOps.RankOp.{ForLink, ForDone}
use Rattle.cuts.specs.view.TriggeredOps.{link_message}
use Rattle.cuts.specs.view.Slots.{done_ct}
use Rattle.cuts.specs.histories.History.{Beginning, Local, Legal, state, sent, got}
use Rattle.cuts.specs.histories.History.Local.{Start, Receive, Fire}
use Rattle.law_cases.proofs.plans.Broadcast.{bump_link, slots}
use Rattle.std.proofs.Common.{zero, suc, inl, inr, arith, lit≤}
use Rattle.plan_core.specs.Members.{In}
use Rattle.cuts.specs.machine.Rounds.{Comes, IsRounds}
use Rattle.cuts.specs.start.Start.{bring, cell_started}
use Rattle.cuts.specs.start.Waiting.{waiting_view}
use Rattle.cuts.specs.machine.Seen.{nothing_seen}
use Rattle.cuts.specs.view.Calls.{call_made, prepare}
use Rattle.cuts.specs.histories.Plans.{start_of}
use Rattle.ni_model.specs.Append.{append}

-- a cell without bytes on a rank, which waits for so many arrivals
abbrev pub empty_on : ℕ → ℕ → Cell
empty_on rank needs = record { rank = rank; ty = U8; op = None; length = 0; needs = needs }

-- a message without bytes from a cell to one of another rank
abbrev pub sync_link : ℕ → ℕ → Link
sync_link from to = record { source = from; source_offset = 0; length = 0; target = to; target_offset = 0; kind = Put }

-- ---- the barrier of two ranks: of each rank the go cell, then the entry, then the cell of the one round, which waits for the rank's own
-- entry and for the other's message
abbrev pub two_ranks : Plan
two_ranks = record {
  ranks = 2;
  remote = false;
  cells = empty_on 0 1 ∷ empty_on 1 1 ∷ empty_on 0 1 ∷ empty_on 1 1 ∷ empty_on 0 2 ∷ empty_on 1 2 ∷ [];
  links =
      bump_link 0 2 ∷ bump_link 1 3 ∷ bump_link 2 4 ∷ sync_link 3 4 ∷ bump_link 3 5 ∷ sync_link 2 5 ∷ [];
}

-- rank r's interface after the plan's calls, and what its start does
abbrev prepared : ℕ → State
prepared r = prepare two_ranks [] slots r

abbrev beginning : ℕ → Beginning
beginning r = start_of two_ranks slots r

calls_leave_the_waiting_view : prepared 1 ≡ waiting_view two_ranks [] slots 1 (λ n. slots) [] nothing_seen
unfolding append call_made
calls_leave_the_waiting_view = refl

-- the links of a rank are numbered first, and then its cells
numbers_of_rank_0 : rank_ops two_ranks 0 ≡ ForLink 0 ∷ ForLink 2 ∷ ForLink 5 ∷ ForDone 0 ∷ ForDone 2 ∷ ForDone 4 ∷ []
numbers_of_rank_0 = refl

-- the message that goes along a link
abbrev pub sync_message : ℕ → Sent
sync_message l = link_message two_ranks slots l []

-- what a rank can do without the other's message, then with it, then all
abbrev before_the_message : List Local
before_the_message = Start ∷ Fire 0 ∷ Fire 1 ∷ Fire 2 ∷ Fire 3 ∷ Fire 4 ∷ []

abbrev behind_the_message : List Local
behind_the_message = Start ∷ Fire 0 ∷ Fire 1 ∷ Fire 2 ∷ Fire 3 ∷ Fire 4 ∷ Receive 1 Request (sync_message 3) ∷ []

abbrev pub history_of_rank_0 : List Local
history_of_rank_0 = Start ∷ Fire 0 ∷ Fire 1 ∷ Fire 2 ∷ Fire 3 ∷ Fire 4 ∷ Receive 1 Request (sync_message 3) ∷ Fire 5 ∷ []

abbrev pub history_of_rank_1 : List Local
history_of_rank_1 = Start ∷ Fire 0 ∷ Fire 1 ∷ Fire 2 ∷ Fire 3 ∷ Fire 4 ∷ Receive 0 Request (sync_message 5) ∷ Fire 5 ∷ []

-- each history receives what the other sends
rank_1_receives_what_rank_0_sends :
    sent (beginning 0) (prepared 0) history_of_rank_0 1 Request ≡ got history_of_rank_1 0 Request
unfolding target request answered started fired call_made append cell_started bring
rank_1_receives_what_rank_0_sends = refl

rank_0_receives_what_rank_1_sends :
    sent (beginning 1) (prepared 1) history_of_rank_1 0 Request ≡ got history_of_rank_0 1 Request
unfolding target request answered started fired call_made append cell_started bring
rank_0_receives_what_rank_1_sends = refl

-- at the end all is done
done_counter_full : lookup (done_ct slots) (state (beginning 0) (prepared 0) history_of_rank_0).cts.live ≡ Some (successes 3)
unfolding target request answered started fired call_made append cell_started bring
done_counter_full = refl

none_waits_on_rank_0 : (state (beginning 0) (prepared 0) history_of_rank_0).pending.waiting ≡ []
unfolding target request answered started fired call_made append cell_started bring
none_waits_on_rank_0 = refl

none_waits_on_rank_1 : (state (beginning 1) (prepared 1) history_of_rank_1).pending.waiting ≡ []
unfolding target request answered started fired call_made append cell_started bring
none_waits_on_rank_1 = refl

-- before the other rank's message the last operation isn't ready, after it it is
not_ready_before_the_message : is_ready (state (beginning 0) (prepared 0) before_the_message) 5 ≡ false
unfolding target request answered started fired call_made append cell_started bring
not_ready_before_the_message = refl

ready_behind_the_message : is_ready (state (beginning 0) (prepared 0) behind_the_message) 5 ≡ true
unfolding target request answered started fired call_made append cell_started bring
ready_behind_the_message = refl

-- ---- the barrier of one rank: the go cell and the entry. Operation 0 goes from the one to the other, and 1 and 2 tell them
abbrev pub one_rank : Plan
one_rank = record { ranks = 1; remote = false; cells = empty_on 0 1 ∷ empty_on 0 1 ∷ []; links = bump_link 0 1 ∷ [] }

abbrev prepared_alone : State
prepared_alone = prepare one_rank [] slots 0

abbrev beginning_alone : Beginning
beginning_alone = start_of one_rank slots 0

not_ready_before_the_start : is_ready prepared_alone 0 ≡ false
unfolding append call_made
not_ready_before_the_start = refl

-- the entry is still to be told, so this is no rest
entry_still_ready : is_ready (state beginning_alone prepared_alone (Start ∷ Fire 0 ∷ Fire 1 ∷ [])) 2 ≡ true
unfolding target request answered started fired call_made append cell_started bring
entry_still_ready = refl

-- the go cell may be told first
go_cell_ready_first : is_ready (state beginning_alone prepared_alone (Start ∷ [])) 1 ≡ true
unfolding append call_made cell_started bring
go_cell_ready_first = refl

none_waits_after_it : (state beginning_alone prepared_alone (Start ∷ Fire 1 ∷ Fire 0 ∷ Fire 2 ∷ [])).pending.waiting ≡ []
unfolding target request answered started fired call_made append cell_started bring
none_waits_after_it = refl

-- nothing is sent, so nothing can be received
sends_nothing : sent beginning_alone prepared_alone (Start ∷ Fire 0 ∷ Fire 1 ∷ Fire 2 ∷ []) 0 Request ≡ []
unfolding target request answered started fired call_made append cell_started bring
sends_nothing = refl

-- the second start may not be made
no_second_start : Legal beginning_alone false prepared_alone (Start ∷ Start ∷ []) → ⊥
no_second_start legal =
    let not_started_yet : true ≡ false = legal.1.0 in
    cc

-- ---- a product of two elements of sixteen bits wraps: 300 times 300 is 24464
product : combined Prod I16 (combined Prod I16 (starting Prod I16 2) (44 ∷ 1 ∷ [])) (44 ∷ 1 ∷ []) ≡ 144 ∷ 95 ∷ []
product = refl

-- ---- the barrier of two ranks is one of one round
-- rank r's cell before any round is its entry, and after round k the cell of that round
abbrev cell_after : ℕ → ℕ → ℕ
cell_after k r = 2 + 2 * k + r

comes_along : (l from to : ℕ) → In l (in_links two_ranks to) → (link two_ranks l).source ≡ from → Comes two_ranks from to
comes_along l from to leads_to starts_at = record { l = l; into = leads_to; from = starts_at }

one_round : IsRounds two_ranks 2 1 cell_after
one_round = record {
  stays = λ k r is_round is_rank. own_cell k r is_round is_rank;
  comes = λ k m r is_round is_sender is_rank ahead. other_cell k m r is_round is_sender is_rank ahead;
  enough = lit≤ tt;
}
  where
    -- links 2 and 4 go from a rank's entry to its cell of the round
    own_cell : (k r : ℕ) → k < 1 → r < 2 → Comes two_ranks (cell_after k r) (cell_after (suc k) r)
    own_cell zero zero is_round is_rank = comes_along 2 2 4 (inl refl) refl
    own_cell zero (suc zero) is_round is_rank = comes_along 4 3 5 (inl refl) refl
    own_cell zero (suc (suc r)) is_round is_rank = absurd (omega arith)
    own_cell (suc k) r is_round is_rank = absurd (omega arith)

    -- links 5 and 3 go from the entry of rank m to the cell of the rank ahead of it
    other_cell : (k m r : ℕ) → k < 1 → m < 2 → r < 2 → (m + 2 ^ k) % 2 ≡ r → Comes two_ranks (cell_after k m) (cell_after (suc k) r)
    other_cell zero zero zero is_round is_sender is_rank ahead = cc
    other_cell zero zero (suc zero) is_round is_sender is_rank ahead = comes_along 5 2 5 (inr (inl refl)) refl
    other_cell zero (suc zero) zero is_round is_sender is_rank ahead = comes_along 3 3 4 (inr (inl refl)) refl
    other_cell zero (suc zero) (suc zero) is_round is_sender is_rank ahead = cc
    other_cell zero m (suc (suc r)) is_round is_sender is_rank ahead = absurd (omega arith)
    other_cell zero (suc (suc m)) r is_round is_sender is_rank ahead = absurd (omega arith)
    other_cell (suc k) m r is_round is_sender is_rank ahead = absurd (omega arith)

-- A reduction of two ranks with sums that wrap: 200 and 100 are 44 as unsigned bytes, in either order of arrival.
use Rattle.std.specs.Prelude.{ℕ, false, ◌≡◌, List, [], ◌∷◌, ◌++◌, Option, Some, None, refl}
use Rattle.ptl_types.specs.declared.elements.ElemType.TheVariants.{U8}
use Rattle.ptl_types.specs.declared.elements.AtomicOp.{AtomicOp}
use Rattle.ptl_types.specs.declared.elements.AtomicOp.TheVariants.{Sum, Min}
use Rattle.ptl_types.specs.declared.headers.Lane.TheVariants.{Request}
use Rattle.ptl_types.specs.Messages.{Sent}
use Rattle.ni_model.specs.Answers.{answered}
use Rattle.ni_model.specs.Arrive.{request}
use Rattle.ni_model.specs.Counts.{successes}
use Rattle.ni_model.specs.Ready.{fired}
use Rattle.ni_model.specs.Starts.{started}
use Rattle.ni_model.specs.State.{State, target}
use Rattle.ni_model.specs.Tables.{lookup}
use Rattle.plan_core.specs.declared.Cell.{Cell}
use Rattle.plan_core.specs.declared.Link.{Link}
use Rattle.plan_core.specs.declared.LinkKind.{LinkKind}
use Rattle.plan_core.specs.declared.LinkKind.TheVariants.{Put, Atomic}
use Rattle.plan_core.specs.Plan.{Plan}
use Rattle.plan_core.specs.Values.{Inputs, value}
use Rattle.plan_core.specs.calls.RankOps.{rank_ops, done_threshold}
use Rattle.plan_core.specs.calls.RankOps.RankOp.{ForLink, ForDone}
use Rattle.cuts.specs.view.TriggeredOps.{link_message}
use Rattle.cuts.specs.view.Slots.{done_ct}
use Rattle.cuts.specs.histories.History.{Local, state, sent, got}
use Rattle.cuts.specs.histories.History.Local.{Start, Receive, Fire}
use Rattle.law_cases.proofs.plans.Broadcast.{bump_link, slots}
use Rattle.cuts.specs.start.Start.{bring, cell_started}
use Rattle.cuts.specs.start.Waiting.{waiting_view}
use Rattle.cuts.specs.machine.Seen.{nothing_seen}
use Rattle.cuts.specs.view.Calls.{call_made, prepare}
use Rattle.cuts.specs.histories.Plans.{start_of}
use Rattle.ni_model.specs.Append.{append}

abbrev byte_cell : ℕ → ℕ → Option AtomicOp → ℕ → Cell
byte_cell r n op k = record { rank = r; ty = U8; op = op; length = n; needs = k }

abbrev byte_link : LinkKind → ℕ → ℕ → Link
byte_link kind a b = record { source = a; source_offset = 0; length = 1; target = b; target_offset = 0; kind = kind }

-- go cells, inputs, entries, and the cells of the tree: the child's at rank 1, the root's at rank 0
abbrev plan : AtomicOp → Plan
plan op = record {
  ranks = 2;
  remote = false;
  cells = byte_cell 0 0 None 1 ∷ byte_cell 1 0 None 1 ∷ byte_cell 0 1 None 1 ∷ byte_cell 1 1 None 1 ∷ byte_cell 0 1 None 2 ∷ byte_cell 1 1
      None 2 ∷ byte_cell 1 1 (Some op) 1 ∷ byte_cell 0 1 (Some op) 2 ∷ [];
  links = bump_link 0 2 ∷ bump_link 1 3 ∷ bump_link 0 4 ∷ byte_link Put 2 4 ∷ bump_link 1 5 ∷ byte_link Put 3 5 ∷ byte_link Atomic 5 6
      ∷ byte_link Atomic 4 7 ∷ byte_link Atomic 6 7 ∷ [];
}

abbrev inputs : Inputs
inputs = ((200 ∷ []) ∷ (100 ∷ []) ∷ []) ∷ []

sum_wraps : value (plan Sum) inputs 7 ≡ 44 ∷ []
unfolding value
sum_wraps = refl

-- a minimum begins with the greatest value
least : value (plan Min) inputs 7 ≡ 100 ∷ []
unfolding value
least = refl

-- the memory of rank 0 is its cells, one after the other: go, input, entry, result, which begins with 0 or, for a minimum, with 255;
-- and after them its areas: a byte for what is put, two for what is combined
memory_at_first : (prepare (plan Sum) inputs slots 0).memory ≡ 200 ∷ 0 ∷ 0 ∷ 0 ∷ 0 ∷ 0 ∷ []
unfolding append call_made
memory_at_first = refl

memory_of_a_minimum : (prepare (plan Min) inputs slots 0).memory ≡ 200 ∷ 0 ∷ 255 ∷ 0 ∷ 255 ∷ 255 ∷ []
unfolding append call_made
memory_of_a_minimum = refl

memory_of_the_other : (prepare (plan Sum) inputs slots 1).memory ≡ 100 ∷ 0 ∷ 0 ∷ 0 ∷ 0 ∷ []
unfolding append call_made
memory_of_the_other = refl

closed_form : prepare (plan Sum) inputs slots 0 ≡ waiting_view (plan Sum) inputs slots 0 (λ n. slots) [] nothing_seen
unfolding append call_made
closed_form = refl

works_of_rank_0 : rank_ops (plan Sum) 0 ≡ ForLink 0 ∷ ForLink 2 ∷ ForLink 3 ∷ ForLink 7 ∷ ForDone 0 ∷ ForDone 2 ∷ ForDone 4 ∷ ForDone 7 ∷ []
works_of_rank_0 = refl

abbrev carries : ℕ → ℕ → Sent
carries l b = link_message (plan Sum) slots l (b ∷ [])

-- the input comes to the entry, and then the child's sum before or after the own entry's
abbrev own_part : List Local
own_part = Start ∷ Fire 0 ∷ Fire 1 ∷ Fire 2 ∷ Receive 0 Request (carries 3 200) ∷ Fire 3 ∷ []

abbrev child_last : List Local
child_last = own_part ++ Receive 0 Request (carries 7 200) ∷ Receive 1 Request (carries 8 100) ∷ Fire 4 ∷ Fire 5 ∷ Fire 6 ∷ Fire 7 ∷ []

abbrev child_first : List Local
child_first = Receive 1 Request (carries 8 100) ∷ own_part ++ Receive 0 Request (carries 7 200) ∷ Fire 7 ∷ Fire 6 ∷ Fire 5 ∷ Fire 4 ∷ []

abbrev end : List Local → State
end h = state (start_of (plan Sum) slots 0) (prepare (plan Sum) inputs slots 0) h

memory_at_last : (end child_last).memory ≡ 200 ∷ 200 ∷ 44 ∷ 0 ∷ 0 ∷ 0 ∷ []
unfolding target request answered started fired call_made append cell_started bring
memory_at_last = refl

-- the child's sum came before the start, so it lies in the area too
same_cells : (end child_first).memory ≡ 200 ∷ 200 ∷ 44 ∷ 0 ∷ 100 ∷ 0 ∷ []
unfolding target request answered started fired call_made append cell_started bring
same_cells = refl

done_at_last : lookup (done_ct slots) (end child_last).cts.live ≡ Some (successes 4)
unfolding target request answered started fired call_made append cell_started bring
done_at_last = refl

threshold : done_threshold (plan Sum) 0 ≡ 4
threshold = refl

-- what rank 0 sent to itself is what it received from itself, with the bytes as they stood when each operation fired
sent_to_itself : sent (start_of (plan Sum) slots 0) (prepare (plan Sum) inputs slots 0) child_first 0 Request ≡ got child_first 0 Request
unfolding target request answered started fired call_made append cell_started bring
sent_to_itself = refl

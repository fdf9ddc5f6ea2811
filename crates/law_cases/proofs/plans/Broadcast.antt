-- One broadcast on one rank, with acknowledgements counted: in an order that has a time all is complete. Where the acknowledgement of a
-- message is received before the message was fired, lanes and firings agree all the same and the interface loses it: so a history is legal
-- only where an answer that comes is awaited.
use Rattle.std.specs.Prelude.{ℕ, Bool, true, false, ◌&&◌, ◌≡◌, ◌+◌, ◌*◌, ◌^◌, List, [], ◌∷◌, Some, None, refl}
use Rattle.ptl_types.specs.declared.elements.ElemType.TheVariants.{U8, U32}
use Rattle.ptl_types.specs.declared.elements.AtomicOp.TheVariants.{Sum}
use Rattle.ptl_types.specs.declared.headers.Lane.TheVariants.{Request, Answer}
use Rattle.ptl_types.specs.Messages.{Sent}
use Rattle.ni_model.specs.Answers.{answered, is_awaited}
use Rattle.ni_model.specs.Arrive.{request}
use Rattle.ni_model.specs.Counts.{successes}
use Rattle.ni_model.specs.Ready.{is_ready, fired}
use Rattle.ni_model.specs.Starts.{started}
use Rattle.ni_model.specs.State.{State, target}
use Rattle.ni_model.specs.Tables.{lookup}
use Rattle.plan_core.specs.declared.Cell.{Cell}
use Rattle.plan_core.specs.declared.Link.{Link}
use Rattle.plan_core.specs.declared.LinkKind.TheVariants.{Put, Bump}
use Rattle.plan_core.specs.Plan.{Plan}
use Rattle.plan_core.specs.Values.{Inputs, value}
use Rattle.cuts.specs.view.Slots.{Slots, done_ct}
use Rattle.cuts.specs.view.TriggeredOps.{link_message, ack_message}
use Rattle.plan_core.specs.calls.RankOps.{done_threshold}
use Rattle.plan_core.specs.calls.Bits.{bits_above, class_of}
use Rattle.cuts.specs.histories.History.{Beginning, Legal, Local, after, state, sent, got}
use Rattle.cuts.specs.histories.History.Local.{Start, Receive, Fire}
use Rattle.cuts.specs.start.Start.{bring, cell_started}
use Rattle.cuts.specs.start.Waiting.{waiting_view}
use Rattle.cuts.specs.machine.Seen.{nothing_seen}
use Rattle.cuts.specs.view.Calls.{call_made, prepare}
use Rattle.cuts.specs.histories.Plans.{start_of}
use Rattle.ni_model.specs.Append.{append}

-- a cell of rank 0 with n bytes and k needs
abbrev pub plain : ℕ → ℕ → Cell
plain n k = record { rank = 0; ty = U8; op = None; length = n; needs = k }

abbrev pub bump_link : ℕ → ℕ → Link
bump_link a b = record { source = a; source_offset = 0; length = 0; target = b; target_offset = 0; kind = Bump }

abbrev pub put_link : ℕ → ℕ → Link
put_link a b = record { source = a; source_offset = 0; length = 1; target = b; target_offset = 0; kind = Put }

-- the go cell, the input, the entry, the result
abbrev pub plan : Plan
plan = record {
  ranks = 1;
  remote = true;
  cells = plain 0 1 ∷ plain 1 1 ∷ plain 1 2 ∷ plain 1 1 ∷ [];
  links =
      bump_link 0 1 ∷ bump_link 0 2 ∷ put_link 1 2 ∷ put_link 2 3 ∷ [];
}

abbrev pub inputs : Inputs
inputs = ((7 ∷ []) ∷ []) ∷ []

abbrev pub slots : Slots
slots = record { ct = λ t. t; me = λ t. t; md = 0 }

abbrev pub begin : State
begin = prepare plan inputs slots 0

abbrev pub go : Beginning
go = start_of plan slots 0

result_is_the_input : value plan inputs 3 ≡ 7 ∷ []
unfolding value
result_is_the_input = refl

threshold_counts_acknowledgements : done_threshold plan 0 ≡ 6
threshold_counts_acknowledgements = refl

threshold_without : done_threshold (record plan { remote = false }) 0 ≡ 4
threshold_without = refl

closed_form : prepare plan inputs slots 0 ≡ waiting_view plan inputs slots 0 (λ n. slots) [] nothing_seen
unfolding append call_made
closed_form = refl

-- match bits, from the highest: the job, the class, the cell, and the sender below
bits_of_a_put : bits_above (class_of None U8) 3 * 2 ^ 16 + 0 ≡ 0x0001000000030000
bits_of_a_put = refl

bits_of_an_atomic : bits_above (class_of (Some Sum) U32) 5 * 2 ^ 16 + 2 ≡ 0x0001150000050002
bits_of_an_atomic = refl

abbrev pub m2 : Sent
m2 = link_message plan slots 2 (7 ∷ [])

abbrev pub m3 : Sent
m3 = link_message plan slots 3 (7 ∷ [])

abbrev pub a2 : Sent
a2 = ack_message plan slots 2

abbrev pub a3 : Sent
a3 = ack_message plan slots 3

-- ---- in an order that has a time
abbrev pub good : List Local
good = Start ∷ Fire 0 ∷ Fire 1 ∷ Fire 2 ∷ Receive 0 Request m2 ∷ Receive 0 Answer a2 ∷ Fire 3 ∷ Receive 0 Request m3 ∷ Receive 0 Answer a3
    ∷ Fire 4 ∷ Fire 5 ∷ Fire 6 ∷ Fire 7 ∷ []

good_done : lookup (done_ct slots) (state go begin good).cts.live ≡ Some (successes 6)
unfolding target request answered started fired call_made append cell_started bring
good_done = refl

good_drops : (state go begin good).drops ≡ 0
unfolding target request answered started fired call_made append cell_started bring
good_drops = refl

-- the cells, and after them the area of two bytes, which nothing came to before the start
good_memory : (state go begin good).memory ≡ 7 ∷ 7 ∷ 7 ∷ 0 ∷ 0 ∷ []
unfolding target request answered started fired call_made append cell_started bring
good_memory = refl

-- ---- the acknowledgement of the first message is received before the message is fired
abbrev pub early : List Local
early = Start ∷ Fire 0 ∷ Fire 1 ∷ Receive 0 Answer a2 ∷ Fire 2 ∷ Receive 0 Request m2 ∷ Fire 3 ∷ Receive 0 Request m3 ∷ Receive 0 Answer
    a3 ∷ Fire 4 ∷ Fire 5 ∷ Fire 6 ∷ Fire 7 ∷ []

-- what was received is what was sent, on both lanes
requests_agree : got early 0 Request ≡ sent go begin early 0 Request
unfolding target request answered started fired call_made append cell_started bring
requests_agree = refl

answers_agree : got early 0 Answer ≡ sent go begin early 0 Answer
unfolding target request answered started fired call_made append cell_started bring
answers_agree = refl

-- each firing was ready, and nothing is pending
abbrev fires_ready : Beginning → State → List Local → Bool
fires_ready b s [] = true
fires_ready b s (Fire t ∷ es) = is_ready s t && fires_ready b (after b s (Fire t)) es
fires_ready b s (e ∷ es) = fires_ready b (after b s e) es

firings_agree : fires_ready go begin early ≡ true
unfolding target request answered started fired call_made append cell_started bring
firings_agree = refl

none_pending : (state go begin early).pending.waiting ≡ []
unfolding target request answered started fired call_made append cell_started bring
none_pending = refl

-- and yet the done counter stops below its threshold, and the drop register rose, though no stray was received
one_is_lost : lookup (done_ct slots) (state go begin early).cts.live ≡ Some (successes 5)
unfolding target request answered started fired call_made append cell_started bring
one_is_lost = refl

one_is_dropped : (state go begin early).drops ≡ 1
unfolding target request answered started fired call_made append cell_started bring
one_is_dropped = refl

-- what tells it: no answer was awaited where it came
not_awaited : is_awaited (state go begin (Start ∷ Fire 0 ∷ Fire 1 ∷ [])).mds.live ≡ false
unfolding target request answered started fired call_made append cell_started bring
not_awaited = refl

early_not_legal : Legal go false begin early → ⊥
unfolding target request answered started fired call_made append cell_started bring
early_not_legal l = let q : false ≡ true = l.1.1.1.0.4 in cc

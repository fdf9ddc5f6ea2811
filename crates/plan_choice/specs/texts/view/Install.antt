-- An interface of a choice text in closed form: the state of a rank that is so far with each step.
use Rattle.std.specs.Prelude.{ℕ, zero, suc, Bool, true, false, not, ◌==◌, ◌+◌, ◌*◌, List, Option, Some, None, [], ◌∷◌, ◌++◌}
use Rattle.std.specs.Prelude.{if◌then◌else◌, length, map, filter, flat_map, count_by, min}
use Rattle.ptl_types.specs.declared.handles.Handle.{Handle}
use Rattle.ptl_types.specs.declared.handles.Count.{Count}
use Rattle.ptl_types.specs.declared.elements.AtomicOp.TheVariants.{Sum}
use Rattle.ptl_types.specs.declared.elements.SwapOp.TheVariants.{Cswap}
use Rattle.ptl_types.specs.declared.elements.ElemType.TheVariants.{U64}
use Rattle.ptl_types.specs.declared.headers.Header.{Header}
use Rattle.ptl_types.specs.declared.headers.MessageKind.TheVariants.{FetchAtomic as FetchAtomicKind, Swap as SwapKind}
use Rattle.ptl_types.specs.declared.headers.AckRequest.TheVariants.{NoAck}
use Rattle.ptl_types.specs.declared.entries.Entry.{Entry}
use Rattle.ptl_types.specs.declared.entries.Descriptor.{Descriptor}
use Rattle.ptl_types.specs.declared.entries.TheConstants.HiddenEntryEvents as hidden_entry_events
use Rattle.ptl_types.specs.declared.entries.TheConstants.HiddenDescriptorEvents as hidden_descriptor_events
use Rattle.ptl_types.specs.declared.calls.Limits.{Limits}
use Rattle.ptl_types.specs.declared.calls.PutArgs.{PutArgs}
use Rattle.ptl_types.specs.declared.calls.GetArgs.{GetArgs}
use Rattle.ptl_types.specs.declared.calls.TriggeredOp.{TriggeredOp}
use Rattle.ptl_types.specs.declared.calls.TriggeredOp.TheVariants.{FetchAtomic as FetchAtomicAction, Get as GetAction, Inc as IncAction}
use Rattle.ptl_types.specs.declared.calls.TriggeredOp.TheVariants.{Swap as SwapAction}
use Rattle.ptl_types.specs.Handles.{top}
use Rattle.ptl_types.specs.Elements.{little_endian}
use Rattle.ptl_types.specs.Messages.{Sent, message}
use Rattle.ni_model.specs.declared.Linked.{Linked}
use Rattle.ni_model.specs.declared.Bound.{Bound}
use Rattle.ni_model.specs.Tables.{Live, handle, no_things}
use Rattle.ni_model.specs.Counts.{successes}
use Rattle.ni_model.specs.Headers.{unexpected_list}
use Rattle.ni_model.specs.Arrive.{reply_header}
use Rattle.ni_model.specs.Starts.{fetch_header, get_header}
use Rattle.ni_model.specs.State.{Posted, State}
use Rattle.plan_core.specs.Plan.{from_to}
use Rattle.coll_lang.specs.declared.choices.ChoiceKind.{ChoiceKind}
use Rattle.plan_choice.specs.texts.machine.Choices.{choice_at}
use Rattle.coll_lang.specs.declared.choices.ChoiceKind.TheVariants.{Elect, Tickets}
use Rattle.plan_choice.specs.texts.machine.Machine.{Answer, Ask, Moment, Phase, first_word, value_of}
use Rattle.plan_choice.specs.texts.machine.Machine.Phase.{Answered, Asked, Idle, Learned, Read, Reading, Served, Told}

-- the slots that were given out, by stamp: of the counters, the entries and the descriptors
pub record Slots : Type 0 where
  pub ct : ℕ → ℕ
  pub me : ℕ → ℕ
  pub md : ℕ → ℕ

-- the numbers of the steps
abbrev pub steps : List ChoiceKind → List ℕ
steps ks = from_to 0 (length ks)

-- how many things the steps before step s have together, where a step has so many
abbrev pub before : (ChoiceKind → ℕ) → List ChoiceKind → ℕ → ℕ
before many ks zero = 0
before many ks (suc s) = before many ks s + many (choice_at ks s)

-- ---- counting events: go, done, and of each step the one that its first answer counts on, and of an elect that of its get
pub data Counter : Type 0 where
  Go : Counter
  Done : Counter
  First : (step : ℕ) → Counter
  Second : (step : ℕ) → Counter

-- those of a step
abbrev pub counters_of : ChoiceKind → ℕ → List Counter
counters_of Elect s = First s ∷ Second s ∷ []
counters_of Tickets s = First s ∷ []

-- how many
abbrev pub counters_in : ChoiceKind → ℕ
counters_in Elect = 2
counters_in Tickets = 1

-- all, in the order of their making
abbrev pub counters : List ChoiceKind → List Counter
counters ks = Go ∷ Done ∷ flat_map (λ s. counters_of (choice_at ks s) s) (steps ks)

-- the stamp of each
abbrev pub ct_stamp : List ChoiceKind → Counter → ℕ
ct_stamp ks Go = 0
ct_stamp ks Done = 1
ct_stamp ks (First s) = 2 + (before counters_in ks s + 0)
ct_stamp ks (Second s) = 2 + (before counters_in ks s + 1)

-- and its handle
abbrev pub ct_of : Slots → List ChoiceKind → Counter → Handle
ct_of k ks c = handle (k.ct (ct_stamp ks c)) (ct_stamp ks c)

-- ---- descriptors: what a step gives, of an elect the word that it gets back, and the result
pub data Part : Type 0 where
  Given : (step : ℕ) → Part
  Old : (step : ℕ) → Part
  Result : (step : ℕ) → Part

-- those of a step
abbrev pub parts_of : ChoiceKind → ℕ → List Part
parts_of Elect s = Given s ∷ Old s ∷ Result s ∷ []
parts_of Tickets s = Given s ∷ Result s ∷ []

-- a step has as many descriptors as triggered operations; the place of the last, and how many
abbrev pub last_in : ChoiceKind → ℕ
last_in Elect = 2
last_in Tickets = 1

-- one more
abbrev pub things_in : ChoiceKind → ℕ
things_in k = suc (last_in k)

-- all, in the order of their making
abbrev pub parts : List ChoiceKind → List Part
parts ks = flat_map (λ s. parts_of (choice_at ks s) s) (steps ks)

-- the stamp of each
abbrev pub md_stamp : List ChoiceKind → Part → ℕ
md_stamp ks (Given s) = before things_in ks s + 0
md_stamp ks (Old s) = before things_in ks s + 1
md_stamp ks (Result s) = before things_in ks s + last_in (choice_at ks s)

-- and its handle
abbrev pub md_of : Slots → List ChoiceKind → Part → Handle
md_of k ks x = handle (k.md (md_stamp ks x)) (md_stamp ks x)

-- where its eight bytes begin: a step has four words, that of rank 0, what it gives, the old word and the result
abbrev pub part_start : Part → ℕ
part_start (Given s) = 32 * s + 8
part_start (Old s) = 32 * s + 16
part_start (Result s) = 32 * s + 24

-- the counter on which the first answer counts, or that of a get
abbrev pub result_counter : ChoiceKind → ℕ → Counter
result_counter Elect s = Second s
result_counter Tickets s = First s

-- the counter of a descriptor
abbrev pub part_counter : List ChoiceKind → Part → Option Counter
part_counter ks (Given s) = None
part_counter ks (Old s) = Some (First s)
part_counter ks (Result s) = Some (result_counter (choice_at ks s) s)

-- answers count where there is a counter
abbrev pub has_counter : Part → Bool
has_counter (Given s) = false
has_counter _ = true

-- the handle of a counter, if there is one
abbrev pub ct_named : Slots → List ChoiceKind → Option Counter → Option Handle
ct_named k ks None = None
ct_named k ks (Some c) = Some (ct_of k ks c)

-- the descriptor
abbrev pub descriptor_of : Slots → List ChoiceKind → Part → Descriptor
descriptor_of k ks x = record {
  start = part_start x;
  length = 8;
  eq = None;
  ct = ct_named k ks (part_counter ks x);
  count_send = false;
  count_reply = has_counter x;
  count_ack = false;
  hidden = hidden_descriptor_events.NONE;
}

-- ---- entries, on rank 0: the word of a step, which its number matches
abbrev pub word_entry : ℕ → Entry
word_entry s = record {
  start = 32 * s;
  length = 8;
  ct = None;
  match_id = None;
  match_bits = s;
  ignore_bits = 0;
  min_free = 0;
  allow_put = true;
  allow_get = true;
  use_once = false;
  manage_local = false;
  no_truncate = false;
  count_comm = false;
  count_overflow = false;
  hidden = hidden_entry_events.NONE;
}

-- as it is linked
abbrev pub entry_of : Slots → ℕ → Linked
entry_of k s = record { handle = handle (k.me s) s; running = 0; entry = word_entry s }

-- ---- triggered operations: the first request of a step, the get of an elect, and the telling of the done counter
pub data RankOp : Type 0 where
  Send : (step : ℕ) → RankOp
  Look : (step : ℕ) → RankOp
  ForDone : (step : ℕ) → RankOp

-- those of a step
abbrev pub works_of : ChoiceKind → ℕ → List RankOp
works_of Elect s = Send s ∷ Look s ∷ ForDone s ∷ []
works_of Tickets s = Send s ∷ ForDone s ∷ []

-- all, in the order of their posting
abbrev pub rank_ops : List ChoiceKind → List RankOp
rank_ops ks = flat_map (λ s. works_of (choice_at ks s) s) (steps ks)

-- the number of each
abbrev pub number_of : List ChoiceKind → RankOp → ℕ
number_of ks (Send s) = before things_in ks s + 0
number_of ks (Look s) = before things_in ks s + 1
number_of ks (ForDone s) = before things_in ks s + last_in (choice_at ks s)

-- the counter that it waits on
abbrev pub work_counter : List ChoiceKind → RankOp → Counter
work_counter ks (Send s) = Go
work_counter ks (Look s) = First s
work_counter ks (ForDone s) = result_counter (choice_at ks s) s

-- where an answer goes: eight bytes of this descriptor
abbrev pub get_args : Slots → List ChoiceKind → ℕ → Part → GetArgs
get_args k ks s x = record { md = md_of k ks x; local_offset = 0; length = 8; target = 0; pt = 0; match_bits = s; remote_offset = 0 }

-- what is given: eight bytes to the word of rank 0
abbrev pub put_args : Slots → List ChoiceKind → ℕ → PutArgs
put_args k ks s = record {
  md = md_of k ks (Given s);
  local_offset = 0;
  length = 8;
  ack = NoAck;
  target = 0;
  pt = 0;
  match_bits = s;
  remote_offset = 0;
  hdr_data = 0;
}

-- an elect swaps its rank in where nobody was before; tickets add one
abbrev pub first_action : Slots → List ChoiceKind → ChoiceKind → ℕ → TriggeredOp
first_action k ks Elect s = SwapAction (get_args k ks s (Old s)) (put_args k ks s) Cswap U64 top
first_action k ks Tickets s = FetchAtomicAction (get_args k ks s (Result s)) (put_args k ks s) Sum U64

-- what an operation does
abbrev pub action_of : Slots → List ChoiceKind → RankOp → TriggeredOp
action_of k ks (Send s) = first_action k ks (choice_at ks s) s
action_of k ks (Look s) = GetAction (get_args k ks s (Result s))
action_of k ks (ForDone s) = IncAction (ct_of k ks Done) (successes 1)

-- as it waits
abbrev pub operation : Slots → List ChoiceKind → RankOp → Posted
operation k ks w = record { number = number_of ks w; action = action_of k ks w; ct = ct_of k ks (work_counter ks w); threshold = 1 }

-- ---- messages

-- the word that rank r gives to a step
abbrev pub given_word : ChoiceKind → ℕ → ℕ
given_word Elect r = r
given_word Tickets r = 1

-- eight bytes
abbrev pub word : ℕ → List ℕ
word x = little_endian 8 x

-- the header of a first request
abbrev pub first_header : Slots → List ChoiceKind → ChoiceKind → ℕ → ℕ → Header
first_header k ks Elect r s = fetch_header r SwapKind (get_args k ks s (Old s)) (put_args k ks s) None (Some Cswap) U64 top
first_header k ks Tickets r s = fetch_header r FetchAtomicKind (get_args k ks s (Result s)) (put_args k ks s) (Some Sum) None U64 0

-- the header of a request of rank r
abbrev pub ask_header : Slots → List ChoiceKind → ℕ → ℕ → Bool → Header
ask_header k ks r s reads = if reads then get_header r (get_args k ks s (Result s)) else first_header k ks (choice_at ks s) r s

-- with its bytes
abbrev pub ask_message : Slots → List ChoiceKind → ℕ → Ask → Sent
ask_message k ks r a = message (ask_header k ks r a.step a.reads) (if a.reads then [] else word (given_word (choice_at ks a.step) r))

-- an answer for rank r
abbrev pub answer_message : Slots → List ChoiceKind → ℕ → Answer → Sent
answer_message k ks r a = message (reply_header true 8 (ask_header k ks r a.step a.reads)) (word a.value)

-- ---- one rank at a moment
pub record ChoiceRank : Type 0 where
  pub started : Bool
  pub phase : ℕ → Phase
  pub word : ℕ → ℕ

-- the words of a rank that nobody asks
abbrev pub first_words : List ChoiceKind → ℕ → ℕ
first_words ks s = first_word (choice_at ks s)

-- rank r of a moment
abbrev pub seat_of : List ChoiceKind → Moment → ℕ → ChoiceRank
seat_of ks m r = record { started = m.started r; phase = m.phase r; word = if r == 0 then m.word else first_words ks }

-- the old word of an elect, once it is home
abbrev pub old_of : Phase → ℕ
old_of (Answered old) = old
old_of (Reading old) = old
old_of (Read old value) = old
old_of (Learned old value) = old
old_of (Told old value) = old
old_of _ = 0

-- four words
abbrev pub four_words : ℕ → ℕ → ℕ → ℕ → List ℕ
four_words h v o b = word h ++ (word v ++ (word o ++ word b))

-- a step's bytes
abbrev pub step_bytes : List ChoiceKind → ℕ → ChoiceRank → ℕ → List ℕ
step_bytes ks r seat s = four_words (seat.word s) (given_word (choice_at ks s) r) (old_of (seat.phase s)) (value_of (seat.phase s))

-- the result is home
abbrev pub has_result : Phase → Bool
has_result (Learned old value) = true
has_result (Told old value) = true
has_result _ = false

-- the first answer is home
abbrev pub has_first : ChoiceKind → Phase → Bool
has_first Tickets p = has_result p
has_first Elect (Answered old) = true
has_first Elect (Reading old) = true
has_first Elect (Read old value) = true
has_first Elect p = has_result p

-- the step is told
abbrev pub is_told : Phase → Bool
is_told (Told old value) = true
is_told _ = false

-- none or one
abbrev pub none_or_one : Bool → ℕ
none_or_one b = if b then 1 else 0

-- where a counter stands
abbrev pub count_of : List ChoiceKind → ChoiceRank → Counter → ℕ
count_of ks seat Go = none_or_one seat.started
count_of ks seat Done = min (count_by (λ s. is_told (seat.phase s)) (steps ks)) top
count_of ks seat (First s) = none_or_one (has_first (choice_at ks s) (seat.phase s))
count_of ks seat (Second s) = none_or_one (has_result (seat.phase s))

-- the first request or its answer is under way
abbrev pub is_out : Phase → Bool
is_out Asked = true
is_out (Served old) = true
is_out _ = false

-- the get or its answer is
abbrev pub is_reading : Phase → Bool
is_reading (Reading old) = true
is_reading (Read old value) = true
is_reading _ = false

-- the result is awaited
abbrev pub awaits_result : ChoiceKind → Phase → Bool
awaits_result Elect p = is_reading p
awaits_result Tickets p = is_out p

-- how many answers a descriptor awaits
abbrev pub awaits_of : List ChoiceKind → ChoiceRank → Part → ℕ
awaits_of ks seat (Given s) = 0
awaits_of ks seat (Old s) = none_or_one (is_out (seat.phase s))
awaits_of ks seat (Result s) = none_or_one (awaits_result (choice_at ks s) (seat.phase s))

-- an operation was fired
abbrev pub was_sent : Phase → Bool
was_sent Idle = false
was_sent _ = true

-- the get was
abbrev pub was_read : Phase → Bool
was_read (Reading old) = true
was_read (Read old value) = true
was_read p = has_result p

-- by the operation
abbrev pub was_fired : ChoiceRank → RankOp → Bool
was_fired seat (Send s) = was_sent (seat.phase s)
was_fired seat (Look s) = was_read (seat.phase s)
was_fired seat (ForDone s) = is_told (seat.phase s)

-- ---- the interface

-- what it is opened with
abbrev pub limits_of : List ChoiceKind → Limits
limits_of ks = record {
  entries = length ks;
  unexpected = 0;
  mds = 3 * length ks;
  cts = 2 * length ks + 2;
  eqs = 0;
  pts = 1;
  triggered = 3 * length ks;
  msg = 8;
  atomic = 8;
  fetch_atomic = 8;
}

-- a counter in the table
abbrev pub live_counter : Slots → List ChoiceKind → ChoiceRank → Counter → Live Count
live_counter k ks seat c = record { handle = ct_of k ks c; value = successes (count_of ks seat c) }

-- a descriptor in the table
abbrev pub live_part : Slots → List ChoiceKind → ChoiceRank → Part → Live Bound
live_part k ks seat x = record { handle = md_of k ks x; value = record { md = descriptor_of k ks x; awaits = awaits_of ks seat x } }

-- the entries, on rank 0 alone
abbrev pub entries_of : Slots → List ChoiceKind → ℕ → List Linked
entries_of k ks r = if r == 0 then map (entry_of k) (steps ks) else []

-- the interface of rank r
abbrev pub view : Slots → ℕ → List ChoiceKind → ℕ → ChoiceRank → State
view k ranks ks r seat = record {
  rank = r;
  ranks = ranks;
  limits = limits_of ks;
  memory = flat_map (step_bytes ks r seat) (steps ks);
  indices = Some (record { eq = None; priority = entries_of k ks r; overflow = [] }) ∷ [];
  entries_given = if r == 0 then length ks else 0;
  headers = unexpected_list [] 0;
  cts = record { live = map (live_counter k ks seat) (counters ks); given = length (counters ks); limit = 2 * length ks + 2 };
  eqs = no_things 0;
  mds = record { live = map (live_part k ks seat) (parts ks); given = length (parts ks); limit = 3 * length ks };
  pending = record {
    waiting = map (operation k ks) (filter (λ w. not (was_fired seat w)) (rank_ops ks));
    given = length (rank_ops ks);
    limit = 3 * length ks;
  };
  drops = 0;
  violations = 0;
}

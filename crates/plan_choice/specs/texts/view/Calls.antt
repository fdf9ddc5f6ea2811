-- The calls that install a choice text on a rank, as values, and the interface that they leave.
use Rattle.std.specs.Prelude.{ℕ, ◌==◌, ◌≡◌, List, Option, None, [], ◌∷◌, ◌++◌, if◌then◌else◌, length, map, flat_map}
use Rattle.ptl_types.specs.declared.calls.NiFault.{NiFault}
use Rattle.ptl_types.specs.declared.entries.List.TheVariants.{Priority}
use Rattle.ni_model.specs.Append.{append_fault}
use Rattle.ni_model.specs.Calls.{with_bound, with_counter, with_index, with_operation}
use Rattle.ni_model.specs.Conditions.{MayStart}
use Rattle.ni_model.specs.Refusals.{alloc_fault, bind_fault, pt_alloc_fault, triggered_fault}
use Rattle.ni_model.specs.State.{State, opened, parts_of as target_parts, side_of}
use Rattle.cuts.specs.view.Calls.{with_entry}
use Rattle.coll_lang.specs.declared.choices.ChoiceKind.{ChoiceKind}
use Rattle.plan_choice.specs.texts.machine.Choices.{choice_at}
use Rattle.plan_choice.specs.texts.machine.Machine.{first_word, opened as nothing_done}
use Rattle.plan_choice.specs.texts.view.Install.{Counter, Part, ChoiceRank, Slots, RankOp, counters_of, ct_of, action_of, descriptor_of}
use Rattle.plan_choice.specs.texts.view.Install.{four_words}
use Rattle.plan_choice.specs.texts.view.Install.{given_word, limits_of, parts_of, seat_of, steps, word_entry, work_counter, rank_ops}
use Rattle.plan_choice.specs.texts.view.Install.Counter.{Done, Go}

-- ---- the calls

-- portal table index 0, without a queue; a counting event; a descriptor; the entry of a step's word; a triggered operation
pub data Call : Type 0 where
  PtAlloc : Call
  CtAlloc : (counter : Counter) → Call
  MdBind : (part : Part) → Call
  MeAppend : (step : ℕ) → Call
  Trigger : (work : RankOp) → Call

-- the counting events of a step, and then its descriptors
abbrev pub step_calls : List ChoiceKind → ℕ → List Call
step_calls ks s = map CtAlloc (counters_of (choice_at ks s) s) ++ map MdBind (parts_of (choice_at ks s) s)

-- the words to which all ranks send stand on rank 0
abbrev pub word_calls : List ChoiceKind → ℕ → List Call
word_calls ks r = if r == 0 then map MeAppend (steps ks) else []

-- all, in order: what is made by step, the words, and then the operations by step
abbrev pub install_calls : List ChoiceKind → ℕ → List Call
install_calls ks r =
    PtAlloc ∷ CtAlloc Go ∷ CtAlloc Done
    ∷ (flat_map (step_calls ks) (steps ks) ++ (word_calls ks r ++ map Trigger (rank_ops ks)))

-- ---- what they do, where they aren't refused

-- one call
abbrev pub call_made : Slots → List ChoiceKind → Call → State → State
call_made k ks PtAlloc s = with_index 0 None s
call_made k ks (CtAlloc c) s = with_counter (k.ct s.cts.given) s
call_made k ks (MdBind x) s = with_bound (k.md s.mds.given) (descriptor_of k ks x) s
call_made k ks (MeAppend t) s = with_entry (k.me s.entries_given) Priority (word_entry t) s
call_made k ks (Trigger w) s = with_operation (action_of k ks w) (ct_of k ks (work_counter ks w)) 1 s

-- a list of calls, in order
abbrev pub calls_made : Slots → List ChoiceKind → List Call → State → State
calls_made k ks [] s = s
calls_made k ks (call ∷ calls) s = calls_made k ks calls (call_made k ks call s)

-- ---- whether they are refused

-- why the interface refuses a call, if it does
abbrev pub call_fault : Slots → List ChoiceKind → Call → State → Option NiFault
call_fault k ks PtAlloc s = pt_alloc_fault 0 None (side_of s) s.eqs
call_fault k ks (CtAlloc c) s = alloc_fault s.cts
call_fault k ks (MdBind x) s = bind_fault (descriptor_of k ks x) (length s.memory) s.cts s.eqs s.mds
call_fault k ks (MeAppend t) s = append_fault 0 (word_entry t) (target_parts s)
call_fault k ks (Trigger w) s = triggered_fault (action_of k ks w) (ct_of k ks (work_counter ks w)) s.cts s.mds s.pending

-- what a caller sees to: what a triggered operation sends goes to a rank that there is, and is within the limits
abbrev pub MayMake : Slots → List ChoiceKind → Call → State → Type 0
MayMake k ks (Trigger w) s = MayStart (action_of k ks w) s.ranks s.limits
MayMake k ks _ s = Unit {0}

-- each call may be made where it stands, and isn't refused
abbrev pub AllPass : Slots → List ChoiceKind → List Call → State → Type 0
AllPass k ks [] s = Unit {0}
AllPass k ks (call ∷ calls) s = MayMake k ks call s × (call_fault k ks call s ≡ None) × AllPass k ks calls (call_made k ks call s)

-- ---- the interface of a rank before its start

-- a step's words: that of rank 0, what the rank gives, and two that answers will fill
abbrev pub first_bytes : List ChoiceKind → ℕ → ℕ → List ℕ
first_bytes ks r s = four_words (first_word (choice_at ks s)) (given_word (choice_at ks s) r) 0 0

-- just opened
abbrev pub blank : ℕ → List ChoiceKind → ℕ → State
blank ranks ks r = opened r ranks (limits_of ks) (flat_map (first_bytes ks r) (steps ks))

-- after the calls
abbrev pub install : Slots → ℕ → List ChoiceKind → ℕ → State
install k ranks ks r = calls_made k ks (install_calls ks r) (blank ranks ks r)

-- the seat of a rank that has done nothing
abbrev pub no_seat : List ChoiceKind → ℕ → ChoiceRank
no_seat ks r = seat_of ks (nothing_done ks) r

-- The calls of an installation, kind by kind: what each list of things to make leaves.
use Rattle.std.specs.Prelude.{ℕ, ◌==◌, List, None, [], ◌∷◌, if◌then◌else◌, flat_map}
use Rattle.ptl_types.specs.declared.entries.List.TheVariants.{Priority}
use Rattle.ni_model.specs.State.{State, opened}
use Rattle.ni_model.specs.Calls.{with_bound, with_counter, with_index, with_operation}
use Rattle.plan_core.specs.Plan.{from_to}
use Rattle.cuts.specs.view.Calls.{with_entry}
use Rattle.coll_lang.specs.declared.choices.ChoiceKind.{ChoiceKind}
use Rattle.plan_choice.specs.texts.machine.Choices.{choice_at}
use Rattle.plan_choice.specs.texts.view.Install.{Counter, Part, Slots, RankOp, counters_of, ct_of, action_of, descriptor_of, limits_of}
use Rattle.plan_choice.specs.texts.view.Install.{parts_of}
use Rattle.plan_choice.specs.texts.view.Install.{step_bytes, steps, word_entry, work_counter, rank_ops}
use Rattle.plan_choice.specs.texts.view.Calls.{no_seat}

-- a counting event for each of these
abbrev pub counters_all : Slots → List Counter → State → State
counters_all k [] s = s
counters_all k (c ∷ cs) s = counters_all k cs (with_counter (k.ct s.cts.given) s)

-- a descriptor for each of these
abbrev pub parts_all : Slots → List ChoiceKind → List Part → State → State
parts_all k ks [] s = s
parts_all k ks (x ∷ xs) s = parts_all k ks xs (with_bound (k.md s.mds.given) (descriptor_of k ks x) s)

-- an entry for each of these steps
abbrev pub entries_all : Slots → List ℕ → State → State
entries_all k [] s = s
entries_all k (t ∷ ts) s = entries_all k ts (with_entry (k.me s.entries_given) Priority (word_entry t) s)

-- these triggered operations, each at threshold 1
abbrev pub operations_all : Slots → List ChoiceKind → List RankOp → State → State
operations_all k ks [] s = s
operations_all k ks (w ∷ ws) s = operations_all k ks ws (with_operation (action_of k ks w) (ct_of k ks (work_counter ks w)) 1 s)

-- the counters and descriptors of these steps, step by step
abbrev pub made_all : Slots → List ChoiceKind → List ℕ → State → State
made_all k ks [] s = s
made_all k ks (t ∷ ts) s =
    made_all k ks ts (parts_all k ks (parts_of (choice_at ks t) t) (counters_all k (counters_of (choice_at ks t) t) s))

-- the counters cs of step t, and its descriptors xs, after the steps before it
abbrev pub made_part : Slots → List ChoiceKind → ℕ → List Counter → List Part → State → State
made_part k ks t cs xs s = parts_all k ks xs (counters_all k cs (made_all k ks (from_to 0 t) s))

-- opened with the words' initial bytes, with index 0
abbrev pub indexed : ℕ → List ChoiceKind → ℕ → State
indexed ranks ks r = with_index 0 None (opened r ranks (limits_of ks) (flat_map (step_bytes ks r (no_seat ks r)) (steps ks)))

-- and with the go and done counters
abbrev pub fresh : Slots → ℕ → List ChoiceKind → ℕ → State
fresh k ranks ks r = with_counter (k.ct 1) (with_counter (k.ct 0) (indexed ranks ks r))

-- the state before the operations: counters and descriptors by step, and on rank 0 the entries
abbrev pub entered : Slots → ℕ → List ChoiceKind → ℕ → State
entered k ranks ks r =
    let made = made_all k ks (steps ks) (fresh k ranks ks r) in
    if r == 0 then entries_all k (steps ks) made else made

-- all of them: then the operations by step
abbrev pub made_in_order : Slots → ℕ → List ChoiceKind → ℕ → State
made_in_order k ranks ks r = operations_all k ks (rank_ops ks) (entered k ranks ks r)

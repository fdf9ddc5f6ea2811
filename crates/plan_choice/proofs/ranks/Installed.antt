-- The interface after all calls.
use Rattle.std.proofs.Common.{ℕ, ◌+◌, ◌<◌, ◌≡◌, ◌∙◌, List, ◌∷◌, ◌++◌, ap, arith, flat_map, get_or, length, map, refl, subst, sym}
use Rattle.std.specs.Prelude.{sum_by}
use Rattle.std.proofs.lemmas.List.Sums.{sum_by-cons}
use Rattle.coll_lang.specs.declared.choices.ChoiceKind.{ChoiceKind}
use Rattle.ptl_types.specs.declared.calls.Limits.{Limits}
use Rattle.ni_model.specs.State.{State, opened}
use Rattle.ni_model.specs.Tables.{handle}
use Rattle.rank_node.specs.Handles.{AreAllOf, Counted, Handles, handle_of, no_handles, room_under, slot_at}
use Rattle.plan_choice.specs.texts.view.Calls.{blank, install, install_calls, step_calls, word_calls}
use Rattle.plan_choice.specs.texts.view.Calls.Call.{CtAlloc, PtAlloc, Trigger}
use Rattle.plan_choice.specs.texts.view.Install.{Slots, ct_of, limits_of, steps, rank_ops}
use Rattle.plan_choice.specs.texts.view.Install.Counter.{Done, Go}
use Rattle.plan_choice.proofs.texts.view.Called.{installed}
use Rattle.plan_choice.specs.ranks.Given.{Agrees, AreMade, IsWide, counters_by}

-- nothing was given yet
none_given : (r n : ℕ) (limits : Limits) (bytes : List ℕ) (room : Counted) → AreAllOf (opened r n limits bytes) (no_handles room)
none_given r n limits bytes room = record { counters = refl; entries = refl; descriptors = refl; live = refl }

-- an interface that was just opened gave nothing, and operations may be posted on it
pub opened_all : (n : ℕ) (ks : List ChoiceKind) (r : ℕ) (s : State) (hs : Handles) → s ≡ blank n ks r
    → hs ≡ no_handles (room_under (limits_of ks)) → AreAllOf s hs
opened_all n ks r s hs e none =
    subst (λ (v : State). AreAllOf v hs) (sym e)
    (subst (λ (h : Handles). AreAllOf (blank n ks r) h) (sym none)
    (none_given r n (limits_of ks) (blank n ks r).memory (room_under (limits_of ks))))

pub opened_wide : (n : ℕ) (ks : List ChoiceKind) (r : ℕ) (s : State) → 0 < n → s ≡ blank n ks r → IsWide s
opened_wide n ks r s some e =
    subst IsWide (sym e) (let w : IsWide (blank n ks r) = record { some = some; whole = omega arith; fetches = omega arith } in w)

-- the slots of these handles
abbrev pub slots_by : Handles → Slots
slots_by hs = record { ct = slot_at hs.counters; me = slot_at hs.entries; md = slot_at hs.descriptors }

own_slots : (hs : Handles) → Agrees (slots_by hs) hs
own_slots hs = record {
  counters = record { slots = λ n h. refl };
  entries = record { slots = λ n h. refl };
  descriptors = record { slots = λ n h. refl };
}

module _ (n : ℕ) (ks : List ChoiceKind) (r : ℕ) (s : State) (old hs : Handles)
    (made : AreMade ks (install_calls ks r) (blank n ks r) s old hs) where
  pub nic_installed : s ≡ install (slots_by hs) n ks r
  nic_installed = made.state (slots_by hs) (own_slots hs)

  -- the first counter that was made is go
  pub go_first : get_or hs.counters 0 (handle 0 0) ≡ ct_of (slots_by hs) ks Go
  go_first =
      ap (λ hs. get_or hs 0 (handle 0 0)) (sym made.all.live)
      ∙ ap (λ (v : State). get_or (map handle_of v.cts.live) 0 (handle 0 0)) (nic_installed ∙ installed (slots_by hs) n ks r)

  pub some_counter : 0 < length hs.counters
  some_counter =
      let more = made.counters in
      let rest = flat_map (step_calls ks) (steps ks) ++ (word_calls ks r ++ map Trigger (rank_ops ks)) in
      let all : sum_by counters_by (install_calls ks r) ≡ 0 + (1 + (1 + sum_by counters_by rest)) =
      sum_by-cons counters_by PtAlloc (CtAlloc Go ∷ CtAlloc Done ∷ rest)
      ∙ ap (λ n. 0 + n) (sum_by-cons counters_by (CtAlloc Go) (CtAlloc Done ∷ rest)
      ∙ ap (λ n. 1 + n) (sum_by-cons counters_by (CtAlloc Done) rest)) in
      omega (arith, more, all)

-- The calls of an installation, list by list; and each of them passes.
use Rattle.std.proofs.Common.{ℕ, zero, suc, Bool, true, false, ◌==◌, ◌+◌, ◌-◌, ◌*◌, ◌^◌, ◌≡◌, ◌<◌, List, [], ◌∷◌, ◌++◌, refl, length, map}
use Rattle.std.proofs.Common.{flat_map, ap, ap₂, ◌∙◌, sym, subst, arith, None, if◌then◌else◌}
use Rattle.ni_model.specs.Append.{append_fault}
use Rattle.ni_model.specs.Refusals.{alloc_fault, bind_fault}
use Rattle.ni_model.specs.State.{State, opened, parts_of as target_parts}
use Rattle.ni_model.specs.Conditions.{MayStart}
use Rattle.plan_core.specs.Members.{In}
use Rattle.plan_core.specs.Plan.{from_to}
use Rattle.coll_lang.specs.declared.choices.ChoiceKind.{ChoiceKind}
use Rattle.plan_choice.specs.texts.machine.Choices.{choice_at}
use Rattle.plan_choice.specs.texts.machine.Machine.{first_word}
use Rattle.plan_choice.specs.texts.view.Install.{Counter, Part, Slots, RankOp, counters_of, action_of, descriptor_of, entries_of}
use Rattle.plan_choice.specs.texts.view.Install.{four_words}
use Rattle.plan_choice.specs.texts.view.Install.{given_word, limits_of, parts_of, step_bytes, steps, view, word_entry, rank_ops}
use Rattle.plan_choice.specs.texts.view.Calls.{AllPass, Call, MayMake, blank, call_fault, call_made, calls_made, first_bytes, install}
use Rattle.plan_choice.specs.texts.view.Calls.{install_calls}
use Rattle.plan_choice.specs.texts.view.Calls.{no_seat, step_calls, word_calls}
use Rattle.plan_choice.specs.texts.view.Calls.Call.{CtAlloc, MdBind, MeAppend, Trigger}
use Rattle.plan_choice.proofs.texts.view.Folds.{counters_all, entered, entries_all, fresh, made_all, operations_all, parts_all}
use Rattle.plan_choice.proofs.texts.view.Installed.{bare, entered_is, made_so}
use Rattle.plan_choice.proofs.texts.view.Stamps.{rank_ops-In}
use Rattle.plan_choice.proofs.texts.view.Unrefused.{In-split, counter_made, done_made, entry_made, go_made, may_post, operation_made}
use Rattle.plan_choice.proofs.texts.view.Unrefused.{part_made}

-- ---- what they leave
module _ (k : Slots) (ks : List ChoiceKind) where
  pub made-append : (xs ys : List Call) (s : State) → calls_made k ks (xs ++ ys) s ≡ calls_made k ks ys (calls_made k ks xs s)
  made-append [] ys s = refl
  made-append (x ∷ xs) ys s = made-append xs ys (call_made k ks x s)

  made-counters : (cs : List Counter) (s : State) → calls_made k ks (map CtAlloc cs) s ≡ counters_all k cs s
  made-counters [] s = refl
  made-counters (c ∷ cs) s = made-counters cs (call_made k ks (CtAlloc c) s)

  made-parts : (xs : List Part) (s : State) → calls_made k ks (map MdBind xs) s ≡ parts_all k ks xs s
  made-parts [] s = refl
  made-parts (x ∷ xs) s = made-parts xs (call_made k ks (MdBind x) s)

  made-words : (ts : List ℕ) (s : State) → calls_made k ks (map MeAppend ts) s ≡ entries_all k ts s
  made-words [] s = refl
  made-words (t ∷ ts) s = made-words ts (call_made k ks (MeAppend t) s)

  made-operations : (ws : List RankOp) (s : State) → calls_made k ks (map Trigger ws) s ≡ operations_all k ks ws s
  made-operations [] s = refl
  made-operations (w ∷ ws) s = made-operations ws (call_made k ks (Trigger w) s)

  made-step : (t : ℕ) (s : State)
      → calls_made k ks (step_calls ks t) s
      ≡ parts_all k ks (parts_of (choice_at ks t) t) (counters_all k (counters_of (choice_at ks t) t) s)
  made-step t s =
      made-append (map CtAlloc (counters_of (choice_at ks t) t)) (map MdBind (parts_of (choice_at ks t) t)) s
      ∙ made-parts (parts_of (choice_at ks t) t) (calls_made k ks (map CtAlloc (counters_of (choice_at ks t) t)) s)
      ∙ ap (parts_all k ks (parts_of (choice_at ks t) t)) (made-counters (counters_of (choice_at ks t) t) s)

  made-steps : (ts : List ℕ) (s : State) → calls_made k ks (flat_map (step_calls ks) ts) s ≡ made_all k ks ts s
  made-steps [] s = refl
  made-steps (t ∷ ts) s =
      made-append (step_calls ks t) (flat_map (step_calls ks) ts) s
      ∙ made-steps ts (calls_made k ks (step_calls ks t) s)
      ∙ ap (made_all k ks ts) (made-step t s)

  made-words_if : (b : Bool) (s : State)
      → calls_made k ks (if b then map MeAppend (steps ks) else []) s ≡ (if b then entries_all k (steps ks) s else s)
  made-words_if true s = made-words (steps ks) s
  made-words_if false s = refl

  -- ---- whether they pass
  pass-append : (xs ys : List Call) (s : State) → AllPass k ks xs s → AllPass k ks ys (calls_made k ks xs s) → AllPass k ks (xs ++ ys) s
  pass-append [] ys s h i = i
  pass-append (x ∷ xs) ys s h i = (h.0, h.1, pass-append xs ys (call_made k ks x s) h.2 i)

  -- each passes after those before it
  pass-map : {X : Type 0} (f : X → Call) (xs : List X) (s : State)
      → ((front : List X) (x : X) (back : List X) → front ++ x ∷ back ≡ xs
      → MayMake k ks (f x) (calls_made k ks (map f front) s) × (call_fault k ks (f x) (calls_made k ks (map f front) s) ≡ None))
      → AllPass k ks (map f xs) s
  pass-map f [] s h = tt
  pass-map f (x ∷ xs) s h =
      let a = h [] x xs refl in
      (a.0, a.1, pass-map f xs (call_made k ks (f x) s) (λ front y back e. h (x ∷ front) y back (ap (λ v. x ∷ v) e)))

  pass-flat : {X : Type 0} (f : X → List Call) (xs : List X) (s : State)
      → ((front : List X) (x : X) (back : List X) → front ++ x ∷ back ≡ xs → AllPass k ks (f x) (calls_made k ks (flat_map f front) s))
      → AllPass k ks (flat_map f xs) s
  pass-flat f [] s h = tt
  pass-flat f (x ∷ xs) s h =
      pass-append (f x) (flat_map f xs) s (h [] x xs refl)
      (pass-flat f xs (calls_made k ks (f x) s) (λ front y back e.
      subst (AllPass k ks (f y)) (made-append (f x) (flat_map f front) s) (h (x ∷ front) y back (ap (λ v. x ∷ v) e))))

-- what stands before a number of a row
record IsSplit (front : List ℕ) (t a n : ℕ) : Type 0 where
  before : front ≡ from_to a (length front)
  here : t ≡ a + length front
  within : length front < n

split : (front back : List ℕ) (t a n : ℕ) → front ++ t ∷ back ≡ from_to a n → IsSplit front t a n
split [] back t a zero e = absurd (none e)
  where
    none : {x : ℕ} {xs : List ℕ} → x ∷ xs ≡ [] → ⊥
    none e = cc
split [] back t a (suc n) e = record {
  before = refl;
  here = (let q : t ≡ a = cc in q ∙ (let z : a ≡ a + 0 = omega arith in z));
  within =
      omega arith;
}
split (x ∷ front) back t a zero e = absurd (none e)
  where
    none : {x : ℕ} {xs : List ℕ} → x ∷ xs ≡ [] → ⊥
    none e = cc
split (x ∷ front) back t a (suc n) e =
    let h = split front back t (suc a) n cc in
    let b = h.before in
    let q : x ≡ a = cc in
    let l = h.here in
    let i = h.within in
    record { before = ap₂ (λ v vs. v ∷ vs) q b; here = omega (arith, l); within = omega (arith, i) }

split_step : (front back : List ℕ) (t n : ℕ) → front ++ t ∷ back ≡ from_to 0 n → (front ≡ from_to 0 t) × (t < n)
split_step front back t n e =
    let h = split front back t 0 n e in
    let l = h.here in
    let i = h.within in
    let q : length front ≡ t = omega (arith, l) in
    (subst (λ v. front ≡ from_to 0 v) q h.before, omega (arith, l, i))

-- ---- the region
module _ (ks : List ChoiceKind) (r : ℕ) where
  first_is : (b : Bool) (f g : ℕ → ℕ) (s : ℕ) → f s ≡ g s → (if b then f else g) s ≡ g s
  first_is true f g s e = e
  first_is false f g s e = refl

  bytes_are : (ts : List ℕ) → flat_map (first_bytes ks r) ts ≡ flat_map (step_bytes ks r (no_seat ks r)) ts
  bytes_are [] = refl
  bytes_are (t ∷ ts) =
      ap₂ (λ w bs. four_words w (given_word (choice_at ks t) r) 0 0 ++ bs)
      (sym (first_is (r == 0) (λ s. first_word (choice_at ks s)) (λ s. first_word (choice_at ks s)) t refl)) (bytes_are ts)

module _ (k : Slots) (ranks : ℕ) (ks : List ChoiceKind) (r : ℕ) where
  -- the opened interface, with the bytes of the closed form
  abbrev pub opened_so : State
  opened_so = opened r ranks (limits_of ks) (flat_map (step_bytes ks r (no_seat ks r)) (steps ks))

  blank_is : blank ranks ks r ≡ opened_so
  blank_is = ap (opened r ranks (limits_of ks)) (bytes_are ks r (steps ks))

  -- after the calls for each step, and after the words
  abbrev pub stepped : State
  stepped = calls_made k ks (flat_map (step_calls ks) (steps ks)) (fresh k ranks ks r)

  abbrev pub worded : State
  worded = calls_made k ks (word_calls ks r) stepped

  worded_is : worded ≡ entered k ranks ks r
  worded_is =
      made-words_if k ks (r == 0) stepped
      ∙ ap (λ s. if r == 0 then entries_all k (steps ks) s else s) (made-steps k ks (steps ks) (fresh k ranks ks r))

  -- ---- the law
  pub installed : install k ranks ks r ≡ view k ranks ks r (no_seat ks r)
  installed =
      ap (calls_made k ks (install_calls ks r)) blank_is
      ∙ made-append k ks (flat_map (step_calls ks) (steps ks)) (word_calls ks r ++ map Trigger (rank_ops ks)) (fresh k ranks ks r)
      ∙ made-append k ks (word_calls ks r) (map Trigger (rank_ops ks)) stepped
      ∙ made-operations k ks (rank_ops ks) worded
      ∙ ap (operations_all k ks (rank_ops ks)) worded_is
      ∙ made_so k ranks ks r

  module _ (some : 0 < ranks) (at_most : 3 * length ks < 2 ^ 32 - 1) where
    -- the counting events and descriptors of step t
    steps_pass : (t : ℕ) → t < length ks → AllPass k ks (step_calls ks t) (made_all k ks (from_to 0 t) (fresh k ranks ks r))
    steps_pass t h =
        let s = made_all k ks (from_to 0 t) (fresh k ranks ks r) in
        let cs = counters_of (choice_at ks t) t in
        pass-append k ks (map CtAlloc cs) (map MdBind (parts_of (choice_at ks t) t)) s
        (pass-map k ks CtAlloc cs s (λ front c back e.
        (tt, ap (λ (v : State). alloc_fault v.cts) (made-counters k ks front s) ∙ counter_made k ranks ks r at_most t h front c back e)))
        (pass-map k ks MdBind (parts_of (choice_at ks t) t) (calls_made k ks (map CtAlloc cs) s) (λ front x back e. (
          tt,
          ap (λ (v : State). bind_fault (descriptor_of k ks x) (length v.memory) v.cts v.eqs v.mds)
              (made-parts k ks front (calls_made k ks (map CtAlloc cs) s) ∙ ap (parts_all k ks front) (made-counters k ks cs s))
              ∙ part_made k ranks ks r at_most t h front x back e,
        )))

    all_steps_pass : AllPass k ks (flat_map (step_calls ks) (steps ks)) (fresh k ranks ks r)
    all_steps_pass = pass-flat k ks (step_calls ks) (steps ks) (fresh k ranks ks r) (λ front t back e.
        let h = split_step front back t (length ks) e in
        subst (AllPass k ks (step_calls ks t))
        (ap (λ ts. made_all k ks ts (fresh k ranks ks r)) (sym h.0) ∙ sym (made-steps k ks front (fresh k ranks ks r)))
        (steps_pass t h.1))

    -- the words
    words_pass : (b : Bool) → AllPass k ks (if b then map MeAppend (steps ks) else []) stepped
    words_pass false = tt
    words_pass true = pass-map k ks MeAppend (steps ks) stepped (λ front t back e.
        let h = split_step front back t (length ks) e in (
          tt,
          ap (λ s. append_fault 0 (word_entry t) (target_parts s))
              (made-words k ks front stepped
              ∙ ap₂ (entries_all k) h.0 (made-steps k ks (steps ks) (fresh k ranks ks r)))
              ∙ entry_made k ranks ks r at_most t h.1,
        ))

    -- the operations
    operations_pass : AllPass k ks (map Trigger (rank_ops ks)) worded
    operations_pass = pass-map k ks Trigger (rank_ops ks) worded (λ front w back e.
        let here : calls_made k ks (map Trigger front) worded ≡ operations_all k ks front (entered k ranks ks r) =
        made-operations k ks front worded ∙ ap (operations_all k ks front) worded_is in
        subst (λ s. MayMake k ks (Trigger w) s × (call_fault k ks (Trigger w) s ≡ None)) (sym here)
        (may front w back e, operation_made k ranks ks r at_most front w back e))
      where
        may : (front : List RankOp) (w : RankOp) (back : List RankOp) → front ++ w ∷ back ≡ rank_ops ks
            → MayStart (action_of k ks w) (operations_all k ks front (entered k ranks ks r)).ranks
            (operations_all k ks front (entered k ranks ks r)).limits
        may front w back e =
            subst (λ (s : State). MayStart (action_of k ks w) s.ranks s.limits)
            (ap (operations_all k ks front) (sym (entered_is k ranks ks r)))
            (stays front (bare k ranks ks r (entries_of k ks r) (if r == 0 then length ks else 0))
            ((may_post k ranks ks r at_most w (rank_ops-In ks w (subst (In w) e (In-split front w back)))).may some))
          where
            stays : (ws : List RankOp) (s : State) → MayStart (action_of k ks w) s.ranks s.limits
                → MayStart (action_of k ks w) (operations_all k ks ws s).ranks (operations_all k ks ws s).limits
            stays [] s h = h
            stays (v ∷ ws) s h = stays ws (call_made k ks (Trigger v) s) h

    pub all_pass : AllPass k ks (install_calls ks r) (blank ranks ks r)
    all_pass = subst (AllPass k ks (install_calls ks r)) (sym blank_is) (
      tt,
      refl,
      (
        tt,
        go_made k ranks ks r at_most,
        (
          tt,
          done_made k ranks ks r at_most,
          pass-append k ks (flat_map (step_calls ks) (steps ks)) (word_calls ks r ++ map Trigger (rank_ops ks))
              (fresh k ranks ks r) all_steps_pass
              (pass-append k ks (word_calls ks r) (map Trigger (rank_ops ks)) stepped (words_pass (r == 0)) operations_pass),
        ),
      ),
    )

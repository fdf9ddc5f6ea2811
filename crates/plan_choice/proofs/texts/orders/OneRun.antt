-- Words choose one run, whatever slots the tables gave out.
use Rattle.std.proofs.Common.{ℕ, zero, suc, ◌%◌, ◌+◌, ◌*◌, ◌≡◌, ◌≤◌, ◌<◌, List, [], ◌∷◌, refl, length, map, flat_map, get_or, ap, ◌∙◌, sym}
use Rattle.std.proofs.Common.{subst, inl, inr, arith}
use Rattle.std.proofs.lemmas.Bool.{cases_lt}
use Rattle.std.proofs.Math.Nat.{mod-lt}
use Rattle.ptl_types.specs.Elements.{part, pattern}
use Rattle.ni_model.specs.State.{State}
use Rattle.plan_core.specs.Members.{In}
use Rattle.cuts.specs.histories.History.{Local, state}
use Rattle.cuts.specs.histories.System.{Histories, System, state_at}
use Rattle.cuts.specs.orders.Chosen.{IsChosen, Scene, choose, chosen, enabled_steps, first_scene}
use Rattle.cuts.specs.orders.Taking.{listed}
use Rattle.cuts.specs.declared.orders.Step.{Step}
use Rattle.cuts.proofs.orders.Choosing.{In-get}
use Rattle.coll_lang.specs.declared.choices.ChoiceKind.{ChoiceKind}
use Rattle.plan_choice.specs.texts.machine.Machine.{Moment}
use Rattle.plan_choice.specs.texts.view.Install.{Slots, seat_of, step_bytes, steps}
use Rattle.plan_choice.specs.texts.laws.Decided.{IsInRange, choice_system, result_of}
use Rattle.plan_choice.proofs.texts.laws.Agreement.{agrees_opened}
use Rattle.plan_choice.proofs.texts.orders.Enabled.{same_enabled}
use Rattle.plan_choice.proofs.texts.orders.Moves.{AreTogether, together_made}

-- a run of which no step is left goes no further
ended_stays : (k : System) (words : ℕ → ℕ) (m : ℕ) → enabled_steps k (chosen k words m) ≡ [] → (n : ℕ) → m ≤ n
    → chosen k words m ≡ chosen k words n
ended_stays k words m e zero h = let q : m ≡ zero = omega (arith, h) in ap (chosen k words) q
ended_stays k words m e (suc n) h = elim (cases_lt n m) [
  | inl l ↦ (let q : m ≡ suc n = omega (arith, h, l) in ap (chosen k words) q)
  | inr l ↦ ap (λ xs. choose k xs (words n) (chosen k words m)) (sym e)
      ∙ ap (λ z. choose k (enabled_steps k z) (words n) z) (ended_stays k words m e n l)
]

module _ (ranks : ℕ) (ks : List ChoiceKind) (slots others : ℕ → Slots) (in_range : IsInRange ranks ks) (words : ℕ → ℕ) where
  -- the two systems
  abbrev pub ours : System
  ours = choice_system ranks ks slots

  abbrev pub theirs : System
  theirs = choice_system ranks ks others

  first_together : AreTogether ranks ks slots others first_scene first_scene
  first_together =
      let a = agrees_opened ranks ks slots (λ r. []) (λ s d lane. []) (λ r. refl) (λ s d lane. refl) in
      let b = agrees_opened ranks ks others (λ r. []) (λ s d lane. []) (λ r. refl) (λ s d lane. refl) in
      record { one = a.0; two = b.0; same = a.1 ∙ sym b.1; named = λ r. refl }

  next_together : (word : ℕ) (z y : Scene) → AreTogether ranks ks slots others z y
      → AreTogether ranks ks slots others (choose ours (enabled_steps ours z) word z) (choose theirs (enabled_steps theirs y) word y)
  next_together word z y now =
      subst (λ xs. AreTogether ranks ks slots others (choose ours (enabled_steps ours z) word z) (choose theirs xs word y)) alike
      (at (enabled_steps ours z) refl (sym alike))
    where
      alike : enabled_steps ours z ≡ enabled_steps theirs y
      alike = same_enabled ranks ks slots others z y now.one now.two now.same

      at : (xs : List Step) → enabled_steps ours z ≡ xs → enabled_steps theirs y ≡ xs
          → AreTogether ranks ks slots others (choose ours xs word z) (choose theirs xs word y)
      at [] e f = now
      at (x ∷ xs) e f =
          let h : 0 < length (x ∷ xs) = omega arith in
          let i = In-get (x ∷ xs) (word % length (x ∷ xs)) x (mod-lt word h) in
          together_made ranks ks slots others in_range z y now (get_or (x ∷ xs) (word % length (x ∷ xs)) x)
          (subst (λ v. In (get_or (x ∷ xs) (word % length (x ∷ xs)) x) v) (sym e) i)
          (subst (λ v. In (get_or (x ∷ xs) (word % length (x ∷ xs)) x) v) (sym f) i)

  together : (n : ℕ) → AreTogether ranks ks slots others (chosen ours words n) (chosen theirs words n)
  together zero = first_together
  together (suc n) = next_together (words n) (chosen ours words n) (chosen theirs words n) (together n)

  -- the bytes of a rank are in the moment
  memory_together : (z y : Scene) → AreTogether ranks ks slots others z y → (r : ℕ)
      → (state_at ours z.world r).memory ≡ (state_at theirs y.world r).memory
  memory_together z y now r =
      ap (λ (v : State). v.memory) (now.one.states r)
      ∙ ap (λ (m : Moment). flat_map (step_bytes ks r (seat_of ks m r)) (steps ks)) now.same
      ∙ sym (ap (λ (v : State). v.memory) (now.two.states r))

  module _ (one other : Histories) (a : IsChosen ours words one) (b : IsChosen theirs words other) where
    -- the ends of both runs
    ends_together : AreTogether ranks ks slots others (chosen ours words a.steps) (chosen theirs words b.steps)
    ends_together = elim (cases_lt a.steps b.steps) [
      | inl l ↦ subst (λ z. AreTogether ranks ks slots others z (chosen theirs words b.steps))
          (sym (ended_stays ours words a.steps a.ended b.steps (omega (arith, l)))) (together b.steps)
      | inr l ↦ subst (λ y. AreTogether ranks ks slots others (chosen ours words a.steps) y)
          (sym (ended_stays theirs words b.steps b.ended a.steps l)) (together a.steps)
    ]

    pub one_run : (r : ℕ) → r < ranks → map listed (one r) ≡ map listed (other r)
    one_run r h = ap (map listed) (a.world r h) ∙ ends_together.named r ∙ sym (ap (map listed) (b.world r h))

    pub one_memory : (r : ℕ) → r < ranks → (state_at ours one r).memory ≡ (state_at theirs other r).memory
    one_memory r h =
        ap (λ (es : List Local). (state (ours.go r) (ours.first r) es).memory) (a.world r h)
        ∙ memory_together (chosen ours words a.steps) (chosen theirs words b.steps) ends_together r
        ∙ sym (ap (λ (es : List Local). (state (theirs.go r) (theirs.first r) es).memory) (b.world r h))

    pub one_result : (s r : ℕ) → r < ranks → result_of s (state_at ours one r) ≡ result_of s (state_at theirs other r)
    one_result s r h = ap (λ (bytes : List ℕ). pattern (part (32 * s + 24) 8 bytes)) (one_memory r h)

-- A chosen run ends where no history grows past a bound: each word makes one step more.
use Rattle.std.proofs.Common.{ℕ, zero, suc, ◌%◌, ◌+◌, ◌≡◌, ◌≤◌, ◌<◌, ◌⊎◌, List, [], ◌∷◌, refl, length, get_or, ap, ◌∙◌, sym, subst, inl}
use Rattle.std.proofs.Common.{inr, arith, length-append, replicate}
use Rattle.std.proofs.lemmas.Bool.{cases_eq}
use Rattle.std.proofs.lemmas.List.{length-replicate}
use Rattle.std.proofs.Math.Nat.{mod-lt}
use Rattle.ptl_types.specs.declared.steps.LocalStep.TheVariants.{Start as Starts}
use Rattle.plan_core.specs.Members.{In}
use Rattle.cuts.specs.histories.Moment.{IsLocalStep, Lanes}
use Rattle.cuts.specs.histories.System.{Histories, System}
use Rattle.cuts.specs.orders.Chosen.{IsChosen, choose, chosen, enabled_steps, step_made}
use Rattle.cuts.specs.orders.Ending.{untaken}
use Rattle.cuts.specs.orders.Reached.{IsReached}
use Rattle.cuts.specs.orders.Reached.IsReached.{Stepped}
use Rattle.cuts.specs.orders.Taking.{Lists, with_step}
use Rattle.cuts.specs.declared.orders.Step.{Step}
use Rattle.cuts.proofs.orders.Choosing.{In-get, chosen_reached, listed_made}
use Rattle.cuts.proofs.orders.Ending.{elsewhere, here, untaken-less}
use Rattle.coll_lang.specs.declared.choices.ChoiceKind.{ChoiceKind}
use Rattle.plan_choice.specs.texts.machine.Counted.{steps_due}
use Rattle.plan_choice.specs.texts.view.Install.{Slots}
use Rattle.plan_choice.specs.texts.laws.Decided.{IsInRange, choice_system}
use Rattle.plan_choice.proofs.texts.laws.Ends.{history_le}
use Rattle.plan_choice.proofs.texts.laws.Resting.{agrees_reached}

module _ (k : System) (most : ℕ → ℕ)
    (at_most : (w : Histories) (held : Lanes) → IsReached k w held → (r : ℕ) → r < k.count → length (w r) ≤ most r) where
  -- for each rank as many entries as it makes steps at most
  abbrev room : Lists
  room r = replicate (most r) Starts

  -- a step leaves room for one less
  less : (w : Histories) (held : Lanes) (next : Histories) (later : Lanes) → IsReached k w held → IsLocalStep k w held next later
      → untaken room next k.count + 1 ≡ untaken room w k.count
  less w held next later reached step =
      (λ i. untaken room (λ q. same q i) k.count + 1) ∙ untaken-less room w step.r step.e k.count step.in_range fits
    where
      same : (q : ℕ) → next q ≡ with_step step.r step.e w q
      same q = elim (cases_eq step.r q) [
        | inl e ↦ subst (λ v. next v ≡ with_step step.r step.e w v) e (step.rank ∙ sym (here step.r step.e w))
        | inr n ↦ step.others q (λ e. n (sym e)) ∙ sym (elsewhere step.r step.e w q n)
      ]

      fits : length (w step.r) < length (replicate (most step.r) Starts)
      fits =
          let a = at_most next later (Stepped reached step) step.r step.in_range in
          let b = ap length step.rank in
          let c = length-append (w step.r) (step.e ∷ []) in
          let d = length-replicate (most step.r) Starts in
          omega (arith, a, b, c, d)

  module _ (words : ℕ → ℕ) where
    -- no step is left after so many words
    abbrev Ended : Type 0
    Ended = (m : ℕ) × (enabled_steps k (chosen k words m) ≡ [])

    -- all the room there is
    abbrev whole : ℕ
    whole = untaken room (λ r. []) k.count

    goes_on : (n : ℕ) → Ended ⊎ (untaken room (chosen k words n).world k.count + n ≡ whole)
    goes_on zero = inr (let q : whole + zero ≡ whole = omega arith in q)
    goes_on (suc n) = elim (goes_on n) [ inl e ↦ inl e | inr e ↦ at (enabled_steps k (chosen k words n)) refl e ]
      where
        at : (xs : List Step) → enabled_steps k (chosen k words n) ≡ xs
            → untaken room (chosen k words n).world k.count + n ≡ whole
            → Ended ⊎ (untaken room (choose k (enabled_steps k (chosen k words n)) (words n) (chosen k words n)).world k.count + suc n
            ≡ whole)
        at [] q e = inl (n, q)
        at (x ∷ xs) q e =
            let h : 0 < length (x ∷ xs) = omega arith in
            let i = In-get (x ∷ xs) (words n % length (x ∷ xs)) x (mod-lt (words n) h) in
            let step = listed_made k (chosen k words n) (get_or (x ∷ xs) (words n % length (x ∷ xs)) x)
            (subst (λ v. In (get_or (x ∷ xs) (words n % length (x ∷ xs)) x) v) (sym q) i) in
            let a = less (chosen k words n).world (chosen k words n).held _ _ (chosen_reached k words n) step in
            let b : untaken room (choose k (enabled_steps k (chosen k words n)) (words n) (chosen k words n)).world k.count
            ≡ untaken room (step_made k (get_or (x ∷ xs) (words n % length (x ∷ xs)) x) (chosen k words n)).world k.count
            = ap (λ ys. untaken room (choose k ys (words n) (chosen k words n)).world k.count) q in
            inr (omega (arith, a, b, e))

    pub run_ends : (w : Histories) × IsChosen k words w
    run_ends = at (goes_on (suc whole))
      where
        at : Ended ⊎ (untaken room (chosen k words (suc whole)).world k.count + suc whole ≡ whole) → (w : Histories) × IsChosen k words w
        at (inl e) = ((chosen k words e.0).world, record { steps = e.0; ended = e.1; world = λ r h. refl })
        at (inr e) = absurd (omega (arith, e))

pub choice_ends : (ranks : ℕ) (ks : List ChoiceKind) (slots : ℕ → Slots) → IsInRange ranks ks → (words : ℕ → ℕ)
    → (w : Histories) × IsChosen (choice_system ranks ks slots) words w
choice_ends ranks ks slots in_range words =
    run_ends (choice_system ranks ks slots) (steps_due ranks ks)
    (λ w held reached r h. history_le ranks ks slots in_range w held (agrees_reached ranks ks slots in_range w held reached) r h) words

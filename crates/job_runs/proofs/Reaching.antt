-- What possible steps lead to from the beginning is reached.
use Rattle.std.proofs.Common.{ℕ, zero, suc, List, [], ◌∷◌, length, get_or, refl, sym, subst, inl, inr}
use Rattle.std.proofs.lemmas.Bool.{cases_lt}
use Rattle.std.proofs.lemmas.List.{get_or_past}
use Rattle.plan_core.specs.Members.{In}
use Rattle.plan_core.proofs.Lists.{In-filter_cases}
use Rattle.cuts.specs.histories.System.{System}
use Rattle.cuts.specs.orders.Chosen.{Scene, enabled_steps, step_made}
use Rattle.cuts.specs.orders.Reached.{IsReached}
use Rattle.cuts.specs.orders.Reached.IsReached.{Stepped}
use Rattle.cuts.specs.declared.orders.Step.{Step}
use Rattle.cuts.proofs.orders.Choosing.{In-get, listed_made}
use Rattle.cuts.specs.windows.Possible.{is_possible, possible_steps}
use Rattle.worlds.specs.Runs.{IsRun as Travels, Running, chosen_run, chosen_step}
use Rattle.worlds.specs.Runs.IsRun.{Begun as Stays, Stepped as Goes}

abbrev pub Here : System → Scene → Type 0
Here k z = IsReached k z.world z.held

-- one possible step more
further : (k : System) (window : ℕ) (z : Scene) (x : Step) → Here k z → In x (possible_steps k window z) → Here k (step_made k x z)
further k window z x here listed =
    Stepped here (listed_made k z x (In-filter_cases (is_possible k window z) x (enabled_steps k z) listed).0)

pub travels-reached : (k : System) (window : ℕ) (from z : Scene) → Here k from → Travels k window from z → Here k z
travels-reached k window from z here Stays = here
travels-reached k window from z here (Goes {z = before} x travels listed) =
    further k window before x (travels-reached k window from before here travels) listed

-- by a chooser
listed-at : (xs : List Step) (i : ℕ) (x : Step) → In (get_or (x ∷ xs) i x) (x ∷ xs)
listed-at xs i x = elim (cases_lt i (length (x ∷ xs))) [
  | inl within ↦ In-get (x ∷ xs) i x within
  | inr past ↦ subst (λ y. In y (x ∷ xs)) (sym (get_or_past (x ∷ xs) i x past)) (inl refl)
]

module _ {C : Type 0} (k : System) (window : ℕ) (answer : C → ℕ → ℕ) (after : C → ℕ → C) where
  step-reached : (xs : List Step) (now : Running C) → ((x : Step) → In x xs → In x (possible_steps k window now.scene)) → Here k now.scene
      → Here k (chosen_step k answer after xs now).scene
  step-reached [] now listed here = here
  step-reached (x ∷ xs) now listed here =
      let i = answer now.chooser (length (x ∷ xs)) in
      further k window now.scene (get_or (x ∷ xs) i x) here (listed (get_or (x ∷ xs) i x) (listed-at xs i x))

  pub chosen-reached : (n : ℕ) (from : Running C) → Here k from.scene → Here k (chosen_run k window answer after n from).scene
  chosen-reached zero from here = here
  chosen-reached (suc n) from here =
      let now = chosen_run k window answer after n from in
      step-reached (possible_steps k window now.scene) now (λ x i. i) (chosen-reached n from here)

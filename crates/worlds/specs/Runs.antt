-- Runs: by any steps that are possible, and by those that a chooser names.
use Rattle.std.specs.Prelude.{ℕ, zero, suc, List, [], ◌∷◌, get_or, length}
use Rattle.plan_core.specs.Members.{In}
use Rattle.cuts.specs.histories.System.{System}
use Rattle.cuts.specs.orders.Chosen.{Scene, step_made}
use Rattle.cuts.specs.declared.orders.Step.{Step}
use Rattle.cuts.specs.windows.Possible.{possible_steps}

-- possible steps lead from one scene to another
pub data IsRun (k : System) (window : ℕ) (from : Scene) : Scene → Type 0 where
  Begun : IsRun k window from from
  Stepped : {z : Scene} (x : Step) → IsRun k window from z → In x (possible_steps k window z) → IsRun k window from (step_made k x z)

-- ---- by a chooser, which names one of the possible steps by its number

-- a scene, and the chooser's state
pub record Running (C : Type 0) : Type 0 where
  pub scene : Scene
  pub chooser : C

-- of these steps the one that the chooser names is made, if there is any
abbrev pub chosen_step : {C : Type 0} → System → (C → ℕ → ℕ) → (C → ℕ → C) → List Step → Running C → Running C
chosen_step k answer after [] running = running
chosen_step k answer after (x ∷ xs) running = record {
  scene = step_made k (get_or (x ∷ xs) (answer running.chooser (length (x ∷ xs))) x) running.scene;
  chooser = after running.chooser (length (x ∷ xs));
}

-- so many steps, the last one last
abbrev pub chosen_run : {C : Type 0} → System → ℕ → (C → ℕ → ℕ) → (C → ℕ → C) → ℕ → Running C → Running C
chosen_run k window answer after zero from = from
chosen_run k window answer after (suc n) from =
    let running = chosen_run k window answer after n from in
    chosen_step k answer after (possible_steps k window running.scene) running

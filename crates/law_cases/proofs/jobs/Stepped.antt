-- Runs of worlds: by possible steps from one scene to another. Three ranks that count acknowledgements.
use Rattle.std.proofs.Common.{ℕ, ◌+◌, ◌-◌, ◌≡◌, [], ◌∷◌, refl, ap, arith, inl, inr, length, subst}
use Rattle.ni_model.specs.Answers.{answered}
use Rattle.ni_model.specs.Append.{append}
use Rattle.ni_model.specs.Arrive.{request}
use Rattle.ni_model.specs.Ready.{fired}
use Rattle.ni_model.specs.Starts.{started}
use Rattle.ni_model.specs.State.{target}
use Rattle.plan_core.specs.Members.{In}
use Rattle.cuts.specs.view.Calls.{call_made}
use Rattle.cuts.specs.start.Start.{bring, cell_started}
use Rattle.cuts.specs.histories.History.Local.{Fire as Fired, Start as Started}
use Rattle.cuts.specs.orders.Chosen.{Scene, first_scene, step_made}
use Rattle.cuts.specs.declared.orders.Step.TheVariants.{Fire, Start}
use Rattle.cuts.specs.windows.Possible.{possible_steps}
use Rattle.worlds.specs.Runs.{IsRun, Running, chosen_run}
use Rattle.worlds.specs.Runs.IsRun.{Begun, Stepped}
use Rattle.law_cases.proofs.plans.Acknowledged.{system, whole}

-- rank 2 starts and fires its first operation
abbrev two_steps : Scene
two_steps = step_made system (Fire 2 0) (step_made system (Start 2) first_scene)

by_two_steps : IsRun system 1 first_scene two_steps
unfolding target request answered started fired append call_made cell_started bring
by_two_steps = Stepped (Fire 2 0) (Stepped (Start 2) Begun (inr (inr (inl refl)))) (inr (inr (inl refl)))

-- from rest no step leads on
abbrev at_rest : Scene
at_rest = record { world = whole; held = λ s d lane. [] }

none_possible : possible_steps system 1 at_rest ≡ []
unfolding target request answered started fired append call_made cell_started bring
none_possible = refl

only_itself : {z : Scene} → IsRun system 1 at_rest z → z ≡ at_rest
only_itself Begun = refl
only_itself (Stepped x h i) =
    absurd (subst (λ steps. In x steps) none_possible (subst (λ z. In x (possible_steps system 1 z)) (only_itself h) i))

not_back : IsRun system 1 at_rest first_scene → ⊥
not_back h = let q : 0 ≡ 14 = ap (λ (z : Scene). length (z.world 0)) (only_itself h) in absurd (omega (arith, q))

-- ---- by a chooser that names the last of the possible steps and adds up how many there were: of three starts the third, and then of four
-- steps the telling of rank 2's go cell
abbrev by_last : ℕ → Running ℕ
by_last n = chosen_run system 1 (λ c m. m - 1) (λ c m. c + m) n (record { scene = first_scene; chooser = 0 })

last_of_three : ((by_last 1).scene.world 2 ≡ Started ∷ []) × ((by_last 1).chooser ≡ 3)
unfolding target request answered started fired append call_made cell_started bring
last_of_three = (refl, refl)

last_of_four : ((by_last 2).scene.world 2 ≡ Started ∷ Fired 5 ∷ []) × ((by_last 2).chooser ≡ 7)
unfolding target request answered started fired append call_made cell_started bring
last_of_four = (refl, refl)

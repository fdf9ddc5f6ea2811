-- The enabled steps of the barrier of two ranks, in order, and the first steps that words choose.
use Rattle.std.proofs.Common.{ℕ, zero, suc, ◌≡◌, List, [], ◌∷◌, refl, length, map}
use Rattle.ptl_types.specs.declared.headers.Lane.TheVariants.{Request}
use Rattle.ni_model.specs.Answers.{answered}
use Rattle.ni_model.specs.Append.{append}
use Rattle.ni_model.specs.Arrive.{request}
use Rattle.ni_model.specs.Ready.{fired}
use Rattle.ni_model.specs.Starts.{started}
use Rattle.ni_model.specs.State.{target}
use Rattle.cuts.specs.view.Calls.{call_made}
use Rattle.cuts.specs.start.Start.{bring, cell_started}
use Rattle.cuts.specs.histories.Plans.{system_of}
use Rattle.cuts.specs.histories.System.{System, state_at}
use Rattle.cuts.specs.orders.Chosen.{Scene, chosen, enabled_steps, first_scene, step_made}
use Rattle.cuts.specs.orders.Taking.{listed}
use Rattle.cuts.specs.declared.orders.Step.{Step}
use Rattle.cuts.specs.declared.orders.Step.TheVariants.{Start, Deliver, Fire}
use Rattle.ptl_types.specs.declared.steps.LocalStep.TheVariants.{Start as Starts, Fire as Fires}
use Rattle.law_cases.proofs.plans.Broadcast.{slots}
use Rattle.law_cases.proofs.plans.Orders.{two_ranks}

abbrev system : System
system = system_of two_ranks [] (λ r. slots)

-- these steps, the first one first
abbrev after : List Step → Scene → Scene
after [] z = z
after (x ∷ xs) z = after xs (step_made system x z)

at_first : enabled_steps system first_scene ≡ Start 0 ∷ Start 1 ∷ []
unfolding target request answered started fired append call_made cell_started bring
at_first = refl

started_there : enabled_steps system (after (Start 0 ∷ []) first_scene) ≡ Start 1 ∷ Fire 0 0 ∷ Fire 0 3 ∷ []
unfolding target request answered started fired append call_made cell_started bring
started_there = refl

entered : enabled_steps system (after (Start 0 ∷ Fire 0 0 ∷ []) first_scene) ≡ Start 1 ∷ Fire 0 1 ∷ Fire 0 2 ∷ Fire 0 3 ∷ Fire 0 4 ∷ []
unfolding target request answered started fired append call_made cell_started bring
entered = refl

-- what was sent may be delivered, though its target hasn't started
sent : enabled_steps system (after (Start 0 ∷ Fire 0 0 ∷ Fire 0 2 ∷ []) first_scene) ≡ Start 1 ∷ Deliver 0 1 Request ∷ Fire 0 1 ∷ Fire 0 3
    ∷ Fire 0 4 ∷ []
unfolding target request answered started fired append call_made cell_started bring
sent = refl

abbrev early : Scene
early = after (Start 0 ∷ Fire 0 0 ∷ Fire 0 2 ∷ Deliver 0 1 Request ∷ []) first_scene

came_early : enabled_steps system early ≡ Start 1 ∷ Fire 0 1 ∷ Fire 0 3 ∷ Fire 0 4 ∷ []
unfolding target request answered started fired append call_made cell_started bring
came_early = refl

waits_there : length (state_at system early.world 1).headers.unexpected ≡ 1
unfolding target request answered started fired append call_made cell_started bring
waits_there = refl

-- the start takes it, and its cell's counter has risen once of twice
then_started : enabled_steps system (step_made system (Start 1) early) ≡ Fire 0 1 ∷ Fire 0 3 ∷ Fire 0 4 ∷ Fire 1 0 ∷ Fire 1 3 ∷ []
unfolding target request answered started fired append call_made cell_started bring
then_started = refl

none_waits : (state_at system (step_made system (Start 1) early).world 1).headers.unexpected ≡ []
unfolding target request answered started fired append call_made cell_started bring
none_waits = refl

-- ---- the words 5, 2, 4, 6: the second of two steps, the third of three, the first of two, the first of three
abbrev words : ℕ → ℕ
words zero = 5
words (suc zero) = 2
words (suc (suc zero)) = 4
words (suc (suc (suc n))) = 6

chosen_by_words : map listed ((chosen system words 4).world 0) ≡ Starts ∷ Fires 0 ∷ []
unfolding target request answered started fired append call_made cell_started bring
chosen_by_words = refl

chosen_there : map listed ((chosen system words 4).world 1) ≡ Starts ∷ Fires 3 ∷ []
unfolding target request answered started fired append call_made cell_started bring
chosen_there = refl

-- Two ranks: whose request comes first decides, and in either order the results are right.
use Rattle.std.specs.Prelude.{ℕ, ◌≡◌, ◌==◌, ◌-◌, List, [], ◌∷◌, Some, refl, if◌then◌else◌, ◌++◌}
use Rattle.coll_lang.specs.declared.choices.ChoiceKind.{ChoiceKind}
use Rattle.coll_lang.specs.declared.choices.ChoiceKind.TheVariants.{Elect, Tickets}
use Rattle.ptl_types.specs.Handles.{top}
use Rattle.ni_model.specs.Answers.{answered}
use Rattle.ni_model.specs.Append.{append}
use Rattle.ni_model.specs.Arrive.{request}
use Rattle.ni_model.specs.Counts.{successes}
use Rattle.ni_model.specs.Ready.{fired}
use Rattle.ni_model.specs.Starts.{started}
use Rattle.ni_model.specs.State.{State, target}
use Rattle.ni_model.specs.Tables.{lookup}
use Rattle.cuts.specs.histories.System.{System, state_at}
use Rattle.cuts.specs.orders.Chosen.{Scene, chosen, enabled_steps}
use Rattle.plan_choice.specs.texts.view.Install.{Slots, ct_of, four_words}
use Rattle.plan_choice.specs.texts.view.Install.Counter.{Done}
use Rattle.plan_choice.specs.texts.laws.Decided.{choice_system, result_of}

abbrev pub choices : List ChoiceKind
choices = Elect ∷ Tickets ∷ []

-- slots need not be the same at both ranks
abbrev pub slots : ℕ → Slots
slots r = record { ct = λ n. n; me = λ n. n; md = λ n. 4 - n }

abbrev system : System
system = choice_system 2 choices slots

-- the steps that are due: at each rank 12
abbrev after : (ℕ → ℕ) → Scene
after words = chosen system words 24

-- of rank r there
abbrev at : (ℕ → ℕ) → ℕ → State
at words r = state_at system (after words).world r

-- ---- the first enabled step each time: rank 0 comes first in both
abbrev lowest : ℕ → ℕ
lowest n = 0

lowest_ends : enabled_steps system (after lowest) ≡ []
unfolding target request answered fired started append
lowest_ends = refl

lowest_results : (result_of 0 (at lowest 0) ∷ result_of 0 (at lowest 1) ∷ result_of 1 (at lowest 0) ∷ result_of 1 (at lowest 1) ∷ [])
    ≡ 0 ∷ 0 ∷ 0 ∷ 1 ∷ []
unfolding target request answered fired started append
lowest_results = refl

-- ---- rank 1 fires its swap first, and then its fetch-atomic
abbrev other : ℕ → ℕ
other n = if n == 2 then 2 else if n == 5 then 3 else 0

other_ends : enabled_steps system (after other) ≡ []
unfolding target request answered fired started append
other_ends = refl

other_results : (result_of 0 (at other 0) ∷ result_of 0 (at other 1) ∷ result_of 1 (at other 0) ∷ result_of 1 (at other 1) ∷ [])
    ≡ 1 ∷ 1 ∷ 1 ∷ 0 ∷ []
unfolding target request answered fired started append
other_results = refl

-- all is told, and nothing was lost
other_told : (lookup (ct_of (slots 0) choices Done) (at other 0).cts.live ∷ lookup (ct_of (slots 1) choices Done)
    (at other 1).cts.live ∷ []) ≡ Some (successes 2) ∷ Some (successes 2) ∷ []
unfolding target request answered fired started append
other_told = refl

other_lost : ((at other 0).drops ∷ (at other 0).violations ∷ (at other 1).drops ∷ (at other 1).violations ∷ []) ≡ 0 ∷ 0 ∷ 0 ∷ 0 ∷ []
unfolding target request answered fired started append
other_lost = refl

-- rank 1 has no entry, and its words of rank 0 stay: what the others hold is what was given, the old word and the result
other_memory : (at other 1).memory ≡ four_words top 1 top 1 ++ (four_words 0 1 0 0 ++ [])
unfolding target request answered fired started append
other_memory = refl

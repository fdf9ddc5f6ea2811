-- The run of `OneRank` under other slots: the law's premises can be met, and what it says is what is computed.
use Rattle.std.specs.Prelude.{ℕ, ◌≡◌, [], map, refl}
use Rattle.std.proofs.Common.{ap, arith}
use Rattle.ptl_types.specs.declared.handles.Handle.{Handle}
use Rattle.ni_model.specs.Answers.{answered}
use Rattle.ni_model.specs.Append.{append}
use Rattle.ni_model.specs.Arrive.{request}
use Rattle.ni_model.specs.Ready.{fired}
use Rattle.ni_model.specs.Starts.{started}
use Rattle.ni_model.specs.State.{target}
use Rattle.cuts.specs.histories.System.{System, state_at}
use Rattle.cuts.specs.orders.Chosen.{IsChosen, Scene, chosen, enabled_steps}
use Rattle.cuts.specs.orders.Taking.{listed}
use Rattle.plan_choice.specs.texts.view.Install.{Slots, ct_of}
use Rattle.plan_choice.specs.texts.view.Install.Counter.{Go}
use Rattle.plan_choice.specs.texts.laws.Decided.{choice_system, result_of}
use Rattle.plan_choice.proofs.texts.orders.OneRun.{one_result, one_run}
use Rattle.law_cases.proofs.choices.OneRank.{choices, ended, history, in_range, run, slots, system}

-- the stamps are the slots
abbrev others : ℕ → Slots
others r = record { ct = λ n. n; me = λ n. n; md = λ n. n }

abbrev there : System
there = choice_system 1 choices others

-- the handles are others
told_apart : ct_of slots choices Go ≡ ct_of (others 0) choices Go → ⊥
told_apart e = let q : 7 ≡ 0 = ap (λ (h : Handle). h.slot) e in omega (arith, q)

-- the same words
abbrev other_run : ℕ → Scene
other_run n = chosen there (λ i. 0) n

other_ended : enabled_steps there (other_run 12) ≡ []
unfolding target request answered fired started append
other_ended = refl

chosen_here : IsChosen system (λ i. 0) (run 12).world
chosen_here = record { steps = 12; ended = ended; world = λ r h. refl }

chosen_there : IsChosen there (λ i. 0) (other_run 12).world
chosen_there = record { steps = 12; ended = other_ended; world = λ r h. refl }

-- by the law, and by computing
same_steps : map listed ((run 12).world 0) ≡ map listed ((other_run 12).world 0)
same_steps = one_run 1 choices (λ r. slots) others in_range (λ i. 0) (run 12).world (other_run 12).world chosen_here chosen_there 0
    (omega arith)

computed_steps : map listed ((other_run 12).world 0) ≡ map listed history
unfolding target request answered fired started append
computed_steps = refl

same_ticket : result_of 1 (state_at system (run 12).world 0) ≡ result_of 1 (state_at there (other_run 12).world 0)
same_ticket = one_result 1 choices (λ r. slots) others in_range (λ i. 0) (run 12).world (other_run 12).world chosen_here chosen_there 1 0
    (omega arith)

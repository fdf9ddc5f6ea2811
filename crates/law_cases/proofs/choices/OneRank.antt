-- One rank elects itself and takes ticket 0: `elect e`, `tickets t`, printed as e 0 0 and t 0 0.
use Rattle.std.specs.Prelude.{ℕ, true, false, ◌≡◌, ◌-◌, List, [], ◌∷◌, Some, None, refl, ◌++◌}
use Rattle.std.proofs.Common.{◌∙◌, Option, ap, sym, arith}
use Rattle.ptl_types.specs.declared.handles.Count.{Count}
use Rattle.ptl_types.specs.declared.headers.Lane.TheVariants.{Request, Answer as AnswerLane}
use Rattle.ptl_types.specs.Handles.{top}
use Rattle.ptl_types.specs.Messages.{Sent}
use Rattle.ni_model.specs.Answers.{answered}
use Rattle.ni_model.specs.Append.{append}
use Rattle.ni_model.specs.Arrive.{request}
use Rattle.ni_model.specs.Counts.{successes}
use Rattle.ni_model.specs.Ready.{fired, is_ready}
use Rattle.ni_model.specs.Starts.{started}
use Rattle.ni_model.specs.State.{State, target}
use Rattle.ni_model.specs.Tables.{lookup}
use Rattle.cuts.specs.histories.History.{Beginning, Local, made, state}
use Rattle.cuts.specs.histories.History.Local.{Fire, Receive, Start}
use Rattle.coll_lang.specs.declared.choices.ChoiceKind.{ChoiceKind}
use Rattle.coll_lang.specs.declared.choices.ChoiceKind.TheVariants.{Elect, Tickets}
use Rattle.plan_choice.specs.texts.machine.Machine.{answer, ask}
use Rattle.plan_choice.specs.texts.view.Install.{Slots, answer_message, ask_message, ct_of, four_words, number_of, view}
use Rattle.plan_choice.specs.texts.view.Install.Counter.{Done, Go}
use Rattle.plan_choice.specs.texts.view.Install.RankOp.{Look, Send, ForDone}
use Rattle.plan_choice.specs.texts.view.Calls.{install, no_seat}
use Rattle.cuts.specs.histories.System.{System, state_at}
use Rattle.cuts.specs.orders.Chosen.{Scene, chosen, enabled_steps}
use Rattle.cuts.specs.declared.orders.Step.TheVariants as steps
use Rattle.plan_choice.specs.texts.laws.Decided.{IsDecided, IsInRange, choice_system, count_from, result_of}
use Rattle.cuts.proofs.orders.Choosing.{chosen_reached, none_listed_still}
use Rattle.plan_choice.proofs.texts.laws.Resting.{agrees_reached, rest_decided}

abbrev pub choices : List ChoiceKind
choices = Elect ∷ Tickets ∷ []

-- slots need not be the stamps
abbrev pub slots : Slots
slots = record { ct = λ n. 7 - n; me = λ n. n; md = λ n. 4 - n }

closed_form : install slots 1 choices 0 ≡ view slots 1 choices 0 (no_seat choices 0)
unfolding append
closed_form = refl

-- the operations are numbered step by step
numbers : (number_of choices (Send 0) ∷ number_of choices (Look 0) ∷ number_of choices (ForDone 0) ∷ number_of choices
    (Send 1) ∷ number_of choices (ForDone 1) ∷ []) ≡ 0 ∷ 1 ∷ 2 ∷ 3 ∷ 4 ∷ []
numbers = refl

-- the words of the region: H, V, O and B of each step
first_region : (install slots 1 choices 0).memory ≡ four_words top 0 0 0 ++ (four_words 0 1 0 0 ++ [])
unfolding append
first_region = refl

-- a request or an answer of the rank to itself
abbrev pub asks : ℕ → Sent
asks s = ask_message slots choices 0 (ask s false)

abbrev pub answers : ℕ → ℕ → Sent
answers s v = answer_message slots choices 0 (answer s false v)

abbrev pub history : List Local
history = Start
    ∷ Fire 0 ∷ Receive 0 Request (asks 0) ∷ Receive 0 AnswerLane (answers 0 top)
    ∷ Fire 1 ∷ Receive 0 Request (ask_message slots choices 0 (ask 0 true)) ∷ Receive 0 AnswerLane
    (answer_message slots choices 0 (answer 0 true 0)) ∷ Fire 2
    ∷ Fire 3 ∷ Receive 0 Request (asks 1) ∷ Receive 0 AnswerLane (answers 1 0) ∷ Fire 4 ∷ []

abbrev pub go : Beginning
go = count_from (ct_of slots choices Go)

abbrev pub last : State
last = state go (install slots 1 choices 0) history

-- what each step makes is what the next receives
sends : made go (install slots 1 choices 0) history
    ≡ asks 0 ∷ answers 0 top ∷ ask_message slots choices 0 (ask 0 true) ∷ answer_message slots choices 0
    (answer 0 true 0) ∷ asks 1 ∷ answers 1 0 ∷ []
unfolding target request answered fired started append
sends = refl

elected : result_of 0 last ≡ 0
unfolding target request answered fired started append
elected = refl

ticket : result_of 1 last ≡ 0
unfolding target request answered fired started append
ticket = refl

last_region : last.memory ≡ four_words 0 0 top 0 ++ (four_words 1 1 0 0 ++ [])
unfolding target request answered fired started append
last_region = refl

told : lookup (ct_of slots choices Done) last.cts.live ≡ Some (successes 2)
unfolding target request answered fired started append
told = refl

nothing_left : last.pending.waiting ≡ []
unfolding target request answered fired started append
nothing_left = refl

nothing_lost : (last.drops ∷ last.violations ∷ []) ≡ 0 ∷ 0 ∷ []
unfolding target request answered fired started append
nothing_lost = refl

-- nothing fires before the start
not_yet : is_ready (install slots 1 choices 0) 0 ≡ false
unfolding append
not_yet = refl

-- the get waits for the swap's answer
get_waits : is_ready (state go (install slots 1 choices 0) (Start ∷ Fire 0 ∷ Receive 0 Request (asks 0) ∷ [])) 1 ≡ false
unfolding target request answered fired started append
get_waits = refl

get_ready : is_ready (state go (install slots 1 choices 0)
    (Start ∷ Fire 0 ∷ Receive 0 Request (asks 0) ∷ Receive 0 AnswerLane (answers 0 top) ∷ [])) 1 ≡ true
unfolding target request answered fired started append
get_ready = refl

-- ---- the run that takes the first enabled step each time: so the theorem's premises can be met
abbrev pub system : System
system = choice_system 1 choices (λ r. slots)

abbrev pub run : ℕ → Scene
run n = chosen system (λ i. 0) n

all_steps : (run 12).world 0 ≡ history
unfolding target request answered fired started append
all_steps = refl

pub ended : enabled_steps system (run 12) ≡ []
unfolding target request answered fired started append
ended = refl

pub in_range : IsInRange 1 choices
in_range = record { some = omega arith; few_ranks = omega arith; few_steps = omega arith }

pub decided : IsDecided 1 choices (λ r. slots) (run 12).world
decided =
    let reached = chosen_reached system (λ i. 0) 12 in
    rest_decided 1 choices (λ r. slots) in_range (run 12).world (run 12).held
    (agrees_reached 1 choices (λ r. slots) in_range (run 12).world (run 12).held reached)
    (none_listed_still system (run 12) ended)

-- ---- one step earlier the last telling is left, and the done counter says so
one_left : enabled_steps system (run 11) ≡ steps.Fire 0 4 ∷ []
unfolding target request answered fired started append
one_left = refl

told_once : lookup (ct_of slots choices Done) (state_at system (run 11).world 0).cts.live ≡ Some (successes 1)
unfolding target request answered fired started append
told_once = refl

abbrev successes_in : Option Count → ℕ
successes_in None = 0
successes_in (Some count) = count.success

pub too_early : IsDecided 1 choices (λ r. slots) (run 11).world → ⊥
too_early h =
    let told : Some (successes 1) ≡ Some (successes 2) = sym told_once ∙ h.done 0 (omega arith) in
    let e : 1 ≡ 2 = ap successes_in told in
    omega (arith, e)

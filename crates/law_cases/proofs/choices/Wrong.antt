-- Wrong operations on two ranks: each runs to its end, where all is told and no step is left, and what the ranks then hold is not
-- decided.
use Rattle.std.proofs.Common.{ℕ, ◌≡◌, ◌==◌, List, [], ◌∷◌, refl, arith, if◌then◌else◌, ◌++◌}
use Rattle.coll_lang.specs.declared.choices.ChoiceKind.{ChoiceKind}
use Rattle.coll_lang.specs.declared.choices.ChoiceKind.TheVariants.{Elect, Tickets}
use Rattle.ptl_types.specs.Handles.{top}
use Rattle.ptl_types.specs.declared.calls.TriggeredOp.TheVariants.{Swap}
use Rattle.ptl_types.specs.declared.elements.ElemType.TheVariants.{U64}
use Rattle.ptl_types.specs.declared.elements.SwapOp.TheVariants.{Cswap}
use Rattle.ni_model.specs.Answers.{answered}
use Rattle.ni_model.specs.Append.{append}
use Rattle.ni_model.specs.Arrive.{request}
use Rattle.ni_model.specs.Ready.{fired}
use Rattle.ni_model.specs.Starts.{started}
use Rattle.ni_model.specs.State.{Posted, target}
use Rattle.cuts.specs.histories.System.{System, state_at}
use Rattle.cuts.specs.orders.Chosen.{chosen, enabled_steps}
use Rattle.plan_choice.specs.texts.machine.Choices.{AreTickets, IsElected}
use Rattle.plan_choice.specs.texts.view.Install.{Slots, ct_of, four_words, get_args, operation, put_args}
use Rattle.plan_choice.specs.texts.view.Install.Counter.{Go}
use Rattle.plan_choice.specs.texts.view.Install.Part.{Old}
use Rattle.plan_choice.specs.texts.view.Install.RankOp.{Look, Send, ForDone}
use Rattle.plan_choice.specs.texts.laws.Decided.{choice_system, result_of}

abbrev slots : Slots
slots = record { ct = λ n. n; me = λ n. n; md = λ n. n }

abbrev elect : List ChoiceKind
elect = Elect ∷ []

abbrev tickets : List ChoiceKind
tickets = Tickets ∷ []

-- the interfaces of an elect, with other operations
abbrev electing : List Posted → System
electing ws = record (choice_system 2 elect (λ r. slots)) {
  first = λ r. let s = (choice_system 2 elect (λ r. slots)).first r in record s { pending = record s.pending { waiting = ws } };
}

-- the interfaces of tickets, with another given word
abbrev drawing : ℕ → System
drawing given = record (choice_system 2 tickets (λ r. slots)) {
  first = λ r. record ((choice_system 2 tickets (λ r. slots)).first r) { memory = four_words 0 given 0 0 ++ [] };
}

-- the only step of the text, at rank r after this run
abbrev value : System → (ℕ → ℕ) → ℕ → ℕ → ℕ
value k words n r = result_of 0 (state_at k (chosen k words n).world r)

-- the first enabled step each time
abbrev lowest : ℕ → ℕ
lowest n = 0

-- ---- the swap compares with 0: nobody finds it, and the word stays as it was
abbrev with_zero : System
with_zero = electing (record (operation slots elect (Send 0))
    { action = Swap (get_args slots elect 0 (Old 0)) (put_args slots elect 0) Cswap U64 0 } ∷ operation slots elect
    (Look 0) ∷ operation slots elect (ForDone 0) ∷ [])

zero_ends : enabled_steps with_zero (chosen with_zero lowest 16) ≡ []
unfolding target request answered fired started append
zero_ends = refl

zero_values : (value with_zero lowest 16 0 ∷ value with_zero lowest 16 1 ∷ []) ≡ top ∷ top ∷ []
unfolding target request answered fired started append
zero_values = refl

zero_first : value with_zero lowest 16 0 ≡ top
unfolding target request answered fired started append
zero_first = refl

-- no rank is named where rank 0 has the word that no rank is
unnamed : (f : ℕ → ℕ) → f 0 ≡ top → IsElected 2 f → ⊥
unnamed f e h = let a = h.agreed 0 (omega arith) in let b = h.is_rank in omega (arith, a, b, e)

pub zero_elects_none : IsElected 2 (value with_zero lowest 16) → ⊥
zero_elects_none h = unnamed (value with_zero lowest 16) zero_first h

-- ---- the get waits on go: it may come before any swap
abbrev hasty : System
hasty = electing (operation slots elect (Send 0) ∷ record
    (operation slots elect (Look 0)) { ct = ct_of slots elect Go } ∷ operation slots elect (ForDone 0) ∷ [])

-- after both starts rank 0 fires its get
abbrev get_first : ℕ → ℕ
get_first n = if n == 2 then 1 else 0

hasty_ends : enabled_steps hasty (chosen hasty get_first 16) ≡ []
unfolding target request answered fired started append
hasty_ends = refl

hasty_first : value hasty get_first 16 0 ≡ top
unfolding target request answered fired started append
hasty_first = refl

pub hasty_elects_none : IsElected 2 (value hasty get_first 16) → ⊥
hasty_elects_none h = unnamed (value hasty get_first 16) hasty_first h

-- ---- a ticket adds 2: numbers are left out
abbrev by_two : System
by_two = drawing 2

two_ends : enabled_steps by_two (chosen by_two lowest 10) ≡ []
unfolding target request answered fired started append
two_ends = refl

two_second : value by_two lowest 10 1 ≡ 2
unfolding target request answered fired started append
two_second = refl

pub two_are_none : AreTickets 2 (value by_two lowest 10) → ⊥
two_are_none h = let a = h.below 1 (omega arith) in let b = two_second in omega (arith, a, b)

-- ---- a ticket adds nothing: two ranks get one number
abbrev by_none : System
by_none = drawing 0

none_ends : enabled_steps by_none (chosen by_none lowest 10) ≡ []
unfolding target request answered fired started append
none_ends = refl

none_same : value by_none lowest 10 0 ≡ value by_none lowest 10 1
unfolding target request answered fired started append
none_same = refl

pub none_are_none : AreTickets 2 (value by_none lowest 10) → ⊥
none_are_none h = let a = h.apart 0 1 (omega arith) (omega arith) none_same in omega (arith, a)

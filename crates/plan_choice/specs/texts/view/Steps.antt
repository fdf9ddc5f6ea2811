-- The steps of an interface of a choice text: what a firing sends, and the seats that steps leave.
use Rattle.std.specs.Prelude.{ℕ, true, false, List, Option, Some, None}
use Rattle.ptl_types.specs.Messages.{Sent}
use Rattle.coll_lang.specs.declared.choices.ChoiceKind.{ChoiceKind}
use Rattle.plan_choice.specs.texts.machine.Machine.{Phase, ask, put}
use Rattle.plan_choice.specs.texts.machine.Machine.Phase.{Answered, Idle}
use Rattle.plan_choice.specs.texts.view.Install.{ChoiceRank, Slots, ask_message}

-- the seat with another phase in step s
abbrev pub with_phase : ℕ → Phase → ChoiceRank → ChoiceRank
with_phase s p seat = record seat { phase = put s p seat.phase }

-- the seat with another word in step s
abbrev pub with_word : ℕ → ℕ → ChoiceRank → ChoiceRank
with_word s w seat = record seat { word = put s w seat.word }

-- what the firing in step s sends, where the rank is so far
abbrev pub sent_message : Slots → List ChoiceKind → ℕ → ℕ → Phase → Option Sent
sent_message k ks r s Idle = Some (ask_message k ks r (ask s false))
sent_message k ks r s (Answered old) = Some (ask_message k ks r (ask s true))
sent_message k ks r s _ = None

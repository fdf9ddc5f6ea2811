-- What a hand knows after a turn.
use Rattle.std.specs.Prelude.{ℕ, ◌≡◌, ◌≢◌, ◌-◌, ◌++◌, List, length, map, Option, Some, None}
use Rattle.ptl_types.specs.declared.steps.LocalStep.{LocalStep}
use mathlib.Core.Option.{some}
use mathlib.Core.List.{IsPrefix}
use lib.ListN.{get_elem?}
use Rattle.turn_table.specs.declared.views.HandView.{HandView}
use Rattle.turn_table.specs.declared.views.SlotView.{SlotView}
use Rattle.turn_table.specs.declared.views.EndedTurn.{EndedTurn}
use Rattle.turn_table.specs.Views.{numbers_from, places, without_busy_slot}
use Rattle.turn_table.specs.Hands.{LastTurn, Took}
use Rattle.cuts.specs.histories.History.{Local}
use Rattle.schedule_compiler.specs.Jobs.{JobOf}
use Rattle.rank_slots.specs.declared.turn_rank.TurnRank.{TurnRank}
use Rattle.rank_slots.specs.Chronicles.{chronicle}
use Rattle.rank_slots.specs.Names.{Mark, history, note, plate}
use Rattle.rank_slots.specs.Steps.{IsIdle, Made}

-- the history begins with each that the hand saw at rank r
abbrev pub BeginsSeen : HandView TurnRank → ℕ → List Local → Type 0
BeginsSeen v r h =
    (s : SlotView TurnRank) (i : ℕ) (t : EndedTurn TurnRank) → get_elem? v.slots r ≡ some s → get_elem? s.seen i ≡ some t
    → IsPrefix (history t.given) h

-- from the view v to the view w the hand had one turn, at rank r, and took a and gave b; busy tries aside, nothing else changed
pub record Turned (v w : HandView TurnRank) (r : ℕ) (a b : Mark) : Type 0 where
  pub parts : w.parts ≡ v.parts
  pub begins : BeginsSeen v r a.0
  pub last : LastTurn history note w r a b
  pub mine : places w r ≡ places v r ++ numbers_from (length a.0) (length b.0 - length a.0)
  pub others : (q : ℕ) → q ≢ r → get_elem? (map without_busy_slot w.slots) q ≡ get_elem? (map without_busy_slot v.slots) q

-- the hand made no step at any rank
abbrev pub MadeNone : HandView TurnRank → HandView TurnRank → Type 0
MadeNone v w = (q : ℕ) → places w q ≡ places v q

-- the hand had one turn, at rank r, in which it made this step; or it made no step at any rank
abbrev pub Followed : Option LocalStep → HandView TurnRank → HandView TurnRank → ℕ → Type 0
Followed None v w r = MadeNone v w
Followed (Some step) v w r = (a : Mark) × (b : Mark) × Turned v w r a b × Made step a b

-- the slot may be given back as y: the hand took x, the history only grew, and no handle was given after the start
pub record MayEnd (k : ℕ) (y : TurnRank) (w : HandView TurnRank) : Type 0 where
  pub before : HandView TurnRank
  pub taken : TurnRank
  pub took : Took chronicle plate before k taken w
  pub named : plate y ≡ plate taken
  pub grows : IsPrefix (chronicle taken) (chronicle y)

-- the hand had a turn at rank r, and at its last one there it made no step, since it found none to make
abbrev pub FoundIdle : JobOf → HandView TurnRank → ℕ → Type 0
FoundIdle job v r = (a : Mark) × (b : Mark) × LastTurn history note v r a b × IsIdle job r a b

-- A wave of probes that found a fabric at rest.
use Rattle.std.specs.Prelude.{ℕ, ◌≡◌, List}
use mathlib.Core.Option.{some}
use lib.ListN.{get_elem?}
use Rattle.cuts.specs.histories.System.{Histories}
use Rattle.rest_probe.specs.declared.answers.WaveAnswer.TheVariants.{Rest}
use Rattle.rest_probe.specs.declared.notes.RankNote.{RankNote}
use Rattle.rest_probe.specs.declared.notes.ProbeNote.{ProbeNote}
use Rattle.rest_probe.specs.Answered.{Answered}
use Rattle.rest_probe.specs.Waves.{IsFor}
use Rattle.schedule_compiler.specs.Jobs.{JobOf}
use Rattle.turn_table.specs.declared.views.HandView.{HandView}
use Rattle.turn_table.specs.Hands.{IsFree}
use Rattle.turn_table.specs.States.{HandState}
use Rattle.rank_slots.specs.declared.turn_rank.TurnRank.{TurnRank}
use Rattle.rank_threads.specs.Fabrics.{FabricState}
use mathlib.Core.List.{IsPrefix}
use Rattle.cuts.specs.histories.History.{Local}
use Rattle.turn_table.specs.declared.views.EndedTurn.{EndedTurn}
use Rattle.turn_table.specs.declared.views.SlotView.{SlotView}
use Rattle.rank_slots.specs.Names.{history}
use Rattle.rank_slots.specs.Probes.{Says}

-- a history that was seen at rank r begins with this front, and the note says what the front says
pub record SaysSeen (job : JobOf) (v : HandView TurnRank) (r : ℕ) (front : List Local) (n : ProbeNote) : Type 0 where
  pub slot : SlotView TurnRank
  pub slot_is : get_elem? v.slots r ≡ some slot
  pub at : ℕ
  pub turn : EndedTurn TurnRank
  pub turn_is : get_elem? slot.seen at ≡ some turn
  pub begins : IsPrefix front (history turn.given)
  pub says : Says job r front turn.given.node.value.kept n

-- each note says what its rank's front says, with which a history begins that was seen there
abbrev pub AreFronts : JobOf → HandView TurnRank → Histories → List RankNote → Type 0
AreFronts job v fronts w = (r : ℕ) (x : RankNote) → get_elem? w r ≡ some x → SaysSeen job v r (fronts r) x.note

-- by one of these hands
pub record SeenBy (job : JobOf) (hands : List (HandState TurnRank)) (r : ℕ) (fronts : Histories) (n : ProbeNote) : Type 0 where
  pub at : ℕ
  pub hand : HandState TurnRank
  pub hand_is : get_elem? hands at ≡ some hand
  pub says : SaysSeen job hand.knows r (fronts r) n

abbrev pub AreFrontsOf : JobOf → List (HandState TurnRank) → Histories → List RankNote → Type 0
AreFrontsOf job hands fronts w = (r : ℕ) (x : RankNote) → get_elem? w r ≡ some x → SeenBy job hands r fronts x.note

-- what becomes of the hand and the wave of the first worker: the wave has found the job at rest
pub record Led (f : FabricState) (old new : HandState TurnRank) (w : List RankNote) : Type 0 where
  pub hand : IsFree f.turns new
  pub parts : new.knows.parts ≡ old.knows.parts
  pub lanes : IsFor f.job.schedule.plan w
  pub answer : Answered w Rest
  pub noted : (fronts : Histories) × AreFronts f.job new.knows fronts w

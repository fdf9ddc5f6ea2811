-- What a run of a job leaves, and the order that a seed chooses.
use Rattle.std.specs.Prelude.{ℕ, zero, suc, ◌≡◌, ◌<◌, ◌%◌, ◌^◌, List, [], length}
use Rattle.rand_core.specs.Pcg32Seed.{pcg32_seed}
use Rattle.rand_pcg.specs.Lcg.{Lcg}
use Rattle.rand_pcg.specs.Pcg.{pcg32, pcg32_of_seed}
use Rattle.cuts.specs.view.Slots.{Slots}
use Rattle.cuts.specs.cells.Cells.{AreValues}
use Rattle.cuts.specs.histories.Cut.{IsAtRest}
use Rattle.cuts.specs.histories.Plans.{IsComplete}
use Rattle.cuts.specs.orders.Chosen.{IsChosen}
use Rattle.cuts.specs.orders.Reached.{IsReached}
use Rattle.schedule_compiler.specs.Jobs.{JobOf}
use Rattle.turn_table.specs.Hands.{parts_of}
use Rattle.turn_table.specs.States.{HandState}
use Rattle.rank_slots.specs.declared.turn_rank.TurnRank.{TurnRank}
use Rattle.rank_wiring.specs.Opening.{AllFresh}
use Rattle.rank_threads.specs.Closing.{IsWorked, IsWorldOf}
use Rattle.rank_threads.specs.Fabrics.{FabricState}
use Rattle.worlds.specs.Later.{IsLater}
use Rattle.worlds.specs.Standing.{IsStanding}
use Rattle.worlds.specs.World.{AreSlots, WorldState, histories_in, memory_in, ranks_in, scene_in, steps_in}

-- A world of a job, at rest: whatever slots agree with what its ranks' tables gave, no step is left and every rank is complete; and each
-- cell holds its value.
pub record IsJobRun (job : JobOf) (w : WorldState) : Type 0 where
  pub schedule : w.schedule ≡ job.schedule
  pub inputs : w.inputs ≡ job.inputs
  -- its histories are a cut
  pub standing : IsStanding w
  -- nothing of another job may come
  pub own : w.spare ≡ 0
  pub none : (slots : ℕ → Slots) → AreSlots w slots → steps_in w slots ≡ []
  pub rest : (slots : ℕ → Slots) → AreSlots w slots → IsAtRest (ranks_in w slots) (histories_in w)
  pub complete : (slots : ℕ → Slots) → AreSlots w slots → (r : ℕ) → r < w.schedule.plan.ranks →
      IsComplete w.schedule.plan w.inputs slots (histories_in w) r
  pub values : AreValues w.schedule.plan w.inputs (memory_in w)

-- Its histories and lanes are those of a moment to which local steps of its ranks led, one after the other, from the beginning on.
abbrev pub IsReachedWorld : WorldState → Type 0
IsReachedWorld w = (slots : ℕ → Slots) → AreSlots w slots → IsReached (ranks_in w slots) (histories_in w) (scene_in w).held

-- So many workers left a world, each of whom saw every rank idle at its last turn there, and this one is later: they were all the hands
-- of a fabric of the job in which nothing had been done.
pub record IsOfWorkers (workers : ℕ) (w : WorldState) : Type 0 where
  pub fabric : FabricState
  pub fresh : AllFresh fabric.job fabric.turns.start
  pub left : WorldState
  pub worked : IsWorked fabric workers left
  pub later : IsLater left w

-- What hands that are together all of a fabric's leave at rest.
pub record IsRested (f : FabricState) (workers : ℕ) (w : WorldState) : Type 0 where
  pub hands : List (HandState TurnRank)
  pub count : length hands ≡ workers
  pub all : parts_of hands ≡ 2 ^ 32
  pub world : IsWorldOf f hands w
  pub rest : (slots : ℕ → Slots) → AreSlots w slots → IsAtRest (ranks_in w slots) (histories_in w)

-- So many workers left a world at rest, and this one is later: they were all the hands of a fabric of the job in which nothing had been
-- done.
pub record IsOfSteady (workers : ℕ) (w : WorldState) : Type 0 where
  pub fabric : FabricState
  pub fresh : AllFresh fabric.job fabric.turns.start
  pub left : WorldState
  pub rested : IsRested fabric workers left
  pub later : IsLater left w

-- the generator that a number seeds: PCG XSH RR 64/32, as its crate seeds it
abbrev pub generator : ℕ → Lcg
generator seed = pcg32_of_seed (pcg32_seed 16 seed)

-- of n steps it chooses the one whose number is its next word modulo n
abbrev pub chosen_number : Lcg → ℕ → ℕ
chosen_number g n = (pcg32 g).0 % n

abbrev pub words_left : Lcg → ℕ → Lcg
words_left g n = (pcg32 g).1

-- the generator after so many words, and the words, from 0 on
abbrev pub after_words : ℕ → ℕ → Lcg
after_words seed zero = generator seed
after_words seed (suc i) = (pcg32 (after_words seed i)).1

abbrev pub word : ℕ → ℕ → ℕ
word seed i = (pcg32 (after_words seed i)).0

-- its histories are those of the chosen run of the words: each names one of the enabled steps, until there is none
abbrev pub IsInOrder : ℕ → WorldState → Type 0
IsInOrder seed w = (slots : ℕ → Slots) → AreSlots w slots → IsChosen (ranks_in w slots) (word seed) (histories_in w)

-- Two scenes that differ in the slots that their interfaces gave, and in nothing else, however the log goes on: they are kin.
use Rattle.std.specs.Prelude.{◌≡◌}
use Rattle.log_verdict.specs.Answering.{Came}
use Rattle.log_verdict.specs.declared.answering.Step.{Step}
use Rattle.log_verdict.specs.declared.answering.Step.TheVariants as steps
use Rattle.log_verdict.specs.declared.scenes.Scene.{Scene}
use Rattle.slot_laws.proofs.terms.Scenes.{AgreeBelow, AllConsistent, AreRenamings, Renamings, ScenesAlike}

-- a step after which the log goes on
abbrev pub GoesOn : Step → Type 0
GoesOn steps.Goes = Unit {0}
GoesOn (steps.Owes text) = Unit {0}
GoesOn (steps.Refused fault) = ⊥
GoesOn (steps.Differs column said o) = ⊥

-- Two scenes are kin if one can be had from the other by other slots for all that was made so far: they are alike under every renaming that
-- does with that what g does, whatever it does with what is made later. So a thing that is made later may be paired with any
-- other. And each is consistent.
pub record Kin (g : Renamings) (s t : Scene) : Type 0 where
  pub are : AreRenamings g
  pub alike : (h : Renamings) → AreRenamings h → AgreeBelow s.seats g h → ScenesAlike h s t
  pub here : AllConsistent s.seats
  pub there : AllConsistent t.seats

-- the same step comes of a line, and where the log goes on its scenes are kin
pub record KinCame (c d : Came) : Type 0 where
  pub renaming : Renamings
  pub step : d.step ≡ c.step
  pub kin : GoesOn c.step → Kin renaming c.scene d.scene

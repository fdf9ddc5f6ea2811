-- Two judges of one log whose interfaces gave other slots.
use Rattle.std.specs.Prelude.{◌≡◌, None}
use Rattle.log_verdict.specs.Judging.{Took, verdict_given}
use Rattle.log_verdict.specs.declared.judge.Judge.{Judge}
use Rattle.slot_laws.proofs.terms.Scenes.{Renamings}
use Rattle.slot_laws.proofs.terms.Kin.{Kin}

-- they stand at one line, and their scenes are kin
pub record JudgesKin (g : Renamings) (j k : Judge) : Type 0 where
  pub fills : k.fills ≡ j.fills
  pub stage : k.stage ≡ j.stage
  pub line : k.line ≡ j.line
  pub calls : k.calls ≡ j.calls
  pub scene : Kin g j.scene k.scene

-- the same became of a line, and the log goes on alike
pub record TookKin (t u : Took) : Type 0 where
  pub taken : u.taken ≡ t.taken
  pub judge : verdict_given t.taken ≡ None → (g : Renamings) × JudgesKin g t.judge u.judge

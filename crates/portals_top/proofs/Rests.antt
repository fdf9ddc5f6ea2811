-- What was run, and what was written of it.
use Rattle.std.proofs.Common.{◌≡◌, ℕ, List, Option, None, Result, Ok, Err, refl, sym, subst}
use Rattle.port_io.specs.declared.ends.Failed.{Failed}
use Rattle.port_io.specs.Ends.{Outflow}
use Rattle.coll_shape.specs.Outline.{Outline}
use Rattle.coll_shape.specs.Meaning.{AreInputs, Lists}
use Rattle.coll_shape.specs.WellFormed.{IsWellFormed}
use Rattle.schedule_compiler.specs.shapes.Drawing.{plan_of}
use Rattle.schedule_compiler.specs.shapes.Footprint.{refusal}
use Rattle.schedule_compiler.specs.Jobs.{job_of}
use Rattle.schedule_compiler.specs.Schedules.{ScheduleOf}
use Rattle.cuts.specs.cells.Cells.{AreValues}
use Rattle.job_laws.specs.Results.{AreMeant}
use Rattle.job_laws.proofs.Cuts.{meant_by_values}
use Rattle.run_text.specs.Putting.{EndsWith}
use Rattle.worlds.specs.World.{WorldState, memory_in}
use Rattle.job_runs.specs.Runs.{IsJobRun}
use Rattle.portals_top.specs.declared.ran.Ran.{Ran}
use Rattle.run_text.specs.declared.status.Status.TheVariants.{Done}
use Rattle.portals_top.specs.Answered.{HandsBack}
use Rattle.job_runs.specs.declared.modes.Mode.{Mode}
use Rattle.run_text.specs.Ending.{Written, done, status_of}
use Rattle.portals_top.specs.Due.{mode_text}
use Rattle.portals_top.specs.Resting.{IsResting}
use Rattle.portals_top.specs.Runs.{IsRun}

pub written-of : (sink sink' : Outflow) (text : List ℕ) (r : Result (Unit {0}) Failed) → EndsWith sink sink' text r →
    Written (done text) sink sink' (status_of r)
written-of sink sink' text (Ok x) ends = record { allowed = refl; no_read = λ is. absurd (cc); text = ends }
written-of sink sink' text (Err failed) fails = record { allowed = tt; no_read = λ is. absurd (cc); text = fails }

pub handed-of : (leaves : Ran → Type 0) (r : Result (Unit {0}) Failed) (w : Ran) → leaves w → HandsBack (status_of r) Done leaves w
handed-of leaves (Ok x) w left = left
handed-of leaves (Err failed) w left = left

pub run-of : (w : WorldState) (o : Outline) (inputs : Lists) → IsWellFormed o → refusal o ≡ None → AreInputs o inputs
    → IsJobRun (job_of o inputs) w → IsRun o inputs w
run-of w o inputs formed accepted fits run = record {
  of_shape = record {
    formed = formed;
    accepted = accepted;
    given = subst (AreInputs o) (sym run.inputs) fits;
    schedule = run.schedule;
  };
  inputs = run.inputs;
  standing = run.standing;
  own = run.own;
  none = run.none;
  rest = run.rest;
  complete = run.complete;
  meant = meant_by_values o inputs (memory_in w) formed fits
      (subst (λ (i : Lists). AreValues (plan_of o) i (memory_in w)) run.inputs
      (subst (λ (s : ScheduleOf). AreValues s.plan w.inputs (memory_in w)) run.schedule run.values));
}

-- so it rests, as a world of any shape that is this one
pub resting-of : (w : WorldState) (o p : Outline) (inputs : Lists) → IsRun o inputs w → p ≡ o → IsResting p w
resting-of w o p inputs run same =
    subst (λ (q : Outline). IsResting q w) (sym same)
    (record {
      of_shape = run.of_shape;
      meant = subst (λ (i : Lists). AreMeant o i (memory_in w)) (sym run.inputs) run.meant;
    })

-- the text of a world is that of its shape and inputs
pub same-mode : (mode : Mode) (sink sink' : Outflow) (r : Result (Unit {0}) Failed) (o p : Outline) (inputs given : Lists)
    (ran : Option WorldState)
    → o ≡ p → inputs ≡ given → EndsWith sink sink' (mode_text mode o inputs ran) r → EndsWith sink sink' (mode_text mode p given ran) r
same-mode mode sink sink' r o p inputs given ran shape same ends =
    subst (λ (i : Lists). EndsWith sink sink' (mode_text mode p i ran) r) same
    (subst (λ (x : Outline). EndsWith sink sink' (mode_text mode x inputs ran) r) shape ends)

-- Within one step links lead from each place's entry to the place's exit.
use Rattle.std.proofs.Common.{ℕ, ◌<◌, sym, subst}
use Rattle.coll_shape.specs.Collectives.{IsRoot}
use Rattle.coll_shape.specs.declared.types.CollStep.{CollStep}
use Rattle.plan_core.specs.Plan.{Plan}
use Rattle.plan_core.specs.Rounds.{Comes}
use Rattle.plan_steps.specs.Collectives.{cells_of, end_of}
use Rattle.plan_steps.specs.Sounding.{EachAt}
use Rattle.plan_steps.specs.StepContext.{StepContext, count, entry}
use Rattle.cuts.specs.machine.Machine.{Leads}
use Rattle.cuts.specs.machine.Machine.Leads.{along, here}
use Rattle.schedule_compiler.proofs.shapes.EveryStep.{Linked, way_through}

-- one link more
pub onward : (q : Plan) (a b c : ℕ) → Comes q b c → Leads q a b → Leads q a c
onward q a b c w path = along c w.l w.into (subst (Leads q a) (sym w.from) path)

pub through : (q : Plan) (s : StepContext) (pos : 0 < count s) (step : CollStep) → IsRoot step (count s)
    → EachAt (Linked q) s.first (cells_of s step) → (i : ℕ) → i < count s → Leads q (entry s i) (end_of s step i).exit
through q s pos = way_through q (Leads q) (λ a. here) (onward q) s pos

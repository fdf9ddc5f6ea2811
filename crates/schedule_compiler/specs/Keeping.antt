-- What a schedule keeps.
use Rattle.std.specs.Prelude.{ℕ, ◌+◌, ◌<◌, ◌≡◌, ◌^◌, Some, length}
use Rattle.plan_core.specs.Draw.{HeldCells, held_cell}
use Rattle.plan_core.specs.Plan.{Plan, cell}
use Rattle.plan_core.specs.Sound.{SoundPlan}
use Rattle.plan_tables.specs.declared.tables.Tables.{Tables}
use Rattle.plan_tables.specs.Ranks.{IsTables}
use Rattle.schedule_compiler.specs.Schedules.{ScheduleOf}

-- a cell of the plan on rank r
abbrev pub IsCellOn : Plan → ℕ → ℕ → Type 0
IsCellOn p r c = (c < length p.cells) × ((cell p c).rank ≡ r)

-- the cells that hold a plan's results: those at a rank lie on it
pub record AreHeld (p : Plan) (h : HeldCells) : Type 0 where
  pub ranks : h.ranks ≡ p.ranks
  pub cells : (b r c : ℕ) → b < h.buffers → r < p.ranks → held_cell h b r ≡ Some c → IsCellOn p r c

-- a plan that runs: it is sound, with so few cells and links that interfaces have room for what each rank installs
pub record CanRun (s : ScheduleOf) : Type 0 where
  pub sound : SoundPlan s.plan s.inputs
  pub at_most : length s.plan.cells + length s.plan.links < 2 ^ 27
  pub held : AreHeld s.plan s.held

-- with the plan's tables, and the number of buffers that the cells of the results are of
pub record Keeps (s : ScheduleOf) (buffers : ℕ) (t : Tables) : Type 0 where
  pub can : CanRun s
  pub buffers_are : buffers ≡ s.held.buffers
  pub tables : IsTables s.plan t

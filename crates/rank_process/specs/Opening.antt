-- A rank that can take frames.
use Rattle.std.specs.Prelude.{ℕ, ◌≡◌, ◌<◌, List, [], length, sum_by, map}
use Rattle.coll_shape.specs.WellFormed.{IsWellFormed}
use Rattle.number_lists.specs.Numbers.{from_to}
use Rattle.ptl_types.specs.declared.headers.Lane.TheVariants.{Request, Answer}
use Rattle.plan_core.specs.Plan.{Plan, link}
use Rattle.plan_core.specs.Values.{Inputs}
use Rattle.plan_core.specs.calls.Areas.{links_to}
use Rattle.plan_core.specs.calls.Lanes.{lane_messages}
use Rattle.cuts.specs.view.Calls.{prepare}
use Rattle.cuts.specs.view.Slots.{Slots}
use Rattle.rank_node.specs.Handles.{Agrees}
use Rattle.rank_node.specs.Plans.{IsCompiledFor}
use Rattle.rank_frames.specs.Due.{Dues}
use Rattle.rank_frames.specs.Place.{PlaceState}
use Rattle.rank_process.specs.lines.Places.{places_in}
use Rattle.rank_process.specs.lines.Rank.{Asks, Work}
use Rattle.rank_process.specs.declared.asking.Asked.{Asked}
use Rattle.rank_process.specs.declared.opening.Opened.{Opened}

-- what comes to rank r in a whole run of a plan
pub record IsDueTo (p : Plan) (r : ℕ) (d : Dues) : Type 0 where
  pub requests : d.requests ≡ map (λ s. lane_messages p s r Request) (from_to 0 p.ranks)
  pub answers : d.answers ≡ map (λ s. lane_messages p s r Answer) (from_to 0 p.ranks)
  pub bytes : d.bytes ≡ sum_by (λ l. (link p l).length) (links_to p r)

-- rank r, which has done nothing
pub record IsPlaceOf (p : Plan) (inputs : Inputs) (r : ℕ) (x : PlaceState) : Type 0 where
  pub me : x.me ≡ r
  pub compiled : IsCompiledFor p inputs r x.node.task
  pub nothing : x.node.diary.locals ≡ []
  pub first : (k : Slots) → Agrees k x.node.kept → x.node.nic ≡ prepare p inputs k r
  pub due : IsDueTo p r x.due

-- what is run by it
abbrev pub work_of : Asked → Work
work_of x = record { shape = x.shape; schedule = x.job.schedule; inputs = x.job.inputs }

-- the text asks for this, and each buffer has a place among the results
pub record IsAskedBy (text : List ℕ) (x : Asked) : Type 0 where
  pub asks : Asks text (work_of x)
  pub buffers : x.job.schedule.held.buffers ≡ length x.shape.buffers

-- rank r of what a text asks for, and what it prints
pub record IsOpened (w : Work) (r : ℕ) (x : Opened) : Type 0 where
  pub rank : r < w.schedule.plan.ranks
  pub place : IsPlaceOf w.schedule.plan w.inputs r x.place
  pub prints : x.prints ≡ record { shape = w.shape; rank = r; places = places_in w.schedule r }
  pub buffers : w.schedule.held.buffers ≡ length w.shape.buffers
  pub formed : IsWellFormed w.shape

-- What holds of every interleaving of the ranks of a description, messages of other jobs included.
use Rattle.std.specs.Prelude.{ℕ, ◌≡◌, ◌<◌, List, None, Ok}
use Rattle.coll_lang.specs.Language.{read}
use Rattle.coll_lang.specs.Program.{Program}
use Rattle.cuts.specs.view.Slots.{Slots}
use Rattle.cuts.specs.histories.Moment.{Lanes}
use Rattle.cuts.specs.histories.Plans.{IsComplete, system_of}
use Rattle.cuts.specs.histories.System.{Histories, state_at}
use Rattle.schedule_compiler.specs.shapes.Drawing.{plan_of}
use Rattle.schedule_compiler.specs.shapes.Footprint.{refusal}
use Rattle.cuts.specs.interleavings.Interleaving.{IsReachedIn, IsStillButStrays}
use Rattle.job_laws.specs.Results.{AreMeant}

-- For every accepted description, whatever its number of ranks and whatever slots the interfaces' tables give, and for every
-- interleaving of starts, deliveries and firings that keeps the order of each lane, into which any number of messages of other jobs
-- came: once every rank has started, no operation is ready and no lane holds a message but those of other jobs, every rank is
-- complete (each completion counter stands at its threshold), and each buffer at each rank, printed or not, is what the description
-- means of the inputs.
abbrev pub HeadlineWithStrays : Type 0
HeadlineWithStrays = (bytes : List ℕ) (d : Program) (slots : ℕ → Slots) (steps strays : ℕ) (world : Histories) (held : Lanes) →
    read bytes ≡ Ok d → refusal d.shape ≡ None →
    IsReachedIn (system_of (plan_of d.shape) d.inputs slots) steps strays world held →
    IsStillButStrays (system_of (plan_of d.shape) d.inputs slots) world held →
    ((r : ℕ) → r < d.shape.ranks → IsComplete (plan_of d.shape) d.inputs slots world r)
    × AreMeant d.shape d.inputs (λ r. (state_at (system_of (plan_of d.shape) d.inputs slots) world r).memory)

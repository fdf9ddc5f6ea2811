-- What holds of every interleaving of the ranks of a description.
use Rattle.std.specs.Prelude.{ℕ, ◌≡◌, ◌<◌, List, None, Ok}
use Rattle.coll_lang.specs.Language.{read}
use Rattle.coll_lang.specs.Program.{Program}
use Rattle.cuts.specs.view.Slots.{Slots}
use Rattle.cuts.specs.histories.Moment.{IsStill, Lanes}
use Rattle.cuts.specs.histories.Plans.{IsComplete, system_of}
use Rattle.cuts.specs.histories.System.{Histories, System, state_at}
use Rattle.cuts.specs.orders.Reached.{IsReached}
use Rattle.schedule_compiler.specs.shapes.Drawing.{plan_of}
use Rattle.schedule_compiler.specs.shapes.Footprint.{refusal}
use Rattle.job_laws.specs.Results.{AreMeant}

-- the ranks of a description: what each begins with, and what its start does, where its tables give these slots
abbrev pub ranks_of : Program → (ℕ → Slots) → System
ranks_of d slots = system_of (plan_of d.shape) d.inputs slots

-- For every accepted description, whatever its number of ranks and whatever slots the interfaces' tables give, and for every
-- interleaving of starts, deliveries and firings that keeps the order of each lane: once every rank has started and no message or
-- ready operation is left, every rank is complete (each completion counter stands at its threshold), and each buffer at each rank,
-- printed or not, is what the description means of the inputs.
abbrev pub Headline : Type 0
Headline = (bytes : List ℕ) (d : Program) (slots : ℕ → Slots) (world : Histories) (held : Lanes) →
    read bytes ≡ Ok d → refusal d.shape ≡ None →
    IsReached (ranks_of d slots) world held → IsStill (ranks_of d slots) world held →
    ((r : ℕ) → r < d.shape.ranks → IsComplete (plan_of d.shape) d.inputs slots world r)
    × AreMeant d.shape d.inputs (λ r. (state_at (ranks_of d slots) world r).memory)

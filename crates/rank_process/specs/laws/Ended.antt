-- Ranks that have ended each by itself, what was carried between them, and their lines.
use Rattle.std.specs.Prelude.{ℕ, ◌<◌, List}
use Rattle.std.specs.List.{flat_map}
use Rattle.number_lists.specs.Numbers.{from_to}
use Rattle.ptl_types.specs.declared.headers.Lane.{Lane}
use Rattle.plan_core.specs.Plan.{Plan}
use Rattle.plan_core.specs.Values.{Inputs}
use Rattle.cuts.specs.ended.Ended.{HasEnded}
use Rattle.cuts.specs.histories.Cut.{IsPrefixOf}
use Rattle.cuts.specs.histories.History.{got}
use Rattle.cuts.specs.histories.Plans.{system_of}
use Rattle.cuts.specs.histories.System.{Histories, sent_by}
use Rattle.cuts.specs.view.Slots.{Slots}
use Rattle.run_text.specs.Lines.{text_of}
use Rattle.verdict_laws.specs.GivenJobs.{given_lists}
use Rattle.rank_process.specs.lines.Lines.{own_line}
use Rattle.rank_process.specs.lines.Rank.{IsHistory, Work, state_after}

-- each rank of one plan has such a history as is said where a rank ends, with the slots that its own tables gave
pub record HaveEnded (p : Plan) (inputs : Inputs) (slots : ℕ → Slots) (world : Histories) : Type 0 where
  pub history : (r : ℕ) → r < p.ranks → IsHistory p inputs r (slots r) (world r)
  pub ended : (r : ℕ) → r < p.ranks → HasEnded p inputs (λ q. slots r) (λ q. world r) r

-- What came to each rank from another on a lane is a beginning of what that one sent there: nothing was lost among it, added or changed,
-- nor did one message overtake another.
abbrev pub AreCarried : Plan → Inputs → (ℕ → Slots) → Histories → Type 0
AreCarried p inputs slots world =
    (s r : ℕ) (lane : Lane) → s < p.ranks → r < p.ranks
    → IsPrefixOf (got (world r) s lane) (sent_by (system_of p inputs slots) world s r lane)

-- the line of buffer b that rank r wrote
abbrev pub line_of : Work → (ℕ → Slots) → Histories → ℕ → ℕ → List ℕ
line_of w slots world b r = own_line w.shape w.schedule r (state_after w.schedule.plan w.inputs r (slots r) (world r)).memory b

-- the lines that the ranks wrote: for each buffer that is printed, in order, that of each rank
abbrev pub gathered : Work → (ℕ → Slots) → Histories → List ℕ
gathered w slots world = flat_map (λ b. flat_map (line_of w slots world b) (from_to 0 w.schedule.plan.ranks)) w.shape.prints

-- what the cells hold in the end that hold the results, written for the shape
abbrev pub results_text : Work → List ℕ
results_text w = text_of w.shape (given_lists w.schedule.plan w.schedule.held w.inputs)

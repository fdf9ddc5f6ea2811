-- A node as a rank of a plan, and what its done counter tells there.
use Rattle.std.specs.Prelude.{ℕ, true, ◌<◌, ◌≡◌, [], length}
use Rattle.ptl_types.specs.Elements.{part}
use Rattle.plan_core.specs.Plan.{Plan, cell}
use Rattle.plan_core.specs.Sound.{AreInputsOf, SoundPlan}
use Rattle.plan_core.specs.Values.{Inputs, value}
use Rattle.plan_core.specs.calls.Calls.{cell_start}
use Rattle.cuts.specs.view.Slots.{Slots}
use Rattle.cuts.specs.histories.Cut.{IsCut}
use Rattle.cuts.specs.histories.Plans.{system_of}
use Rattle.cuts.specs.histories.System.{Histories}
use Rattle.cuts.specs.done.Done.{HasGotAll, OnlySendsAreLeft}
use Rattle.rank_node.specs.Handles.{Agrees}
use Rattle.rank_node.specs.Node.{NodeState}
use Rattle.rank_node.specs.Plans.{IsCompiledFor}

-- the node is rank r in a cut of a sound plan's ranks: it was compiled for it, and its history is that of the rank
pub record StandsAs (p : Plan) (inputs : Inputs) (slots : ℕ → Slots) (w : Histories) (r : ℕ) (n : NodeState) : Type 0 where
  pub sound : SoundPlan p (length inputs)
  pub fit : AreInputsOf p inputs
  pub cut : IsCut (system_of p inputs slots) w
  pub rank : r < p.ranks
  pub compiled : IsCompiledFor p inputs r n.task
  pub agrees : Agrees (slots r) n.kept
  pub history : w r ≡ n.diary.locals

-- in the node's memory each cell of rank r has its final bytes; the operations that are left are sends, and ready, and none where
-- completion is remote; and nothing of the job comes to the rank any more
pub record HasFinished (p : Plan) (inputs : Inputs) (slots : ℕ → Slots) (w : Histories) (r : ℕ) (n : NodeState) : Type 0 where
  pub values : (c : ℕ) → c < length p.cells → (cell p c).rank ≡ r → part (cell_start p c) (cell p c).length n.nic.memory ≡ value p inputs c
  pub left : OnlySendsAreLeft n.nic
  pub none_left : p.remote ≡ true → n.nic.pending.waiting ≡ []
  pub nothing_comes : HasGotAll (system_of p inputs slots) w r

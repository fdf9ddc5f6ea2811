-- The parts of a world before its first step.
use Rattle.std.specs.Prelude.{ℕ, false, ◌≡◌, [], replicate}
use Rattle.ptl_types.specs.declared.headers.Lane.{Lane}
use Rattle.pair_wires.specs.Lanes.{Plain}
use Rattle.plan_core.specs.Plan.{Plan}
use Rattle.plan_core.specs.Values.{Inputs}
use Rattle.rank_node.specs.Node.{IsNode, NodeState}
use Rattle.rank_node.specs.Plans.{IsCompiledFor}
use Rattle.worlds.specs.declared.opening.laying.Room.TheVariants.{Whole}
use Rattle.worlds.specs.opening.Laying.{laid_lane}

-- the node of rank r of n ranks, installed, with room for so many strays
pub record IsFresh (p : Plan) (inputs : Inputs) (n spare r : ℕ) (node : NodeState) : Type 0 where
  pub compiled : IsCompiledFor p inputs r node.task
  pub kept : IsNode node
  pub locals : node.diary.locals ≡ []
  pub steps : node.diary.steps ≡ []
  pub strays : node.strays ≡ spare
  pub gates : node.closed ≡ replicate n false

-- a lane on which nothing was sent: there is room for the plan's messages, and for strays where these may go
abbrev pub fresh_lane : Plan → ℕ → ℕ → ℕ → Lane → Plain
fresh_lane p strays s d lane = laid_lane p (Whole strays) s d lane

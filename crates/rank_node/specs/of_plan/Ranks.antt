-- A node that stands for a rank of a moment of a plan.
use Rattle.std.specs.Prelude.{ℕ, Bool, true, not, ◌<◌, ◌≤◌, ◌≡◌, List, [], ◌∷◌, ◌++◌, count_by, length, nat_lt, slice_index_or, IsTrue}
use Rattle.ptl_types.specs.declared.headers.Lane.{Lane}
use Rattle.ptl_types.specs.declared.headers.Lane.TheVariants.{Request}
use Rattle.ptl_types.specs.Messages.{Sent}
use Rattle.plan_core.specs.Plan.{Plan}
use Rattle.plan_core.specs.Values.{Inputs}
use Rattle.cuts.specs.view.Slots.{Slots}
use Rattle.cuts.specs.histories.Cut.{is_received_stray, is_stray}
use Rattle.cuts.specs.histories.History.{IsDue, Local, is_lane}
use Rattle.cuts.specs.histories.History.Local.{Start, Receive, Fire}
use Rattle.cuts.specs.orders.Chosen.{Scene}
use Rattle.cuts.specs.declared.orders.Step.{Step}
use Rattle.cuts.specs.declared.orders.Step.TheVariants.{Start as Starts, Deliver as Delivers, Fire as Fires}
use Rattle.rank_node.specs.Handles.{Agrees}
use Rattle.rank_node.specs.Node.{IsNode, NodeState, stray_bytes}
use Rattle.rank_node.specs.Plans.{IsCompiledFor}

-- node n is that of rank r of the plan: its history is the rank's, and the slots are those that its tables gave
pub record IsRank (p : Plan) (inputs : Inputs) (slots : ℕ → Slots) (z : Scene) (r : ℕ) (n : NodeState) : Type 0 where
  pub compiled : IsCompiledFor p inputs r n.task
  pub node : IsNode n
  pub agrees : Agrees (slots r) n.kept
  pub history : z.world r ≡ n.diary.locals

-- the strays among these have at most the bytes that there is room for
abbrev pub AreShort : List Local → Type 0
AreShort [] = Unit {0}
AreShort (Receive source lane m ∷ es) = (is_stray m ≡ true → length m.bytes ≤ stray_bytes) × AreShort es
AreShort (Start ∷ es) = AreShort es
AreShort (Fire t ∷ es) = AreShort es

-- a history with one step more has no more strays than there is room for
pub record HasStrayRoom (n : NodeState) (e : Local) : Type 0 where
  pub at_most : count_by is_received_stray (n.diary.locals ++ e ∷ []) ≤ n.strays
  pub short : AreShort (n.diary.locals ++ e ∷ [])

-- the message may be received by the node
pub record MayReceive (n : NodeState) (source : ℕ) (lane : Lane) (m : Sent) : Type 0 where
  pub source_is : m.header.source ≡ source
  pub target : m.header.target ≡ n.nic.rank
  pub kind : IsTrue (is_lane lane m.header.kind)
  pub due : IsDue n.nic lane m
  pub receipts : 0 < n.diary.receipts
  pub bytes : length m.bytes ≤ n.diary.bytes

-- its gates say of each rank whether the request lane to it holds as many messages as the window
pub record AreGates (z : Scene) (window r : ℕ) (closed : List Bool) : Type 0 where
  pub full : (d : ℕ) → d < length closed → slice_index_or closed d true ≡ not (nat_lt (length (z.held r d Request)) window)
  -- past the last rank no lane holds any
  pub past : (d : ℕ) → length closed ≤ d → z.held r d Request ≡ []

-- the rank whose history grows
abbrev pub mover : Step → ℕ
mover (Starts r) = r
mover (Delivers s d lane) = d
mover (Fires r t) = r

-- Local histories: the steps of one rank, oldest first, from a state on.
use Rattle.std.specs.Prelude.{ℕ, Bool, true, false, not, ◌&&◌, ◌||◌, ◌==◌, ◌≡◌, List, Option, Some, None, [], ◌∷◌, if◌then◌else◌, filter}
use Rattle.std.specs.Prelude.{IsTrue}
use Rattle.ptl_types.specs.declared.headers.Lane.{Lane}
use Rattle.ptl_types.specs.declared.headers.Lane.TheVariants.{Request, Answer}
use Rattle.ptl_types.specs.declared.headers.MessageKind.{MessageKind}
use Rattle.ptl_types.specs.Kinds.{is_answer}
use Rattle.ptl_types.specs.Messages.{Sent}
use Rattle.ni_model.specs.Answers.{is_awaited}
use Rattle.ni_model.specs.Conditions.{IsKept}
use Rattle.ni_model.specs.Ready.{is_ready, fired}
use Rattle.ni_model.specs.State.{State, target}

-- the start of the rank, the receipt of a message from a source on a lane, the firing of an operation
pub data Local : Type 0 where
  Start : Local
  Receive : (source : ℕ) (lane : Lane) (m : Sent) → Local
  Fire : (number : ℕ) → Local

-- what a start does: it leaves the rank and the pending operations as they are
pub record Beginning : Type 0 where
  pub by : State → State
  pub rank : (s : State) → (by s).rank ≡ s.rank
  pub pending : (s : State) → (by s).pending ≡ s.pending

-- the state after one step
abbrev pub after : Beginning → State → Local → State
after go s Start = go.by s
after go s (Receive source lane m) = (target s m).state
after go s (Fire t) = (fired s t).state

-- the message that a step makes
abbrev pub made_by : State → Local → Option Sent
made_by s Start = None
made_by s (Receive source lane m) = (target s m).delivered.answer
made_by s (Fire t) = (fired s t).message

-- the state after a history
abbrev pub state : Beginning → State → List Local → State
state go s [] = s
state go s (e ∷ es) = state go (after go s e) es

-- one message more, if there is one
abbrev pub and_then : Option Sent → List Sent → List Sent
and_then None ms = ms
and_then (Some m) ms = m ∷ ms

-- the messages that a history makes, in order
abbrev pub made : Beginning → State → List Local → List Sent
made go s [] = []
made go s (e ∷ es) = and_then (made_by s e) (made go (after go s e) es)

-- requests travel on one lane of a pair of ranks, answers on the other
abbrev pub is_lane : Lane → MessageKind → Bool
is_lane Request k = not (is_answer k)
is_lane Answer k = is_answer k

-- an answer comes only where one is awaited; whose it is isn't said
abbrev pub IsDue : State → Lane → Sent → Type 0
IsDue s Request m = Unit {0}
IsDue s Answer m = IsTrue (is_awaited s.mds.live)

-- the step may be made; `started` tells whether there was a start
abbrev pub May : Bool → State → Local → Type 0
May started s Start = started ≡ false
May started s (Receive source lane m) =
    (m.header.source ≡ source) × (m.header.target ≡ s.rank) × IsTrue (is_lane lane m.header.kind) × IsKept m × IsDue s lane m
May started s (Fire t) = IsTrue (is_ready s t)

-- a start
abbrev pub is_start : Local → Bool
is_start Start = true
is_start _ = false

-- the firing of operation t
abbrev pub is_fire : ℕ → Local → Bool
is_fire t (Fire u) = u == t
is_fire t _ = false

-- each step may be made where it stands
abbrev pub Legal : Beginning → Bool → State → List Local → Type 0
Legal go started s [] = Unit {0}
Legal go started s (e ∷ es) = May started s e × Legal go (started || is_start e) (after go s e) es

-- what was made for rank d on a lane
abbrev pub is_for : ℕ → Lane → Sent → Bool
is_for d lane m = (m.header.target == d) && is_lane lane m.header.kind

-- in order
abbrev pub sent : Beginning → State → List Local → ℕ → Lane → List Sent
sent go s h d lane = filter (is_for d lane) (made go s h)

-- one lane
abbrev pub same_lane : Lane → Lane → Bool
same_lane Request Request = true
same_lane Answer Answer = true
same_lane _ _ = false

-- what was received from rank s on a lane
abbrev pub got : List Local → ℕ → Lane → List Sent
got [] s lane = []
got (Receive source l m ∷ es) s lane = if (source == s) && same_lane l lane then m ∷ got es s lane else got es s lane
got (_ ∷ es) s lane = got es s lane

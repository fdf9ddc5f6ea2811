-- Systems: ranks, each with the interface that it begins with, what a start does there, and the lanes between them. A plan's ranks are
-- one such system; nothing here speaks of plans.
use Rattle.std.specs.Prelude.{ℕ, Bool, List}
use Rattle.ptl_types.specs.Messages.{Sent}
use Rattle.ptl_types.specs.declared.headers.Lane.{Lane}
use Rattle.ni_model.specs.State.{State}
use Rattle.cuts.specs.histories.History.{Beginning, Local, sent, state}

-- how many ranks there are, the first state of each interface, what a start does there, and on which lanes messages may go
pub record System : Type 0 where
  pub count : ℕ
  pub first : ℕ → State
  pub go : ℕ → Beginning
  pub used : ℕ → ℕ → Lane → Bool

-- one history for each rank
abbrev pub Histories : Type 0
Histories = ℕ → List Local

-- the interface of rank r at the end of its history
abbrev pub state_at : System → Histories → ℕ → State
state_at k w r = state (k.go r) (k.first r) (w r)

-- what rank s sent to rank d on a lane
abbrev pub sent_by : System → Histories → ℕ → ℕ → Lane → List Sent
sent_by k w s d lane = sent (k.go s) (k.first s) (w s) d lane

-- Taking: from given lists, one for each rank, the next step of some list is taken, whenever it is enabled.
use Rattle.std.specs.Prelude.{ℕ, ◌==◌, ◌<◌, ◌≡◌, List, [], ◌∷◌, ◌++◌, map, count_by, if◌then◌else◌, IsTrue}
use Rattle.ptl_types.specs.Messages.{Sent}
use Rattle.ni_model.specs.Ready.{is_ready}
use Rattle.cuts.specs.histories.History.{Local, got, is_start}
use Rattle.cuts.specs.histories.System.{Histories, System, sent_by, state_at}
use Rattle.cuts.specs.histories.History.Local.{Start, Receive, Fire}
use Rattle.ptl_types.specs.declared.steps.LocalStep.{LocalStep}
use Rattle.ptl_types.specs.declared.steps.LocalStep.TheVariants.{Start as Starts, Receive as Receives, Fire as Fires}

-- the step may be taken: a start that has not been, the receipt of the next message that was sent on its lane, a firing that is ready.
-- No lane is looked at, so no stray can be received.
abbrev pub MayTake : System → Histories → ℕ → Local → Type 0
MayTake k w r Start = count_by is_start (w r) ≡ 0
MayTake k w r (Receive s lane m) = (later : List Sent) × (got (w r) s lane ++ m ∷ later ≡ sent_by k w s r lane)
MayTake k w r (Fire t) = IsTrue (is_ready (state_at k w r) t)

-- rank r makes a step more
abbrev pub with_step : ℕ → Local → Histories → Histories
with_step r e w q = if r == q then w q ++ e ∷ [] else w q

-- a step that a rank makes
pub record Move : Type 0 where
  pub rank : ℕ
  pub step : Local

-- the histories that moves make, the newest move first
abbrev pub histories : List Move → Histories
histories [] = λ r. []
histories (e ∷ es) = with_step e.rank e.step (histories es)

-- an interleaving: each move was enabled when it was made
abbrev pub IsInterleaving : System → List Move → Type 0
IsInterleaving k [] = Unit {0}
IsInterleaving k (e ∷ es) = IsInterleaving k es × (e.rank < k.count) × MayTake k (histories es) e.rank e.step

-- ---- lists: a receipt names source and lane alone
abbrev pub listed : Local → LocalStep
listed Start = Starts
listed (Receive s lane m) = Receives s lane
listed (Fire t) = Fires t

-- one list for each rank
abbrev pub Lists : Type 0
Lists = ℕ → List LocalStep

-- e is the next step of rank r's list
abbrev pub IsNext : Lists → Histories → ℕ → LocalStep → Type 0
IsNext lists w r e = (later : List LocalStep) × (map listed (w r) ++ e ∷ later ≡ lists r)

-- each move was the next of its rank's list
abbrev pub AreListed : Lists → List Move → Type 0
AreListed lists [] = Unit {0}
AreListed lists (e ∷ es) = AreListed lists es × IsNext lists (histories es) e.rank (listed e.step)

-- rank r's next listed step isn't enabled, or there is none
abbrev pub IsStuckAt : System → Lists → Histories → ℕ → Type 0
IsStuckAt k lists w r = (e : Local) → IsNext lists w r (listed e) → MayTake k w r e → ⊥

-- what is taken of the lists: moves that are an interleaving of listed steps, as far as it goes
pub record IsTaken (k : System) (lists : Lists) (es : List Move) : Type 0 where
  pub made : IsInterleaving k es
  pub listed : AreListed lists es
  pub stuck : (r : ℕ) → r < k.count → IsStuckAt k lists (histories es) r

-- Interleavings that strays come into, how long they are, and where they end.
use Rattle.std.specs.Prelude.{ℕ, suc, true, false, ◌<◌, ◌≡◌, [], count_by, sum_by}
use Rattle.ptl_types.specs.Messages.{Sent}
use Rattle.ptl_types.specs.declared.headers.Lane.{Lane}
use Rattle.ni_model.specs.Ready.{is_ready}
use Rattle.plan_core.specs.Members.{In}
use Rattle.plan_core.specs.Plan.{Plan, from_to}
use Rattle.cuts.specs.histories.Cut.{is_received_stray, is_stray}
use Rattle.cuts.specs.histories.History.{is_start}
use Rattle.cuts.specs.histories.Moment.{IsLocalStep, IsStrayStep, Lanes}
use Rattle.cuts.specs.histories.System.{Histories, System, state_at}
use Rattle.cuts.specs.windows.Left.{steps_of}

-- histories and lanes to which so many local steps and so many strays lead, in any order: at first there was none, and the lanes are empty
pub data IsReachedIn (k : System) : (steps strays : ℕ) → Histories → Lanes → Type 0 where
  Begun : IsReachedIn k 0 0 (λ r. []) (λ s d lane. [])
  Stepped : {steps strays : ℕ} {w : Histories} {held : Lanes} {next : Histories} {later : Lanes} → IsReachedIn k steps strays w held →
      IsLocalStep k w held next later → IsReachedIn k (suc steps) strays next later
  Strayed : {steps strays : ℕ} {w : Histories} {held : Lanes} {next : Histories} {later : Lanes} → IsReachedIn k steps strays w held →
      IsStrayStep k w held next later → IsReachedIn k steps (suc strays) next later

-- each rank has started, no operation is ready, and what lanes hold is strays
pub record IsStillButStrays (k : System) (w : Histories) (held : Lanes) : Type 0 where
  pub started : (r : ℕ) → r < k.count → 0 < count_by is_start (w r)
  pub strays : (s d : ℕ) (lane : Lane) (m : Sent) → s < k.count → d < k.count → In m (held s d lane) → is_stray m ≡ true
  pub idle : (r t : ℕ) → r < k.count → is_ready (state_at k w r) t ≡ false

-- the steps that the ranks of a plan have to make: a start each, a firing of each operation, and the receipts of the plan's messages
abbrev pub steps_due : Plan → ℕ
steps_due p = sum_by (steps_of p 0) (from_to 0 p.ranks)

-- how many strays the first n ranks received
abbrev pub strays_received : Histories → ℕ → ℕ
strays_received w n = sum_by (λ r. count_by is_received_stray (w r)) (from_to 0 n)

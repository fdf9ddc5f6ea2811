-- Moments of a system that local steps lead to, strays left aside.
use Rattle.std.specs.Prelude.{ℕ, ◌<◌, ◌≡◌, [], map}
use Rattle.cuts.specs.histories.System.{Histories, System}
use Rattle.cuts.specs.histories.Moment.{IsLocalStep, IsStill, Lanes}
use Rattle.cuts.specs.orders.Taking.{Lists, listed}

-- histories and lanes to which steps lead: at first there was none, and the lanes are empty
pub data IsReached (k : System) : Histories → Lanes → Type 0 where
  Begun : IsReached k (λ r. []) (λ s d lane. [])
  Stepped : {w : Histories} {held : Lanes} {next : Histories} {later : Lanes} → IsReached k w held →
      IsLocalStep k w held next later → IsReached k next later

-- an interleaving of which no step is left, and these are its ranks' local steps
pub record EndsSo (k : System) (lists : Lists) : Type 0 where
  pub world : Histories
  pub held : Lanes
  pub reached : IsReached k world held
  pub still : IsStill k world held
  pub spelled : (r : ℕ) → r < k.count → map listed (world r) ≡ lists r

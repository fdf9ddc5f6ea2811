-- Where no possible step is listed no rank may make one.
use Rattle.std.proofs.Common.{ℕ, ◌≡◌, [], subst}
use Rattle.plan_core.specs.Members.{In}
use Rattle.cuts.specs.histories.Moment.{IsStuck}
use Rattle.cuts.specs.histories.System.{System}
use Rattle.cuts.specs.orders.Chosen.{Scene}
use Rattle.cuts.specs.windows.Named.{named}
use Rattle.cuts.specs.windows.Possible.{possible_steps}
use Rattle.cuts.proofs.windows.Listed.{possible_listed}

pub none_stuck : (k : System) (window : ℕ) (z : Scene) → possible_steps k window z ≡ [] → IsStuck k z.world z.held window
none_stuck k window z none r e h on may = subst (λ xs. In (named r e) xs) none (possible_listed k z window r e h on may)

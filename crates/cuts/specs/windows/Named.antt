-- A local step of a rank by its name among the steps of a world: the message of a receipt is the first of its lane.
use Rattle.std.specs.Prelude.{ℕ}
use Rattle.cuts.specs.histories.History.{Local}
use Rattle.cuts.specs.histories.History.Local.{Start as Started, Receive as Received, Fire as Fired}
use Rattle.cuts.specs.declared.orders.Step.{Step}
use Rattle.cuts.specs.declared.orders.Step.TheVariants.{Start, Deliver, Fire}

abbrev pub named : ℕ → Local → Step
named r Started = Start r
named r (Received s lane m) = Deliver s r lane
named r (Fired t) = Fire r t

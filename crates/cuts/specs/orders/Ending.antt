-- How much of given lists isn't taken.
use Rattle.std.specs.Prelude.{ℕ, zero, suc, ◌+◌, ◌-◌, length}
use Rattle.cuts.specs.histories.System.{Histories}
use Rattle.cuts.specs.orders.Taking.{Lists}

-- how many steps of the lists of the first n ranks aren't taken
abbrev pub untaken : Lists → Histories → ℕ → ℕ
untaken lists w zero = 0
untaken lists w (suc n) = untaken lists w n + (length (lists n) - length (w n))

-- What a listed step leaves open: a receipt names source and lane alone, and a message of another job is anyone's.
use Rattle.std.specs.Prelude.{Option, Some, None, if◌then◌else◌}
use Rattle.ptl_types.specs.Messages.{Sent}
use Rattle.cuts.specs.histories.Cut.{is_stray}
use Rattle.cuts.specs.histories.History.{Local}
use Rattle.cuts.specs.histories.History.Local.{Receive}

-- the stray that a step receives, if it receives one
abbrev pub stray_in : Local → Option Sent
stray_in (Receive s lane m) = if is_stray m then Some m else None
stray_in _ = None

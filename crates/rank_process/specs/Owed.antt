-- What a rank owes at its end, by what it keeps.
use Rattle.std.specs.Prelude.{ℕ, List, ◌++◌}
use Rattle.port_io.specs.Ends.{Outflow}
use Rattle.run_text.specs.Orders.{order_line}
use Rattle.run_text.specs.Putting.{Ends, FailsWithin}
use Rattle.rank_frames.specs.Frames.{mark}
use Rattle.rank_process.specs.lines.Lines.{placed_lines}
use Rattle.rank_process.specs.declared.opening.Opened.{Opened}
use Rattle.rank_process.specs.declared.status.Status.{Status}
use Rattle.rank_process.specs.declared.status.Status.TheVariants.{Ended, WriteFault}

abbrev pub owed : Opened → List ℕ
owed x = mark ++ (placed_lines x.prints x.place.node.nic.memory ++ order_line x.prints.rank x.place.node.diary.steps)

-- the sink took it, or failed
abbrev pub Closes : Status → Outflow → Outflow → List ℕ → Type 0
Closes Ended old new text = Ends old new text
Closes WriteFault old new text = FailsWithin old new text
Closes _ old new text = ⊥

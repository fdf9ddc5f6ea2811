-- The plan is one that tables can be made of.
use Rattle.schedule_compiler.specs.Schedules.{scheduled}
use Rattle.schedule_compiler.proofs.Kept.{can-tabled}
use Rattle.schedule_compiler.proofs.schedule.Schedule.of.Goals as goal

pub of-requires : goal.of-requires
of-requires c = can-tabled (scheduled c.args.plan c.args.held c.args.inputs) c.requires.can

pub from_parts-requires : goal.from_parts-requires
from_parts-requires c = record { can = c.requires.can; buffers_are = c.requires.buffers; tables = c.in_ok-tables.ensures }

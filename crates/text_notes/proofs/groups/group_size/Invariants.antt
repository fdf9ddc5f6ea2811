use Rattle.std.proofs.Common.{length}
use Rattle.text_notes.proofs.groups.group_size.Given as goal

abbrev pub decreases-loop-line : goal.decreases-loop-line
decreases-loop-line l = length l.rest

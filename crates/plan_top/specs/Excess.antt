-- Why a description's plan is too large, as a note says it.
use Rattle.std.specs.Prelude.{ℕ, Option, Some, None}
use Rattle.schedule_compiler.specs.declared.shapes.faults.CompileFault.{CompileFault}
use Rattle.schedule_compiler.specs.declared.shapes.faults.CompileFault.TheVariants.{TooMany, TooLarge, NoMemory}
use Rattle.schedule_compiler.specs.declared.shapes.judging.TheConstants.{MOST_BYTES, MOST_LINKS}
use Rattle.text_notes.specs.declared.notes.cause.Cause.{Cause}
use Rattle.text_notes.specs.declared.notes.cause.Cause.TheVariants as causes
use Rattle.text_notes.specs.declared.notes.cause.Excess.TheVariants as excesses
use Rattle.text_notes.specs.declared.notes.cause.Limit.TheVariants as limits

-- the step from which on it is so, and what a note says of it
abbrev pub excess_of : CompileFault → Option (ℕ × Cause)
excess_of (TooMany k) = Some (k, causes.TooMany (limits.Links MOST_LINKS))
excess_of (TooLarge k) = Some (k, causes.TooLarge (excesses.Cells MOST_BYTES))
excess_of NoMemory = None

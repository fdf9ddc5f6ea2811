-- The law of `Prepared`.
use Rattle.std.proofs.Common.{length}
use Rattle.cuts.proofs.start.Prepared.{prepared}
use Rattle.cuts.proofs.start.preparation.Goals as goal

pub returns : goal.returns
returns c = λ plan inputs slots r senders sound. prepared plan inputs slots r senders (length inputs) sound

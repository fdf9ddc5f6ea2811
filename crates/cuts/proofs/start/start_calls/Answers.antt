-- By computation.
use Rattle.std.proofs.Common.{refl}
use Rattle.cuts.specs.view.Calls.{call_made}
use Rattle.cuts.proofs.start.start_calls.Goals as goal

pub returns : goal.returns
unfolding call_made
returns c = λ plan slots r d state. refl

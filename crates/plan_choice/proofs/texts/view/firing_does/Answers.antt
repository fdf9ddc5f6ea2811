-- By `Firings`.
use Rattle.plan_choice.proofs.texts.view.Firings.{step_fire}
use Rattle.plan_choice.proofs.texts.view.firing_does.Goals as goal

pub returns : goal.returns
returns c = λ k ranks ks r seat t e. let f = step_fire k ranks ks r seat t e in (f.0, f.1.known, f.1.ready, f.1.does)

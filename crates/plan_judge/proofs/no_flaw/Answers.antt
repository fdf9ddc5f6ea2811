-- By `Flawless`.
use Rattle.plan_judge.proofs.Flawless.{none_sound, sound_none}
use Rattle.plan_judge.proofs.no_flaw.Goals as goal

pub returns : goal.returns
returns c = λ p lengths. (λ e. none_sound p lengths e, λ h. sound_none p lengths h)

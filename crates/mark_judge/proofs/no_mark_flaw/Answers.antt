-- By `Right`: links of a sound plan rise.
use Rattle.std.proofs.Common.{ℕ}
use Rattle.plan_core.specs.Plan.{Plan}
use Rattle.plan_core.specs.Sound.{SoundPlan}
use Rattle.mark_judge.proofs.Chains.{Rising}
use Rattle.mark_judge.proofs.Right.{judged_right, right_judged}
use Rattle.mark_judge.proofs.no_mark_flaw.Goals as goal

up : (p : Plan) (n : ℕ) → SoundPlan p n → Rising p
up p n sound l h = (sound.links_sound l h).rising

pub returns : goal.returns
returns c = λ p o done marks sound.
    ((λ e. judged_right p o done marks (up p o.inputs sound) e), (λ a. right_judged p o done marks (up p o.inputs sound) a))

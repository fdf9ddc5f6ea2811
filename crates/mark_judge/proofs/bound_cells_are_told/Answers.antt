-- By `Binding`: links of a sound plan rise.
use Rattle.mark_judge.proofs.Binding.{bound-is, is-bound}
use Rattle.mark_judge.proofs.bound_cells_are_told.Goals as goal

pub returns : goal.returns
returns c = λ p inputs d sound. ((λ e. bound-is p d e), (λ b. is-bound p (λ l h. (sound.links_sound l h).rising) d b))

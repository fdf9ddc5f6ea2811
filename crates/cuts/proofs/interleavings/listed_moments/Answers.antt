use Rattle.cuts.proofs.interleavings.Moments.{same_held, same_histories}
use Rattle.cuts.proofs.interleavings.listed_moments.Goals as goal

pub returns : goal.returns
returns c = record {
  histories = λ ranks one other held later a b same r h. same_histories ranks one other held later a b same r;
  lanes = λ ranks one other held later a b same s d lane. same_held ranks one other held later a b same s d lane;
}

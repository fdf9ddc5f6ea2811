use Rattle.std.proofs.Common.{refl}
use Rattle.rank_frames.proofs.going.write.Goals as goal

pub returns-then-bytes-gt-LONGEST : goal.returns-then-bytes-gt-LONGEST
returns-then-bytes-gt-LONGEST g c = refl

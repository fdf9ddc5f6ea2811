use Rattle.worlds.proofs.Ends.{barriers_in, cut_in, order_in}
use Rattle.worlds.proofs.laws.worlds_stand.Goals as goal

pub returns : goal.returns
returns c = record {
  cut = λ w slots is agree. cut_in w slots is agree;
  order = λ w slots is agree. order_in w slots is agree;
  barriers = λ w slots is agree. barriers_in w slots is agree;
}

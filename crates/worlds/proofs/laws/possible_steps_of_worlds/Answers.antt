use Rattle.std.proofs.Common.{arith}
use Rattle.worlds.specs.World.{ranks_in, scene_in}
use Rattle.worlds.proofs.Steps.{listed_may, once, widest}
use Rattle.worlds.proofs.laws.possible_steps_of_worlds.Goals as goal

pub returns : goal.returns
returns c = record {
  possible = λ w slots step is agree i. listed_may (ranks_in w slots) w.window (scene_in w) step i;
  once = λ w slots is agree. once w slots is agree;
  widest = λ w slots is agree e. widest w slots is agree (omega (arith, e));
}

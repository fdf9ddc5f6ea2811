use Rattle.cuts.proofs.windows.Found.{found_delivery, found_firing, found_start, length-possible}
use Rattle.cuts.proofs.windows.steps_are_found.Goals as goal

pub returns : goal.returns
returns c = record {
  number = λ ranks window scene. length-possible ranks window scene;
  start = λ ranks window scene place rest i other h before within small. found_start ranks window scene place rest i other h before within
      small;
  delivery = λ ranks window scene place rest i other h before within small. found_delivery ranks window scene place rest i other h before
      within small;
  firing = λ ranks window scene place rest i other h before within. found_firing ranks window scene place rest i other h before within;
}

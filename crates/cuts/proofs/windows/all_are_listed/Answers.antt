use Rattle.cuts.proofs.windows.Listed.{enabled_listed, possible_listed}
use Rattle.cuts.proofs.windows.all_are_listed.Goals as goal

pub returns : goal.returns
returns c = record {
  enabled = λ ranks scene r e h on. enabled_listed ranks scene r e h on;
  possible = λ ranks window scene r e h on may. possible_listed ranks scene window r e h on may;
}

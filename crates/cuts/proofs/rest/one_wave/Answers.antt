-- The theorems of `Waves`, by `Probes`.
use Rattle.op_laws.proofs.OpLaws.{op_laws}
use Rattle.op_laws.proofs.Starts.{combined-starts}
use Rattle.op_laws.proofs.Swaps.{combined-swaps}
use Rattle.cuts.proofs.rest.Probes.{whole_wave}
use Rattle.cuts.proofs.rest.Waves.{fronts_cut, fronts_rest, fronts_whole}
use Rattle.cuts.proofs.rest.one_wave.Goals as goal

pub returns-clause-cut : goal.returns-clause-cut
returns-clause-cut c = λ plan inputs slots fronts world sound fit cut clean wave. fronts_cut combined-starts plan inputs sound fit
    (combined-swaps op_laws) slots fronts world cut clean (whole_wave combined-starts plan inputs sound fit slots fronts world cut clean
    wave)

pub returns-clause-rest : goal.returns-clause-rest
returns-clause-rest c = λ plan inputs slots fronts world sound fit cut clean wave. fronts_rest combined-starts plan inputs sound fit
    (combined-swaps op_laws) slots fronts world cut clean (whole_wave combined-starts plan inputs sound fit slots fronts world cut clean
    wave)

pub returns-clause-whole : goal.returns-clause-whole
returns-clause-whole c = λ plan inputs slots fronts world sound fit cut clean wave r h. fronts_whole combined-starts plan inputs sound fit
    (combined-swaps op_laws) slots fronts world cut clean (whole_wave combined-starts plan inputs sound fit slots fronts world cut clean
    wave) r h

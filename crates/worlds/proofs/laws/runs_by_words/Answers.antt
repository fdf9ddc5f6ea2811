use Rattle.std.proofs.Common.{arith}
use Rattle.worlds.proofs.Words.{ends_chosen}
use Rattle.worlds.proofs.laws.runs_by_words.Goals as goal

pub returns : goal.returns
returns g c = λ w slots words chooser answer after n last state is agree wide answers goes run none.
    ends_chosen w.schedule.plan w.inputs is.sound is.fit slots w.window (omega (arith, wide)) answer after chooser words answers goes n
    last state run none

use Rattle.rest_probe.proofs.Causes.{uneven-answered}
use Rattle.rest_probe.proofs.waves.Wave.answer.Goals as goal

pub returns-in-Some-first_uneven : goal.returns-in-Some-first_uneven
returns-in-Some-first_uneven c = let e = (c.in-Some-first_uneven.ensures).some in
    uneven-answered c.args.self.now c.in-Some-first_uneven.answer e.0 e.1 (c.in_default.ensures).none
    (c.in_default-first_ready.ensures).none e.2 e.3

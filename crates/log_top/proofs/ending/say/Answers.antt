use Rattle.log_top.proofs.ending.say.Goals as goal

pub returns : goal.returns
returns g c = record { result = c.write_short.result; ends = c.write_short.ensures }

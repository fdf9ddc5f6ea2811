use Rattle.std.proofs.Common.{arith}
use Rattle.run_text.proofs.values.put_many.Goals as goal

pub write_values-start-requires : goal.write_values-start-requires
write_values-start-requires g c = let at_most = c.requires.2 in (c.requires.0, c.requires.1, omega (arith, at_most))

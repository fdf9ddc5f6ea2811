-- What the interface answered is told by number.
use Rattle.std.proofs.Common.{ap, ◌∙◌, Some, refl}
use Rattle.c_interface.specs.Calls.{Writes}
use Rattle.c_interface.specs.Statuses.{misuse_number}
use Rattle.c_interface.proofs.Opened.{called}
use Rattle.c_interface.proofs.interfaces.SfWrite.Goals as goal

pub returns-in-Some : goal.returns-in-Some
returns-in-Some c = called (Writes c.args.start c.args.from.now) misuse_number (λ x (u : Unit {0}). u) tt tt _ _ _ c.as_mut.result.now _
    c.write_memory-made.result (ap Some c.as_mut.ensures.value ∙ c.in-Some.ensures.value) c.of.ensures c.write_memory-made.ensures
    c.tested.ensures refl

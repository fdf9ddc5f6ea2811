-- A plan leaves no world.
use Rattle.std.proofs.Common.{None, refl}
use Rattle.portals_top.specs.Answered.{LeavesWorld}
use Rattle.portals_top.specs.declared.words.Command.TheVariants.{Plan}
use Rattle.portals_top.proofs.Answering.{no-world}
use Rattle.portals_top.proofs.top.compiled.Goals as goal

pub returns-in-Plan : goal.returns-in-Plan
returns-in-Plan g c = record {
  begun = rw (c.in-Plan.is, c.requires.none) (
    rw (← c.shape.ensures.shape) (c.planned.ensures.written c.args.d.inputs None),
    no-world (LeavesWorld Plan c.args.d.shape c.args.d.inputs) c.planned.result _ refl,
  );
  told = c.planned.ensures.told;
}

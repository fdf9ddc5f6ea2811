use Rattle.schedule_compiler.proofs.shapes.Final.{fine-shape}
use Rattle.schedule_compiler.proofs.Kept.{shape-can, shape-inputs}
use Rattle.schedule_compiler.proofs.compiling.shape_schedules.Goals as goal

pub returns : goal.returns
returns c = record {
  can = λ o formed accepted. shape-can o formed accepted;
  inputs = λ o inputs formed given. shape-inputs o inputs formed given;
  ranks = λ o formed. (fine-shape o formed).ranks;
  buffers = λ o formed. (fine-shape o formed).held_buffers;
}

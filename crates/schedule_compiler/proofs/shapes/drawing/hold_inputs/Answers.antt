-- One rank more in each turn.
use Rattle.std.proofs.Common.{ap, ◌∙◌, sym, refl, ◌+◌}
use Rattle.plan_core.specs.Draw.{HeldCells, hold}
use Rattle.schedule_compiler.proofs.shapes.Upto.{row-next, row-none}
use Rattle.schedule_compiler.proofs.shapes.drawing.hold_inputs.Goals as goal

pub loop-r-init : goal.loop-r-init
loop-r-init c = record { value = sym (row-none c.args.held.now c.args.b c.args.first); ranks = refl; buffers = refl }

pub loop-r-preserved : goal.loop-r-preserved
loop-r-preserved c = record {
  value =
      c.set.ensures
      ∙ ap (λ h. hold h c.args.b c.loop-r.r (c.args.first + c.loop-r.r)) c.loop-r.invariant.value
      ∙ sym (row-next c.args.held.now c.args.b c.args.first c.loop-r.r);
  ranks = ap (λ (h : HeldCells). h.ranks) c.set.ensures ∙ Rattle.schedule_compiler.proofs.shapes.Upto.ranks-one c.loop-r.held c.args.b
      c.loop-r.r
      (c.args.first + c.loop-r.r) ∙ c.loop-r.invariant.ranks;
  buffers = ap (λ (h : HeldCells). h.buffers) c.set.ensures ∙ Rattle.schedule_compiler.proofs.shapes.Upto.buffers-one c.loop-r.held
      c.args.b c.loop-r.r
      (c.args.first + c.loop-r.r) ∙ c.loop-r.invariant.buffers;
}

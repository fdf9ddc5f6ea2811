-- The cell that holds the buffer has its list.
use Rattle.std.proofs.Common.{◌<◌, ◌∙◌, ap, subst, sym}
use Rattle.cuts.specs.cells.Cells.{result_in}
use Rattle.schedule_compiler.specs.Schedules.{ScheduleOf}
use Rattle.schedule_compiler.proofs.shapes.Final.{fine-shape}
use Rattle.worlds.specs.World.{memory_in}
use Rattle.portals_top.proofs.writing.ResultsResultLists.list.Goals as goal

pub result-requires : goal.result-requires
result-requires c =
    let is = c.requires.gives.of_shape in
    let fine = fine-shape c.args.self.now.shape.now is.formed in record {
      buffer = subst (λ (s : ScheduleOf). c.args.buffer < s.held.buffers) (sym is.schedule)
          (subst (λ n. c.args.buffer < n) (sym fine.held_buffers) c.requires.buffer);
      rank = subst (λ (s : ScheduleOf). c.args.rank < s.plan.ranks) (sym is.schedule)
          (subst (λ n. c.args.rank < n) (sym fine.ranks) c.requires.rank);
    }

pub returns : goal.returns
returns c =
    let is = c.requires.gives in
    let w = c.args.self.now.world.now in
    c.result.ensures
    ∙ ap (λ (s : ScheduleOf). result_in s.plan s.held c.args.buffer c.args.rank (memory_in w c.args.rank)) is.of_shape.schedule
    ∙ is.meant c.args.buffer c.args.rank c.requires.buffer c.requires.rank

use Rattle.std.proofs.Common.{◌++◌, drop}
use Rattle.std.specs.List.{flat_map}
use Rattle.run_text.specs.Putting.{Takes}
use Rattle.plan_top.specs.Texts.{mark_line}
use Rattle.plan_top.proofs.writing.put_marks.Given as goal

abbrev pub invariant-loop-mark : goal.invariant-loop-mark
invariant-loop-mark g l =
    let lines = flat_map (mark_line l.buffers) in
    Takes (g.K.Sink.outflow l.fn.sink) (g.K.Sink.outflow l.sink) (l.fn.out ++ lines l.marks) (l.out ++ lines (drop l.mark-index l.marks))

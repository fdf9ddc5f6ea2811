use Rattle.std.proofs.Common.{◌≡◌, ◌≤◌, ◌*◌, ◌++◌, drop}
use Rattle.std.specs.List.{flat_map}
use Rattle.run_text.specs.Lines.{buffer_lines}
use Rattle.run_text.specs.Putting.{Takes}
use Rattle.run_text.proofs.results.put_prints.Given as goal

abbrev pub invariant-loop-buffer : goal.invariant-loop-buffer
invariant-loop-buffer g l =
    let o = g.H.ResultLists.outline l.held in
    let lines = flat_map (buffer_lines o (g.H.ResultLists.lists l.held)) in
    record {
      taken : Takes (g.K.Sink.outflow l.fn.sink) (g.K.Sink.outflow l.sink) (l.fn.out ++ lines o.prints)
          (l.out ++ lines (drop l.buffer-index o.prints));
      place : l.first ≡ l.buffer-index * o.ranks;
      at_most : l.first ≤ l.buffer-index * 256;
    }

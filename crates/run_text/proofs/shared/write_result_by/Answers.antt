use Rattle.std.proofs.Common.{◌++◌}
use Rattle.std.specs.List.{flat_map}
use Rattle.run_text.specs.Lines.{buffer_lines, rest_line}
use Rattle.run_text.specs.Putting.{FailsWithin, Takes}
use Rattle.run_text.proofs.Taking.{EndsWith-stops, EndsWith-then, Fails-more, Fails-then, Takes-more, Takes-then}
use Rattle.run_text.proofs.shared.write_result_by.Goals as goal

pub returns-in_err-put_prints : goal.returns-in_err-put_prints
returns-in_err-put_prints g c =
    let lines = flat_map (buffer_lines (g.H.ResultLists.outline c.args.held.now) (g.H.ResultLists.lists c.args.held.now))
    (g.H.ResultLists.outline c.args.held.now).prints in
    let old = g.K.Sink.outflow c.args.sink.now in
    let new = g.K.Sink.outflow c.put_prints.new.sink in
    let fails : FailsWithin old new lines = rw c.requires.empty at c.in_err-put_prints.ensures in
    record { ends = EndsWith-stops _ _ _ _ c.from_residual.ensures.0 (Fails-more old new lines rest_line fails) }

pub returns-in_err-rest_line : goal.returns-in_err-rest_line
returns-in_err-rest_line g c =
    let lines = flat_map (buffer_lines (g.H.ResultLists.outline c.args.held.now) (g.H.ResultLists.lists c.args.held.now))
    (g.H.ResultLists.outline c.args.held.now).prints in
    let old = g.K.Sink.outflow c.args.sink.now in
    let before = g.K.Sink.outflow c.put_prints.new.sink in
    let new = g.K.Sink.outflow c.rest_line.new.sink in
    let held = c.put_prints.new.out in
    let takes : Takes old before lines held = rw c.requires.empty at c.in_ok-put_prints.ensures in
    record {
      ends = EndsWith-stops _ _ _ _ c.from_residual-in_err-rest_line.ensures.0
          (Fails-then old before new (lines ++ rest_line) (held ++ rest_line) (Takes-more old before lines held rest_line takes)
          c.in_err-rest_line.ensures);
    }

pub returns : goal.returns
returns g c =
    let lines = flat_map (buffer_lines (g.H.ResultLists.outline c.args.held.now) (g.H.ResultLists.lists c.args.held.now))
    (g.H.ResultLists.outline c.args.held.now).prints in
    let old = g.K.Sink.outflow c.args.sink.now in
    let before = g.K.Sink.outflow c.put_prints.new.sink in
    let after = g.K.Sink.outflow c.rest_line.new.sink in
    let held = c.put_prints.new.out in
    let takes : Takes old before lines held = rw c.requires.empty at c.in_ok-put_prints.ensures in
    let all : Takes old after (lines ++ rest_line) c.rest_line.new.out =
    Takes-then old before after (lines ++ rest_line) (held ++ rest_line) c.rest_line.new.out
    (Takes-more old before lines held rest_line takes) c.in_ok-rest_line.ensures in
    record { ends = EndsWith-then _ _ _ _ _ _ all c.end.ensures.ends }

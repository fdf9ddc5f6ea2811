use Rattle.std.proofs.Common.{ap, ◌∙◌}
use Rattle.ptl_types.specs.declared.handles.Handle.{Handle}
use Rattle.ptl_types.specs.declared.calls.TriggeredOp.{TriggeredOp}
use Rattle.log_seats.specs.Answers.{deed_of, posts}
use Rattle.log_seats.proofs.Ends.{posts_err, posts_ok}
use Rattle.log_seats.proofs.starts.triggered.Goals as goal

pub returns-in_ok-post-in-Ok : goal.returns-in_ok-post-in-Ok
returns-in_ok-post-in-Ok c =
    let s = c.args.seat.now in
    let name = c.args.name.now.text in
    rw (c.told.ensures, c.word.ensures, c.in_ok-post-in-Ok.ensures, c.text.ensures)
    (posts_ok name c.deed_of-deed.result c.handle-ct.result c.args.threshold s c.triggered.new.nic c.in-Ok.number c.in-Ok.ensures
    ∙ ap (λ (d : TriggeredOp). posts name d c.handle-ct.result c.args.threshold s) c.deed_of-deed.ensures
    ∙ ap (λ (h : Handle). posts name (deed_of s c.args.said.now) h c.args.threshold s) c.handle-ct.ensures)

pub returns-in_ok-refused-in-Err : goal.returns-in_ok-refused-in-Err
returns-in_ok-refused-in-Err c =
    let s = c.args.seat.now in
    let name = c.args.name.now.text in
    rw c.told-in-Err.ensures
    (posts_err name c.deed_of-deed.result c.handle-ct.result c.args.threshold s c.triggered.new.nic c.in-Err.fault
    c.in_ok-refused-in-Err.field-0 c.in-Err.ensures c.in_ok-refused-in-Err.ensures
    ∙ ap (λ (d : TriggeredOp). posts name d c.handle-ct.result c.args.threshold s) c.deed_of-deed.ensures
    ∙ ap (λ (h : Handle). posts name (deed_of s c.args.said.now) h c.args.threshold s) c.handle-ct.ensures)

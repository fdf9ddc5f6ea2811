use Rattle.rank_node.specs.Handles.{counted_in}
use Rattle.rank_node.proofs.Made.{next-fits, turned}
use Rattle.rank_node.proofs.install.make_calls.Goals as goal

pub make_call-requires-clause-room : goal.make_call-requires-clause-room
make_call-requires-clause-room c = next-fits c.args.calls.now (counted_in c.loop-call.kept) c.loop-call.kept.room c.loop-call.call-index _
    c.loop-call-test.true c.loop-call.invariant.2

pub loop-call-preserved : goal.loop-call-preserved
loop-call-preserved c =
    let t = turned c.args.cells.now c.args.calls.now c.args.nic.now.ranks c.args.nic.now.limits c.args.nic.now c.loop-call.nic
    c.make_call.new.nic c.args.kept.now c.loop-call.kept c.make_call.new.kept c.loop-call.call-index _ c.loop-call-test.true
    c.loop-call.invariant.0 c.loop-call.invariant.1 c.loop-call.invariant.2 c.in_ok-make_call.ensures in
    (t.made, t.may, t.fits)

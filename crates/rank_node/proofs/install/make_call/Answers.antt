use Rattle.std.proofs.lemmas.Result.{on_ok_weaker}
use Rattle.rank_node.proofs.Made.{made-index, made-done, made-cell, made-bound, made-area, made-entry, made-operation}
use Rattle.rank_node.proofs.install.make_call.Goals as goal

pub returns-in-PtAlloc : goal.returns-in-PtAlloc
returns-in-PtAlloc c = rw c.in-PtAlloc.is (on_ok_weaker c.alloc_index.result
    (λ made. made-index c.args.cells.now c.args.nic.now c.alloc_index.new.nic c.args.kept.now made c.requires.all) c.alloc_index.ensures)

pub returns-in-CtDone : goal.returns-in-CtDone
returns-in-CtDone c = rw c.in-CtDone.is (on_ok_weaker c.make_counter.result
    (λ made. made-done c.args.cells.now c.args.nic.now c.make_counter.new.nic c.args.kept.now c.make_counter.new.kept made c.requires.all)
    c.make_counter.ensures)

pub returns-in-CtCell : goal.returns-in-CtCell
returns-in-CtCell c = rw c.in-CtCell.is (on_ok_weaker c.make_counter-in-CtCell.result
    (λ made. made-cell c.args.cells.now _ c.args.nic.now c.make_counter-in-CtCell.new.nic c.args.kept.now
    c.make_counter-in-CtCell.new.kept made c.requires.all) c.make_counter-in-CtCell.ensures)

pub returns-in-MdBind : goal.returns-in-MdBind
returns-in-MdBind c =
    let new = rw c.region_descriptor-md.ensures at c.make_descriptor.ensures in
    rw c.in-MdBind.is (on_ok_weaker c.make_descriptor.result (λ made. made-bound c.args.cells.now c.in-MdBind.length c.in-MdBind.remote
    c.counter.result c.args.nic.now c.make_descriptor.new.nic c.args.kept.now c.make_descriptor.new.kept made c.counter.ensures.value
    c.requires.all) new)

pub returns-in-Overflow : goal.returns-in-Overflow
returns-in-Overflow c =
    let new = rw c.entry_of_area-entry.ensures at c.make_entry.ensures in
    rw c.in-Overflow.is (on_ok_weaker c.make_entry.result (λ made. made-area c.args.cells.now c.in-Overflow.start c.in-Overflow.length
    c.in-Overflow.match_bits c.in-Overflow.ignore_bits c.args.nic.now c.make_entry.new.nic c.args.kept.now c.make_entry.new.kept made
    c.requires.all) new)

pub returns-in-MeAppend : goal.returns-in-MeAppend
returns-in-MeAppend c =
    let new = rw c.entry_of_cell-entry.ensures at c.make_entry-in-MeAppend.ensures in
    rw c.in-MeAppend.is (on_ok_weaker c.make_entry-in-MeAppend.result
    (λ made. made-entry c.args.cells.now c.in-MeAppend.cell c.in-MeAppend.start c.in-MeAppend.length c.in-MeAppend.match_bits
    c.in-MeAppend.ignore_bits c.counter_of-ct.result c.args.nic.now c.make_entry-in-MeAppend.new.nic c.args.kept.now
    c.make_entry-in-MeAppend.new.kept made c.counter_of-ct.ensures c.requires.all) new)

pub returns-in-Trigger : goal.returns-in-Trigger
returns-in-Trigger c =
    rw c.in-Trigger.is (on_ok_weaker c.post.result (λ made. made-operation c.args.cells.now c.in-Trigger.cell c.in-Trigger.threshold
    c.in-Trigger.act c.action_of-action.result c.counter_of-ct-in-Trigger.result c.args.nic.now c.post.new.nic c.args.kept.now made
    c.counter_of-ct-in-Trigger.ensures c.action_of-action.ensures.does c.requires.all) c.post.ensures)

-- The first link of a barrier and the cell to which it comes.
use Rattle.std.proofs.Common.{◌<◌, length, rules}
use Rattle.marked_plans.proofs.Firsts.{found_cell, found_link, found_room, is_barrier, marks_found}
use Rattle.marked_plans.proofs.barriers.mark_step.Goals as goal

pub offset_bounds-links-links : goal.offset_bounds-links-links
offset_bounds-links-links c =
    let o = c.args.shape.now in
    let is = is_barrier o c.args.k c.steps.result.now c.steps.ensures.value c.in-Barrier.is in
    let low : c.args.links < length c.links.result.now =
    found_link o c.recall_form.ensures.shape c.args.k c.requires.step is c.args.plan.now c.links.result.now c.args.links c.requires.plan
    c.links.ensures c.requires.links in
    search rules

pub bounds-links-links : goal.bounds-links-links
bounds-links-links c =
    let o = c.args.shape.now in
    let is = is_barrier o c.args.k c.steps.result.now c.steps.ensures.value c.in-Barrier.is in
    found_link o c.recall_form.ensures.shape c.args.k c.requires.step is c.args.plan.now c.links.result.now c.args.links c.requires.plan
    c.links.ensures c.requires.links

pub mark_members-requires-clause-cells : goal.mark_members-requires-clause-cells
mark_members-requires-clause-cells c =
    let o = c.args.shape.now in
    let a = c.recall_form.ensures.shape in
    let is = is_barrier o c.args.k c.steps.result.now c.steps.ensures.value c.in-Barrier.is in
    found_room o a c.requires.accepted c.args.k c.requires.step is _ c.group.result.now
    (found_cell o a c.args.k c.requires.step is c.args.plan.now c.links.result.now c.args.links _ c.requires.plan c.links.ensures
    c.requires.links) c.group.ensures.value

pub returns-in-Barrier : goal.returns-in-Barrier
returns-in-Barrier c =
    let o = c.args.shape.now in
    let a = c.recall_form.ensures.shape in
    let is = is_barrier o c.args.k c.steps.result.now c.steps.ensures.value c.in-Barrier.is in
    marks_found o c.args.k is _ c.group.result.now
    (found_cell o a c.args.k c.requires.step is c.args.plan.now c.links.result.now c.args.links _ c.requires.plan c.links.ensures
    c.requires.links) c.group.ensures.value c.args.marks.now.items c.mark_members.new.marks.items c.mark_members.result
    c.mark_members.ensures

use Rattle.rank_node.proofs.Started.{next-stamp, appended-linked, never_consumed, appended-refused}
use Rattle.rank_node.proofs.start.append_cell.Goals as goal

pub add_entry-requires-clause-next : goal.add_entry-requires-clause-next
add_entry-requires-clause-next c = next-stamp c.args.entry c.args.nic.now c.me_append.new.self c.args.kept.now c.in-Ok-Linked.handle _
    c.requires.persistent (rw c.in-Ok-Linked.field-0-is at c.in-Ok-Linked.ensures.makes) c.requires.all

pub returns-in-Ok-Linked : goal.returns-in-Ok-Linked
returns-in-Ok-Linked c = rw c.add_entry.ensures (appended-linked c.args.entry c.args.nic.now c.me_append.new.self c.args.kept.now
    c.in-Ok-Linked.handle _ c.requires.persistent (rw c.in-Ok-Linked.field-0-is at c.in-Ok-Linked.ensures.makes) c.requires.all)

pub returns-in-Ok-Consumed : goal.returns-in-Ok-Consumed
returns-in-Ok-Consumed c = absurd (never_consumed c.args.entry c.args.nic.now c.me_append.new.self c.in-Ok-Consumed.field-0-0 _
    c.requires.persistent (rw c.in-Ok-Consumed.field-0-is at c.in-Ok-Consumed.ensures.makes))

pub returns-in-Err : goal.returns-in-Err
returns-in-Err c = appended-refused c.args.entry c.args.nic.now c.me_append.new.self c.args.kept.now c.in-Err.field-0 _
    c.in-Err.ensures.makes c.requires.all

use Rattle.std.proofs.Common.{sym, ◌∙◌}
use Rattle.triggered_ops.specs.Operations.{operation_at}
use Rattle.triggered_ops.proofs.Rising.{without-absent}
use Rattle.portals_ni.proofs.Uses.{used-gone, shown-taken}
use Rattle.portals_ni.proofs.triggers.take_out.Goals as goal

pub returns-in-None-clause-rest : goal.returns-in-None-clause-rest
returns-in-None-clause-rest c = sym (without-absent c.args.number c.args.pending.now c.in-None.ensures.none)

pub unreachable-requires : goal.unreachable-requires
unreachable-requires c =
    shown-taken (operation_at c.args.number c.args.pending.now) c.in-Some.field-0-0.now c.in-Some.ct c.in-Some.field-0-2 c.take.result
    c.in-Some.ensures.found c.take.ensures.value c.in-None-take.is

pub returns-clause-used : goal.returns-clause-used
returns-clause-used c =
    rw (
      c.take.ensures.rest,
      c.remove.ensures.does,
      c.lower.ensures.does,
      c.action_counter.ensures,
      c.remove-3.ensures.does,
      c.remove-2.ensures.does,
      c.get_md.ensures,
      c.put_md.ensures,
      c.unpack-posted.ensures,
    )
    (used-gone c.args.pending.now c.args.number c.in-Some.field-0-0.now c.in-Some-take.packed c.in-Some.ct c.in-Some.field-0-2
    c.args.cts.now c.args.mds.now c.requires c.len-many.ensures.kept.rising c.in-Some.ensures.found (sym c.take.ensures.value
    ∙ c.in-Some-take.is))

use Rattle.std.proofs.Common.{sym, ap, ◌∙◌}
use Rattle.ni_model.specs.Ready.{message_target}
use Rattle.portals_ni.proofs.Readies.{target-found, target-none}
use Rattle.portals_ni.proofs.fires.target_of.Goals as goal

pub returns-in-Some : goal.returns-in-Some
returns-in-Some c = c.message_target.ensures ∙ ap message_target c.action-action.ensures
    ∙ sym (target-found c.args.number c.args.pending.now c.in-Some.packed.now c.in-Some.field-0-1 c.in-Some.field-0-2
    c.in-Some.ensures.found)

pub returns-in-None : goal.returns-in-None
returns-in-None c = sym (target-none c.args.number c.args.pending.now c.in-None.ensures.none)

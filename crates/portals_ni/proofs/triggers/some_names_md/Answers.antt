use Rattle.std.proofs.Common.{◌≡◌, true, sym, ap, ◌∙◌}
use Rattle.ni_model.specs.Refusals.{action_names_md}
use Rattle.portals_ni.proofs.Walks.{uses_md, md-named, walk-found, walk-end}
use Rattle.portals_ni.proofs.triggers.some_names_md.Goals as goal

pub returns-then-action_names_md : goal.returns-then-action_names_md
returns-then-action_names_md c =
    let names : action_names_md c.args.md c.in-Some.packed.now.action ≡ true = ap (action_names_md c.args.md) (sym c.action-action.ensures)
    ∙ sym c.action_names_md.ensures ∙ c.if-action_names_md.true in
    sym (md-named c.args.md c.args.pending.now.waiting ∙ walk-found (uses_md c.args.md) c.in-Some.number c.in-Some.packed.now
    c.in-Some.field-0-2 c.in-Some.field-0-3 c.args.pending.now.waiting c.in-Some.ensures.found names)

pub returns : goal.returns
returns c = sym (md-named c.args.md c.args.pending.now.waiting ∙ walk-end (uses_md c.args.md) c.loop-number.from
    c.args.pending.now.waiting c.loop-number.invariant c.in_default.ensures.none)

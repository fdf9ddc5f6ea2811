use Rattle.std.proofs.Common.{◌≡◌, true, false, sym, ap, ◌∙◌}
use Rattle.portals_ni.proofs.Walks.{uses_ct, ct-named, walk-next, walk-found, walk-end}
use Rattle.portals_ni.proofs.triggers.some_names_ct.Goals as goal

pub returns-then-counts_on : goal.returns-then-counts_on
returns-then-counts_on c =
    let names : uses_ct c.args.ct c.in-Some.packed.now c.in-Some.waits_on ≡ true =
    ap (λ d. uses_ct c.args.ct (record c.in-Some.packed.now { action = d }) c.in-Some.waits_on) (sym c.action-action.ensures)
    ∙ sym c.counts_on.ensures ∙ c.if-counts_on.true in
    sym (ct-named c.args.ct c.args.pending.now.waiting ∙ walk-found (uses_ct c.args.ct) c.in-Some.number c.in-Some.packed.now
    c.in-Some.waits_on c.in-Some.field-0-3 c.args.pending.now.waiting c.in-Some.ensures.found names)

pub returns : goal.returns
returns c = sym (ct-named c.args.ct c.args.pending.now.waiting ∙ walk-end (uses_ct c.args.ct) c.loop-number.from
    c.args.pending.now.waiting c.loop-number.invariant c.in_default.ensures.none)

pub loop-number-preserved : goal.loop-number-preserved
loop-number-preserved c =
    let none : uses_ct c.args.ct c.in-Some.packed.now c.in-Some.waits_on ≡ false =
    ap (λ d. uses_ct c.args.ct (record c.in-Some.packed.now { action = d }) c.in-Some.waits_on) (sym c.action-action.ensures)
    ∙ sym c.counts_on.ensures ∙ c.if-counts_on.false in
    walk-next (uses_ct c.args.ct) c.loop-number.from c.in-Some.number c.in-Some.packed.now c.in-Some.waits_on c.in-Some.field-0-3
    c.args.pending.now.waiting c.loop-number.invariant c.in-Some.ensures.alone none

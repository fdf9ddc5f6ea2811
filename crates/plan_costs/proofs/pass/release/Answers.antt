-- One link more in each turn.
use Rattle.std.proofs.Common.{ℕ, ◌+◌, List, [], length, take, get_or, arith, ◌∙◌, ap, subst}
use Rattle.plan_core.proofs.Drawing.{take-past}
use Rattle.plan_tables.proofs.Passes.{get-row, length-table}
use Rattle.plan_costs.specs.declared.events.Event.{Event}
use Rattle.plan_costs.specs.Events.{Pushed}
use Rattle.plan_costs.specs.State.{Opened, links_from}
use Rattle.plan_costs.proofs.Opening.{known_at, next_taken, one_opened}
use Rattle.plan_costs.proofs.pass.release.Goals as goal

pub at-links-requires : goal.at-links-requires
at-links-requires c =
    let e = length-table (links_from c.args.plan.now) (length c.args.plan.now.cells) c.args.table.now c.requires.table in
    let h = c.requires.cell in
    omega (arith, e, h)

pub opening-requires-clause-link : goal.opening-requires-clause-link
opening-requires-clause-link c =
    let p = c.args.plan.now in
    let e = c.at-links.ensures ∙ ap (λ v. get_or v c.args.c []) c.requires.table
    ∙ get-row (links_from p) (length p.cells) c.args.c [] c.requires.cell in
    known_at p c.args.c c.at-links.result.now c.loop-l.l-index 0 e c.loop-l-test.true

pub loop-l-preserved : goal.loop-l-preserved
loop-l-preserved c =
    let p = c.args.plan.now in
    let ls = c.at-links.result.now in
    let l = get_or ls c.loop-l.l-index 0 in
    let P : Event → Type 0 = λ v. Pushed c.loop-l.queue v c.push.new.self in
    one_opened p (take c.loop-l.l-index ls) (take (c.loop-l.l-index + 1) ls) l c.args.time c.args.queue.now c.loop-l.queue c.push.new.self
    c.loop-l.invariant (subst P c.opening.ensures c.in_ok-push.ensures) (next_taken ls c.loop-l.l-index c.loop-l-test.true)

pub returns : goal.returns
returns c =
    let p = c.args.plan.now in
    let ls = c.at-links.result.now in
    let e = c.at-links.ensures ∙ ap (λ v. get_or v c.args.c []) c.requires.table
    ∙ get-row (links_from p) (length p.cells) c.args.c [] c.requires.cell in
    let t = c.loop-l-test.false in
    let P : List ℕ → Type 0 = λ v. Opened p v c.args.time c.args.queue.now c.loop-l.queue in
    subst P (take-past ls c.loop-l.l-index t ∙ e) c.loop-l.invariant

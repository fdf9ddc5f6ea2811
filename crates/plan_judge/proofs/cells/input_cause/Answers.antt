-- Whether it is guarded stands in the table.
use Rattle.std.proofs.Common.{true, false, ◌-◌, length, get_or, ap, ◌∙◌, sym, arith}
use Rattle.std.proofs.lemmas.Bool.{eqb-true}
use Rattle.plan_judge.specs.Causes.{is_input_cell}
use Rattle.plan_judge.proofs.CellRows.{input_clear, input_open}
use Rattle.plan_judge.proofs.Guarding.{guarded_at, length-guarded}
use Rattle.plan_judge.proofs.cells.input_cause.Goals as goal

pub bounds-guards-c : goal.bounds-guards-c
bounds-guards-c c =
    let p = c.args.plan.now in
    let e = length-guarded p (length p.cells) in
    let g = ap length c.requires.guards in
    let h = c.requires.cell in
    omega (arith, e, g, h)

pub returns-then-guards-c : goal.returns-then-guards-c
returns-then-guards-c c =
    let p = c.args.plan.now in
    sym (input_clear p c.args.lengths.now c.args.c (record {
      needs = eqb-true _ _ (sym c.if-not-needs_its_links.ensures);
      input = ap (λ v. is_input_cell p c.args.lengths.now (c.args.c - v)) (sym c.ranks.ensures) ∙ sym c.if-not-is_input_cell.ensures;
      guarded = sym (guarded_at p (length p.cells) c.args.c c.requires.cell) ∙ ap (λ v. get_or v c.args.c false) (sym c.requires.guards)
          ∙ c.if-guards-c.true;
    }))

pub returns-else-guards-c : goal.returns-else-guards-c
returns-else-guards-c c =
    let p = c.args.plan.now in
    sym (input_open p c.args.lengths.now c.args.c (sym c.if-not-needs_its_links.ensures)
    (ap (λ v. is_input_cell p c.args.lengths.now (c.args.c - v)) (sym c.ranks.ensures) ∙ sym c.if-not-is_input_cell.ensures)
    (sym (guarded_at p (length p.cells) c.args.c c.requires.cell) ∙ ap (λ v. get_or v c.args.c false) (sym c.requires.guards)
    ∙ c.if-guards-c.false))

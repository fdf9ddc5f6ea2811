use Rattle.plan_words.proofs.costing.put_begin.Goals as goal

pub returns : goal.returns
returns g c = rw (c.from.ensures, c.from-2.ensures, c.cell.ensures, c.cell_at.ensures) at c.put_line.ensures

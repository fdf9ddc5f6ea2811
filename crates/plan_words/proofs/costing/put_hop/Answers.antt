use Rattle.plan_words.proofs.costing.put_hop.Goals as goal

pub returns : goal.returns
returns g c =
    rw (
      c.from.ensures,
      c.from-2.ensures,
      c.from-3.ensures,
      c.cell_at.ensures,
      c.cell.ensures,
      c.link_costs-spent.ensures,
      c.link_at-link.ensures,
    ) at c.put_line.ensures

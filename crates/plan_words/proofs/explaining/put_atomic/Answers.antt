use Rattle.plan_words.proofs.explaining.put_atomic.Goals as goal

pub returns : goal.returns
returns g c =
    rw (
      c.from.ensures,
      c.cell_of.ensures,
      c.op_word.ensures,
      c.type_word.ensures,
      c.from-2.ensures,
      c.from-3.ensures,
      c.cell_of-target.ensures,
      c.for_link.ensures,
      c.remote.ensures,
      c.from-4.ensures,
      c.link_line.ensures,
      c.link_of-link.ensures,
    )
    at c.put_op.ensures

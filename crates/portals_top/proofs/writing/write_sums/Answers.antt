use Rattle.portals_top.proofs.writing.write_sums.Goals as goal

pub returns : goal.returns
returns g c =
    rw (
      c.cells.ensures,
      c.links.ensures,
      c.plan-plan.ensures.value,
      c.schedule.ensures,
      c.requires.resting.of_shape.schedule,
      c.requires.shape,
      c.requires.inputs,
    ) at c.write_summary.ensures.ends

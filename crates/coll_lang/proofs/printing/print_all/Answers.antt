use Rattle.coll_lang.proofs.Spacing.{written}
use Rattle.coll_lang.proofs.printing.print_all.Goals as goal

pub returns : goal.returns
returns c =
    rw (
      c.in_ok-push_line.ensures.added,
      c.in_ok-print_chosen.ensures,
      c.in_ok-print_prints.ensures,
      c.in_ok-print_steps.ensures,
      c.in_ok-print_before_steps.ensures,
    )
    (rw (
      c.choices.ensures.value,
      c.prints.ensures.value,
      c.on.ensures.value,
      c.steps.ensures.value,
      c.groups.ensures.value,
      c.buffers-buffers.ensures.value,
      c.shape-shape.ensures.shape,
    )
    (written c.args.out.now.items c.args.d.now))

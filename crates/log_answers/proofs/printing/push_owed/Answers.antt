use Rattle.log_answers.proofs.Printed.{owed_written}
use Rattle.log_answers.proofs.printing.push_owed.Goals as goal

pub returns : goal.returns
returns g c =
    rw (
      c.in_ok-push_fields.ensures,
      c.in_ok-push_word-2.ensures,
      c.in_ok-push_word.ensures,
      c.item-second.ensures,
      c.item-first.ensures,
    )
    (owed_written (g.K.Knows.known c.args.around.now) c.args.owed.now c.args.out.now.items c.keys_owed.result.now c.keys_owed.ensures)

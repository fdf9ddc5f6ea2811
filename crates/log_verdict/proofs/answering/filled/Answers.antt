use Rattle.std.proofs.Common.{ℕ, List, Option, ap, ◌∙◌}
use Rattle.log_seats.specs.Answers.{left}
use Rattle.log_seats.specs.declared.seats.Seat.{Seat}
use Rattle.log_verdict.specs.Answering.{chosen_name, filled_as}
use Rattle.log_verdict.proofs.answering.filled.Goals as goal

pub returns : goal.returns
returns c =
    c.in_ok-step.ensures
    ∙ ap (λ (name : Option (List ℕ)). filled_as name (left c.args.seat c.args.after) c.args.scene.now)
    (c.bytes_of.ensures ∙ c.in_ok-name.ensures
    ∙ ap (λ (s : Seat). chosen_name c.args.scene.now.flights s c.args.after.owed) c.seat-2.ensures)

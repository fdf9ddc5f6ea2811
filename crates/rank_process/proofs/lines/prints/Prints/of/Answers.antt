use Rattle.std.proofs.Common.{List, Option, ap, length, ◌∙◌}
use Rattle.schedule_compiler.specs.declared.schedule.Place.{Place}
use Rattle.rank_process.proofs.lines.Lists.{as-many}
use Rattle.rank_process.proofs.lines.prints.Prints.of.Goals as goal

pub invariant_of-result : goal.invariant_of-result
invariant_of-result c =
    ap (λ (l : List (Option Place)). length l) c.in_ok-places.ensures
    ∙ as-many c.args.schedule.now c.args.rank
    ∙ c.requires.buffers

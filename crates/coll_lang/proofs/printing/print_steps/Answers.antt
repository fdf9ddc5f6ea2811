use Rattle.std.proofs.Common.{ℕ, List, ◌++◌, drop, sym, ap, ◌∙◌}
use Rattle.std.proofs.lemmas.List.{append-nil}
use Rattle.coll_lang.proofs.Spacing.{no_more_groups}
use Rattle.coll_lang.proofs.printing.print_steps.Goals as goal

pub returns-in_default : goal.returns-in_default
returns-in_default c =
    sym (append-nil c.loop-step.out.items)
    ∙ (ap (λ (x : List ℕ). c.loop-step.out.items ++ x)
    (sym (no_more_groups c.args.groups.now c.args.buffers.now (drop c.loop-step.step-index c.args.steps.now) c.loop-step.rest.now
    c.in_default.ensures.cases))
    ∙ c.loop-step.invariant)

use Rattle.std.proofs.Common.{ℕ, ◌*◌, ◌∙◌, ap₂, sym}
use Rattle.marked_plans.proofs.Firsts.{links_of_inputs}
use Rattle.marked_plans.proofs.barriers.links_of_inputs.Goals as goal

pub returns-clause-value : goal.returns-clause-value
returns-clause-value c =
    ap₂ (λ (a b : ℕ). a * b) (c.from.ensures ∙ c.input_count.ensures.value) (c.from-2.ensures ∙ c.ranks.ensures.value)
    ∙ sym (links_of_inputs c.args.shape.now)

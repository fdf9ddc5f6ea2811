-- By what is known of times.
use Rattle.std.proofs.Common.{List, ℕ, length, ◌≡◌, ap, ap₂, ◌∙◌, subst}
use Rattle.plan_costs.specs.Path.{IsCritical, PathOf}
use Rattle.plan_costs.specs.Ranks.{AreRankTimes}
use Rattle.plan_costs.specs.Times.{TimesOf}
use Rattle.plan_costs.proofs.Once.{path_once, ranks_once, times_once}
use Rattle.plan_words.specs.Costs.{costs_of}
use Rattle.plan_words.proofs.costing.costs_are_one.Goals as goal

pub returns : goal.returns
returns c = λ n p a b some x y.
    let times : b.times ≡ a.times = times_once n p a.times b.times x.costed.timed some x.costed.times y.costed.times in
    let ranks : b.ranks ≡ a.ranks = ranks_once p a.times (length p.cells) a.ranks b.ranks x.ranks
    (subst (λ (t : TimesOf). AreRankTimes p t (length p.cells) b.ranks) times y.ranks) in
    let path : b.path ≡ a.path = path_once n p a.times a.path b.path x.path
    (subst (λ (t : TimesOf). IsCritical n p t b.path) times y.path) in
    ap₂ (λ (t : TimesOf) (rs : List ℕ). costs_of t rs b.path) times ranks
    ∙ ap (λ (v : PathOf). costs_of a.times a.ranks v) path

-- Each link of the list is one of the plan, and comes from a cell before this one.
use Rattle.std.proofs.Common.{ℕ, ◌<◌, ◌||◌, length, ap, ◌∙◌, sym, arith}
use Rattle.std.specs.Prelude.{nat_lt}
use Rattle.std.specs.List.{list_any}
use Rattle.std.proofs.lemmas.Bool.{le-ltb, lt-ltb, or_left}
use Rattle.mark_judge.specs.Tables.{does_bind}
use Rattle.mark_judge.proofs.Binding.{next_is}
use Rattle.mark_judge.proofs.Chains.{Rising}
use Rattle.plan_core.specs.Plan.{Plan}
use Rattle.plan_core.specs.Sound.{SoundLink}
use Rattle.plan_judge.proofs.KnownLinks.{all_known}
use Rattle.mark_judge.proofs.bound.next_bound.Goals as goal

up : (p : Plan) → ((l : ℕ) → l < length p.links → SoundLink p l) → Rising p
up p links l h = (links l h).rising

pub one_binds-requires : goal.one_binds-requires
one_binds-requires c = all_known c.args.plan.now c.args.c c.args.links.now c.requires.links

pub returns-then-c-ranks : goal.returns-then-c-ranks
returns-then-c-ranks c =
    let p = c.args.plan.now in
    let before = c.args.before.now in
    let links = c.args.links.now in
    let ranks = c.ranks.ensures in
    let low = c.if-c-ranks.true in
    lt-ltb c.args.c c.ranks.result low
    ∙ sym (or_left (nat_lt c.args.c p.ranks) (list_any (does_bind p before) links) (lt-ltb c.args.c p.ranks (omega (arith, ranks, low))))
    ∙ next_is p (up p c.requires.rising) c.args.c before links c.requires.links c.requires.before

pub returns-else-c-ranks : goal.returns-else-c-ranks
returns-else-c-ranks c =
    let p = c.args.plan.now in
    let before = c.args.before.now in
    let links = c.args.links.now in
    let ranks = c.ranks.ensures in
    let high = c.if-c-ranks.false in
    c.one_binds.ensures
    ∙ ap (λ t. t || list_any (does_bind p before) links) (sym (le-ltb c.args.c p.ranks (omega (arith, ranks, high))))
    ∙ next_is p (up p c.requires.rising) c.args.c before links c.requires.links c.requires.before

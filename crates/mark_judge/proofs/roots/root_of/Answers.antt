-- The only link that comes to a cell comes from one before it.
use Rattle.std.proofs.Common.{ℕ, List, ◌≡◌, ◌<◌, length, get_or, refl, ap, subst, arith}
use Rattle.mark_judge.proofs.Chains.{Rising, from_below}
use Rattle.mark_judge.proofs.Rooted.{root_before}
use Rattle.mark_judge.proofs.Tests.{In-get_or}
use Rattle.plan_core.specs.declared.Link.{Link}
use Rattle.plan_core.specs.Members.{In}
use Rattle.plan_core.specs.Plan.{Plan, in_links}
use Rattle.plan_core.specs.Sound.{SoundLink}
use Rattle.plan_core.proofs.Links.{in_links-In}
use Rattle.mark_judge.proofs.roots.root_of.Goals as goal

up : (p : Plan) → ((l : ℕ) → l < length p.links → SoundLink p l) → Rising p
up p links l h = (links l h).rising

first : (p : Plan) (n : ℕ) (links : List ℕ) → links ≡ in_links p n → length links ≡ 1 → In (get_or links 0 0) (in_links p n)
first p n links are one = subst (λ xs. In (get_or links 0 0) xs) are (In-get_or links 0 0 (omega (arith, one)))

pub link_at-requires : goal.link_at-requires
link_at-requires c =
    let links = c.args.links.now in
    (in_links-In c.args.plan.now c.args.c (get_or links 0 0) (first c.args.plan.now c.args.c links c.requires.links c.if-links-ne1.false)).0

pub bounds-roots-link_at : goal.bounds-roots-link_at
bounds-roots-link_at c =
    let p = c.args.plan.now in
    let links = c.args.links.now in
    let at = first p c.args.c links c.requires.links c.if-links-ne1.false in
    let below = from_below p (up p c.requires.rising) c.args.c (get_or links 0 0) at in
    let source = ap (λ (l : Link). l.source) c.link_at.ensures in
    let many = c.requires.place in
    omega (arith, below, source, many)

pub returns-clause-roots : goal.returns-clause-roots
returns-clause-roots c =
    let p = c.args.plan.now in
    let roots = c.args.roots.now in
    let source = c.link_at.result.source in
    root_before p (up p c.requires.rising) c.args.c roots c.args.links.now source (get_or roots source 0) c.requires.place
    c.requires.before c.requires.links c.if-links-ne1.false (ap (λ (l : Link). l.source) c.link_at.ensures) refl

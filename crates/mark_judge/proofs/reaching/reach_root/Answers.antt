-- Its links come from cells before it, and so do their roots.
use Rattle.std.proofs.Common.{ℕ, ◌<◌, length, subst, sym}
use Rattle.std.specs.List.{All}
use Rattle.mark_judge.proofs.Chains.{Rising}
use Rattle.mark_judge.proofs.Rooted.{sources_low}
use Rattle.plan_core.specs.Plan.{Plan}
use Rattle.plan_core.specs.Sound.{SoundLink}
use Rattle.plan_judge.proofs.KnownLinks.{all_known}
use Rattle.mark_judge.proofs.reaching.reach_root.Goals as goal

up : (p : Plan) → ((l : ℕ) → l < length p.links → SoundLink p l) → Rising p
up p links l h = (links l h).rising

pub reach_cell-requires-clause-known : goal.reach_cell-requires-clause-known
reach_cell-requires-clause-known c =
    let links = c.links_to.result.now in
    subst (λ n. All (λ l. l < n) links) (sym c.requires.known) (all_known c.args.plan.now c.args.c links c.links_to.ensures)

pub reach_cell-requires-clause-sources : goal.reach_cell-requires-clause-sources
reach_cell-requires-clause-sources c =
    let p = c.args.plan.now in
    sources_low p (up p c.requires.links) c.args.roots.now c.requires.roots c.args.sources.now c.requires.sources c.args.c c.requires.cell
    c.links_to.result.now c.links_to.ensures (length c.args.words.now.items) (sym c.requires.words)

-- One root more in each turn.
use Rattle.std.proofs.Common.{ℕ, ◌<◌, length, refl, ◌∙◌, arith}
use Rattle.mark_judge.proofs.Chains.{Rising}
use Rattle.mark_judge.proofs.Rooted.{reached_all, reached_more, reached_none}
use Rattle.plan_core.specs.Plan.{Plan}
use Rattle.plan_core.specs.Sound.{SoundLink}
use Rattle.mark_judge.proofs.reaching.reach.Goals as goal

up : (p : Plan) → ((l : ℕ) → l < length p.links → SoundLink p l) → Rising p
up p links l h = (links l h).rising

pub loop-c-init : goal.loop-c-init
loop-c-init c = record {
  many = refl;
  reached = reached_none c.args.plan.now (up c.args.plan.now c.requires.links) c.args.entries.now c.args.roots.now c.requires.roots
      c.requires.kept c.args.words.now.items c.requires.begun;
}

pub loop-c-preserved : goal.loop-c-preserved
loop-c-preserved c =
    let n = c.cell_count-c-end.ensures in
    let t = c.loop-c-test.true in
    record {
      many = c.reach_root.ensures.many ∙ c.loop-c.invariant.many;
      reached = reached_more c.args.plan.now (up c.args.plan.now c.requires.links) c.args.entries.now c.args.roots.now c.requires.roots
          c.requires.kept c.args.sources.now c.requires.sources c.loop-c.c (omega (arith, n, t)) c.loop-c.words.items
          c.reach_root.new.words.items c.loop-c.invariant.reached c.reach_root.ensures.others c.reach_root.ensures.here;
    }

pub returns-clause-reached : goal.returns-clause-reached
returns-clause-reached c =
    let n = c.cell_count-c-end.ensures in
    let t = c.loop-c-test.false in
    reached_all c.args.plan.now (up c.args.plan.now c.requires.links) c.args.entries.now c.args.roots.now c.requires.roots
    c.requires.kept c.loop-c.c c.loop-c.words.items (omega (arith, n, t)) c.loop-c.invariant.reached

-- The cell that is named for the buffer has its list.
use Rattle.std.proofs.Common.{◌<◌, ◌∙◌, subst, sym}
use Rattle.worlds.specs.World.{memory_in}
use Rattle.verdict_laws.proofs.jobs.Holding.{list-held}
use Rattle.given_top.proofs.runs.results.GivenResultsResultLists.list.Goals as goal

pub returns : goal.returns
returns c =
    let holds = c.requires.gives in
    let w = c.args.self.now.world.now in
    let b = subst (λ n. c.args.buffer < n) (sym holds.fits.buffers) c.requires.buffer in
    let r = subst (λ n. c.args.rank < n) (sym holds.fits.ranks) c.requires.rank in
    c.result.ensures
    ∙ list-held w.schedule.plan w.schedule.held w.inputs c.args.buffer c.args.rank (memory_in w c.args.rank) holds.fits.held b r
    (holds.values c.args.rank r)

-- The seat's interface is that of the end of its history.
use Rattle.std.proofs.Common.{◌<◌, ◌∙◌, ap, arith, length, subst, sym}
use Rattle.std.proofs.lemmas.List.{get_or_read}
use Rattle.cuts.specs.histories.System.{state_at}
use Rattle.plan_choice.specs.ranks.Seats.{ChoiceRankState}
use Rattle.plan_choice.specs.Acts.{no_seated}
use Rattle.plan_choice.specs.World.{ChoiceState, histories_in, ranks_in}
use Rattle.plan_choice.proofs.world.ChoiceWorld.nic.Goals as goal

pub returns-clause-state : goal.returns-clause-state
returns-clause-state c =
    let s = c.self.inside in
    let is = c.self.invariant.standing in
    let h = subst (λ (w : ChoiceState). c.args.r < w.ranks) (sym c.self.view_is) c.requires in
    let size = is.size in
    let inside : c.args.r < length s.seats.items = omega (arith, h, size) in
    c.nic.ensures
    ∙ ap (λ (x : ChoiceRankState). x.nic) (get_or_read s.seats.items c.args.r c.index.result.now inside c.index.ensures no_seated)
    ∙ is.nic c.args.r h
    ∙ ap (λ (w : ChoiceState). state_at (ranks_in w) (histories_in w) c.args.r) c.self.view_is

use Rattle.std.proofs.Common.{subst, sym, ap, ◌∙◌, ◌<◌, length}
use Rattle.atomic_table.proofs.Lists.{at_index}
use Rattle.rank_slots.specs.declared.turn_rank.TurnRank.{TurnRank}
use Rattle.rank_slots.specs.Slots.{InOk}
use Rattle.rank_slots.specs.Moves.{GainsIn}
use Rattle.rank_slots.proofs.Pairs.{same_at}
use Rattle.rank_slots.proofs.Slotwise.{gains_no_in, gains_in, slotwise_set}
use Rattle.rank_slots.proofs.moves.pull_in.Goals as goal

pub take_in-requires : goal.take_in-requires
take_in-requires c = let x = c.index-slots-rank.result in
    subst (λ (z : TurnRank). 0 < length z.ins.items) c.index-slots-rank.is
    (c.requires.nonempty x (at_index _ _ x c.requires.rank c.index-slots-rank.is))

pub returns-clause-port : goal.returns-clause-port
returns-clause-port c = let x = c.index-slots-rank.result in λ y at.
    subst (λ (z : TurnRank). InOk z.job.schedule.plan z.node.value c.take_in.result)
    (sym c.index-slots-rank.is ∙ same_at c.args.slots.now c.args.rank x y (at_index _ _ x c.requires.rank c.index-slots-rank.is) at)
    c.take_in.ensures.port

pub returns-clause-pulled : goal.returns-clause-pulled
returns-clause-pulled c = let x = c.index-slots-rank.result in let e = c.take_in.ensures in let is = sym c.index-slots-rank.is in
    slotwise_set (λ r y z. GainsIn c.args.rank c.take_in.result r z y) c.args.slots.now c.args.rank x c.take_in.new.self
    (at_index _ _ x c.requires.rank c.index-slots-rank.is)
    (gains_in c.args.rank c.take_in.result c.take_in.new.self x
    (record { job_is = sym (e.job ∙ ap (λ (z : TurnRank). z.job) is); node = sym (e.node ∙ ap (λ (z : TurnRank). z.node.value) is) })
    (sym (e.outs ∙ ap (λ (z : TurnRank). z.outs) is)) (ap (λ (z : TurnRank). z.ins.items) (sym is) ∙ e.ins))
    (λ r y n. gains_no_in c.args.rank c.take_in.result r y n)

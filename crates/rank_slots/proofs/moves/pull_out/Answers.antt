use Rattle.std.proofs.Common.{subst, sym, ap, ◌∙◌, ◌<◌, length}
use Rattle.atomic_table.proofs.Lists.{at_index}
use Rattle.rank_slots.specs.declared.turn_rank.TurnRank.{TurnRank}
use Rattle.rank_slots.specs.Slots.{OutOk}
use Rattle.rank_slots.specs.Moves.{GainsOut}
use Rattle.rank_slots.proofs.Pairs.{same_at}
use Rattle.rank_slots.proofs.Slotwise.{gains_no_out, gains_out, slotwise_set}
use Rattle.rank_slots.proofs.moves.pull_out.Goals as goal

pub take_out-requires : goal.take_out-requires
take_out-requires c = let x = c.index-slots-rank.result in
    subst (λ (z : TurnRank). 0 < length z.outs.items) c.index-slots-rank.is
    (c.requires.nonempty x (at_index _ _ x c.requires.rank c.index-slots-rank.is))

pub returns-clause-port : goal.returns-clause-port
returns-clause-port c = let x = c.index-slots-rank.result in λ y at.
    subst (λ (z : TurnRank). OutOk z.job.schedule.plan z.job.inputs z.node.value c.take_out.result)
    (sym c.index-slots-rank.is ∙ same_at c.args.slots.now c.args.rank x y (at_index _ _ x c.requires.rank c.index-slots-rank.is) at)
    c.take_out.ensures.port

pub returns-clause-pulled : goal.returns-clause-pulled
returns-clause-pulled c = let x = c.index-slots-rank.result in let e = c.take_out.ensures in let is = sym c.index-slots-rank.is in
    slotwise_set (λ r y z. GainsOut c.args.rank c.take_out.result r z y) c.args.slots.now c.args.rank x c.take_out.new.self
    (at_index _ _ x c.requires.rank c.index-slots-rank.is)
    (gains_out c.args.rank c.take_out.result c.take_out.new.self x
    (record { job_is = sym (e.job ∙ ap (λ (z : TurnRank). z.job) is); node = sym (e.node ∙ ap (λ (z : TurnRank). z.node.value) is) })
    (sym (e.ins ∙ ap (λ (z : TurnRank). z.ins) is)) (ap (λ (z : TurnRank). z.outs.items) (sym is) ∙ e.outs))
    (λ r y n. gains_no_out c.args.rank c.take_out.result r y n)

use Rattle.std.proofs.Common.{subst, sym, ap, ◌∙◌, ◌++◌, ◌∷◌, []}
use Rattle.atomic_table.proofs.Lists.{at_index}
use Rattle.rank_slots.specs.declared.turn_rank.TurnRank.{TurnRank}
use Rattle.rank_slots.specs.Moves.{GainsIn, MayGainIn, SameNode}
use Rattle.rank_slots.proofs.Slotwise.{gains_no_in, gains_in, on_ok, same-node, slotwise_set}
use Rattle.rank_slots.proofs.moves.put_in.Goals as goal

pub add_in-requires : goal.add_in-requires
add_in-requires c = let x = c.index-slots-rank.result in
    subst (λ (z : TurnRank). MayGainIn z c.args.port) c.index-slots-rank.is
    (c.requires.port x (at_index _ _ x c.requires.rank c.index-slots-rank.is))

pub returns-clause-nodes : goal.returns-clause-nodes
returns-clause-nodes c = let x = c.index-slots-rank.result in let e = c.add_in.ensures in let is = sym c.index-slots-rank.is in
    slotwise_set SameNode c.args.slots.now c.args.rank x c.add_in.new.self (at_index _ _ x c.requires.rank c.index-slots-rank.is)
    (record { job_is = e.job ∙ ap (λ (z : TurnRank). z.job) is; node = e.node ∙ ap (λ (z : TurnRank). z.node.value) is })
    (λ r y n. same-node r y)

pub returns-clause-put : goal.returns-clause-put
returns-clause-put c = let x = c.index-slots-rank.result in let e = c.add_in.ensures in let is = sym c.index-slots-rank.is in
    on_ok c.add_in.result (λ _ o. slotwise_set (GainsIn c.args.rank c.args.port) c.args.slots.now c.args.rank x c.add_in.new.self
    (at_index _ _ x c.requires.rank c.index-slots-rank.is)
    (gains_in c.args.rank c.args.port x c.add_in.new.self (record {
      job_is = e.job ∙ ap (λ (z : TurnRank). z.job) is;
      node = e.node
          ∙ ap (λ (z : TurnRank). z.node.value) is;
    })
    (e.outs ∙ ap (λ (z : TurnRank). z.outs) is) (o ∙ ap (λ (z : TurnRank). z.ins.items ++ c.args.port ∷ []) is))
    (λ r y n. gains_no_in c.args.rank c.args.port r y n)) e.ins

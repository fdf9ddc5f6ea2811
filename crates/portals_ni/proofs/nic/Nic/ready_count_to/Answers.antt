use Rattle.std.proofs.Common.{ℕ, List, filter, length, ap, sym, ◌∙◌}
use Rattle.ni_model.specs.Ready.{is_rank, posted_at, target_of}
use Rattle.triggered_ops.specs.Operations.{posted_all}
use Rattle.portals_ni.specs.Pendings.{action_in}
use Rattle.portals_ni.proofs.Readies.{due-are}
use Rattle.portals_ni.proofs.nic.Nic.ready_count_to.Goals as goal

pub returns : goal.returns
returns c =
    let n = c.self.inside in
    let kept = rw c.waiting.ensures.value at c.count_to.ensures.kept in
    let counted = rw c.waiting.ensures.value at c.count_to.ensures.value in
    record {
      value = rw (← c.self.view_is) (counted ∙ sym (ap
          (λ (xs : List ℕ). length (filter (λ t. is_rank c.args.target (target_of (posted_at t (posted_all action_in n.pending)))) xs))
          (due-are n.cts n.pending kept.rising c.self.invariant.sound.told)));
    }

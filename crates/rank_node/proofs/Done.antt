-- What the done counter of a node tells, by the laws of plans' ranks.
use Rattle.std.proofs.Common.{ℕ, ◌≡◌, ◌∙◌, Some, ap, subst, sym}
use Rattle.op_laws.proofs.OpLaws.{op_laws}
use Rattle.op_laws.proofs.Starts.{combined-starts}
use Rattle.op_laws.proofs.Swaps.{combined-swaps}
use Rattle.ptl_types.specs.Elements.{part}
use Rattle.ptl_types.specs.declared.handles.Count.{Count}
use Rattle.ni_model.specs.State.{State}
use Rattle.ni_model.specs.Tables.{lookup}
use Rattle.plan_core.specs.Plan.{Plan, cell}
use Rattle.plan_core.specs.Values.{Inputs}
use Rattle.plan_core.specs.calls.Calls.{cell_start}
use Rattle.plan_core.specs.calls.RankOps.{done_threshold}
use Rattle.cuts.specs.histories.Plans.{system_of}
use Rattle.cuts.specs.histories.System.{Histories, state_at}
use Rattle.cuts.specs.view.Slots.{Slots, done_ct}
use Rattle.cuts.proofs.done.Counted.{holds_values}
use Rattle.cuts.proofs.done.Left.{none_pending, only_sends}
use Rattle.cuts.proofs.done.Nothing.{nothing_comes}
use Rattle.cuts.specs.done.Done.{HasCounted, IsDone, OnlySendsAreLeft}
use Rattle.rank_node.specs.Done.{HasFinished, StandsAs}
use Rattle.rank_node.specs.Handles.{Agrees}
use Rattle.rank_node.specs.Node.{IsNode, NodeState}
use Rattle.rank_node.proofs.Plans.{run-state}

pub finished : (p : Plan) (inputs : Inputs) (slots : ℕ → Slots) (w : Histories) (r : ℕ) (n : NodeState) (count : Count)
    → StandsAs p inputs slots w r n → IsNode n → ((k : Slots) → Agrees k n.kept → lookup (done_ct k) n.nic.cts.live ≡ Some count)
    → HasCounted count (done_threshold p r) → HasFinished p inputs slots w r n
finished p inputs slots w r n count as_rank is told enough = record {
  values = λ c h e.
      ap (λ (s : State). part (cell_start p c) (cell p c).length s.memory) nic_is
      ∙ ap (λ q. part (cell_start p c) (cell p c).length (state_at (system_of p inputs slots) w q).memory) (sym e)
      ∙ holds_values combined-starts p inputs as_rank.sound as_rank.fit (combined-swaps op_laws) slots w as_rank.cut r as_rank.rank done
      c h e;
  left = subst OnlySendsAreLeft (sym nic_is)
      (only_sends combined-starts p inputs as_rank.sound as_rank.fit slots w as_rank.cut r as_rank.rank done);
  none_left = λ rem. ap (λ (s : State). s.pending.waiting) nic_is
      ∙ none_pending combined-starts p inputs as_rank.sound as_rank.fit slots w as_rank.cut r as_rank.rank done rem;
  nothing_comes = λ later then on s lane h.
      nothing_comes combined-starts p inputs as_rank.sound as_rank.fit slots w as_rank.cut r as_rank.rank done later then on s lane h;
}
  where
    nic_is : n.nic ≡ state_at (system_of p inputs slots) w r
    nic_is = run-state p inputs slots w r n as_rank.compiled is as_rank.agrees as_rank.history

    done : IsDone p inputs slots w r
    done = record {
      count = count;
      counter = ap (λ (s : State). lookup (done_ct (slots r)) s.cts.live) (sym nic_is) ∙ told (slots r) as_rank.agrees;
      enough = enough;
    }

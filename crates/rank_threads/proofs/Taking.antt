-- What a hand has that took a turn.
use Rattle.std.proofs.Common.{ℕ, ◌≡◌, ◌<◌, ◌∙◌, List, ap, arith, subst, sym}
use lib.ListN.{get_elem?}
use Rattle.turn_table.specs.declared.table.Turn.{Turn}
use Rattle.turn_table.specs.declared.views.HandView.{HandView}
use Rattle.turn_table.specs.Hands.{IsFree, IsHandOf, Took}
use Rattle.turn_table.specs.States.{HandState}
use Rattle.rank_node.specs.Node.{IsNode}
use Rattle.rank_slots.specs.Chronicles.{chronicle}
use Rattle.rank_slots.specs.declared.turn_rank.TurnRank.{TurnRank}
use Rattle.rank_slots.specs.Names.{IsWired, Plate, plate}
use Rattle.rank_threads.specs.Fabrics.{FabricState, HasTaken, IsFabric, IsNamed}
use Rattle.rank_slots.proofs.Pairs.{exists_at}

pub has-taken : (f : FabricState) → IsFabric f.job f.turns.start f.wires → (old : HandState TurnRank) (r : ℕ) (t : Turn TurnRank)
    (new : HandState TurnRank)
    → r < f.job.schedule.plan.ranks → IsFree f.turns old → t.slot ≡ r → IsNode t.value.node.value → IsHandOf f.turns new
    → Took chronicle plate old.knows r t.value new.knows → HasTaken f old r t new
has-taken f fabric old r t new low free slot node hand took =
    let y = exists_at f.turns.start r (let n = fabric.count in omega (arith, n, low)) in
    let start : took.tried.start ≡ f.turns.start = ap (λ (v : HandView TurnRank). v.start) took.alike ∙ free.0.1 in
    let named : plate t.value ≡ plate y.0 = took.found.named y.0 (ap (λ (l : List TurnRank). get_elem? l r) start ∙ y.1) in
    let laid = (fabric.named r y.0 y.1).laid in
    record {
      slot = slot;
      sound = fabric.sound;
      lanes = fabric.lanes;
      named = subst (λ (p : Plate). IsNamed f.job f.wires r p) (sym named) (fabric.named r y.0 y.1);
      wired = subst (IsWired f.wires) (sym named) (record { outs = laid.outs_are.fits; ins = laid.ins_are.fits });
      kept = node;
      hand = hand;
      took = took;
    }

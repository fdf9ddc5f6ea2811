-- What the slots of a closed table are, and what is taken out of them.
use Rattle.std.proofs.Common.{◌≡◌, ◌<◌, ◌∙◌, ℕ, List, length, map, sym, ap, subst, arith}
use Rattle.std.specs.Prelude.{sum_by}
use mathlib.Core.Option.{some}
use lib.ListN.{get_elem?}
use Rattle.atomic_table.proofs.Lists.{at_map}
use Rattle.pair_wires.specs.Wires.{WireState}
use Rattle.schedule_compiler.specs.Jobs.{JobOf}
use Rattle.turn_table.specs.Hands.{Left}
use Rattle.turn_table.specs.States.{HandState}
use Rattle.turn_table.specs.Views.{once_below, places, times}
use Rattle.rank_node.specs.Node.{IsNode, NodeState}
use Rattle.worlds.specs.parts.Layout.{no_node, node_at}
use Rattle.worlds.specs.FrameState.{FrameState}
use Rattle.worlds.specs.Frames.{MayClose}
use Rattle.rank_slots.specs.declared.turn_rank.TurnRank.{TurnRank}
use Rattle.rank_threads.specs.Fabrics.{IsNamed}
use Rattle.rank_slots.specs.Lists.{Each}
use Rattle.rank_wiring.specs.Opening.{AllLaid}
use Rattle.rank_slots.specs.Moves.{SameNode, Slotwise}
use Rattle.rank_slots.specs.Chronicles.{chronicle}
use Rattle.rank_slots.specs.Names.{history, plate}
use Rattle.rank_slots.proofs.Chronicles.{as-long, begins-history}
use Rattle.rank_threads.proofs.Closing.{IsNodeOf}
use Rattle.rank_slots.proofs.Pairs.{exists_at, within}
use Rattle.rank_slots.proofs.Snocs.{length_map, read}

-- the names are those of the opening
pub named-left : (job : JobOf) (wires : List WireState) (start slots : List TurnRank) → length slots ≡ length start
    → ((r : ℕ) (x : TurnRank) → get_elem? start r ≡ some x → IsNamed job wires r (plate x))
    → ((r : ℕ) (x y : TurnRank) → get_elem? slots r ≡ some x → get_elem? start r ≡ some y → plate x ≡ plate y)
    → (r : ℕ) (x : TurnRank) → get_elem? slots r ≡ some x → IsNamed job wires r (plate x)
named-left job wires start slots n named same r x at =
    let y = exists_at start r (let k = within slots r x at in omega (arith, n, k)) in
    subst (IsNamed job wires r) (sym (same r x y.0 at y.1)) (named r y.0 y.1)

pub laid-left : (job : JobOf) (wires : List WireState) (slots : List TurnRank) →
    ((r : ℕ) (x : TurnRank) → get_elem? slots r ≡ some x → IsNamed job wires r (plate x)) → AllLaid wires slots
laid-left job wires slots named r x at = (named r x at).laid

-- the nodes are those of the slots, before their ends left
pub node-of-slot : (slots last : List TurnRank) (nodes : List NodeState) → Slotwise SameNode slots last → length last ≡ length slots →
    nodes ≡ map (λ (x : TurnRank). x.node.value) last
    → (r : ℕ) → r < length slots → IsNodeOf slots nodes r
node-of-slot slots last nodes same n is r low =
    let x = exists_at last r (omega (arith, n, low)) in
    let y = same r x.0 x.1 in record {
      slot = y.0;
      there = y.1;
      node_is = read nodes r x.0.node.value no_node (ap (λ (l : List NodeState). get_elem? l r) is
          ∙ at_map (λ (x : TurnRank). x.node.value) last r x.0 x.1) ∙ y.2.node;
    }

pub kept-at : (nodes : List NodeState) → Each IsNode nodes → (r : ℕ) → r < length nodes → IsNode (node_at nodes r)
kept-at nodes kept r low = let x = exists_at nodes r low in subst IsNode (sym (read nodes r x.0 no_node x.1)) (kept r x.0 x.1)

pub as-many : (last : List TurnRank) (nodes : List NodeState) → nodes ≡ map (λ (x : TurnRank). x.node.value) last →
    length nodes ≡ length last
as-many last nodes is = ap (λ (l : List NodeState). length l) is ∙ length_map (λ (x : TurnRank). x.node.value) last

-- a frame of this job with these lanes
pub may-frame : (job : JobOf) (f : FrameState) (nodes : List NodeState) → f.schedule ≡ job.schedule → f.inputs ≡ job.inputs
    → MayClose (record { schedule = job.schedule; inputs = job.inputs; lanes = f.lanes }) nodes → MayClose f nodes
may-frame job f nodes schedule inputs may = subst (λ (z : FrameState). MayClose z nodes)
    (λ i. record { schedule = sym schedule i; inputs = sym inputs i; lanes = f.lanes }) may

-- ---- what is left, told by the history alone
pub left-history : (start : List TurnRank) (hs : List (HandState TurnRank)) (r : ℕ) (x : TurnRank) → Left chronicle plate start hs r x →
    Left history plate start hs r x
left-history start hs r x l = record {
  named = l.named;
  begun = λ k d low s i t a b. begins-history t.given x (l.begun k d low s i t a b);
  placed = λ p. subst (λ n. sum_by (λ (h : HandState TurnRank). times p (places h.knows r)) hs ≡ once_below p n) (as-long x) (l.placed p);
  long = l.long ∙ as-long x;
}

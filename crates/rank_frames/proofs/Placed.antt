-- A place after each kind of step.
use Rattle.std.proofs.Common.{ℕ, ◌≡◌, ◌+◌, ◌-◌, ◌≤◌, length, get_or, refl, sym, ap, ◌∙◌, arith, length-set}
use Rattle.ptl_types.specs.Kinds.{lane_of}
use Rattle.ptl_types.specs.Messages.{Sent}
use Rattle.ptl_types.specs.declared.headers.Lane.{Lane}
use Rattle.ptl_types.specs.declared.headers.Lane.TheVariants.{Request, Answer}
use Rattle.ni_model.specs.State.{State}
use Rattle.rank_node.specs.Copies.{Diary}
use Rattle.rank_node.specs.Handles.{slots_of}
use Rattle.rank_node.specs.Node.{IsNode, IsStarted, NodeState, fired_node, received_node, start_of}
use Rattle.rank_node.proofs.Nodes.{agrees}
use Rattle.rank_node.proofs.Steady.{fired-steady, target-steady}
use Rattle.rank_frames.specs.Due.{Dues, messages_due, with_taken}
use Rattle.rank_frames.specs.Place.{IsPlace, PlaceState, fired_place, received_place}

pub placed-fire : (p : PlaceState) (t : ℕ) → IsPlace p → IsNode (fired_node t p.node) → IsPlace (fired_place t p)
placed-fire p t is node = record {
  node = node;
  rank = (fired-steady p.node.nic t).rank ∙ is.rank;
  lanes = is.lanes;
  at_most = is.at_most;
  receipts = is.receipts;
  bytes = is.bytes;
}

pub placed-start : (p : PlaceState) (n : NodeState) → IsPlace p → IsStarted p.node n → IsNode n → IsPlace (record p { node = n })
placed-start p n is st node =
    let k = slots_of n.kept in
    let receipts : n.diary.receipts ≡ p.node.diary.receipts = ap (λ (d : Diary). d.receipts) st.diary in
    let bytes : n.diary.bytes ≡ p.node.diary.bytes = ap (λ (d : Diary). d.bytes) st.diary in
    let least = is.receipts in
    let most = is.bytes in
    record {
      node = node;
      rank = ap (λ (s : State). s.rank) (st.nic k (agrees n.kept node.descriptors)) ∙ (start_of p.node.task k).rank p.node.nic ∙ is.rank;
      lanes = is.lanes;
      at_most = is.at_most;
      receipts = omega arith;
      bytes = omega arith;
    }

same-lengths : (d : Dues) (source : ℕ) (lane : Lane) (n : ℕ) → length d.answers ≡ length d.requests
    → length (with_taken d source lane n).answers ≡ length (with_taken d source lane n).requests
same-lengths d source Request n e = e ∙ sym (length-set d.requests source (get_or d.requests source 0 - 1))
same-lengths d source Answer n e = length-set d.answers source (get_or d.answers source 0 - 1) ∙ e

as-many : (d : Dues) (source : ℕ) (lane : Lane) (n : ℕ) → length (with_taken d source lane n).requests ≡ length d.requests
as-many d source Request n = length-set d.requests source (get_or d.requests source 0 - 1)
as-many d source Answer n = refl

bytes-left : (d : Dues) (source : ℕ) (lane : Lane) (n : ℕ) → (with_taken d source lane n).bytes ≡ d.bytes - n
bytes-left d source Request n = refl
bytes-left d source Answer n = refl

pub placed-receive : (p : PlaceState) (source : ℕ) (m : Sent) → IsPlace p
    → IsNode (received_node source (lane_of m.header.kind) m p.node)
    → messages_due (with_taken p.due source (lane_of m.header.kind) (length m.bytes)) + 1 ≡ messages_due p.due
    → length m.bytes ≤ p.due.bytes → IsPlace (received_place source m p)
placed-receive p source m is node fewer fits =
    let lane = lane_of m.header.kind in
    let receipts = is.receipts in
    let bytes = is.bytes in
    let at_most = is.at_most in
    let many = as-many p.due source lane (length m.bytes) in
    let left = bytes-left p.due source lane (length m.bytes) in
    record {
      node = node;
      rank = (target-steady p.node.nic m).rank ∙ is.rank;
      lanes = same-lengths p.due source lane (length m.bytes) is.lanes;
      at_most = omega arith;
      receipts = omega arith;
      bytes = omega arith;
    }

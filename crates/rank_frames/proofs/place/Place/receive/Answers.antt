-- The message is clear, and is on the lane that its kind names.
use Rattle.std.proofs.Common.{◌≡◌, ◌+◌, ◌∙◌, ℕ, List, None, length, ap, ap₂, subst, sym}
use Rattle.ptl_types.specs.Kinds.{lane_of}
use Rattle.ptl_types.specs.declared.headers.Header.{Header}
use Rattle.rank_node.specs.Node.{IsNode, NodeState, received_node}
use Rattle.rank_frames.specs.Due.{Dues, messages_due, with_taken}
use Rattle.rank_frames.specs.Place.{IsPlace, PlaceState, fault_of, received_place}
use Rattle.rank_frames.proofs.Clear.{clear}
use Rattle.rank_frames.proofs.Placed.{placed-receive}
use Rattle.rank_frames.proofs.place.Place.receive.Goals as goal

pub invariant_of-self : goal.invariant_of-self
invariant_of-self c =
    let p : PlaceState = record { me = c.self.inside.me; node = c.self.inside.node; due = c.self.inside.due } in
    let m = c.args.message in
    let is = clear p c.args.source m (subst (λ (q : PlaceState). fault_of q c.args.source m ≡ None) (sym c.self.view_is) c.requires) in
    let lane : c.lane-lane.result ≡ lane_of m.header.kind =
    c.lane-lane.ensures ∙ ap (λ (h : Header). lane_of h.kind) c.header.ensures in
    let long : c.len.result ≡ length m.bytes = c.len.ensures ∙ ap (λ (l : List ℕ). length l) c.bytes.ensures.list in
    let node_is : c.receive-answer.new.self ≡ received_node c.args.source (lane_of m.header.kind) m p.node =
    c.receive-answer.ensures.step ∙ ap (λ l. received_node c.args.source l m p.node) lane in
    let due_is : c.take.new.self ≡ with_taken p.due c.args.source (lane_of m.header.kind) (length m.bytes) =
    c.take.ensures.does ∙ ap₂ (λ l n. with_taken p.due c.args.source l n) lane long in
    let whole : received_place c.args.source m p ≡ record { me = p.me; node = c.receive-answer.new.self; due = c.take.new.self } =
    ap₂ (λ (n : NodeState) (d : Dues). let q : PlaceState = record { me = p.me; node = n; due = d } in q) (sym node_is) (sym due_is) in
    let fewer = subst (λ (d : Dues). messages_due d + 1 ≡ messages_due p.due) due_is c.take.ensures.fewer in
    let node = subst IsNode node_is c.recall_history.ensures.kept in
    subst IsPlace whole (placed-receive p c.args.source m c.self.invariant node fewer is.bytes)

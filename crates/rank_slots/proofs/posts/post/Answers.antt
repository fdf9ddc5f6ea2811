-- A message is sent by the end of its lane. That end was looked for, so it stands at its place (`found`): its wire is one of the rank's
-- (`ends`), nothing waits at it (`may`), and once it has sent the ends are a rank's again. Where none was found the rank has no such lane.
use Rattle.std.proofs.Common.{◌<◌, ◌∙◌, Bool, List, sym, ap, subst, length, set, get_or-set_same}
use lib.ListN.{get_elem?}
use Rattle.ptl_types.specs.declared.headers.Header.{Header}
use Rattle.ptl_types.specs.Kinds.{lane_of}
use Rattle.rank_node.specs.Node.{NodeState}
use Rattle.rank_slots.specs.declared.ports.OutPort.{OutPort}
use Rattle.rank_slots.specs.Ports.{AreEnds, gate_after}
use Rattle.rank_slots.proofs.Pairs.{within}
use Rattle.rank_slots.proofs.Gates.{ends-set, for-of, found, posted-none, posted-set}
use Rattle.rank_slots.proofs.posts.post.Goals as goal

-- ---- the place that was found is one of the ends'
pub index_mut-requires : goal.index_mut-requires
index_mut-requires g c =
    let (stood, is_there, to_target, on_lane) = (c.in-Some.ensures).some in
    subst (λ n. c.in-Some.at < n) c.deref.ensures.len (within c.deref.result.now c.in-Some.at stood is_there)

pub index-requires : goal.index-requires
index-requires g c =
    let (stood, is_there, to_target, on_lane) = (c.in-Some.ensures).some in
    subst (λ n. c.in-Some.at < n) c.deref.ensures.len (within c.deref.result.now c.in-Some.at stood is_there)

-- ---- the end there may send
pub send_at-requires-clause-wired : goal.send_at-requires-clause-wired
send_at-requires-clause-wired g c =
    let port = c.index_mut.result.now in
    let end = found c.args.outs.now.items c.deref.result.now c.in-Some.at c.args.message port c.header.result.now c.header-2.result.now
    c.lane-lane.result c.deref.ensures.value (c.in-Some.ensures).some c.header.ensures c.header-2.ensures c.lane-lane.ensures
    c.index_mut.ensures.value in
    c.requires.ends.wired c.in-Some.at port end.there

pub send_at-requires-clause-free : goal.send_at-requires-clause-free
send_at-requires-clause-free g c =
    let port = c.index_mut.result.now in
    let end = found c.args.outs.now.items c.deref.result.now c.in-Some.at c.args.message port c.header.result.now c.header-2.result.now
    c.lane-lane.result c.deref.ensures.value (c.in-Some.ensures).some c.header.ensures c.header-2.ensures c.lane-lane.ensures
    c.index_mut.ensures.value in
    let is_its_lane = for-of port.target port.lane c.args.message (sym end.destination) (sym end.lane) in
    let (free, in_bounds) = c.requires.may c.in-Some.at port end.there is_its_lane in
    free

pub send_at-requires-clause-bounds : goal.send_at-requires-clause-bounds
send_at-requires-clause-bounds g c =
    let port = c.index_mut.result.now in
    let end = found c.args.outs.now.items c.deref.result.now c.in-Some.at c.args.message port c.header.result.now c.header-2.result.now
    c.lane-lane.result c.deref.ensures.value (c.in-Some.ensures).some c.header.ensures c.header-2.ensures c.lane-lane.ensures
    c.index_mut.ensures.value in
    let is_its_lane = for-of port.target port.lane c.args.message (sym end.destination) (sym end.lane) in
    let (free, in_bounds) = c.requires.may c.in-Some.at port end.there is_its_lane in
    in_bounds

-- ---- what is noted is of that end, which leads to a rank of the node
pub note_post-requires : goal.note_post-requires
note_post-requires g c =
    let port = c.index_mut.result.now in
    let end = found c.args.outs.now.items c.deref.result.now c.in-Some.at c.args.message port c.header.result.now c.header-2.result.now
    c.lane-lane.result c.deref.ensures.value (c.in-Some.ensures).some c.header.ensures c.header-2.ensures c.lane-lane.ensures
    c.index_mut.ensures.value in
    let sent = c.send_at.new.port in
    let noted_is_sent = c.index.ensures ∙ get_or-set_same c.args.outs.now.items c.in-Some.at sent c.index.result.now end.within in
    let same_target = ap (λ (p : OutPort). p.target) noted_is_sent ∙ c.send_at.ensures.same.target in
    subst (λ d. d < length c.args.node.now.closed) (sym same_target) (c.requires.ends.inside c.in-Some.at port end.there)

-- ---- afterwards
pub returns-in-Some-clause-ends : goal.returns-in-Some-clause-ends
returns-in-Some-clause-ends g c =
    let port = c.index_mut.result.now in
    let end = found c.args.outs.now.items c.deref.result.now c.in-Some.at c.args.message port c.header.result.now c.header-2.result.now
    c.lane-lane.result c.deref.ensures.value (c.in-Some.ensures).some c.header.ensures c.header-2.ensures c.lane-lane.ensures
    c.index_mut.ensures.value in
    let sent = c.send_at.new.port in
    let noted_is_sent = c.index.ensures ∙ get_or-set_same c.args.outs.now.items c.in-Some.at sent c.index.result.now end.within in
    let gates = ap (λ (n : NodeState). n.closed) c.note_post.ensures
    ∙ ap (λ (p : OutPort). gate_after p.lane p.target p.end.waits c.args.node.now.closed) noted_is_sent in
    subst (λ (closed : List Bool). AreEnds c.args.network.wires.now closed (set c.args.outs.now.items c.in-Some.at sent)) (sym gates)
    (ends-set c.args.network.wires.now c.args.node.now.closed c.args.outs.now.items c.in-Some.at port sent end.there c.send_at.ensures.same
    c.requires.ends)

pub returns-in-Some-clause-posted : goal.returns-in-Some-clause-posted
returns-in-Some-clause-posted g c =
    let port = c.index_mut.result.now in
    let end = found c.args.outs.now.items c.deref.result.now c.in-Some.at c.args.message port c.header.result.now c.header-2.result.now
    c.lane-lane.result c.deref.ensures.value (c.in-Some.ensures).some c.header.ensures c.header-2.ensures c.lane-lane.ensures
    c.index_mut.ensures.value in
    posted-set c.args.message c.args.outs.now.items c.in-Some.at port c.send_at.new.port end.there end.destination end.lane
    c.send_at.ensures.same c.send_at.ensures.sent c.requires.ends.differ

-- ---- no end was found
pub returns-in_default-clause-posted : goal.returns-in_default-clause-posted
returns-in_default-clause-posted g c = posted-none c.args.message c.args.outs.now.items (λ i port stands to_target on_lane.
    let seen = ap (λ (ports : List OutPort). get_elem? ports i) c.deref.ensures.value ∙ stands in
    let target_read = ap (λ (h : Header). h.target) c.header.ensures in
    let lane_read = c.lane-lane.ensures ∙ ap (λ (h : Header). lane_of h.kind) c.header-2.ensures in
    c.in_default.ensures.none i port seen (to_target ∙ sym target_read) (on_lane ∙ sym lane_read))

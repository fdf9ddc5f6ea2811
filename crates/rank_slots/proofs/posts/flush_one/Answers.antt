use Rattle.std.proofs.Common.{◌≡◌, ◌<◌, ◌∙◌, Bool, false, List, sym, refl, ap, subst, length, set, get_or-set_same}
use Rattle.atomic_table.proofs.Lists.{at_index, set_again}
use Rattle.rank_node.specs.Node.{NodeState}
use Rattle.rank_slots.specs.declared.ports.OutPort.{OutPort}
use Rattle.rank_slots.specs.Ports.{AreEnds, gate_after}
use Rattle.rank_slots.proofs.Gates.{ends-set, flushed-same}
use Rattle.rank_slots.proofs.posts.flush_one.Goals as goal

pub returns-then-not-waits-clause-flushed : goal.returns-then-not-waits-clause-flushed
returns-then-not-waits-clause-flushed g c =
    let p = c.index.result.now in
    let there = at_index c.args.outs.now.items c.args.at p c.requires.at c.index.ensures in
    let free : p.end.waits ≡ false = sym (c.if-not-waits.ensures) in
    (p, p, there, flushed-same p free, sym (set_again c.args.outs.now.items c.args.at p there), (λ _. refl, λ _. free))

pub flush_at-free-requires : goal.flush_at-free-requires
flush_at-free-requires g c = c.requires.ends.wired c.args.at c.index_mut.result.now
    (at_index c.args.outs.now.items c.args.at c.index_mut.result.now c.requires.at c.index_mut.ensures.value)

pub note_post-requires : goal.note_post-requires
note_post-requires g c =
    let p = c.index_mut.result.now in let q = c.flush_at-free.new.port in
    let is = c.index-2.ensures ∙ get_or-set_same c.args.outs.now.items c.args.at q c.index-2.result.now c.requires.at in
    subst (λ d. d < length c.args.node.now.closed) (sym (ap (λ (z : OutPort). z.target) is ∙ c.flush_at-free.ensures.flushed.same.target))
    (c.requires.ends.inside c.args.at p (at_index c.args.outs.now.items c.args.at p c.requires.at c.index_mut.ensures.value))

pub returns-clause-ends : goal.returns-clause-ends
returns-clause-ends g c =
    let p = c.index_mut.result.now in let q = c.flush_at-free.new.port in
    let there = at_index c.args.outs.now.items c.args.at p c.requires.at c.index_mut.ensures.value in
    let is = c.index-2.ensures ∙ get_or-set_same c.args.outs.now.items c.args.at q c.index-2.result.now c.requires.at in
    subst (λ (closed : List Bool). AreEnds c.args.network.wires.now closed (set c.args.outs.now.items c.args.at q))
    (sym (ap (λ (n : NodeState). n.closed) c.note_post.ensures
    ∙ ap (λ (z : OutPort). gate_after z.lane z.target z.end.waits c.args.node.now.closed) is))
    (ends-set c.args.network.wires.now c.args.node.now.closed c.args.outs.now.items c.args.at p q there c.flush_at-free.ensures.flushed.same
    c.requires.ends)

pub returns-clause-flushed : goal.returns-clause-flushed
returns-clause-flushed g c =
    let p = c.index_mut.result.now in let q = c.flush_at-free.new.port in (
      p,
      q,
      at_index c.args.outs.now.items c.args.at p c.requires.at c.index_mut.ensures.value,
      c.flush_at-free.ensures.flushed,
      refl,
      c.flush_at-free.ensures.free,
    )

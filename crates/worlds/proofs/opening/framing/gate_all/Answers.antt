-- One pair of ranks more in each turn.
use Rattle.std.proofs.Common.{◌+◌, ◌*◌, ◌/◌, ◌<◌, ◌∙◌, List, subst, sym, arith}
use Rattle.std.proofs.lemmas.Nat.{mul-add-lt}
use Rattle.rank_node.specs.Node.{NodeState}
use Rattle.worlds.specs.parts.Layout.{node_at}
use Rattle.worlds.proofs.opening.Laid.{at_most-pairs}
use Rattle.worlds.proofs.opening.Told.{AreGatedTo, destination_in, source_in, told_more, untold}
use Rattle.worlds.proofs.opening.framing.gate_all.Goals as goal

pub overflow_mul-pairs : goal.overflow_mul-pairs
overflow_mul-pairs c = let q = at_most-pairs c.args.setting.ranks c.requires.at_most in omega (arith, q)

pub loop-pair-init : goal.loop-pair-init
loop-pair-init c = record {
  size = c.requires.nodes;
  same = λ r. untold (node_at c.args.nodes.now r);
  gates = λ r d hr hd h. absurd (omega (arith, h));
}

pub gate-requires : goal.gate-requires
gate-requires c =
    let n = c.args.setting.ranks in
    let h : c.loop-pair.pair < n * n = c.loop-pair-test.true in
    let i = c.loop-pair.pair in
    let v = c.loop-pair.invariant in
    record {
      at_most = c.requires.at_most;
      size = c.requires.lanes;
      source = source_in n c.args.setting.window c.args.lanes.now c.args.nodes.now c.loop-pair.nodes i c.requires.nonempty h
          c.requires.wide v;
      destination = destination_in n c.args.setting.window c.args.lanes.now c.args.nodes.now c.loop-pair.nodes i c.requires.nonempty h
          c.requires.wide v;
      nodes = v.size;
      closed = (v.same (i / n)).wide ∙ c.requires.wide (i / n)
          (source_in n c.args.setting.window c.args.lanes.now c.args.nodes.now c.loop-pair.nodes i c.requires.nonempty h c.requires.wide v);
    }

pub loop-pair-preserved : goal.loop-pair-preserved
loop-pair-preserved c =
    let n = c.args.setting.ranks in
    let h : c.loop-pair.pair < n * n = c.loop-pair-test.true in
    subst (λ (v : List NodeState). AreGatedTo n c.args.setting.window c.args.lanes.now c.args.nodes.now v (c.loop-pair.pair + 1))
    (sym c.gate.ensures)
    (told_more n c.args.setting.window c.args.lanes.now c.args.nodes.now c.loop-pair.nodes c.loop-pair.pair c.requires.nonempty h
    c.requires.wide
    c.loop-pair.invariant)

pub returns : goal.returns
returns c =
    let n = c.args.setting.ranks in
    let t = c.loop-pair-test.false in
    let v = c.loop-pair.invariant in
    record {
      size = v.size;
      same = v.same;
      gates = λ r d hr hd. let q = mul-add-lt r n d n hr hd in v.gates r d hr hd (omega (arith, q, t));
    }

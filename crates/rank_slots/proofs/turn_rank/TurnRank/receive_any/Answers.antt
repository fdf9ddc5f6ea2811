use Rattle.std.proofs.Common.{◌≡◌, ◌≢◌, ◌<◌, ◌∙◌, ◌++◌, ◌∷◌, [], ⊎_elim, false, List, length, sym, ap, refl, subst, arith}
use lib.ListN.{get_elem?}
use Rattle.std.proofs.lemmas.Bool.{cases_eq}
use Rattle.ptl_types.specs.declared.steps.LocalStep.TheVariants.{Receive}
use Rattle.cuts.specs.histories.History.Local.{Receive as Received}
use Rattle.atomic_table.proofs.Lists.{at_index}
use Rattle.rank_node.specs.Node.{NodeState}
use Rattle.rank_slots.specs.declared.ports.OutPort.{OutPort}
use Rattle.rank_slots.specs.Lists.{Each}
use Rattle.rank_slots.specs.Names.{IsWired, Plate}
use Rattle.rank_slots.specs.Sound.{IsSound}
use Rattle.rank_slots.specs.Missing.{Missed}
use Rattle.rank_slots.proofs.Pairs.{same_at, within}
use Rattle.rank_node.specs.Copies.{has_start}
use Rattle.rank_slots.proofs.turn_rank.TurnRank.receive_any.Goals as goal

pub loop-at-init : goal.loop-at-init
loop-at-init g c = record {
  job = refl;
  node = refl;
  outs = refl;
  name = refl;
  many = refl;
  passed =
      λ i p q h a b. absurd (omega (arith, h));
  later = λ i h. refl;
}

pub pull-requires-clause-sound : goal.pull-requires-clause-sound
pull-requires-clause-sound g c = λ _ _. subst IsSound (sym c.loop-at.invariant.job) c.requires.sound

pub pull-requires-clause-wired : goal.pull-requires-clause-wired
pull-requires-clause-wired g c = λ _ _. subst (IsWired c.args.network.wires.now) (sym c.loop-at.invariant.name) c.requires.wired

pub pull-requires-clause-free : goal.pull-requires-clause-free
pull-requires-clause-free g c = λ _ _ f. subst (Each (λ (p : OutPort). p.end.waits ≡ false)) (sym c.loop-at.invariant.outs)
    (c.requires.free f)

pub loop-at-preserved : goal.loop-at-preserved
loop-at-preserved g c =
    let i = c.loop-at.invariant in let e = c.pull.ensures.none c.if-pull.false in let at = c.loop-at.at in let s = c.args.self.now in
    record {
      job = ap (λ (p : Plate). p.job) c.pull.ensures.name ∙ i.job;
      node = e.node ∙ i.node;
      outs = e.outs ∙ i.outs;
      name = c.pull.ensures.name ∙ i.name;
      many = e.many ∙ i.many;
      passed = λ j p q below a b. ⊎_elim
          (λ (is : j ≡ at). subst (λ (z : NodeState × List OutPort). Missed z.0 z.1 p q) (λ k. (i.node k, i.outs k))
          (e.here p q (i.later at (omega arith) ∙ (ap (get_elem? s.ins.items) (sym is) ∙ a))
          (ap (get_elem? c.pull.new.self.ins.items) (sym is) ∙ b)))
          (λ (apart : j ≢ at). i.passed j p q (omega (arith, below, apart)) a (sym (e.others j apart) ∙ b)) (cases_eq j at);
      later = λ j above. e.others j (λ is. omega (arith, is, above)) ∙ i.later j (omega (arith, above));
    }

pub returns-clause-none : goal.returns-clause-none
returns-clause-none g c = let i = c.loop-at.invariant in record {
  node = i.node;
  outs = i.outs;
  ins = record {
    many = i.many;
    each = λ j p q a b. i.passed j p q (let k = within c.args.self.now.ins.items j p a in let n = c.len-count.ensures in let t =
        c.loop-at-test.false in omega (arith, k, n, t)) a b;
  };
}

pub returns-clause-name : goal.returns-clause-name
returns-clause-name g c = c.loop-at.invariant.name

pub returns-then-pull-clause-name : goal.returns-then-pull-clause-name
returns-then-pull-clause-name g c = c.pull.ensures.name ∙ c.loop-at.invariant.name

pub returns-then-pull-clause-some : goal.returns-then-pull-clause-some
returns-then-pull-clause-some g c =
    let i = c.loop-at.invariant in let at = c.loop-at.at in let ins = c.loop-at.self.ins.items in
    let h = c.pull.ensures.some c.if-pull.true in
    let low : at < length ins = (let t = c.loop-at-test.true in let n = c.len-count.ensures in let m = i.many in omega (arith, t, n, m)) in
    let one = same_at ins at c.index.result.now h.port (at_index ins at c.index.result.now low c.index.ensures) h.there in
    let two = same_at ins at c.index-in-loop-at.result.now h.port
    (at_index ins at c.index-in-loop-at.result.now low c.index-in-loop-at.ensures) h.there in (
      Received h.port.source h.port.lane h.message,
      (λ k. Receive (sym one k).source (sym two k).lane),
      h.grew ∙ ap (λ es. es ++ Received h.port.source h.port.lane h.message ∷ []) (ap (λ (n : NodeState). n.diary.locals) i.node),
    )

pub returns-then-pull-clause-handles : goal.returns-then-pull-clause-handles
returns-then-pull-clause-handles g c = λ started. let i = c.loop-at.invariant in
    c.pull.ensures.handles (ap (λ (n : NodeState). has_start n.diary.locals) i.node ∙ started) ∙ ap (λ (n : NodeState). n.kept) i.node

pub returns-clause-handles : goal.returns-clause-handles
returns-clause-handles g c = λ _. ap (λ (n : NodeState). n.kept) c.loop-at.invariant.node

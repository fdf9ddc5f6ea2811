use Rattle.std.proofs.Common.{◌≡◌, ◌∙◌, List, sym, ap, length, set, arith, length-set}
use lib.ListN.{get_elem?}
use Rattle.atomic_table.proofs.Lists.{set_else}
use Rattle.rank_slots.specs.declared.ports.OutPort.{OutPort}
use Rattle.rank_slots.proofs.Pairs.{within}
use Rattle.rank_slots.proofs.Gates.{both-true, free-more, regated-after, tried-more}
use Rattle.rank_slots.proofs.posts.flush_all.Goals as goal

pub loop-at-preserved : goal.loop-at-preserved
loop-at-preserved g c =
    let i = c.loop-at.invariant in let e = c.flush_one-free.ensures in let t = e.flushed in let p = t.0 in let q = t.1 in let at =
    c.loop-at.at in let outs = c.loop-at.outs.items in
    let new : c.flush_one-free.new.outs.items ≡ set outs at q = t.4 in record {
      many = ap (λ (l : List OutPort). length l) new ∙ length-set outs at q ∙ i.many;
      node = regated-after c.args.node.now c.loop-at.node c.flush_one-free.new.node i.node e.node;
      ends = e.ends;
      tried = λ j x y below a b. tried-more c.args.outs.now.items outs at p q t.2 (i.later at (omega arith)) t.3 i.tried j x y below a
          (ap (λ (l : List OutPort). get_elem? l j) (sym new) ∙ b);
      later = λ j above. ap (λ (l : List OutPort). get_elem? l j) new ∙ set_else outs at j q (λ is. omega (arith, is, above))
          ∙ i.later j (omega (arith, above));
      free = λ f j y below b. let both = both-true c.loop-at.free c.flush_one-free.result f in
          free-more outs at q (t.5.1 both.1) (i.free both.0) j y below (ap (λ (l : List OutPort). get_elem? l j) (sym new) ∙ b);
    }

pub returns-clause-flushed : goal.returns-clause-flushed
returns-clause-flushed g c = let i = c.loop-at.invariant in record {
  many = i.many;
  each = λ j x y a b. i.tried j x y (let k = within c.args.outs.now.items j x a in let n = c.len-count.ensures in let t =
      c.loop-at-test.false in omega (arith, k, n, t)) a b;
}

pub returns-clause-free : goal.returns-clause-free
returns-clause-free g c = λ f j y b. c.loop-at.invariant.free f j y (let k = within c.loop-at.outs.items j y b in let m =
    c.loop-at.invariant.many in let n = c.len-count.ensures in let t = c.loop-at-test.false in omega (arith, k, m, n, t)) b

use Rattle.std.proofs.Common.{◌≡◌, ◌∙◌, List, length, ap, sym, arith}
use Rattle.std.specs.Prelude.{None}
use lib.ListN.{get_elem?}
use Rattle.atomic_table.proofs.Lists.{at_index}
use Rattle.rest_probe.specs.declared.notes.RankNote.{RankNote}
use Rattle.rest_probe.proofs.Elements.{below-next, within}
use Rattle.rest_probe.proofs.waves.Wave.first_ready.Goals as goal

pub returns-in-Some-clause-some : goal.returns-in-Some-clause-some
returns-in-Some-clause-some c = let is = c.self.view_is in let old = c.self.inside.ranks.items in let m = c.index.result.now in let r =
    c.loop-r.r in (
      m,
      ap (λ (l : List RankNote). get_elem? l r) (sym is) ∙ at_index old r m (let t = c.loop-r-test.true in let n =
          c.len-r-end.ensures in
          omega (arith, t, n))
          c.index.ensures,
      c.in-Some.is,
      c.loop-r.invariant,
    )

pub loop-r-preserved : goal.loop-r-preserved
loop-r-preserved c = let is = c.self.view_is in let old = c.self.inside.ranks.items in let m = c.index.result.now in let r = c.loop-r.r in
    let here = ap (λ (l : List RankNote). get_elem? l r) (sym is)
    ∙ at_index old r m (let t = c.loop-r-test.true in let n = c.len-r-end.ensures in omega (arith, t, n)) c.index.ensures in
    below-next (λ (x : RankNote). x.note.ready ≡ None) c.args.self.now r m c.loop-r.invariant here c.in_default.is

pub returns-clause-none : goal.returns-clause-none
returns-clause-none c = λ n i x low at. c.loop-r.invariant i x (let w = within c.args.self.now i x at in let t = c.loop-r-test.false in
    let e = ap (λ (l : List RankNote). length l) c.self.view_is in let k = c.len-r-end.ensures in omega (arith, w, t, e, k)) at

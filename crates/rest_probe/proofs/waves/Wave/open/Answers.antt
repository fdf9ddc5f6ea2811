use Rattle.std.proofs.Common.{◌∙◌, ◌∷◌, [], List, length, length-append, ap, arith, subst, sym}
use lib.ListN.{get_elem?}
use Rattle.rest_probe.specs.declared.notes.RankNote.{RankNote}
use Rattle.rest_probe.specs.Counted.{cleared}
use Rattle.rest_probe.specs.Waves.{IsRoomFor}
use Rattle.rest_probe.proofs.Elements.{all-more}
use Rattle.rest_probe.proofs.Gathered.{cleared-from, cleared-to}
use Rattle.rest_probe.proofs.waves.Wave.open.Goals as goal

pub loop-r-preserved : goal.loop-r-preserved
loop-r-preserved c =
    let i = c.loop-r.invariant in let p = c.in_ok-push.ensures.items in let old = c.loop-r.notes.items in let x = c.in_ok-bare.field-0 in
    let e = c.in_ok-bare.ensures in
    let plan = c.args.schedule.now.plan in
    let here : IsRoomFor plan c.loop-r.r x = record { there = e.there; sent = e.sent; got = e.got } in record {
      count = (let a = ap (λ (l : List RankNote). length l) p in let b = length-append old (x ∷ []) in let k = i.count in
          omega (arith, a, b, k));
      each = λ r y at. all-more (IsRoomFor plan) old x i.each (subst (λ n. IsRoomFor plan n x) (sym i.count) here) r y
          (ap (λ (l : List RankNote). get_elem? l r) (sym p) ∙ at);
    }

pub returns-clause-lanes : goal.returns-clause-lanes
returns-clause-lanes c =
    let i = c.loop-r.invariant in let plan = c.args.schedule.now.plan in
    let told = c.ranks-ranks.ensures.value in
    let test = c.loop-r-test.false in let end = c.loop-r.auto.r-end in let count = i.count in record {
      count = omega (arith, told, test, end, count);
      sent = λ r x at. let e = (i.each r x at).sent in ap cleared e ∙ (cleared-from plan r ∙ sym e) ∙ e;
      got = λ r x at. let e = (i.each r x at).got in ap cleared e ∙ (cleared-to plan r ∙ sym e) ∙ e;
    }

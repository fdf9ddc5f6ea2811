use Rattle.std.proofs.Common.{◌≡◌, ◌≢◌, ◌∙◌, ⊎_elim, false, List, ap, refl, sym, subst, arith}
use Rattle.std.proofs.lemmas.Bool.{cases_eq}
use lib.ListN.{get_elem?}
use Rattle.rest_probe.specs.declared.notes.RankNote.{RankNote}
use Rattle.rest_probe.specs.Waves.{IsFor}
use Rattle.rest_probe.proofs.Kept.{for-emptied}
use Rattle.rank_threads.specs.Fabrics.{FabricState}
use Rattle.rank_threads.proofs.Fronts.{more-noted, none-noted}
use Rattle.rank_slots.proofs.Pairs.{at_map_back, within}
use Rattle.rank_threads.proofs.fabric.Fabric.probe_all.Goals as goal

pub loop-rank-init : goal.loop-rank-init
loop-rank-init g c = let fabric = c.args.self.now in let p = fabric.job.schedule.plan in record {
  hand = c.requires.hand;
  parts = refl;
  lanes = subst (IsFor p) (sym c.clear.ensures) (for-emptied p c.args.wave.now c.requires.lanes);
  there = λ r x low at. absurd (omega (arith, low));
  noted = none-noted fabric.job c.args.hand.now.knows c.clear.new.self;
  unnoted = λ r x low at. (let z = at_map_back (λ (v : RankNote). record v { there = false }) c.args.wave.now r x
      (ap (λ (l : List RankNote). get_elem? l r) (sym c.clear.ensures) ∙ at) in
      ap (λ (v : RankNote). v.there) (sym z.2));
}

pub probe-requires-clause-rank : goal.probe-requires-clause-rank
probe-requires-clause-rank g c = let k = c.self.invariant.ranks_are in
    let e = ap (λ (f : FabricState). f.job.schedule.plan.ranks) c.self.view_is in let t = c.loop-rank-test.true in omega (arith, t, k, e)

pub probe-requires-clause-empty : goal.probe-requires-clause-empty
probe-requires-clause-empty g c = λ _ _ x at. c.loop-rank.invariant.unnoted c.loop-rank.rank x (omega arith) at

pub loop-rank-preserved : goal.loop-rank-preserved
loop-rank-preserved g c = let i = c.loop-rank.invariant in let e = c.probe.ensures in let rank = c.loop-rank.rank in let z =
    c.probe.new.wave in record {
      hand = e.hand;
      parts = e.noted.1.parts ∙ i.parts;
      lanes = e.lanes;
      there = λ r x low at. ⊎_elim
          (λ (is : r ≡ rank). (e.noted.2 x (ap (get_elem? z) (sym is) ∙ at)).0)
          (λ (apart : r ≢ rank). i.there r x (omega (arith, low, apart)) (sym (e.others r apart) ∙ at)) (cases_eq r rank);
      noted = more-noted c.args.self.now.job c.loop-rank.hand.knows c.probe.new.hand.knows rank e.noted.0 c.loop-rank.wave z e.noted.1
          e.noted.2 e.others i.noted;
      unnoted = λ r x high at. i.unnoted r x (omega (arith, high)) (sym (e.others r (λ is. omega (arith, is, high))) ∙ at);
    }

pub returns-clause-all : goal.returns-clause-all
returns-clause-all g c = let i = c.loop-rank.invariant in
    λ r x at. i.there r x (let n = within c.loop-rank.wave r x at in let m = i.lanes.count in let k = c.self.invariant.ranks_are in
    let e = ap (λ (f : FabricState). f.job.schedule.plan.ranks) c.self.view_is in
    let t = c.loop-rank-test.false in omega (arith, n, m, k, e, t)) at

pub returns-clause-noted : goal.returns-clause-noted
returns-clause-noted g c = let i = c.loop-rank.invariant in (
  i.noted.0,
  λ r x at. i.noted.1 r x (let n = within c.loop-rank.wave r x at in let m = i.lanes.count in let k = c.self.invariant.ranks_are in
      let e = ap (λ (f : FabricState). f.job.schedule.plan.ranks) c.self.view_is in
      let t = c.loop-rank-test.false in omega (arith, n, m, k, e, t)) at,
)

use Rattle.std.proofs.Common.{rules, ◌≡◌, ◌<◌, ◌++◌, ◌∷◌, [], ◌∙◌, suc, List, ap, append-nil, append_assoc, arith, length, length-append}
use Rattle.std.proofs.Common.{subst, sym, refl}
use Rattle.std.proofs.lemmas.List.{nil_from_length}
use lib.ListN.{get_elem?}
use Rattle.std.specs.Vec.Iter.{into_iter_items}
use Rattle.pair_wires.specs.Wires.{WireState}
use Rattle.rank_wiring.specs.declared.open.OutWires.{OutWires}
use Rattle.rank_slots.specs.Lanes.{lanes_before}
use Rattle.rank_wiring.specs.Opening.{IsHanded}
use Rattle.rank_wiring.specs.Wiring.{bounds_of}
use Rattle.rank_wiring.proofs.Handing.{LaidBelow, load-first, load-laid, load-lanes, load-lines, mid_at, outs-chain, outs-stay}
use Rattle.rank_wiring.proofs.Handing.{start-handed}
use Rattle.rank_slots.proofs.Pairs.{within}
use Rattle.rank_wiring.proofs.open.hand_all.Goals as goal

pub loop-load-init : goal.loop-load-init
loop-load-init c = let none = c.in_ok-wires.ensures.items in record {
  len = search rules;
  rest = refl;
  lanes = ap (λ (l : List WireState). bounds_of l) none;
  handed = subst (λ (l : List WireState). IsHanded c.args.job.now l c.args.slots.now) (sym none)
      (start-handed c.args.job.now c.args.slots.now c.args.loads.items c.requires.count.0 c.requires.count.1 c.requires.fanned);
  count = refl;
  outs = outs-stay c.args.slots.now;
  laid = λ r x at low. absurd (omega (arith, low));
}

pub hand_load-requires-clause-lines : goal.hand_load-requires-clause-lines
hand_load-requires-clause-lines c =
    let i = c.loop-load.invariant in let job = c.args.job.now in let m = length c.loop-load.yielded in
    let step = c.in-Some.ensures.steps.0 in
    let all = sym (ap (λ (l : List OutWires). c.loop-load.yielded ++ l) step)
    ∙ (i.rest ∙ c.into_iter-load-iterator.ensures.into_iter_gives.0) in
    let there = ap (λ (l : List OutWires). get_elem? l m) (sym all)
    ∙ mid_at c.loop-load.yielded c.in-Some.load (into_iter_items c.next.new.self) in
    let below = within c.args.loads.items m c.in-Some.load there in
    let low : m < length c.args.slots.now = (let a = c.requires.count.0 in let b = c.requires.count.1 in omega (arith, below, a, b)) in
    load-lines job c.requires.sound c.args.slots.now c.args.loads.items c.requires.fanned c.requires.count.0 m c.in-Some.load there low
    c.loop-load.wires.items i.lanes

pub hand_load-requires-clause-lanes : goal.hand_load-requires-clause-lanes
hand_load-requires-clause-lanes c =
    let i = c.loop-load.invariant in let job = c.args.job.now in let m = length c.loop-load.yielded in
    let step = c.in-Some.ensures.steps.0 in
    let all = sym (ap (λ (l : List OutWires). c.loop-load.yielded ++ l) step)
    ∙ (i.rest ∙ c.into_iter-load-iterator.ensures.into_iter_gives.0) in
    let there = ap (λ (l : List OutWires). get_elem? l m) (sym all)
    ∙ mid_at c.loop-load.yielded c.in-Some.load (into_iter_items c.next.new.self) in
    let below = within c.args.loads.items m c.in-Some.load there in
    let low : m < length c.args.slots.now = (let a = c.requires.count.0 in let b = c.requires.count.1 in omega (arith, below, a, b)) in
    load-first job c.requires.sound c.args.slots.now c.args.loads.items c.requires.fanned c.requires.count.0 m c.in-Some.load there low
    c.loop-load.wires.items i.lanes

pub loop-load-preserved : goal.loop-load-preserved
loop-load-preserved c =
    let i = c.loop-load.invariant in let job = c.args.job.now in let m = length c.loop-load.yielded in let load = c.in-Some.load in
    let step = c.in-Some.ensures.steps.0 in let left = into_iter_items c.next.new.self in
    let all = sym (ap (λ (l : List OutWires). c.loop-load.yielded ++ l) step)
    ∙ (i.rest ∙ c.into_iter-load-iterator.ensures.into_iter_gives.0) in
    let there = ap (λ (l : List OutWires). get_elem? l m) (sym all) ∙ mid_at c.loop-load.yielded load left in
    let below = within c.args.loads.items m load there in
    let low : m < length c.args.slots.now = (let a = c.requires.count.0 in let b = c.requires.count.1 in omega (arith, below, a, b)) in
    let old = c.loop-load.wires.items in let new = c.hand_load.new.wires.items in let e = c.in_ok-hand_load.ensures in
    let many : suc m ≡ length (c.loop-load.yielded ++ load ∷ []) = (let k = length-append c.loop-load.yielded (load ∷ []) in
    omega (arith, k)) in
    let lanes = load-lanes job c.requires.sound c.args.slots.now c.args.loads.items c.requires.fanned c.requires.count.0 m load there low
    old i.lanes in
    let laid = load-laid job c.requires.sound c.args.slots.now c.args.loads.items c.requires.fanned c.requires.count.0 m load there low old
    i.lanes
    c.loop-load.slots c.hand_load.new.slots i.outs e.outs i.laid in record {
      len = (let gone = c.in-Some.ensures.steps.1 in let was = i.len in let short = ap (λ (l : List OutWires). length l) step in
          omega (arith, gone, was, short));
      rest = append_assoc c.loop-load.yielded (load ∷ []) left ∙ (ap (λ (l : List OutWires). c.loop-load.yielded ++ l) (sym step) ∙ i.rest);
      lanes = ap (λ (l : List WireState). bounds_of l) e.wires ∙ (lanes ∙ ap (λ k. lanes_before job.schedule.plan k) many);
      handed = e.handed;
      count = c.hand_load.ensures.count ∙ i.count;
      outs = outs-chain c.args.slots.now c.loop-load.slots c.hand_load.new.slots i.outs e.outs;
      laid = subst (λ k. LaidBelow k new c.hand_load.new.slots) many
          (subst (λ (l : List WireState). LaidBelow (suc m) l c.hand_load.new.slots) (sym e.wires) laid);
    }

pub returns-clause-wired : goal.returns-clause-wired
returns-clause-wired c =
    let i = c.loop-load.invariant in let job = c.args.job.now in let p = job.schedule.plan in
    let none = c.in-None.ensures.steps in let at = c.loop-load in
    let empty : into_iter_items at.load-iterator ≡ [] = nil_from_length _ (sym i.len ∙ none.0) in
    let all : at.yielded ≡ c.args.loads.items =
    sym (append-nil at.yielded) ∙ (ap (λ (l : List OutWires). at.yielded ++ l) (sym empty)
    ∙ (i.rest ∙ c.into_iter-load-iterator.ensures.into_iter_gives.0)) in
    let done : length at.yielded ≡ job.schedule.plan.ranks = ap (λ (l : List OutWires). length l) all ∙ c.requires.count.1 in
    record {
      count = i.handed.count;
      fresh = i.handed.fresh;
      wires_are = record { bounds_are = i.lanes ∙ ap (λ k. lanes_before p k) done; rooms = i.handed.rooms };
      laid = λ r x at. record {
        outs_are = i.laid r x at (let low = within c.loop-load.slots r x at in let k = i.handed.count in omega (arith, low, k, done));
        ins_are = i.handed.ins r x at;
      };
    }

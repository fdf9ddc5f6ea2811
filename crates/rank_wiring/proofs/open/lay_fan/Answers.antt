use Rattle.std.proofs.Common.{◌≡◌, ◌<◌, ◌+◌, ◌∙◌, ◌∷◌, ◌++◌, [], ℕ, suc, List, sym, ap, subst, map, take, length, length-append, arith}
use lib.ListN.{get_elem?}
use Rattle.pair_wires.specs.declared.bounds.Bounds.{Bounds}
use Rattle.pair_wires.specs.Wires.{WireState}
use Rattle.rank_wiring.specs.declared.open.WireEnd.{WireEnd}
use Rattle.rank_slots.specs.Joints.{Joint, joint, out_joint}
use Rattle.rank_slots.specs.Lanes.{IsLane, lanes_before, lanes_from}
use Rattle.rank_wiring.specs.Opening.{AreLines, HasNoOut, IsFresh, IsLine, wires_in}
use Rattle.rank_wiring.specs.Wiring.{bounds_of, joints_from}
use Rattle.rank_wiring.proofs.Fans.{from-rank, is-lane, next-at_most}
use Rattle.rank_wiring.proofs.Handing.{no-out}
use Rattle.rank_wiring.proofs.Lines.{joints-snoc, lines-snoc}
use Rattle.rank_slots.proofs.Pairs.{exists_at}
use Rattle.rank_wiring.proofs.Rows.{bound_of}
use Rattle.rank_slots.proofs.Snocs.{length_map, map_snoc, read, take_all, take_more}
use Rattle.rank_wiring.proofs.open.lay_fan.Goals as goal

abbrev wire_of : WireEnd → WireState
wire_of l = l.wire

pub loop-k-init : goal.loop-k-init
loop-k-init c = let none = c.in_ok-lines.ensures.items in let n = length (lanes_before c.args.job.now.schedule.plan c.args.rank) in
    record {
      count = ap (λ (l : List WireEnd). length l) none;
      fresh = c.requires.bare.fresh;
      ins = c.requires.bare.ins;
      outs = ap (map out_joint) c.requires.bare.outs ∙ ap (λ (l : List WireEnd). joints_from n (wires_in l)) (sym none);
      lines = subst (AreLines n) (sym none) tt;
      bounds_are = ap (λ (l : List WireEnd). bounds_of (wires_in l)) none;
    }

pub lay_line-requires-clause-lane : goal.lay_line-requires-clause-lane
lay_line-requires-clause-lane c =
    let job = c.args.job.now in let p = job.schedule.plan in let k = c.loop-k.k in let lanes = c.args.fan.now.lanes.items in
    let x = exists_at lanes k (omega arith) in
    let there = ap (λ (l : List Bounds). get_elem? l k) (sym c.requires.fan.lanes) ∙ x.1 in
    let low : c.args.rank < p.ranks = c.requires.rank in
    subst (IsLane p) (sym (c.index.ensures ∙ read lanes k x.0 _ x.1))
    (is-lane p (length job.inputs) c.requires.sound.plan c.args.rank low k x.0 there)

pub lay_line-requires-clause-fresh : goal.lay_line-requires-clause-fresh
lay_line-requires-clause-fresh c =
    let job = c.args.job.now in let p = job.schedule.plan in let k = c.loop-k.k in let lanes = c.args.fan.now.lanes.items in
    let x = exists_at lanes k (omega arith) in
    let there = ap (λ (l : List Bounds). get_elem? l k) (sym c.requires.fan.lanes) ∙ x.1 in
    let from : c.index.result.now.source ≡ c.args.rank =
    ap (λ (b : Bounds). b.source) (c.index.ensures ∙ read lanes k x.0 _ x.1) ∙ from-rank p c.args.rank k x.0 there in
    subst (λ (r : ℕ). IsFresh job r c.loop-k.slot) (sym from) c.loop-k.invariant.fresh

pub lay_line-requires-clause-apart : goal.lay_line-requires-clause-apart
lay_line-requires-clause-apart c =
    let i = c.loop-k.invariant in let job = c.args.job.now in let p = job.schedule.plan in let k = c.loop-k.k in
    let lanes = c.args.fan.now.lanes.items in
    let x = exists_at lanes k (omega arith) in
    let there = ap (λ (l : List Bounds). get_elem? l k) (sym c.requires.fan.lanes) ∙ x.1 in
    let low : c.args.rank < p.ranks = c.requires.rank in
    let wires = wires_in c.loop-k.lines.items in
    subst (λ (b : Bounds). HasNoOut b c.loop-k.slot.outs.items) (sym (c.index.ensures ∙ read lanes k x.0 _ x.1))
    (no-out p (length job.inputs) c.requires.sound.plan c.args.rank low (length (lanes_before p c.args.rank)) k wires i.bounds_are
    (length_map wire_of c.loop-k.lines.items ∙ i.count)
    x.0 there c.loop-k.slot i.outs)

-- few lanes come from the rank and those below it
pub overflow_cast-k : goal.overflow_cast-k
overflow_cast-k c =
    let job = c.args.job.now in let p = job.schedule.plan in
    let low : c.args.rank < p.ranks = c.requires.rank in
    let at_most = next-at_most p (length job.inputs) c.requires.sound.plan c.args.rank low in
    let many = ap (λ (l : List Bounds). length l) c.requires.fan.lanes in
    record { fits = omega (arith, at_most, many) }

pub overflow_add-fan : goal.overflow_add-fan
overflow_add-fan c =
    let job = c.args.job.now in let p = job.schedule.plan in
    let low : c.args.rank < p.ranks = c.requires.rank in
    let at_most = next-at_most p (length job.inputs) c.requires.sound.plan c.args.rank low in
    let many = ap (λ (l : List Bounds). length l) c.requires.fan.lanes in let first = c.requires.fan.first in
    omega (arith, at_most, many, first)

pub loop-k-preserved : goal.loop-k-preserved
loop-k-preserved c =
    let i = c.loop-k.invariant in let job = c.args.job.now in let p = job.schedule.plan in let k = c.loop-k.k in
    let lanes = c.args.fan.now.lanes.items in
    let n = length (lanes_before p c.args.rank) in let lines = c.loop-k.lines.items in let ws = wires_in lines in
    let x = exists_at lanes k (omega arith) in
    let there = ap (λ (l : List Bounds). get_elem? l k) (sym c.requires.fan.lanes) ∙ x.1 in
    let is : c.index.result.now ≡ x.0 = c.index.ensures ∙ read lanes k x.0 _ x.1 in
    let from : c.index.result.now.source ≡ c.args.rank = ap (λ (b : Bounds). b.source) is ∙ from-rank p c.args.rank k x.0 there in
    let l = c.in_ok-line.line in let e = c.in_ok-line.ensures in let pushed = c.in_ok-push.ensures.items in
    let many = length_map wire_of lines in let count = i.count in let first = c.requires.fan.first in
    let number : c.args.fan.now.first + k ≡ n + length lines = omega (arith, count, first) in
    let place : c.args.fan.now.first + k ≡ n + length ws = omega (arith, count, first, many) in
    let next : suc k ≡ k + 1 = omega arith in record {
      count = (let a = ap (λ (v : List WireEnd). length v) pushed in let b = length-append lines (l ∷ []) in omega (arith, a, b, count));
      fresh = subst (λ (r : ℕ). IsFresh job r c.lay_line.new.slot) from c.lay_line.ensures.fresh;
      ins = c.lay_line.ensures.ins ∙ i.ins;
      outs = e.out ∙ (ap (λ (js : List Joint). js ++ joint (c.args.fan.now.first + k) l.wire ∷ []) i.outs
          ∙ (ap (λ m. joints_from n ws ++ joint m l.wire ∷ []) place
          ∙ (sym (joints-snoc n ws l.wire)
          ∙ (ap (joints_from n) (sym (map_snoc wire_of lines l)) ∙ ap (λ (v : List WireEnd). joints_from n (wires_in v)) (sym pushed)))));
      lines = subst (AreLines n) (sym pushed) (lines-snoc n lines l i.lines (subst (λ m. IsLine m l) number e.line.0));
      bounds_are = ap (λ (v : List WireEnd). bounds_of (wires_in v)) pushed
          ∙ (ap (map bound_of) (map_snoc wire_of lines l) ∙ (map_snoc bound_of ws l.wire
          ∙ (ap (λ (v : List Bounds). v ++ l.wire.bounds ∷ []) i.bounds_are
          ∙ (ap (λ (b : Bounds). take k (lanes_from p c.args.rank) ++ b ∷ []) (e.line.1 ∙ is)
          ∙ (sym (take_more (lanes_from p c.args.rank) k x.0 there) ∙ ap (λ m. take m (lanes_from p c.args.rank)) next)))));
    }

pub returns : goal.returns
returns c =
    let i = c.loop-k.invariant in let p = c.args.job.now.schedule.plan in let lanes = lanes_from p c.args.rank in
    let many = ap (λ (l : List Bounds). length l) c.requires.fan.lanes in
    let all : c.loop-k.k ≡ length lanes = omega (arith, many) in record {
      fresh = i.fresh;
      ins = i.ins;
      outs = i.outs;
      lines = i.lines;
      bounds_are = i.bounds_are ∙ (ap (λ m. take m lanes) all ∙ take_all lanes);
    }

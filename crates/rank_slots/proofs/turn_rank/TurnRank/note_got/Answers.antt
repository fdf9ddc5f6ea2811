use Rattle.std.proofs.Common.{◌∙◌, length, ap, refl, sym, arith}
use lib.ListN.{get_elem?}
use Rattle.rest_probe.specs.declared.notes.RankNote.{RankNote}
use Rattle.rest_probe.specs.declared.notes.ProbeNote.{ProbeNote}
use Rattle.rest_probe.specs.Waves.{with_got}
use Rattle.rest_probe.proofs.Kept.{as-many}
use Rattle.rank_slots.specs.Names.{history}
use Rattle.rank_slots.specs.Probes.{CountsGot, HasIn}
use Rattle.rank_slots.proofs.Pairs.{exists_at, same_at}
use Rattle.rank_slots.proofs.Counting.{all-sofar, more-sofar, none-sofar, same-lanes, set-is, set-long}
use Rattle.rank_slots.proofs.turn_rank.TurnRank.note_got.Goals as goal

pub loop-i-init : goal.loop-i-init
loop-i-init c = λ x at. let s = c.args.self.now in none-sofar with_got (CountsGot (history s)) x.note.got c.args.rank x c.args.wave.now at
    refl

pub note-requires-in-loop-i-clause-rank : goal.note-requires-in-loop-i-clause-rank
note-requires-in-loop-i-clause-rank c = let w = c.args.wave.now in let r = c.args.rank in let y = exists_at w r c.requires.rank in
    let h = c.loop-i.invariant y.0 y.1 in let n = set-long w c.loop-i.wave r (with_got y.0 h.counts) h.wave in let low =
    c.requires.rank in omega (arith, n, low)

pub note-requires-in-loop-i-clause-there : goal.note-requires-in-loop-i-clause-there
note-requires-in-loop-i-clause-there c = λ z at. let w = c.args.wave.now in let r = c.args.rank in let y = exists_at w r c.requires.rank in
    let h = c.loop-i.invariant y.0 y.1 in let here = set-is w c.loop-i.wave r (with_got y.0 h.counts) c.requires.rank h.wave in
    ap (λ (v : RankNote). v.there) (sym (same_at c.loop-i.wave r (with_got y.0 h.counts) z here at)) ∙ c.requires.there y.0 y.1

pub at-lane-requires : goal.at-lane-requires
at-lane-requires c = let w = c.args.wave.now in let r = c.args.rank in let y = exists_at w r c.requires.rank in
    let h = c.loop-i.invariant y.0 y.1 in let here = set-is w c.loop-i.wave r (with_got y.0 h.counts) c.requires.rank h.wave in
    let many = as-many y.0.note.got h.counts h.lanes in let note =
    ap (λ (v : ProbeNote). length v.got)
    (c.note-in-loop-i.ensures (with_got y.0 h.counts) here) in
    let first = ap (λ (v : ProbeNote). length v.got) (c.note.ensures y.0 y.1) in let count = c.len-count.ensures in let t =
    c.loop-i-test.true in
    omega (arith, many, note, first, count, t)

pub got_on-number-requires : goal.got_on-number-requires
got_on-number-requires c = let s = c.args.self.now in let w = c.args.wave.now in let r = c.args.rank in let y =
    exists_at w r c.requires.rank in
    let h = c.loop-i.invariant y.0 y.1 in let here = set-is w c.loop-i.wave r (with_got y.0 h.counts) c.requires.rank h.wave in
    let there = ap (λ (v : ProbeNote). get_elem? v.got c.loop-i.i) (sym (c.note-in-loop-i.ensures (with_got y.0 h.counts) here))
    ∙ c.at-lane.ensures in
    same-lanes (HasIn s) y.0.note.got h.counts h.lanes (λ i k. c.requires.ends y.0 i k y.1) c.loop-i.i c.at-lane.result there

pub set_got-requires-clause-rank : goal.set_got-requires-clause-rank
set_got-requires-clause-rank c = let w = c.args.wave.now in let r = c.args.rank in let y = exists_at w r c.requires.rank in
    let h = c.loop-i.invariant y.0 y.1 in let n = set-long w c.loop-i.wave r (with_got y.0 h.counts) h.wave in let low =
    c.requires.rank in omega (arith, n, low)

pub set_got-requires-clause-there : goal.set_got-requires-clause-there
set_got-requires-clause-there c = λ z at. let w = c.args.wave.now in let r = c.args.rank in let y = exists_at w r c.requires.rank in
    let h = c.loop-i.invariant y.0 y.1 in let here = set-is w c.loop-i.wave r (with_got y.0 h.counts) c.requires.rank h.wave in
    ap (λ (v : RankNote). v.there) (sym (same_at c.loop-i.wave r (with_got y.0 h.counts) z here at)) ∙ c.requires.there y.0 y.1

pub set_got-requires-clause-lane : goal.set_got-requires-clause-lane
set_got-requires-clause-lane c = λ z at. let w = c.args.wave.now in let r = c.args.rank in let y = exists_at w r c.requires.rank in
    let h = c.loop-i.invariant y.0 y.1 in let here = set-is w c.loop-i.wave r (with_got y.0 h.counts) c.requires.rank h.wave in
    let one = ap (λ (v : RankNote). length v.note.got) (same_at c.loop-i.wave r (with_got y.0 h.counts) z here at) in
    let many = as-many y.0.note.got h.counts h.lanes in
    let first = ap (λ (v : ProbeNote). length v.got) (c.note.ensures y.0 y.1) in let count = c.len-count.ensures in let t =
    c.loop-i-test.true in
    omega (arith, one, many, first, count, t)

pub loop-i-preserved : goal.loop-i-preserved
loop-i-preserved c = λ x at. let s = c.args.self.now in let w = c.args.wave.now in let r = c.args.rank in
    let h = c.loop-i.invariant x at in let here = set-is w c.loop-i.wave r (with_got x h.counts) c.requires.rank h.wave in
    let there = ap (λ (v : ProbeNote). get_elem? v.got c.loop-i.i) (sym (c.note-in-loop-i.ensures (with_got x h.counts) here))
    ∙ c.at-lane.ensures in
    more-sofar with_got (CountsGot (history s)) x.note.got c.loop-i.i r x w c.loop-i.wave c.set_got.new.self h c.at-lane.result
    c.got_on-number.result there c.got_on-number.ensures
    (c.set_got.ensures (with_got x h.counts) c.at-lane.result here there)

pub returns : goal.returns
returns c = λ x at. let s = c.args.self.now in let w = c.args.wave.now in let r = c.args.rank in
    let first = ap (λ (v : ProbeNote). length v.got) (c.note.ensures x at) in let count = c.len-count.ensures in let t =
    c.loop-i-test.false in let e = c.loop-i.auto.i-end in
    all-sofar with_got (CountsGot (history s)) x.note.got c.loop-i.i r x w c.loop-i.wave (omega (arith, first, count, t, e))
    (c.loop-i.invariant x at)

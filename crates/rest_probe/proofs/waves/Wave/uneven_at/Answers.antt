use Rattle.std.proofs.Common.{◌≡◌, ◌<◌, ◌∙◌, inl, inr, ℕ, List, length, ap, refl, sym, subst, arith}
use lib.ListN.{get_elem?}
use Rattle.atomic_table.proofs.Lists.{at_index}
use Rattle.rest_probe.specs.declared.notes.LaneCount.{LaneCount}
use Rattle.rest_probe.specs.declared.notes.RankNote.{RankNote}
use Rattle.rest_probe.specs.Counted.{Tells, TellsNone}
use Rattle.rest_probe.proofs.Elements.{same-at, within}
use Rattle.rest_probe.proofs.waves.Wave.uneven_at.Goals as goal

pub at-count-requires : goal.at-count-requires
at-count-requires c = let is = c.self.view_is in let m = c.index.result.now in
    c.requires.lane m (ap (λ (l : List RankNote). get_elem? l c.args.s) (sym is)
    ∙ at_index c.self.inside.ranks.items c.args.s m (subst (λ (l : List RankNote). c.args.s < length l) (sym is) c.requires.rank)
    c.index.ensures)

pub returns-then-count-len-clause-none : goal.returns-then-count-len-clause-none
returns-then-count-len-clause-none c = λ x y k there at other. let is = c.self.view_is in let m = c.index.result.now in
    let here = ap (λ (l : List RankNote). get_elem? l c.args.s) (sym is)
    ∙ at_index c.self.inside.ranks.items c.args.s m (subst (λ (l : List RankNote). c.args.s < length l) (sym is) c.requires.rank)
    c.index.ensures in
    let one = ap (λ (z : RankNote). get_elem? z.note.sent c.args.at) (same-at c.args.self.now c.args.s m x here there) in
    let same = ap (λ (z : LaneCount). z.rank) (same-at m.note.sent c.args.at c.at-count.result k c.at-count.ensures (one ∙ at)) in
    let w = within c.args.self.now k.rank y other in let e = ap (λ (l : List RankNote). length l) is in let t = c.if-count-len.true in
    let n = c.len.ensures in
    absurd (omega (arith, same, w, e, t, n))

pub returns-in_default-clause-none : goal.returns-in_default-clause-none
returns-in_default-clause-none c = λ x y k there at other. let is = c.self.view_is in let m = c.index.result.now in let target =
    c.index-target.result.now in
    let here = ap (λ (l : List RankNote). get_elem? l c.args.s) (sym is)
    ∙ at_index c.self.inside.ranks.items c.args.s m (subst (λ (l : List RankNote). c.args.s < length l) (sym is) c.requires.rank)
    c.index.ensures in
    let one = ap (λ (z : RankNote). get_elem? z.note.sent c.args.at) (same-at c.args.self.now c.args.s m x here there) in
    let same = same-at m.note.sent c.args.at c.at-count.result k c.at-count.ensures (one ∙ at) in
    let to = ap (λ (l : List RankNote). get_elem? l c.at-count.result.rank) (sym is)
    ∙ at_index c.self.inside.ranks.items c.at-count.result.rank target (let t = c.if-count-len.false in let n = c.len.ensures in
    omega (arith, t, n)) c.index-target.ensures in
    let both = same-at c.args.self.now c.at-count.result.rank target y to (ap (λ (z : LaneCount). get_elem? c.args.self.now z.rank) same
    ∙ other) in
    inr (subst (λ (z : RankNote × LaneCount). TellsNone z.0.note.got c.args.s z.1.lane) (λ i. (both i, same i)) (c.in_default.ensures).none)

pub returns-then-got-count-clause-none : goal.returns-then-got-count-clause-none
returns-then-got-count-clause-none c = λ x y k there at other. let is = c.self.view_is in let m = c.index.result.now in let target =
    c.index-target.result.now in
    let here = ap (λ (l : List RankNote). get_elem? l c.args.s) (sym is)
    ∙ at_index c.self.inside.ranks.items c.args.s m (subst (λ (l : List RankNote). c.args.s < length l) (sym is) c.requires.rank)
    c.index.ensures in
    let one = ap (λ (z : RankNote). get_elem? z.note.sent c.args.at) (same-at c.args.self.now c.args.s m x here there) in
    let same = same-at m.note.sent c.args.at c.at-count.result k c.at-count.ensures (one ∙ at) in
    let to = ap (λ (l : List RankNote). get_elem? l c.at-count.result.rank) (sym is)
    ∙ at_index c.self.inside.ranks.items c.at-count.result.rank target (let t = c.if-count-len.false in let n = c.len.ensures in
    omega (arith, t, n)) c.index-target.ensures in
    let both = same-at c.args.self.now c.at-count.result.rank target y to (ap (λ (z : LaneCount). get_elem? c.args.self.now z.rank) same
    ∙ other) in
    let number : c.in-Some.got ≡ k.number = c.if-got-count.true ∙ ap (λ (z : LaneCount). z.number) same in
    inl (subst (λ (z : ℕ × (RankNote × LaneCount)). Tells z.1.0.note.got c.args.s z.1.1.lane z.0) (λ i. (number i, (both i, same i)))
    (c.in-Some.ensures).some)

pub returns-clause-some : goal.returns-clause-some
returns-clause-some c = let is = c.self.view_is in let m = c.index.result.now in let target = c.index-target.result.now in (
  refl,
  record {
    source = m;
    source_is = ap (λ (l : List RankNote). get_elem? l c.args.s) (sym is)
        ∙ at_index c.self.inside.ranks.items c.args.s m (subst (λ (l : List RankNote). c.args.s < length l) (sym is) c.requires.rank)
        c.index.ensures;
    there = c.at-count.ensures;
    target = target;
    target_is = ap (λ (l : List RankNote). get_elem? l c.at-count.result.rank) (sym is)
        ∙ at_index c.self.inside.ranks.items c.at-count.result.rank target (let t = c.if-count-len.false in let n = c.len.ensures in
        omega (arith, t, n)) c.index-target.ensures;
    got_is = (c.in-Some.ensures).some;
    apart = λ e. c.if-got-count.false (sym e);
  },
)

use Rattle.std.proofs.Common.{◌/◌, ◌%◌, set, ap, ◌∙◌, arith, cond}
use Rattle.std.proofs.lemmas.List.{get_or_default}
use Rattle.triggered_ops.specs.marks.Bits.{bits}
use Rattle.triggered_ops.proofs.marks.Words.{word-within, place-set, length-counts, counts-set}
use Rattle.triggered_ops.proofs.marks.Marks.mark.Goals as goal

pub index-requires : goal.index-requires
index-requires c = let w = word-within c.self.inside.words.items c.args.self.now c.args.place c.self.view_is c.requires in
    omega (arith, w, c.self.inside.words.ok.0)

pub index_mut-requires : goal.index_mut-requires
index_mut-requires c = let w = word-within c.self.inside.words.items c.args.self.now c.args.place c.self.view_is c.requires in
    omega (arith, w, c.self.inside.words.ok.0)

pub set-requires : goal.set-requires
set-requires c =
    let w = word-within c.self.inside.words.items c.args.self.now c.args.place c.self.view_is c.requires in
    omega (arith, w, length-counts c.self.inside.words.items c.self.inside.counts c.self.invariant)

pub invariant_of-self : goal.invariant_of-self
invariant_of-self c = rw c.set.ensures (counts-set c.self.inside.words.items c.self.inside.counts (c.args.place / 64)
    c.put_bit-next.result c.count_of.result c.self.invariant c.count_of.ensures)

pub returns : goal.returns
returns c =
    let w = word-within c.self.inside.words.items c.args.self.now c.args.place c.self.view_is c.requires in
    let is = c.index.ensures ∙ get_or_default c.self.inside.words.items (c.args.place / 64) c.index.result.now 0 w in
    place-set c.self.inside.words.items c.args.self.now c.args.place c.self.view_is c.requires c.put_bit-next.result (cond c.args.on 1 0)
    (c.put_bit-next.ensures ∙ ap (λ v. set (bits 64 v) (c.args.place % 64) (cond c.args.on 1 0)) is)

use Rattle.std.proofs.Common.{◌≡◌, ◌<◌, ◌+◌, ◌*◌, List, ℕ, length, take, get_or, sum, sym, ap, subst, ◌∙◌, arith}
use Rattle.std.proofs.lemmas.List.{get_or_default, get_or-map}
use Rattle.triggered_ops.specs.marks.Bits.{bits}
use Rattle.triggered_ops.proofs.marks.Words.{length-counts, sum-counts, place-found}
use Rattle.triggered_ops.proofs.marks.Marks.find.Goals as goal

pub find-word-requires : goal.find-word-requires
find-word-requires c = let e = sum-counts c.self.inside.words.items c.self.inside.counts c.args.self.now c.self.invariant c.self.view_is
    in subst (λ n. c.args.i < n) (sym e) c.requires

within : (words counts : List ℕ) (k : ℕ) → length counts ≡ length words → k < length counts → k < length words
within words counts k e lt = omega (arith, e, lt)

pub index-requires : goal.index-requires
index-requires c =
    let w = within c.self.inside.words.items c.self.inside.counts c.find-word.result.0 (length-counts _ _ c.self.invariant)
    c.find-word.ensures.place in
    omega (arith, w, c.self.inside.words.ok.0)

pub bit_at-requires : goal.bit_at-requires
bit_at-requires c =
    let w = within c.self.inside.words.items c.self.inside.counts c.find-word.result.0 (length-counts _ _ c.self.invariant)
    c.find-word.ensures.place in
    let is = c.index.ensures ∙ get_or_default c.self.inside.words.items c.find-word.result.0 c.index.result.now 0 w in
    let counts : get_or c.self.inside.counts c.find-word.result.0 0 ≡ sum
    (bits 64 (get_or c.self.inside.words.items c.find-word.result.0 0)) =
    ap (λ cs. get_or cs c.find-word.result.0 0) c.self.invariant.counted ∙ get_or-map (λ v. sum (bits 64 v)) c.self.inside.words.items
    c.find-word.result.0 0 0 w in
    subst (λ n. c.find-word.result.1 < n) (counts ∙ ap (λ v. sum (bits 64 v)) (sym is)) c.find-word.ensures.within

pub overflow_mul-result : goal.overflow_mul-result
overflow_mul-result c =
    let w = within c.self.inside.words.items c.self.inside.counts c.find-word.result.0 (length-counts _ _ c.self.invariant)
    c.find-word.ensures.place in
    omega (arith, w, c.self.invariant.at_most)

pub overflow_add-result : goal.overflow_add-result
overflow_add-result c =
    let w = within c.self.inside.words.items c.self.inside.counts c.find-word.result.0 (length-counts _ _ c.self.invariant)
    c.find-word.ensures.place in
    omega (arith, w, c.self.invariant.at_most, c.bit_at.ensures.within)

all : (c : goal.After-bit_at) → (c.find-word.result.0 * 64 + c.bit_at.result < length c.args.self.now) ×
    (sum (take (c.find-word.result.0 * 64 + c.bit_at.result) c.args.self.now) ≡ c.args.i) ×
    (get_or c.args.self.now (c.find-word.result.0 * 64 + c.bit_at.result) 0 ≡ 1)
all c =
    let k = c.find-word.result.0 in
    let words = c.self.inside.words.items in
    let w = within words c.self.inside.counts k (length-counts _ _ c.self.invariant) c.find-word.ensures.place in
    let is : c.index.result.now ≡ get_or words k 0 = c.index.ensures ∙ get_or_default words k c.index.result.now 0 w in
    place-found words c.args.self.now k c.bit_at.result c.find-word.result.1 c.args.i c.self.view_is w c.bit_at.ensures.within
    (subst (λ cs. sum (take k cs) + c.find-word.result.1 ≡ c.args.i) c.self.invariant.counted c.find-word.ensures.before)
    (ap (λ v. sum (take c.bit_at.result (bits 64 v))) (sym is) ∙ c.bit_at.ensures.before)
    (ap (λ v. get_or (bits 64 v) c.bit_at.result 0) (sym is) ∙ c.bit_at.ensures.here)

pub returns-clause-within : goal.returns-clause-within
returns-clause-within c = (all c).0

pub returns-clause-before : goal.returns-clause-before
returns-clause-before c = (all c).1

pub returns-clause-here : goal.returns-clause-here
returns-clause-here c = (all c).2

use Rattle.std.proofs.Common.{ℕ, ◌≡◌, ◌≤◌, ◌<◌, ◌+◌, List, length, get_or, drop, ap, sym, ◌∙◌}
use Rattle.std.proofs.lemmas.List.{drop_all, drop_more}
use Rattle.plan_words.specs.declared.takes.Takes.{Takes}
use Rattle.plan_words.specs.Limits.{larger, most_of, nothing}
use Rattle.plan_words.proofs.limits.most_of.Goals as goal

next : (most : Takes) (ts : List Takes) (i : ℕ) → i < length ts
    → most_of most (drop i ts) ≡ most_of (larger most (get_or ts i nothing)) (drop (i + 1) ts)
unfolding most_of
next most ts i low = ap (most_of most) (drop_more ts i nothing low)

none : (most : Takes) (ts : List Takes) (i : ℕ) → length ts ≤ i → most_of most (drop i ts) ≡ most
unfolding most_of
none most ts i past = ap (most_of most) (drop_all i ts past)

pub loop-i-init : goal.loop-i-init
loop-i-init c = ap (λ m. most_of m c.args.takes.now) c.nothing-most.ensures

pub loop-i-preserved : goal.loop-i-preserved
loop-i-preserved c =
    ap (λ m. most_of m (drop (c.loop-i.i + 1) c.args.takes.now)) c.larger-most.ensures
    ∙ (sym (next c.loop-i.most c.args.takes.now c.loop-i.i c.loop-i-test.true) ∙ c.loop-i.invariant)

pub returns : goal.returns
returns c = sym (none c.loop-i.most c.args.takes.now c.loop-i.i c.loop-i-test.false) ∙ c.loop-i.invariant

-- One round more in each turn.
use Rattle.std.proofs.Common.{ℕ, suc, ap, arith, [], ◌∷◌, ◌+◌, ◌-◌, ◌^◌, ◌≡◌, ◌∙◌, sum_by}
use Rattle.std.proofs.lemmas.List.Sums.{sum_by-append, sum_by-cons}
use Rattle.plan_core.specs.Plan.{from_to}
use Rattle.plan_core.proofs.Drawing.{from_to-more}
use Rattle.plan_steps.proofs.round_links.Goals as goal

sum-more : (f : ℕ → ℕ) (k : ℕ) → sum_by f (from_to 0 (k + 1)) ≡ sum_by f (from_to 0 k) + f k
sum-more f k =
    ap (λ v. sum_by f (from_to 0 v)) (let e : k + 1 ≡ suc k = omega arith in e)
    ∙ ap (sum_by f) (from_to-more 0 k)
    ∙ sum_by-append f (from_to 0 k) ((0 + k) ∷ [])
    ∙ ap (λ v. sum_by f (from_to 0 k) + v) (sum_by-cons f (0 + k) [] ∙ ap (λ v. f v + 0) (let e : 0 + k ≡ k = omega arith in e)
    ∙ (let e : f k + 0 ≡ f k = omega arith in e))

pub loop-k-preserved : goal.loop-k-preserved
loop-k-preserved c =
    let v = c.loop-k.invariant.value in
    let w = c.loop-k.invariant.at_most in
    let a = c.from.ensures in
    let b = c.from-in-loop-k.ensures in
    let d = c.saturating_sub.ensures in
    let e = ap (λ x. c.args.m - x) c.pow.ensures in
    let s = sum-more (λ k. c.args.m + (c.args.m - 2 ^ k)) c.loop-k.k in
    let r = c.requires in
    record { value = omega (arith, v, a, b, d, e, s); at_most = omega (arith, w, a, b, d, r) }

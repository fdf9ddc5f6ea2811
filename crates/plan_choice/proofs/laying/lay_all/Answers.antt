-- Two lanes more in each turn.
use Rattle.std.proofs.Common.{ℕ, ◌+◌, ◌*◌, ◌<◌, ◌≡◌, ◌∙◌, List, [], ◌∷◌, ◌++◌, ap, length, subst, sym, arith}
use Rattle.pair_wires.specs.Lanes.{Plain, plain}
use Rattle.worlds.proofs.Opened.{IsLaid, all-laid, at_most-pairs, one-pair, two-more}
use Rattle.plan_choice.specs.Laying.{laid_lane}
use Rattle.plan_choice.proofs.laying.lay_all.Goals as goal

pub overflow_mul-pairs : goal.overflow_mul-pairs
overflow_mul-pairs c = let q = at_most-pairs c.args.ranks c.requires in omega (arith, q)

pub loop-pair-preserved : goal.loop-pair-preserved
loop-pair-preserved c =
    let f = laid_lane c.args.steps in
    let n = c.args.ranks in
    let i = c.loop-pair.pair in
    let lanes = c.loop-pair.lanes.items in
    let before = c.loop-pair.invariant in
    let a = c.in_ok-request.request in
    let b = c.in_ok-answer.answer in
    let news = c.in_ok-push-2.ensures.items ∙ ap (λ v. v ++ b ∷ []) c.in_ok-push.ensures.items in
    record {
      size = ap length news ∙ two-more lanes a b i before.size;
      laid = subst (λ (v : List Plain). (k : ℕ) → k < i + 1 → IsLaid f n v (plain [] 0) k) (sym news)
          (one-pair f n lanes (plain [] 0) a b i before.size before.laid
          (c.in_ok-request.ensures ∙ ap (plain []) c.room_for-requests.ensures) (c.in_ok-answer.ensures
          ∙ ap (plain []) c.room_for-answers.ensures));
    }

pub returns : goal.returns
returns c =
    let n = c.args.ranks in
    let t = c.loop-pair-test.false in
    let u = c.loop-pair.auto.pair-end in
    let last : c.loop-pair.pair ≡ n * n = omega (arith, t, u) in
    record {
      size = c.loop-pair.invariant.size ∙ ap (λ m. 2 * m) last;
      laid = all-laid (laid_lane c.args.steps) n c.loop-pair.lanes.items (plain [] 0)
          (λ k h. c.loop-pair.invariant.laid k (subst (λ m. k < m) (sym last) h));
    }

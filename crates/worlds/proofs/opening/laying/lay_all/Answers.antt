-- Two lanes more in each turn.
use Rattle.std.proofs.Common.{ℕ, zero, suc, ◌+◌, ◌*◌, ◌/◌, ◌%◌, ◌<◌, ◌≡◌, ◌∙◌, List, [], ◌∷◌, ◌++◌, ap, length, subst, sym, arith}
use Rattle.std.proofs.lemmas.Nat.{div_below, mod_below}
use Rattle.ptl_types.specs.declared.headers.Lane.TheVariants.{Request, Answer}
use Rattle.pair_wires.specs.Lanes.{Plain, plain}
use Rattle.worlds.specs.opening.Laying.{laid_lane}
use Rattle.worlds.proofs.opening.Laid.{IsLaid, all-laid, at_most-pairs, one-pair, two-more}
use Rattle.worlds.proofs.opening.laying.lay_all.Goals as goal

pub overflow_mul-pairs : goal.overflow_mul-pairs
overflow_mul-pairs c =
    let q = at_most-pairs c.ranks-ranks.result c.ranks-ranks.ensures.at_most in
    omega (arith, q)

-- both ranks of a pair are ranks
some_rank : (n i : ℕ) → i < n * n → 0 < n
some_rank zero i h = absurd (omega (arith, h))
some_rank (suc n) i h = omega arith

ranks_of : (n m i : ℕ) → n ≡ m → i < n * n → (i / n < m) × (i % n < m)
ranks_of n m i e h =
    let some = some_rank n i h in
    (subst (λ k. i / n < k) e (div_below i n n some h), subst (λ k. i % n < k) e (mod_below i n some))

pub open_lane-requires : goal.open_lane-requires
open_lane-requires c =
    let e = c.ranks-ranks.ensures.value in
    let q = ranks_of c.ranks-ranks.result c.args.schedule.now.plan.ranks c.loop-pair.pair e c.loop-pair-test.true in
    record { source = q.0; target = q.1; at_most = c.requires }

pub open_lane-requires-in-loop-pair : goal.open_lane-requires-in-loop-pair
open_lane-requires-in-loop-pair c =
    let e = c.ranks-ranks.ensures.value in
    let q = ranks_of c.ranks-ranks.result c.args.schedule.now.plan.ranks c.loop-pair.pair e c.loop-pair-test.true in
    record { source = q.0; target = q.1; at_most = c.requires }

pub loop-pair-preserved : goal.loop-pair-preserved
loop-pair-preserved c =
    let o = c.args.schedule.now in
    let p = o.plan in
    let f = laid_lane p c.args.room in
    let n = c.ranks-ranks.result in
    let e : n ≡ o.plan.ranks = c.ranks-ranks.ensures.value in
    let i = c.loop-pair.pair in
    let lanes = c.loop-pair.lanes.items in
    let before = c.loop-pair.invariant in
    let a = c.in_ok-request.request in
    let b = c.in_ok-answer.answer in
    let news = c.in_ok-push-2.ensures.items ∙ ap (λ v. v ++ b ∷ []) c.in_ok-push.ensures.items in
    let ea : a ≡ laid_lane p c.args.room (i / o.plan.ranks) (i % o.plan.ranks) Request = c.in_ok-request.ensures
    ∙ ap (λ m. laid_lane p c.args.room (i / m) (i % m) Request) e in
    let eb : b ≡ laid_lane p c.args.room (i / o.plan.ranks) (i % o.plan.ranks) Answer = c.in_ok-answer.ensures
    ∙ ap (λ m. laid_lane p c.args.room (i / m) (i % m) Answer) e in
    record {
      size = ap length news ∙ two-more lanes a b i before.size;
      laid = subst (λ (v : List Plain). (k : ℕ) → k < i + 1 → IsLaid f o.plan.ranks v (plain [] 0) k) (sym news)
          (one-pair f o.plan.ranks lanes (plain [] 0) a b i before.size before.laid ea eb);
    }

pub returns : goal.returns
returns c =
    let o = c.args.schedule.now in
    let n = c.ranks-ranks.result in
    let e : n ≡ o.plan.ranks = c.ranks-ranks.ensures.value in
    let i = c.loop-pair.pair in
    let t = c.loop-pair-test.false in
    let u = c.loop-pair.auto.pair-end in
    let all : i ≡ n * n = omega (arith, t, u) in
    let last : i ≡ o.plan.ranks * o.plan.ranks = all ∙ ap (λ m. m * m) e in
    record {
      size = c.loop-pair.invariant.size ∙ ap (λ m. 2 * m) last;
      laid = all-laid (laid_lane o.plan c.args.room) o.plan.ranks c.loop-pair.lanes.items (plain [] 0)
          (λ k h. c.loop-pair.invariant.laid k (subst (λ m. k < m) (sym last) h));
    }

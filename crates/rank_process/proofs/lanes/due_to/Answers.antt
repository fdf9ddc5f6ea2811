-- Each lane has fewer than 2^27 messages; one rank more in each turn.
use Rattle.std.proofs.Common.{◌<◌, ◌+◌, ◌^◌, ◌++◌, ◌∷◌, [], List, ℕ, arith, length, subst, sym}
use Rattle.ptl_types.specs.declared.headers.Lane.TheVariants.{Request, Answer}
use Rattle.rank_process.proofs.Sums.{Summed, at_most-lane, summed-more}
use Rattle.rank_process.proofs.lanes.due_to.Goals as goal

pub overflow_add-messages : goal.overflow_add-messages
overflow_add-messages c =
    let p = c.args.schedule.now.plan in
    let h = c.recall_schedule.ensures.at_most in
    let a = at_most-lane p c.loop-source.source c.args.me Request in
    let b = at_most-lane p c.loop-source.source c.args.me Answer in
    let x = c.lane-asked.ensures in
    let y = c.lane-answered.ensures in
    omega (arith, h, a, b, x, y)

pub overflow_add-messages-in-loop-source : goal.overflow_add-messages-in-loop-source
overflow_add-messages-in-loop-source c =
    let p = c.args.schedule.now.plan in
    let h = c.recall_schedule.ensures.at_most in
    let a = at_most-lane p c.loop-source.source c.args.me Request in
    let b = at_most-lane p c.loop-source.source c.args.me Answer in
    let x = c.lane-asked.ensures in
    let y = c.lane-answered.ensures in
    let few = c.loop-source.invariant.few in
    let t = c.loop-source-test.true in
    let u = c.loop-source.auto.source-end in
    let most = c.ranks-ranks.ensures.at_most in
    omega (arith, h, a, b, x, y, few, t, u, most)

pub loop-source-preserved : goal.loop-source-preserved
loop-source-preserved c =
    let p = c.args.schedule.now.plan in
    let me = c.args.me in
    let k = c.loop-source.source in
    let x = c.lane-asked.result in
    let y = c.lane-answered.result in
    let xs = c.loop-source.requests.items in
    let ys = c.loop-source.answers.items in
    let n = c.loop-source.messages in
    let h = c.recall_schedule.ensures.at_most in
    let small : length p.links < 2 ^ 27 = omega (arith, h) in
    let more = summed-more p me k x y xs ys n small c.loop-source.invariant c.lane-asked.ensures c.lane-answered.ensures in
    subst (λ (l : List ℕ). Summed p me (k + 1) l c.push-in-loop-source.new.self.items (n + (x + y))) (sym c.in_ok-push.ensures.items)
    (subst (λ (l : List ℕ). Summed p me (k + 1) (xs ++ x ∷ []) l (n + (x + y))) (sym c.in_ok-push-2.ensures.items) more)

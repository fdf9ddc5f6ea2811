use Rattle.std.proofs.Common.{ℕ, ◌<◌, ◌≡◌, [], subst, arith}
use Rattle.std.proofs.lemmas.List.{nil_from_length}
use Rattle.plan_core.specs.Members.{In}
use Rattle.worlds.proofs.Stepping.{later_on, same_world}
use Rattle.order_check.specs.Listing.{lists_of}
use Rattle.order_check.specs.Work.{IsWork}
use Rattle.order_check.proofs.Looking.{first_work}
use Rattle.order_check.proofs.taking.take_all.Goals as goal

pub loop-r-init : goal.loop-r-init
loop-r-init c =
    let w = c.args.world.now in
    let queue = c.in_ok-queue.queue.items in
    let count : c.ranks.result ≡ w.schedule.plan.ranks = c.ranks.ensures in
    record {
      later = same_world w;
      work = first_work w (lists_of c.args.orders.now) queue c.recall_standing.ensures c.requires.wide c.requires.fresh
          (subst (λ n. (r : ℕ) → r < n → In r queue) count c.in_ok-queue.ensures.all)
          (subst (λ n. (r : ℕ) → In r queue → r < n) count c.in_ok-queue.ensures.known);
    }

pub loop-r-preserved : goal.loop-r-preserved
loop-r-preserved c = record {
  later = later_on c.args.world.now c.loop-r.world c.look.new.world c.loop-r.invariant.later c.look.ensures.later;
  work = c.in_ok-look.ensures.work;
}

pub returns-clause-taken : goal.returns-clause-taken
returns-clause-taken c =
    let none : c.loop-r.queue.items ≡ [] = nil_from_length c.loop-r.queue.items
    (let z = c.loop-r.queue.ok in let n = c.in_default.ensures.cases.0 in omega arith) in
    subst (λ q. IsWork c.loop-r.world (lists_of c.args.orders.now) q) none c.loop-r.invariant.work

pub returns-in_err-look-clause-later : goal.returns-in_err-look-clause-later
returns-in_err-look-clause-later c =
    later_on c.args.world.now c.loop-r.world c.look.new.world c.loop-r.invariant.later c.look.ensures.later

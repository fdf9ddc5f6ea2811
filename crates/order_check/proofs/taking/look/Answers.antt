use Rattle.std.proofs.Common.{◌<◌, ◌≡◌, ◌∙◌, [], ◌∷◌, ◌++◌, None, Some, ap, sym, subst}
use Rattle.std.specs.Prelude.{IfOk, Result, Ok, Err}
use Rattle.plan_core.specs.Members.{In}
use Rattle.cuts.specs.orders.Chosen.{step_made}
use Rattle.worlds.specs.World.{ranks_in, scene_in, steps_in}
use Rattle.worlds.proofs.Stepping.{same_world}
use Rattle.order_check.specs.Listing.{lists_of}
use Rattle.order_check.specs.Work.{IsWork, work_left}
use Rattle.order_check.proofs.Open.{is_listed}
use Rattle.order_check.proofs.Looking.{IsWaiter, driven_behind, less_behind_nothing, less_behind_one, looked_at, take_nothing, take_one}
use Rattle.order_check.proofs.Stepping.{IsMade}
use Rattle.order_check.proofs.taking.look.Goals as goal

pub next_enabled-requires-clause-rank : goal.next_enabled-requires-clause-rank
next_enabled-requires-clause-rank c =
    looked_at c.args.world.now (lists_of c.args.orders.now) c.args.r c.args.queue.now.items c.requires.work

pub next_enabled-requires-clause-driven : goal.next_enabled-requires-clause-driven
next_enabled-requires-clause-driven c = c.requires.work.driven

pub message_for-to-requires : goal.message_for-to-requires
message_for-to-requires c = looked_at c.args.world.now (lists_of c.args.orders.now) c.args.r c.args.queue.now.items c.requires.work

pub step-requires : goal.step-requires
step-requires c = λ slots agree.
    let w = c.args.world.now in
    subst (λ x. In x (steps_in w slots)) (sym c.step_at.ensures)
    (is_listed w c.requires.work.driven.standing slots agree c.requires.work.driven.wide c.args.r c.in-Some.step
    (looked_at w (lists_of c.args.orders.now) c.args.r c.args.queue.now.items c.requires.work) c.in-Some.ensures.1)

pub waiter-woken-requires-clause-driven : goal.waiter-woken-requires-clause-driven
waiter-woken-requires-clause-driven c =
    let w = c.args.world.now in
    let v = c.step.new.self in
    let made : IsMade c.args.r c.in-Some.step w v = λ slots agree. c.step.ensures.made slots agree
    ∙ ap (λ x. step_made (ranks_in w slots) x (scene_in w)) c.step_at.ensures in
    driven_behind w v (lists_of c.args.orders.now) c.args.r c.in-Some.step c.args.queue.now.items c.requires.work c.in-Some.ensures.0
    c.in-Some.ensures.1 c.step.ensures.kept c.step.ensures.later made

pub returns-in-None-clause-later : goal.returns-in-None-clause-later
returns-in-None-clause-later c = same_world c.args.world.now

pub returns-in-None-clause-work : goal.returns-in-None-clause-work
returns-in-None-clause-work c =
    take_nothing c.args.world.now (lists_of c.args.orders.now) c.args.r c.args.queue.now.items c.requires.work c.in-None.ensures

pub returns-in-None-clause-less : goal.returns-in-None-clause-less
returns-in-None-clause-less c = less_behind_nothing c.args.world.now (lists_of c.args.orders.now) c.args.r c.args.queue.now.items

pub returns-in-None-woken-clause-work : goal.returns-in-None-woken-clause-work
returns-in-None-woken-clause-work c =
    let w = c.args.world.now in
    let v = c.step.new.self in
    let lists = lists_of c.args.orders.now in
    let made : IsMade c.args.r c.in-Some.step w v = λ slots agree. c.step.ensures.made slots agree
    ∙ ap (λ x. step_made (ranks_in w slots) x (scene_in w)) c.step_at.ensures in
    subst (λ q. IsWork v lists q) (sym c.in_ok-look_again-in-Some.ensures)
    (take_one w v lists c.args.r c.in-Some.step c.args.queue.now.items c.requires.work c.in-Some.ensures.0 c.in-Some.ensures.1
    c.step.ensures.kept c.step.ensures.later made None tt
    (subst (λ t. IsWaiter v lists c.args.r t None) c.message_for-to.ensures (λ q h t. c.in-None-woken.ensures.others q h t)))

pub returns-in-None-woken-clause-less : goal.returns-in-None-woken-clause-less
returns-in-None-woken-clause-less c =
    let w = c.args.world.now in
    let v = c.step.new.self in
    let lists = lists_of c.args.orders.now in
    let made : IsMade c.args.r c.in-Some.step w v = λ slots agree. c.step.ensures.made slots agree
    ∙ ap (λ x. step_made (ranks_in w slots) x (scene_in w)) c.step_at.ensures in
    subst (λ q. work_left v lists q < work_left w lists (c.args.queue.now.items ++ c.args.r ∷ []))
    (sym c.in_ok-look_again-in-Some.ensures)
    (less_behind_one w v lists c.args.r c.in-Some.step c.args.queue.now.items c.requires.work c.in-Some.ensures.0 c.in-Some.ensures.1
    c.step.ensures.kept c.step.ensures.later made None)

if_ok : {A E : Type 0} (r : Result A E) (P Q : Type 0) → IfOk r (λ _. P) → (P → Q) → IfOk r (λ _. Q)
if_ok (Ok a) P Q h f = f h
if_ok (Err e) P Q h f = h

pub returns-in-Some-woken-clause-work : goal.returns-in-Some-woken-clause-work
returns-in-Some-woken-clause-work c =
    let w = c.args.world.now in
    let v = c.step.new.self in
    let lists = lists_of c.args.orders.now in
    let d = c.in-Some-woken.d in
    let made : IsMade c.args.r c.in-Some.step w v = λ slots agree. c.step.ensures.made slots agree
    ∙ ap (λ x. step_made (ranks_in w slots) x (scene_in w)) c.step_at.ensures in
    let first : c.look_again.new.queue.items ≡ c.args.queue.now.items ++ c.args.r ∷ [] = c.in_ok-look_again-in-Some.ensures in
    if_ok c.look_again-in-Some-woken.result _ _ c.look_again-in-Some-woken.ensures
    (λ e. subst (λ q. IsWork v lists q) (sym e) (subst (λ q. IsWork v lists (q ++ d ∷ [])) (sym first)
    (take_one w v lists c.args.r c.in-Some.step c.args.queue.now.items c.requires.work c.in-Some.ensures.0 c.in-Some.ensures.1
    c.step.ensures.kept c.step.ensures.later made (Some d) c.in-Some-woken.ensures.known
    (subst (λ t. IsWaiter v lists c.args.r t (Some d)) c.message_for-to.ensures (λ q h t. c.in-Some-woken.ensures.others q h t)))))

pub returns-in-Some-woken-clause-less : goal.returns-in-Some-woken-clause-less
returns-in-Some-woken-clause-less c =
    let w = c.args.world.now in
    let v = c.step.new.self in
    let lists = lists_of c.args.orders.now in
    let d = c.in-Some-woken.d in
    let before = work_left w lists (c.args.queue.now.items ++ c.args.r ∷ []) in
    let made : IsMade c.args.r c.in-Some.step w v = λ slots agree. c.step.ensures.made slots agree
    ∙ ap (λ x. step_made (ranks_in w slots) x (scene_in w)) c.step_at.ensures in
    let first : c.look_again.new.queue.items ≡ c.args.queue.now.items ++ c.args.r ∷ [] = c.in_ok-look_again-in-Some.ensures in
    if_ok c.look_again-in-Some-woken.result _ _ c.look_again-in-Some-woken.ensures
    (λ e. subst (λ q. work_left v lists q < before) (sym e) (subst (λ q. work_left v lists (q ++ d ∷ []) < before) (sym first)
    (less_behind_one w v lists c.args.r c.in-Some.step c.args.queue.now.items c.requires.work c.in-Some.ensures.0 c.in-Some.ensures.1
    c.step.ensures.kept c.step.ensures.later made (Some d))))

use Rattle.std.proofs.Common.{◌≡◌, ◌∙◌, false, sym, subst, inr, arith}
use Rattle.worlds.specs.World.{histories_in}
use Rattle.order_check.specs.Listing.{lists_of}
use Rattle.order_check.specs.Work.{is_from}
use Rattle.order_check.proofs.Looking.{WaitsNot, waiter_not, waiter_whole}
use Rattle.order_check.proofs.taking.waiter.Goals as goal

pub next_listed-requires-clause-listed : goal.next_listed-requires-clause-listed
next_listed-requires-clause-listed c =
    c.requires.driven.listed c.in-Some.d (let l = c.if-d-ranks.true in let n = c.ranks.ensures in omega (arith, l, n))

pub returns-in-None-next_listed-clause-others : goal.returns-in-None-next_listed-clause-others
returns-in-None-next_listed-clause-others c = λ q h to.
    let w = histories_in c.args.world.now in
    let lists = lists_of c.args.orders.now in
    let same : c.in-Some.d ≡ q = cc in
    inr (subst (λ a. WaitsNot lists w c.args.r a) same (waiter_whole lists w c.args.r c.in-Some.d c.in-None-next_listed.ensures))

pub returns-else-is_from-clause-others : goal.returns-else-is_from-clause-others
returns-else-is_from-clause-others c = λ q h to.
    let w = histories_in c.args.world.now in
    let lists = lists_of c.args.orders.now in
    let same : c.in-Some.d ≡ q = cc in
    let step = c.in-Some-next_listed.step in
    let differs : is_from c.args.r step ≡ false = sym c.is_from.ensures ∙ c.if-is_from.false in
    inr (subst (λ a. WaitsNot lists w c.args.r a) same (waiter_not lists w c.args.r c.in-Some.d step c.in-Some-next_listed.ensures differs))

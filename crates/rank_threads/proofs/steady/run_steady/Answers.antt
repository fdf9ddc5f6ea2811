use Rattle.std.proofs.Common.{◌∙◌, List, ap, arith, rules, subst, sym}
use Rattle.std.specs.Prelude.{All}
use mathlib.Core.Option.{some-injective}
use Rattle.cuts.specs.histories.System.{Histories}
use Rattle.turn_table.specs.Hands.{IsFree, parts_of}
use Rattle.turn_table.specs.States.{HandState}
use Rattle.rank_slots.specs.declared.turn_rank.TurnRank.{TurnRank}
use Rattle.rank_threads.specs.Resting.{AreFronts}
use Rattle.rank_threads.proofs.Hands.{all-cons, all-first, all-rest, sum-cons}
use Rattle.rank_threads.proofs.steady.run_steady.Goals as goal

pub run_all-requires-clause-leader : goal.run_all-requires-clause-leader
run_all-requires-clause-leader g c =
    let free = λ (h : HandState TurnRank). IsFree c.args.fabric.now.turns h in let whole = c.in-Some.ensures.cases.0 in
    let h : IsFree c.args.fabric.now.turns c.in-Some.leader.now = all-first free c.in-Some.leader.now c.in-Some.others.now
    (subst (λ (l : List (HandState TurnRank)). All free l) whole c.requires.hands) in
    search (rules, h)

pub run_all-requires-clause-others : goal.run_all-requires-clause-others
run_all-requires-clause-others g c =
    let free = λ (h : HandState TurnRank). IsFree c.args.fabric.now.turns h in let whole = c.in-Some.ensures.cases.0 in
    let h : All free c.in-Some.others.now = all-rest free c.in-Some.leader.now c.in-Some.others.now
    (subst (λ (l : List (HandState TurnRank)). All free l) whole c.requires.hands) in
    search (rules, h)

pub run_all-requires-clause-at_most : goal.run_all-requires-clause-at_most
run_all-requires-clause-at_most g c = let e = c.in-Some.ensures.cases.1 in let at_most = c.requires.at_most in omega (arith, e, at_most)

pub returns-clause-hands : goal.returns-clause-hands
returns-clause-hands g c = let e = c.run_all.ensures in
    all-cons (λ (h : HandState TurnRank). IsFree c.args.fabric.now.turns h) c.run_all.new.leader c.run_all.new.others e.leader e.others

pub returns-clause-parts : goal.returns-clause-parts
returns-clause-parts g c = let e = c.run_all.ensures in let whole = c.in-Some.ensures.cases.0 in
    sum-cons (λ (h : HandState TurnRank). h.knows.parts) c.in-Some.leader.now c.run_all.new.leader c.in-Some.others.now
    c.run_all.new.others e.part e.parts
    ∙ sym (ap (λ (l : List (HandState TurnRank)). parts_of l) whole)

pub returns-clause-noted : goal.returns-clause-noted
returns-clause-noted g c = λ h at.
    subst (λ (k : HandState TurnRank). (fronts : Histories) × AreFronts c.args.fabric.now.job k.knows fronts c.run_all.new.wave)
    (some-injective c.run_all.new.leader h at) c.run_all.ensures.noted

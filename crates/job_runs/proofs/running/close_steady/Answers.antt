use Rattle.std.proofs.Common.{◌≡◌, ◌<◌, ◌++◌, ◌∙◌, All, List, ap, drop, length, subst, sym, take, arith}
use mathlib.Core.Option.{some}
use lib.ListN.{get_elem?}
use Rattle.turn_table.specs.Hands.{IsFree, parts_of}
use Rattle.turn_table.specs.States.{HandState}
use Rattle.rank_slots.specs.declared.turn_rank.TurnRank.{TurnRank}
use Rattle.rank_slots.proofs.Pairs.{exists_at}
use Rattle.rank_slots.proofs.Snocs.{written}
use Rattle.job_runs.proofs.running.close_steady.Goals as goal

pub close_at_rest-requires-clause-hands : goal.close_at_rest-requires-clause-hands
close_at_rest-requires-clause-hands g c = λ _ _.
    let new = c.run_steady.new.hands in
    let is : take c.args.hands.len (new ++ drop (length new) c.args.hands.items) ≡ new =
    written c.args.hands.len new _ (sym (c.run_steady.auto.hands ∙ c.deref_mut.ensures.len)) in
    subst (λ (l : List (HandState TurnRank)). All (λ h. IsFree c.args.fabric.turns h) l) (sym is) c.run_steady.ensures.hands

pub close_at_rest-requires-clause-all : goal.close_at_rest-requires-clause-all
close_at_rest-requires-clause-all g c = λ _ _.
    let new = c.run_steady.new.hands in
    let is : take c.args.hands.len (new ++ drop (length new) c.args.hands.items) ≡ new =
    written c.args.hands.len new _ (sym (c.run_steady.auto.hands ∙ c.deref_mut.ensures.len)) in
    ap (λ (l : List (HandState TurnRank)). parts_of l) is ∙ (c.run_steady.ensures.parts
    ∙ (ap (λ (l : List (HandState TurnRank)). parts_of l) c.deref_mut.ensures.value ∙ c.requires.all))

pub close_at_rest-requires-clause-noted : goal.close_at_rest-requires-clause-noted
close_at_rest-requires-clause-noted g c = λ _ _.
    let new = c.run_steady.new.hands in
    let is : take c.args.hands.len (new ++ drop (length new) c.args.hands.items) ≡ new =
    written c.args.hands.len new _ (sym (c.run_steady.auto.hands ∙ c.deref_mut.ensures.len)) in
    let low : 0 < length new = (let a = c.run_steady.auto.hands in let b = ap (λ (l : List (HandState TurnRank)). length l)
    c.deref_mut.ensures.value in let h = c.requires.nonempty in
    omega (arith, a, b, h)) in
    let h = exists_at new 0 low in
    let fronts = c.run_steady.ensures.noted h.0 h.1 in (
      fronts.0,
      λ r x at. record {
        at = 0;
        hand = h.0;
        hand_is = ap (λ (l : List (HandState TurnRank)). get_elem? l 0) is ∙ h.1;
        says =
            fronts.1 r x at;
      },
    )

pub returns : goal.returns
returns g c =
    let new = c.run_steady.new.hands in
    let is : take c.args.hands.len (new ++ drop (length new) c.args.hands.items) ≡ new =
    written c.args.hands.len new _ (sym (c.run_steady.auto.hands ∙ c.deref_mut.ensures.len)) in record {
      schedule = c.close_at_rest.ensures.world.schedule;
      inputs = c.close_at_rest.ensures.world.inputs;
      own = c.close_at_rest.ensures.world.spare;
      rested = record {
        hands = take c.args.hands.len (new ++ drop (length new) c.args.hands.items);
        count = ap (λ (l : List (HandState TurnRank)). length l) is
            ∙ (c.run_steady.auto.hands ∙ ap (λ (l : List (HandState TurnRank)). length l) c.deref_mut.ensures.value);
        all = ap (λ (l : List (HandState TurnRank)). parts_of l) is
            ∙ (c.run_steady.ensures.parts ∙ (ap (λ (l : List (HandState TurnRank)). parts_of l) c.deref_mut.ensures.value
            ∙ c.requires.all));
        world = c.close_at_rest.ensures.world;
        rest = c.close_at_rest.ensures.rest;
      };
    }

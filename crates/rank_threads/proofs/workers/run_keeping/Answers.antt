use Rattle.std.proofs.Common.{◌≡◌, ◌++◌, ◌∙◌, All, List, ap, drop, length, subst, sym, take}
use Rattle.turn_table.specs.Hands.{IsFree, parts_of}
use Rattle.turn_table.specs.States.{HandState}
use Rattle.rank_slots.specs.declared.turn_rank.TurnRank.{TurnRank}
use Rattle.rank_threads.specs.Fabrics.{HasSwept}
use Rattle.rank_slots.proofs.Snocs.{written}
use Rattle.rank_threads.proofs.workers.run_keeping.Goals as goal

pub close_keeping-requires-clause-hands : goal.close_keeping-requires-clause-hands
close_keeping-requires-clause-hands g c = λ _ _.
    let new = c.run_workers.new.hands in
    let is : take c.args.hands.len (new ++ drop (length new) c.args.hands.items) ≡ new =
    written c.args.hands.len new _ (sym (c.run_workers.auto.hands ∙ c.deref_mut.ensures.len)) in
    subst (λ (l : List (HandState TurnRank)). All (λ h. IsFree c.args.fabric.turns h) l) (sym is) c.run_workers.ensures.hands

pub close_keeping-requires-clause-all : goal.close_keeping-requires-clause-all
close_keeping-requires-clause-all g c = λ _ _.
    let new = c.run_workers.new.hands in
    let is : take c.args.hands.len (new ++ drop (length new) c.args.hands.items) ≡ new =
    written c.args.hands.len new _ (sym (c.run_workers.auto.hands ∙ c.deref_mut.ensures.len)) in
    ap (λ (l : List (HandState TurnRank)). parts_of l) is
    ∙ (c.run_workers.ensures.parts ∙ (ap (λ (l : List (HandState TurnRank)). parts_of l) c.deref_mut.ensures.value ∙ c.requires.all))

pub returns-clause-world : goal.returns-clause-world
returns-clause-world g c =
    let new = c.run_workers.new.hands in
    let is : take c.args.hands.len (new ++ drop (length new) c.args.hands.items) ≡ new =
    written c.args.hands.len new _ (sym (c.run_workers.auto.hands ∙ c.deref_mut.ensures.len)) in record {
      hands = take c.args.hands.len (new ++ drop (length new) c.args.hands.items);
      count = ap (λ (l : List (HandState TurnRank)). length l) is
          ∙ (c.run_workers.auto.hands ∙ ap (λ (l : List (HandState TurnRank)). length l) c.deref_mut.ensures.value);
      swept = subst (λ (l : List (HandState TurnRank)). All (λ h. HasSwept c.args.fabric h) l) (sym is) c.run_workers.ensures.swept;
      all = ap (λ (l : List (HandState TurnRank)). parts_of l) is
          ∙ (c.run_workers.ensures.parts ∙ (ap (λ (l : List (HandState TurnRank)). parts_of l) c.deref_mut.ensures.value ∙ c.requires.all));
      world = c.close_keeping.ensures.world;
    }

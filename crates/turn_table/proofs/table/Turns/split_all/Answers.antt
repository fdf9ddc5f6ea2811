use Rattle.std.proofs.Common.{◌≡◌, List, [], ◌∷◌, ap, ◌∙◌, arith, length, length-append}
use Rattle.std.proofs.lemmas.List.Elements.{All-push, All-same}
use Rattle.std.proofs.lemmas.List.Sums.{sum_by-append}
use Rattle.turn_table.specs.States.{HandState}
use Rattle.turn_table.specs.Views.{all_unseen}
use Rattle.turn_table.specs.Hands.{IsNew, parts_of}
use Rattle.turn_table.proofs.table.Turns.split_all.Goals as goal

pub loop-preserved : goal.loop-preserved
loop-preserved g c = let old = c.loop.invariant in let k = c.split_hand.ensures.known in let h = c.split_hand.ensures.hands in let p =
    c.push_reserved.ensures in
    let H : Type 0 = HandState g.row.T.Denot in
    let a = sum_by-append (λ (u : H). u.knows.parts) c.loop.list.items (c.split_hand.result ∷ []) in
    let b = ap (λ (l : List H). parts_of l) p.items in
    let n = ap (λ (l : List H). length l) p.items ∙ length-append c.loop.list.items (c.split_hand.result ∷ []) in
    let one : c.split_hand.result.knows.parts ≡ 1 = ap (λ v. v.parts) k.1 in
    let less = ap (λ v. v.parts) k.0 in
    record {
      first = ((h.0, ap (λ v. v.turn) k.0 ∙ old.first.0.1), ap (λ v. v.slots) k.0 ∙ old.first.1);
      parts = omega arith;
      one_each = omega arith;
      long = omega arith;
      others = All-same (λ (u : H). IsNew c.args.self.now u) _ _ p.items (All-push (λ (u : H). IsNew c.args.self.now u) _ _ old.others
          ((h.1, ap (λ v. v.turn) k.1), ap (λ v. v.slots) k.1 ∙ ap (λ l. all_unseen l) old.first.0.0.1));
      roomy = omega (arith, p.capacity);
    }

pub returns : goal.returns
returns g c = let old = c.loop.invariant in let p = c.push_reserved-2.ensures in let H : Type 0 = HandState g.row.T.Denot in
    let a = sum_by-append (λ (u : H). u.knows.parts) c.loop.list.items (c.loop.first ∷ []) in
    let b = ap (λ (l : List H). parts_of l) p.items in
    let n = ap (λ (l : List H). length l) p.items ∙ length-append c.loop.list.items (c.loop.first ∷ []) in (
      omega arith,
      All-same (λ (u : H). IsNew c.args.self.now u) _ _ p.items (All-push (λ (u : H). IsNew c.args.self.now u) _ _ old.others old.first),
      omega arith,
    )

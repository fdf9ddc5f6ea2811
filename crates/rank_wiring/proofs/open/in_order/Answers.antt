use Rattle.std.proofs.Common.{◌≡◌, ◌∙◌, ◌+◌, ◌∷◌, ◌++◌, [], List, ap, arith, length, length-append, refl, subst, sym}
use Rattle.std.specs.Prelude.{IfSome, vec_len}
use Rattle.std.specs.Vec.Iter.{into_iter_items}
use Rattle.rank_wiring.specs.declared.open.BuiltRank.{BuiltRank}
use Rattle.rank_wiring.specs.declared.open.OutWires.{OutWires}
use Rattle.rank_slots.specs.declared.turn_rank.TurnRank.{TurnRank}
use Rattle.rank_wiring.specs.Opening.{AllFanned, AreBuilt, IsFanned}
use Rattle.rank_wiring.proofs.Handing.{built-head, built-tail, fanned-more}
use Rattle.rank_wiring.proofs.open.in_order.Goals as goal

pub made_or_make-requires-clause-rank : goal.made_or_make-requires-clause-rank
made_or_make-requires-clause-rank c =
    let short = ap (λ m. length m) c.in-Some.ensures.steps.0 in let all = c.loop-place.invariant.slots in
    let many = c.requires.count in let ranks = c.requires.ranks in let here = c.len-rank.ensures in
    omega (arith, short, all, many, ranks, here)

pub made_or_make-requires-clause-place : goal.made_or_make-requires-clause-place
made_or_make-requires-clause-place c =
    let job = c.args.job.now in let slots = c.loop-place.slots.items in
    let all = subst (AreBuilt job (length slots)) c.in-Some.ensures.steps.0 c.loop-place.invariant.places in
    let long : vec_len c.loop-place.slots ≡ length slots = omega (arith, c.loop-place.slots.ok.0) in
    subst (λ n. IfSome c.in-Some.place (λ (b : BuiltRank). IsFanned job n b.slot b.load)) (sym (c.len-rank.ensures ∙ long))
    (built-head job (length slots) c.in-Some.place (into_iter_items c.next.new.self) all)

pub loop-place-preserved : goal.loop-place-preserved
loop-place-preserved c =
    let i = c.loop-place.invariant in let job = c.args.job.now in let slots = c.loop-place.slots.items in
    let loads = c.loop-place.loads.items in let slot = c.in_ok-built.built.slot in let load = c.in_ok-built.built.load in
    let p = c.in_ok-push.ensures.items in let q = c.in_ok-push-2.ensures.items in
    let rest = into_iter_items c.next.new.self in let step = c.in-Some.ensures.steps.0 in
    let all = subst (AreBuilt job (length slots)) step i.places in
    let here : vec_len c.loop-place.slots ≡ length slots = omega (arith, c.loop-place.slots.ok.0) in
    let made : IsFanned job (length slots) slot load =
    subst (λ n. IsFanned job n slot load) (c.len-rank.ensures ∙ here) c.in_ok-built.ensures in
    let more : length (slots ++ slot ∷ []) ≡ length slots + 1 = length-append slots (slot ∷ []) in
    let long = length-append loads (load ∷ []) in record {
      len = (let gone = c.in-Some.ensures.steps.1 in let was = i.len in let short = ap (λ m. length m) step in
          omega (arith, gone, was, short));
      slots = (let a = ap (λ (l : List TurnRank). length l) p in let short = ap (λ m. length m) step in let k = i.slots in
          omega (arith, a, more, short, k));
      loads = (let a = ap (λ (l : List TurnRank). length l) p in let b = ap (λ (l : List OutWires). length l) q in let k = i.loads in
          omega (arith, a, b, more, long, k));
      fanned = subst (λ (l : List TurnRank). AllFanned job l c.push-in-loop-place.new.self.items) (sym p)
          (subst (AllFanned job (slots ++ slot ∷ [])) (sym q)
          (fanned-more job (length slots) slots loads slot load refl i.loads i.fanned made));
      places = subst (λ n. AreBuilt job n rest) (let a = ap (λ (l : List TurnRank). length l) p in omega (arith, a, more))
          (built-tail job (length slots) c.in-Some.place rest all);
    }

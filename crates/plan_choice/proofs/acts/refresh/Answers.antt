-- Two counts set anew, of starts and of firings, and those of the lanes between the two ranks.
use Rattle.std.proofs.Common.{ℕ, ◌≡◌, ◌∙◌, List, ap, arith, length}
use Rattle.std.proofs.Math.ListN.{length-set}
use Rattle.ptl_types.specs.declared.headers.Lane.TheVariants.{Answer, Request}
use Rattle.worlds.specs.declared.parts.traffic.Traffic.{Traffic}
use Rattle.worlds.specs.parts.Marks.{delivery_mark}
use Rattle.worlds.proofs.parts.Marked.{mark_size}
use Rattle.plan_choice.specs.Acts.{firing_count, firing_mark, seat_at, start_count, start_mark}
use Rattle.plan_choice.proofs.acts.refresh.Goals as goal

-- by each of its counts
same_counts : (t : Traffic) (a b d e f g : List ℕ) → a ≡ b → d ≡ e → f ≡ g
    → (let x : Traffic = record t { starts = a; deliveries = d; firings = f } in x)
    ≡ (let y : Traffic = record t { starts = b; deliveries = e; firings = g } in y)
same_counts t a b d e f g p q r =
    ap (λ x. let y : Traffic = record t { starts = x; deliveries = d; firings = f } in y) p
    ∙ ap (λ x. let y : Traffic = record t { starts = b; deliveries = x; firings = f } in y) q
    ∙ ap (λ x. let y : Traffic = record t { starts = b; deliveries = e; firings = x } in y) r

pub mark_start-requires-clause-counted : goal.mark_start-requires-clause-counted
mark_start-requires-clause-counted c = let e = c.requires.sized.starts in let h = c.requires.source in omega (arith, e, h)

pub mark_start-requires-clause-rank : goal.mark_start-requires-clause-rank
mark_start-requires-clause-rank c = let e = c.requires.sized.seats in let h = c.requires.source in omega (arith, e, h)

pub mark_start-requires-2-clause-counted : goal.mark_start-requires-2-clause-counted
mark_start-requires-2-clause-counted c =
    let e = c.requires.sized.starts in
    let h = c.requires.destination in
    let l = ap length c.mark_start.ensures
    ∙ length-set c.args.traffic.now.starts c.args.s (start_count (seat_at c.args.seats.now c.args.s)) in
    omega (arith, e, h, l)

pub mark_start-requires-2-clause-rank : goal.mark_start-requires-2-clause-rank
mark_start-requires-2-clause-rank c = let e = c.requires.sized.seats in let h = c.requires.destination in omega (arith, e, h)

pub mark_firings-requires-clause-counted : goal.mark_firings-requires-clause-counted
mark_firings-requires-clause-counted c = let e = c.requires.sized.firings in let h = c.requires.source in omega (arith, e, h)

pub mark_firings-requires-clause-rank : goal.mark_firings-requires-clause-rank
mark_firings-requires-clause-rank c = let e = c.requires.sized.seats in let h = c.requires.source in omega (arith, e, h)

pub mark_firings-requires-2-clause-counted : goal.mark_firings-requires-2-clause-counted
mark_firings-requires-2-clause-counted c =
    let e = c.requires.sized.firings in
    let h = c.requires.destination in
    let l = ap length c.mark_firings.ensures
    ∙ length-set c.args.traffic.now.firings c.args.s (firing_count (seat_at c.args.seats.now c.args.s)) in
    omega (arith, e, h, l)

pub mark_firings-requires-2-clause-rank : goal.mark_firings-requires-2-clause-rank
mark_firings-requires-2-clause-rank c = let e = c.requires.sized.seats in let h = c.requires.destination in omega (arith, e, h)

pub mark_pair-requires : goal.mark_pair-requires
mark_pair-requires c = record {
  at_most = c.requires.sized.at_most;
  counted = c.requires.sized.deliveries;
  size = c.requires.sized.lanes;
  source = c.requires.source;
  destination = c.requires.destination;
}

pub mark_pair-requires-2 : goal.mark_pair-requires-2
mark_pair-requires-2 c =
    let t = c.args.traffic.now in
    record {
      at_most = c.requires.sized.at_most;
      counted =
          ap length c.mark_pair.ensures
          ∙ mark_size t.setting.ranks t.lanes t.setting.window c.args.s c.args.d Answer
          (delivery_mark t.lanes t.setting.ranks t.setting.window c.args.s c.args.d Request t.deliveries)
          ∙ mark_size t.setting.ranks t.lanes t.setting.window c.args.s c.args.d Request t.deliveries
          ∙ c.requires.sized.deliveries;
      size = c.requires.sized.lanes;
      source = c.requires.destination;
      destination = c.requires.source;
    }

pub returns : goal.returns
returns c =
    let t = c.args.traffic.now in
    let seats = c.args.seats.now in
    let ss = c.mark_start-2.ensures ∙ ap (start_mark seats c.args.d) c.mark_start.ensures in
    let fs = c.mark_firings-2.ensures ∙ ap (firing_mark seats c.args.d) c.mark_firings.ensures in
    let ds = c.mark_pair-2.ensures ∙ ap (λ xs. delivery_mark t.lanes t.setting.ranks t.setting.window c.args.d c.args.s Answer
    (delivery_mark t.lanes t.setting.ranks t.setting.window c.args.d c.args.s Request xs)) c.mark_pair.ensures in
    same_counts t _ _ _ _ _ _ ss ds fs

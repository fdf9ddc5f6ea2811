use Rattle.std.proofs.Common.{[], ◌∷◌, Some, sym, ap, ◌∙◌, arith, length, List, ◌≡◌, ◌+◌, ◌-◌, ℕ, get_or, set}
use Rattle.atomic_table.specs.Table.{rest}
use Rattle.turn_table.specs.Views.{after_give}
use Rattle.turn_table.specs.States.{carried_for}
use Rattle.turn_table.proofs.Counting.{or_same}
use Rattle.turn_table.proofs.Keeping.{keeps_give, gives_last}
use Rattle.turn_table.proofs.Steps.{counts, longer_length}
use Rattle.turn_table.proofs.table.Turns.give.Goals as goal

pub store-requires : goal.store-requires
store-requires g c = let h = c.hand.invariant in let t = c.requires.turn in let x = c.exchange.ensures in let l = ap (λ m. m.1) x.3 in
    let v = ap (λ h. h.knows.turn) c.hand.view_is in
    let f = h.counts.found_is c.args.turn.slot t.value (v ∙ t.turn) in let z = c.self.invariant in let s =
    ap (λ (k : List g.row.T.Denot).
    length k) (ap (λ h. h.knows.start) c.hand.view_is ∙ (c.requires.hand.1 ∙ sym (ap (λ t. t.start) c.self.view_is))) in (
      x.0 ∙ (ap (λ h. h.table) c.hand.view_is ∙ (c.requires.hand.0 ∙ sym (ap (λ t. t.table) c.self.view_is))),
      omega (arith, f.0, h.start, s, z.words_are, z.slots_are),
      counts g.T.Past.past g.T.Past.name _ _ _ _ _ _ t.value c.args.turn.value (ap (λ m. m.0.turn) x.3 ∙ (v ∙ t.turn))
          (l ∙ ap (λ m. (c.args.turn.slot, Some c.args.turn.value) ∷ m) (ap rest (sym l)))
          (omega (arith, ap (λ m. m.0.parts) x.3, h.alive)) t.grows t.named t.short c.past_len-length.ensures,
    )

pub overflow_sub-length : goal.overflow_sub-length
overflow_sub-length g c = let t = c.requires.turn in let f = c.hand.invariant.counts.found_is c.args.turn.slot t.value
    (ap (λ h. h.knows.turn) c.hand.view_is ∙ t.turn) in
    let l = longer_length g.T.Past.past g.T.Past.name [] _ _ t.grows in omega (arith, f.1, l, c.past_len-length.ensures)

pub overflow_add-index_mut : goal.overflow_add-index_mut
overflow_add-index_mut g c = let t = c.requires.turn in let k = c.args.turn.slot in let h = c.hand.invariant in let f =
    h.counts.found_is k t.value (ap (λ h. h.knows.turn) c.hand.view_is ∙ t.turn) in
    let l = longer_length g.T.Past.past g.T.Past.name [] _ _ t.grows in
    let here : c.index_mut.result.now ≡ get_or c.hand.inside.made.items k 0 = c.index_mut.ensures.value
    ∙ or_same c.hand.inside.made.items k _ 0 (omega (arith, f.0, h.counts.made_long)) in
    record { fits = omega (arith, here, h.counts.made_is k f.0, f.1, f.2, l, t.short, c.past_len-length.ensures) }

pub invariant_of-hand : goal.invariant_of-hand
invariant_of-hand g c = let h = c.hand.invariant in let t = c.requires.turn in let k = c.args.turn.slot in let y = c.args.turn.value in
    let x = c.exchange.ensures in let l = ap (λ m. m.1) x.3 in let turn = ap (λ h. h.knows.turn) c.hand.view_is ∙ t.turn in
    let f = h.counts.found_is k t.value turn in let e = c.store.ensures.2 t.value y (ap (λ m. m.0.turn) x.3 ∙ turn)
    (l ∙ ap (λ m. (k, Some y) ∷ m) (ap rest (sym l))) in
    let here : c.index_mut.result.now ≡ get_or c.hand.inside.made.items k 0 = c.index_mut.ensures.value
    ∙ or_same c.hand.inside.made.items k _ 0 (omega (arith, f.0, h.counts.made_long)) in
    keeps_give g.T.Past.past _ _ _ _ _ _ _ h k _ t.value y _ _ _ turn t.grows
    (ap (λ m. m.0) e ∙ ap (λ m. after_give g.T.Past.past m.0 k t.value y) x.3)
    (ap (λ m. m.1) e ∙ (ap rest l ∙ ap rest (h.carried ∙ ap carried_for turn))) (ap (λ t. t.slots) c.store.ensures.0
    ∙ ap (λ t. t.slots) x.0)
    (λ i. set c.hand.inside.made.items k (here i + (c.past_len-length.ensures i - c.hand.inside.found)))
    (ap (λ (n : ℕ). set c.hand.inside.seen.items k n) c.past_len-length.ensures)

pub returns-clause-hand : goal.returns-clause-hand
returns-clause-hand g c = let h = c.hand.invariant in let t = c.requires.turn in let k = c.args.turn.slot in let y = c.args.turn.value in
    let x = c.exchange.ensures in let l = ap (λ m. m.1) x.3 in let turn = ap (λ h. h.knows.turn) c.hand.view_is ∙ t.turn in
    let e = c.store.ensures.2 t.value y (ap (λ m. m.0.turn) x.3 ∙ turn) (l ∙ ap (λ m. (k, Some y) ∷ m) (ap rest (sym l))) in (
      (
        c.store.ensures.0 ∙ (x.0 ∙ (ap (λ h. h.table) c.hand.view_is ∙ c.requires.hand.0)),
        ap (λ m. m.0.start) e
            ∙ (ap (λ m. m.0.start) x.3 ∙ (ap (λ h. h.knows.start) c.hand.view_is ∙ c.requires.hand.1)),
      ),
      ap (λ m. m.0.turn) e,
    )

pub returns-clause-last : goal.returns-clause-last
returns-clause-last g c v is = let h = c.hand.invariant in let k = c.args.turn.slot in let y = c.args.turn.value in let x =
    c.exchange.ensures in let l = ap (λ m. m.1) x.3 in let turn = ap (λ h. h.knows.turn) c.hand.view_is ∙ is in
    let f = h.counts.found_is k v turn in let e = c.store.ensures.2 v y (ap (λ m. m.0.turn) x.3 ∙ turn)
    (l ∙ ap (λ m. (k, Some y) ∷ m) (ap rest (sym l))) in
    gives_last g.T.Past.past g.T.Past.note c.hand.inside.seat.me.0 k v y _ (omega (arith, f.0, h.slots))
    (ap (λ m. m.0) e ∙ ap (λ m. after_give g.T.Past.past m.0 k v y) x.3)

use Rattle.std.proofs.Common.{arith, ap, ◌∙◌, sym, length}
use Rattle.turn_table.specs.States.{carried_for}
use Rattle.turn_table.proofs.Whole.{joins, merged_length}
use Rattle.turn_table.proofs.table.Turns.join_into.Goals as goal

pub join_seat-requires : goal.join_seat-requires
join_seat-requires g c = let s = c.requires.seat in let h = c.requires.other in let k = c.other.invariant in let z = c.self.invariant in
    let t = sym (ap (λ t. t.table) c.self.view_is) in let idle = ap (λ h. h.knows.turn) c.other.view_is ∙ h.1 in (
      s.table_is ∙ t,
      ap (λ h. h.table) c.other.view_is ∙ (h.0.0 ∙ t),
      k.carried ∙ ap carried_for idle,
      omega (arith, z.words_are, z.some_slot),
      joins g.T.Past.past g.T.Past.name _ _ _ _ _ s.alive k.alive idle,
    )

pub returns-clause-seat : goal.returns-clause-seat
returns-clause-seat g c = let s = c.requires.seat in let e = c.join_seat.ensures in record {
  table_is = e.0 ∙ s.table_is;
  alive = omega (arith, ap (λ m. m.0.parts) e.2, s.alive);
  idle = ap (λ m. m.0.turn) e.2 ∙ s.idle;
  slots = ap (λ m. length m.0.slots) e.2 ∙ (merged_length c.args.seat.now.me.0.slots c.other.inside.seat.me.0.slots ∙ s.slots);
  start = ap (λ m. m.0.start) e.2 ∙ s.start;
  carries = ap (λ m. m.1) e.2 ∙ s.carries;
}

pub returns-clause-sized : goal.returns-clause-sized
returns-clause-sized g c = let k = c.other.invariant in let v = c.other.view_is in
    ap (λ h. length h.knows.slots) (sym v) ∙ (k.slots ∙ (sym k.start
    ∙ (ap (λ h. length h.knows.start) v ∙ ap (λ l. length l) c.requires.other.0.1)))

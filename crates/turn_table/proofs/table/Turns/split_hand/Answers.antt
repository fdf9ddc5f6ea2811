use Rattle.std.proofs.Common.{◌≡◌, ℕ, replicate, length, List, arith, ap, ◌∙◌, sym}
use Rattle.turn_table.proofs.Whole.{splits}
use Rattle.turn_table.proofs.Keeping.{keeps_split, keeps_new}
use Rattle.turn_table.proofs.table.Turns.split_hand.Goals as goal

pub split_seat-seat-requires : goal.split_seat-seat-requires
split_seat-seat-requires g c = let h = c.requires.hand in let z = c.self.invariant in (
  ap (λ h. h.table) c.hand.view_is ∙ (h.0.0 ∙ sym (ap (λ t. t.table) c.self.view_is)),
  omega (arith, z.words_are, z.some_slot),
  splits g.T.Past.past g.T.Past.name _ _ _ (omega (arith, ap (λ h. h.knows.parts) c.hand.view_is, h.1)),
)

pub invariant_of-hand : goal.invariant_of-hand
invariant_of-hand g c = let e = c.split_seat-seat.ensures in
    keeps_split g.T.Past.past _ _ _ _ _ _ _ c.hand.invariant _ _
    (omega (arith, ap (λ h. h.knows.parts) c.hand.view_is, c.requires.hand.1)) e.2 (ap (λ t. t.slots) e.0)

pub invariant_of-result : goal.invariant_of-result
invariant_of-result g c = let e = c.split_seat-seat.ensures in let h = c.hand.invariant in let z = c.self.invariant in let start =
    ap (λ h. h.knows.start) c.hand.view_is ∙ c.requires.hand.0.1 in
    let long = ap (λ (l : List g.row.T.Denot). length l) start in
    let same : length c.args.self.now.start ≡ c.hand.inside.seat.table_id.slots = sym long ∙ h.start in
    keeps_new g.T.Past.past _ _ c.hand.inside.seat.me.0.start _ _ _ _ (omega (arith, ap (λ m. m.0.parts) e.4)) (ap (λ m. m.0.turn) e.4)
    (ap (λ m. m.0.slots) e.4) (ap (λ m. m.0.start) e.4) (ap (λ m. m.1) e.4)
    (h.start ∙ sym (ap (λ t. t.slots) e.3)) c.requires.room.0 (omega (arith, c.requires.room.1, same, ap (λ t. t.slots) e.3))
    (c.requires.counts.0 ∙ ap (λ (n : ℕ). replicate n 0) (same ∙ sym (ap (λ t. t.slots) e.3)))
    (c.requires.counts.1 ∙ ap (λ (n : ℕ). replicate n 0) (same ∙ sym (ap (λ t. t.slots) e.3)))

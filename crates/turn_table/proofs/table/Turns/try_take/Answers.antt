use Rattle.std.proofs.Common.{◌∷◌, Some, sym, ap, ◌∙◌, arith, length, List}
use Rattle.atomic_table.specs.Table.{rest}
use Rattle.turn_table.proofs.Keeping.{keeps_busy}
use Rattle.turn_table.proofs.Steps.{tries}
use Rattle.turn_table.proofs.table.Turns.try_take.Goals as goal

pub fetch_or-word-requires : goal.fetch_or-word-requires
fetch_or-word-requires g c = let h = c.requires.hand in let z = c.self.invariant in let l =
    ap (λ (t : List g.row.T.Denot). length t)
    (ap (λ t. t.start) c.self.view_is) in (
      ap (λ h. h.table) c.hand.view_is ∙ (h.0.0 ∙ sym (ap (λ t. t.table) c.self.view_is)),
      omega (arith, c.requires.slot, z.words_are, z.slots_are, l),
      tries g.T.Past.past g.T.Past.name _ _ _ _ _ (ap (λ h. h.knows.turn) c.hand.view_is ∙ h.1) c.hand.invariant.alive
          (omega (arith, c.requires.slot, l)),
    )

pub invariant_of-hand : goal.invariant_of-hand
invariant_of-hand g c = let e = c.fetch_or-word.ensures in
    keeps_busy g.T.Past.past _ _ _ _ _ _ _ c.hand.invariant c.args.slot _ _ (ap (λ h. h.knows.turn) c.hand.view_is ∙ c.requires.hand.1)
    (e.2.0 c.if-word-ge-OUT.true) (ap (λ t. t.slots) e.0)

pub exchange-requires : goal.exchange-requires
exchange-requires g c = let e = c.fetch_or-word.ensures in let t = e.2.1 c.if-word-ge-OUT.false in let l = ap (λ m. m.1) t.1 in (
  e.0 ∙ (ap (λ h. h.table) c.hand.view_is ∙ (c.requires.hand.0.0 ∙ sym (ap (λ t. t.table) c.self.view_is))),
  (Some t.0, l ∙ ap (λ m. (c.args.slot, Some t.0) ∷ m) (ap rest (sym l))),
)

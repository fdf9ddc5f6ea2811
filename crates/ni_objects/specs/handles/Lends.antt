-- What a store ends as, where a `&mut` to one of its things is returned.
use Rattle.std.specs.Prelude.{Option}
use Rattle.std.specs.Borrow.{Lends, LendsIf, Fml, RattleType, MutBor}
use Rattle.ptl_types.specs.declared.handles.Handle.{Handle}
use Rattle.ni_model.specs.Tables.{Table, changed}
use Rattle.ni_objects.specs.contracts.handles.Store.{the_row}

module _ (T : RattleType) (s : MutBor (Table T.Denot)) (h : Handle) where
  abbrev pub lends_held : MutBor T.Denot → Fml
  lends_held r = Lends (the_row T) T s r (λ w. changed h (λ _. w) s.now)

  abbrev pub lends_get : Option (MutBor T.Denot) → Fml
  lends_get r = LendsIf (the_row T) T s r (λ w. changed h (λ _. w) s.now) s.now

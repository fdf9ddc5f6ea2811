use Rattle.std.proofs.Common.{◌≡◌, None, sym, refl}
use Rattle.ni_model.specs.Tables.{lookup}
use Rattle.ni_objects.proofs.handles.StoreLemmas.{change-absent, none_of}
use Rattle.ni_objects.proofs.handles.Store.get_mut.Goals as goal

pub returns-else-is_live : goal.returns-else-is_live
returns-else-is_live g c =
    let none : lookup c.args.h c.args.self.now.live ≡ None = none_of _ _ c.is_live.ensures c.if-is_live.false in
    (refl, record { writes_back = tt; value = sym none; once = tt; absent = λ f. change-absent f c.args.h c.args.self.now.live none })

use Rattle.std.proofs.Common.{sym, ◌∙◌, arith}
use Rattle.triggered_ops.proofs.Places.{same-length, same-both}
use Rattle.triggered_ops.proofs.Telling.{told-all}
use Rattle.triggered_ops.proofs.told.tell.Goals as goal

pub lower-requires-clause-within : goal.lower-requires-clause-within
lower-requires-clause-within g c = let l = same-length _ _ c.raise.ensures.same in
    omega (arith, l, c.raise.ensures.places, c.requires.within)

pub returns-then-belongs-clause-same : goal.returns-then-belongs-clause-same
returns-then-belongs-clause-same g c = same-both _ _ _ c.raise.ensures.same c.lower.ensures.same

pub returns-then-belongs-clause-told : goal.returns-then-belongs-clause-told
returns-then-belongs-clause-told g c = sym (told-all c.lower.new.spots.spots c.args.ct c.args.sum c.lower.ensures.due)
    ∙ c.lower.ensures.told ∙ c.raise.ensures.told

pub returns-else-belongs-clause-told : goal.returns-else-belongs-clause-told
returns-else-belongs-clause-told g c = sym (told-all c.tell_strays.new.spots.spots c.args.ct c.args.sum c.tell_strays.ensures.due)
    ∙ c.tell_strays.ensures.told

-- Cells that are drawn in three parts, one after the other.
use Rattle.std.proofs.Common.{◌≡◌, List, ◌++◌}
use Rattle.plan_core.specs.Plan.{Plan}
use Rattle.plan_core.specs.Draw.{NewCell, HasRoom, add_all}
use Rattle.plan_core.proofs.Drawing.{joined-parts, room-left, room-next}

-- room for the second part after the first, and for the third after both
pub room-second : (p q : Plan) (xs ys zs : List NewCell) → HasRoom p (xs ++ (ys ++ zs)) → q ≡ add_all p xs → HasRoom q ys
room-second p q xs ys zs h e = room-left q ys zs (room-next p q xs (ys ++ zs) h e)

pub room-third : (p q r : Plan) (xs ys zs : List NewCell) → HasRoom p (xs ++ (ys ++ zs))
    → q ≡ add_all p xs → r ≡ add_all q ys → HasRoom r zs
room-third p q r xs ys zs h e f = room-next q r ys zs (room-next p q xs (ys ++ zs) h e) f

pub joined-three : (p q r t : Plan) (xs ys zs : List NewCell)
    → q ≡ add_all p xs → r ≡ add_all q ys → t ≡ add_all r zs → t ≡ add_all p (xs ++ (ys ++ zs))
joined-three p q r t xs ys zs e f g = joined-parts p q t xs (ys ++ zs) e (joined-parts q r t ys zs f g)

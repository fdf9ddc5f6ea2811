-- What a masked swap leaves is a bit pattern of the type.
use Rattle.std.proofs.Common.{ℕ, ◌*◌, ◌<◌, ◌≤◌, arith}
use Rattle.std.specs.Prelude.{bit_and, bit_or}
use Rattle.std.proofs.lemmas.Nat.{or_lt, and_le_l}
use Rattle.ptl_types.specs.declared.elements.ElemType.{ElemType}
use Rattle.ptl_types.specs.Operations.{bytes_of, span}

below : (a b n : ℕ) → a ≤ b → b < n → a < n
below a b n le lt = omega arith

pub masked_lt : (ty : ElemType) (old kept new named : ℕ) → old < span ty → new < span ty →
    bit_or (bit_and old kept) (bit_and new named) < span ty
masked_lt ty old kept new named lo ln = or_lt (8 * bytes_of ty) _ _ (below _ old _ (and_le_l old kept) lo)
    (below _ new _ (and_le_l new named) ln)

-- The laws of the atomic operations on lists of little-endian elements.
use Rattle.std.specs.Prelude.{ℕ, ◌≡◌, List, length}
use Rattle.ptl_types.specs.declared.elements.AtomicOp.{AtomicOp}
use Rattle.ptl_types.specs.declared.elements.ElemType.{ElemType}
use Rattle.ptl_types.specs.Elements.{combined, starting}

-- messages to one cell may come in any order: op(op(x, a), b) = op(op(x, b), a), element by element
abbrev pub CombineSwaps : Type 0
CombineSwaps = (o : AtomicOp) (ty : ElemType) (x a b : List ℕ) → combined o ty (combined o ty x a) b ≡ combined o ty (combined o ty x b) a

-- what was combined with starting values combines as it is: op(x, op(e, d)) = op(x, d), element by element
abbrev pub CombineStarts : Type 0
CombineStarts = (o : AtomicOp) (ty : ElemType) (x d : List ℕ) → length x ≡ length d
    → combined o ty x (combined o ty (starting o ty (length d)) d) ≡ combined o ty x d

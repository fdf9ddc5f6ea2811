-- The laws by which partial results may be combined in any order. Variables range over bit patterns of the type.
use Rattle.std.specs.Prelude.{◌≡◌, ℕ, ◌<◌}
use Rattle.ptl_types.specs.declared.elements.ElemType.{ElemType}
use Rattle.ptl_types.specs.declared.elements.AtomicOp.{AtomicOp}
use Rattle.ptl_types.specs.Operations.{op, start_value, span}

-- two operands may be taken in either order
abbrev pub Swaps : AtomicOp → Type 0
Swaps o = (ty : ElemType) (x a b : ℕ) → x < span ty → a < span ty → b < span ty → op o ty (op o ty x a) b ≡ op o ty (op o ty x b) a

abbrev pub Commutes : AtomicOp → Type 0
Commutes o = (ty : ElemType) (x y : ℕ) → x < span ty → y < span ty → op o ty x y ≡ op o ty y x

abbrev pub Associates : AtomicOp → Type 0
Associates o = (ty : ElemType) (x y z : ℕ) → x < span ty → y < span ty → z < span ty → op o ty (op o ty x y) z ≡ op o ty x (op o ty y z)

-- the starting value changes neither itself nor any value that the operation gives
abbrev pub Starts : AtomicOp → Type 0
Starts o = (ty : ElemType) → op o ty (start_value o ty) (start_value o ty) ≡ start_value o ty

abbrev pub Stays : AtomicOp → Type 0
Stays o = (ty : ElemType) (x a : ℕ) → x < span ty → a < span ty → op o ty (op o ty x a) (start_value o ty) ≡ op o ty x a

-- what begins at the starting value may be combined later
abbrev pub Absorbs : AtomicOp → Type 0
Absorbs o = (ty : ElemType) (x d : ℕ) → x < span ty → d < span ty → op o ty x (op o ty (start_value o ty) d) ≡ op o ty x d

-- an operation on patterns gives a pattern, and it begins with one
abbrev pub IsClosed : AtomicOp → Type 0
IsClosed o = (ty : ElemType) (x a : ℕ) → x < span ty → a < span ty → op o ty x a < span ty

abbrev pub StartsInRange : AtomicOp → Type 0
StartsInRange o = (ty : ElemType) → start_value o ty < span ty

-- Elements as little-endian bytes, and parts of lists of bytes.
use Rattle.std.specs.Prelude.{ℕ, zero, suc, ◌+◌, ◌*◌, ◌/◌, ◌%◌, List, [], ◌∷◌, ◌++◌, take, drop, length}
use Rattle.ptl_types.specs.declared.elements.ElemType.{ElemType}
use Rattle.ptl_types.specs.declared.elements.AtomicOp.{AtomicOp}
use Rattle.ptl_types.specs.Operations.{op, start_value, bytes_of}

-- the bit pattern of an element. A byte counts modulo 256, so that this is defined on every list
abbrev pub pattern : List ℕ → ℕ
pattern [] = 0
pattern (b ∷ bs) = b % 256 + 256 * pattern bs

-- the bytes of a bit pattern, lowest first
abbrev pub little_endian : ℕ → ℕ → List ℕ
little_endian zero x = []
little_endian (suc n) x = x % 256 ∷ little_endian n (x / 256)

-- f of each element of xs and the one of ys at its place; n elements of w bytes each
abbrev pub by_element : (ℕ → ℕ → ℕ) → ℕ → ℕ → List ℕ → List ℕ → List ℕ
by_element f w zero xs ys = []
by_element f w (suc n) xs ys = little_endian w (f (pattern (take w xs)) (pattern (take w ys))) ++ by_element f w n (drop w xs) (drop w ys)

-- the operation of each element of xs and the one of ys at its place
abbrev pub combined : AtomicOp → ElemType → List ℕ → List ℕ → List ℕ
combined o ty xs ys = by_element (op o ty) (bytes_of ty) (length xs / bytes_of ty) xs ys

-- n times the element x of w bytes
abbrev pub repeated : ℕ → ℕ → ℕ → List ℕ
repeated w zero x = []
repeated w (suc n) x = little_endian w x ++ repeated w n x

-- n bytes of starting values
abbrev pub starting : AtomicOp → ElemType → ℕ → List ℕ
starting o ty n = repeated (bytes_of ty) (n / bytes_of ty) (start_value o ty)

-- the n bytes of xs from `at` on
abbrev pub part : ℕ → ℕ → List ℕ → List ℕ
part at n xs = take n (drop at xs)

-- xs with the part from `at` on overwritten by bs
abbrev pub written : ℕ → List ℕ → List ℕ → List ℕ
written at bs xs = take at xs ++ (bs ++ drop (at + length bs) xs)

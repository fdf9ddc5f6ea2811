-- Elements as bytes, and as they are written.
use Rattle.std.specs.Prelude.{ℕ, zero, suc, ◌-◌, ◌/◌, List, [], ◌∷◌, length, take, drop, nat_le, ◌&&◌, if◌then◌else◌}
use Rattle.std.specs.List.{flat_map}
use Rattle.std.specs.Fmt.{decimal}
use Rattle.ptl_types.specs.declared.elements.ElemType.{ElemType}
use Rattle.ptl_types.specs.Operations.{bytes_of, is_signed, span}
use Rattle.ptl_types.specs.Elements.{pattern, little_endian}

-- the first n elements of w bytes each
abbrev pub first_elements : ℕ → ℕ → List ℕ → List ℕ
first_elements w zero bytes = []
first_elements w (suc n) bytes = pattern (take w bytes) ∷ first_elements w n (drop w bytes)

-- the elements that the bytes hold, as bit patterns
unfoldable pub elements : ElemType → List ℕ → List ℕ
elements ty bytes = first_elements (bytes_of ty) (length bytes / bytes_of ty) bytes

-- the bytes of elements
abbrev pub bytes_of_list : ElemType → List ℕ → List ℕ
bytes_of_list ty = flat_map (little_endian (bytes_of ty))

-- half of the bit patterns: of a signed type those from here on are below 0
abbrev pub half : ElemType → ℕ
half ty = span ty / 2

-- the word of a value, from its bit pattern: a signed one is two's complement
abbrev pub value_word : ElemType → ℕ → List ℕ
value_word ty n = if is_signed ty && nat_le (half ty) n then 45 ∷ decimal (span ty - n) else decimal n

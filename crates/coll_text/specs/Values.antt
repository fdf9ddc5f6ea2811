-- Values of the element types, and lines of them.
use Rattle.std.specs.Prelude.{ℕ, ◌-◌, List, [], ◌∷◌, ◌++◌, length, Option, Some, None, Result, Ok, Err, ◌&&◌, not, ◌==◌, nat_lt, nat_le}
use Rattle.std.specs.Prelude.{if◌then◌else◌, option_and_then, option_map}
use Rattle.std.specs.List.{list_any}
use Rattle.ptl_types.specs.declared.elements.ElemType.{ElemType}
use Rattle.ptl_types.specs.Operations.{bytes_of, is_signed, span}
use Rattle.ptl_types.specs.Elements.{little_endian}
use Rattle.coll_text.specs.Text.{number_of, is_empty}
use Rattle.coll_text.specs.Elements.{half}
use Rattle.coll_text.specs.declared.values.Flaw.{Flaw}
use Rattle.coll_text.specs.declared.values.Flaw.TheVariants.{Malformed, NoValue}

-- the first number that is too large
abbrev pub too_large : ElemType → ℕ
too_large ty = if is_signed ty then half ty else span ty

-- the bit pattern of a value without a sign
abbrev pub unsigned_of : ElemType → List ℕ → Option ℕ
unsigned_of ty word = option_and_then (λ n. if nat_lt n (too_large ty) then Some n else None) (number_of word)

-- the bit pattern of a value after `-`, in two's complement
abbrev pub negative_of : ElemType → List ℕ → Option ℕ
negative_of ty digits = option_and_then (λ n. if nat_lt 0 n && nat_le n (half ty) then Some (span ty - n) else None) (number_of digits)

-- the bit pattern of the value that the word is, if it is one of the type
unfoldable pub value_of : ElemType → List ℕ → Option ℕ
value_of ty [] = None
value_of ty (b ∷ bs) = if is_signed ty && b == 45 then negative_of ty bs else unsigned_of ty (b ∷ bs)

-- the bytes of the values, if each word is one
abbrev pub all_values : ElemType → List (List ℕ) → Option (List ℕ)
all_values ty [] = Some []
all_values ty (w ∷ ws) =
    option_and_then (λ n. option_map (λ more. little_endian (bytes_of ty) n ++ more) (all_values ty ws)) (value_of ty w)

abbrev pub or_no_value : Option (List ℕ) → Result (List ℕ) Flaw
or_no_value None = Err NoValue
or_no_value (Some bytes) = Ok bytes

-- the bytes of a data line: as many words as are due, none of them empty, each a value
unfoldable pub data_line : ElemType → ℕ → List (List ℕ) → Result (List ℕ) Flaw
data_line ty count ws = if length ws == count && not (list_any is_empty ws) then or_no_value (all_values ty ws) else Err Malformed

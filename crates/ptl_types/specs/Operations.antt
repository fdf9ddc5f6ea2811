-- The atomic operations and their starting values on bit patterns, and the swaps (Portals 4.3, atomic and swap operations).
-- A bit pattern of a type is a number below its span.
use Rattle.std.specs.Prelude.{ℕ, Bool, true, false, ◌&&◌, ◌||◌, not, ◌==◌, nat_le, ◌+◌, ◌-◌, ◌*◌, ◌/◌, ◌%◌, ◌^◌, bit_and, bit_or, bit_xor}
use Rattle.std.specs.Prelude.{if◌then◌else◌}
use Rattle.ptl_types.specs.declared.elements.ElemType.{ElemType}
use Rattle.ptl_types.specs.declared.elements.ElemType.TheVariants.{U8, I8, U16, I16, U32, I32, U64, I64}
use Rattle.ptl_types.specs.declared.elements.AtomicOp.{AtomicOp}
use Rattle.ptl_types.specs.declared.elements.AtomicOp.TheVariants.{Min, Max, Sum, Prod, Lor, Land, Bor, Band, Lxor, Bxor}
use Rattle.ptl_types.specs.declared.elements.SwapOp.{SwapOp}
use Rattle.ptl_types.specs.declared.elements.SwapOp.TheVariants.{Swap, Cswap, Mswap}

abbrev pub bytes_of : ElemType → ℕ
bytes_of U8 = 1
bytes_of I8 = 1
bytes_of U16 = 2
bytes_of I16 = 2
bytes_of U32 = 4
bytes_of I32 = 4
bytes_of U64 = 8
bytes_of I64 = 8

abbrev pub is_signed : ElemType → Bool
is_signed I8 = true
is_signed I16 = true
is_signed I32 = true
is_signed I64 = true
is_signed _ = false

-- 2 to the width
abbrev pub span : ElemType → ℕ
span ty = 2 ^ (8 * bytes_of ty)

-- a key by which the type's order is that of the numbers: a signed pattern is turned by half the span
abbrev pub order_key : ElemType → ℕ → ℕ
order_key ty x = if is_signed ty then (x + span ty / 2) % span ty else x

abbrev pub one_if : Bool → ℕ
one_if b = if b then 1 else 0

abbrev pub isnt_zero : ℕ → Bool
isnt_zero x = not (x == 0)

abbrev pub op : AtomicOp → ElemType → ℕ → ℕ → ℕ
op Min ty x y = if nat_le (order_key ty x) (order_key ty y) then x else y
op Max ty x y = if nat_le (order_key ty x) (order_key ty y) then y else x
op Sum ty x y = (x + y) % span ty
op Prod ty x y = (x * y) % span ty
op Lor ty x y = one_if (isnt_zero x || isnt_zero y)
op Land ty x y = one_if (isnt_zero x && isnt_zero y)
op Bor ty x y = bit_or x y
op Band ty x y = bit_and x y
op Lxor ty x y = one_if ((isnt_zero x && not (isnt_zero y)) || (not (isnt_zero x) && isnt_zero y))
op Bxor ty x y = bit_xor x y

-- the value that an operation begins with
abbrev pub start_value : AtomicOp → ElemType → ℕ
start_value Min ty = if is_signed ty then span ty / 2 - 1 else span ty - 1
start_value Max ty = if is_signed ty then span ty / 2 else 0
start_value Sum ty = 0
start_value Prod ty = 1
start_value Lor ty = 0
start_value Land ty = 1
start_value Bor ty = 0
start_value Band ty = span ty - 1
start_value Lxor ty = 0
start_value Bxor ty = 0

-- what a swap writes over the old element
abbrev pub swapped : SwapOp → ElemType → ℕ → ℕ → ℕ → ℕ
swapped Swap ty operand old new = new
swapped Cswap ty operand old new = if old == operand then new else old
swapped Mswap ty operand old new = bit_or (bit_and old (span ty - 1 - operand % span ty)) (bit_and new operand)

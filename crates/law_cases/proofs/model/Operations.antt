-- The operations on elements, by hand: each at values that tell it from the others, with and without a sign, and their starting values.
use Rattle.std.specs.Prelude.{ℕ, ◌≡◌, ◌-◌, ◌+◌, ◌^◌, List, [], ◌∷◌, map, refl}
use Rattle.ptl_types.specs.declared.elements.ElemType.{ElemType}
use Rattle.ptl_types.specs.declared.elements.ElemType.TheVariants.{U8, I8, U16, I16, U32, I32, U64, I64}
use Rattle.ptl_types.specs.declared.elements.AtomicOp.{AtomicOp}
use Rattle.ptl_types.specs.declared.elements.AtomicOp.TheVariants.{Min, Max, Sum, Prod, Lor, Land, Bor, Band, Lxor, Bxor}
use Rattle.ptl_types.specs.declared.elements.SwapOp.TheVariants.{Swap, Cswap, Mswap}
use Rattle.ptl_types.specs.Elements.{combined, little_endian, part, pattern, starting, written}
use Rattle.ptl_types.specs.Operations.{bytes_of, op, start_value, swapped}

abbrev types : List ElemType
types = U8 ∷ I8 ∷ U16 ∷ I16 ∷ U32 ∷ I32 ∷ U64 ∷ I64 ∷ []

widths : map bytes_of types ≡ 1 ∷ 1 ∷ 2 ∷ 2 ∷ 4 ∷ 4 ∷ 8 ∷ 8 ∷ []
widths = refl

-- ---- the order of the type: the pattern 200 of eight bits is -56 with a sign
lesser :
    op Min U8 200 5 ∷ op Min I8 200 5 ∷ op Min I8 127 128 ∷ op Min U16 200 5 ∷ op Min I64 (2 ^ 63) 0 ∷ []
    ≡ 5 ∷ 200 ∷ 128 ∷ 5 ∷ 2 ^ 63 ∷ []
lesser = refl

greater :
    op Max U8 200 5 ∷ op Max I8 200 5 ∷ op Max I8 127 128 ∷ op Max I16 200 5 ∷ op Max I32 (2 ^ 31) 0 ∷ []
    ≡ 200 ∷ 5 ∷ 127 ∷ 200 ∷ 0 ∷ []
greater = refl

-- ---- modulo the width
sums :
    op Sum U8 200 100 ∷ op Sum I8 127 1 ∷ op Sum U16 200 100 ∷ op Sum U32 (2 ^ 32 - 1) 2 ∷ op Sum I64 (2 ^ 64 - 1) 2 ∷ []
    ≡ 44 ∷ 128 ∷ 300 ∷ 1 ∷ 1 ∷ []
sums = refl

products : op Prod U8 20 13 ∷ op Prod I8 255 255 ∷ op Prod U16 20 13 ∷ op Prod U64 (2 ^ 63) 2 ∷ [] ≡ 4 ∷ 1 ∷ 260 ∷ 0 ∷ []
products = refl

-- ---- logical: of 0 and 0, 0 and 4, 3 and 0, 3 and 4
abbrev four : AtomicOp → List ℕ
four o = op o U8 0 0 ∷ op o U8 0 4 ∷ op o U8 3 0 ∷ op o U8 3 4 ∷ []

some_one : four Lor ≡ 0 ∷ 1 ∷ 1 ∷ 1 ∷ []
some_one = refl

both : four Land ≡ 0 ∷ 0 ∷ 0 ∷ 1 ∷ []
both = refl

exactly_one : four Lxor ≡ 0 ∷ 1 ∷ 1 ∷ 0 ∷ []
exactly_one = refl

-- ---- bit by bit, of 12 and 10
bits : op Bor U8 12 10 ∷ op Band U8 12 10 ∷ op Bxor U8 12 10 ∷ [] ≡ 14 ∷ 8 ∷ 6 ∷ []
bits = refl

-- ---- starting values, of each type
abbrev starts : AtomicOp → List ℕ
starts o = map (start_value o) types

greatest : starts Min ≡ 255 ∷ 127 ∷ 65535 ∷ 32767 ∷ (2 ^ 32 - 1) ∷ (2 ^ 31 - 1) ∷ (2 ^ 64 - 1) ∷ (2 ^ 63 - 1) ∷ []
greatest = refl

least : starts Max ≡ 0 ∷ 128 ∷ 0 ∷ 32768 ∷ 0 ∷ 2 ^ 31 ∷ 0 ∷ 2 ^ 63 ∷ []
least = refl

all_ones : starts Band ≡ 255 ∷ 255 ∷ 65535 ∷ 65535 ∷ (2 ^ 32 - 1) ∷ (2 ^ 32 - 1) ∷ (2 ^ 64 - 1) ∷ (2 ^ 64 - 1) ∷ []
all_ones = refl

abbrev small : AtomicOp → ℕ
small o = start_value o I16

ones_and_nothings : map small (Sum ∷ Prod ∷ Lor ∷ Land ∷ Bor ∷ Lxor ∷ Bxor ∷ []) ≡ 0 ∷ 1 ∷ 0 ∷ 1 ∷ 0 ∷ 0 ∷ 0 ∷ []
ones_and_nothings = refl

-- ---- swaps of the old 144 and the new 255
plain : swapped Swap U8 7 144 255 ≡ 255
plain = refl

conditional : swapped Cswap U8 144 144 255 ∷ swapped Cswap U8 143 144 255 ∷ swapped Cswap U8 (256 + 144) 144 255 ∷ [] ≡ 255 ∷ 144 ∷ 144 ∷ []
conditional = refl

masked : swapped Mswap U8 15 144 255 ∷ swapped Mswap U8 (256 + 15) 144 255 ∷ swapped Mswap U16 256 144 511 ∷ [] ≡ 159 ∷ 159 ∷ 400 ∷ []
masked = refl

-- ---- little-endian bytes
lowest_first : little_endian 4 67305985 ≡ 1 ∷ 2 ∷ 3 ∷ 4 ∷ []
lowest_first = refl

read_so : pattern (1 ∷ 2 ∷ 3 ∷ 4 ∷ []) ≡ 67305985
read_so = refl

-- 255 and 1, 257 and 257
carried : combined Sum U16 (255 ∷ 0 ∷ 1 ∷ 1 ∷ []) (1 ∷ 0 ∷ 1 ∷ 1 ∷ []) ≡ 0 ∷ 1 ∷ 2 ∷ 2 ∷ []
carried = refl

each_starts : starting Min I16 4 ≡ 255 ∷ 127 ∷ 255 ∷ 127 ∷ []
each_starts = refl

middle : part 1 2 (5 ∷ 6 ∷ 7 ∷ 8 ∷ []) ≡ 6 ∷ 7 ∷ []
middle = refl

over_the_middle : written 1 (1 ∷ 2 ∷ []) (5 ∷ 6 ∷ 7 ∷ 8 ∷ []) ≡ 5 ∷ 1 ∷ 2 ∷ 8 ∷ []
over_the_middle = refl

-- Match bits, from the highest: job 16 bits (always 1), class 8 bits, target cell 24 bits, sender 16 bits.
use Rattle.std.specs.Prelude.{ℕ, ◌==◌, ◌+◌, ◌-◌, ◌*◌, ◌/◌, ◌%◌, ◌^◌, Option, Some, None, if◌then◌else◌}
use Rattle.ptl_types.specs.declared.elements.AtomicOp.{AtomicOp}
use Rattle.ptl_types.specs.declared.elements.AtomicOp.TheVariants.{Min, Max, Sum, Prod, Lor, Land, Bor, Band, Lxor, Bxor}
use Rattle.ptl_types.specs.declared.elements.ElemType.{ElemType}
use Rattle.ptl_types.specs.declared.elements.ElemType.TheVariants.{U8, I8, U16, I16, U32, I32, U64, I64}
use Rattle.plan_core.specs.Plan.{Plan, cell}

-- the number of an operation in the match bits
abbrev pub op_number : AtomicOp → ℕ
op_number Min = 0
op_number Max = 1
op_number Sum = 2
op_number Prod = 3
op_number Lor = 4
op_number Land = 5
op_number Bor = 6
op_number Band = 7
op_number Lxor = 8
op_number Bxor = 9

-- the number of a type
abbrev pub type_number : ElemType → ℕ
type_number U8 = 0
type_number I8 = 1
type_number U16 = 2
type_number I16 = 3
type_number U32 = 4
type_number I32 = 5
type_number U64 = 6
type_number I64 = 7

-- 0 for what is put, else by operation and type: below 81
abbrev pub class_of : Option AtomicOp → ElemType → ℕ
class_of None ty = 0
class_of (Some o) ty = 1 + 8 * op_number o + type_number ty

-- ---- read back

-- the operation of a number
abbrev pub op_at : ℕ → AtomicOp
op_at n =
    if n == 0 then Min else (if n == 1 then Max else (if n == 2 then Sum else (if n == 3 then Prod else (if n == 4 then Lor
    else (if n == 5 then Land else (if n == 6 then Bor else (if n == 7 then Band else (if n == 8 then Lxor else Bxor))))))))

-- the type of a number
abbrev pub type_at : ℕ → ElemType
type_at n =
    if n == 0 then U8 else (if n == 1 then I8 else (if n == 2 then U16 else (if n == 3 then I16 else (if n == 4 then U32
    else (if n == 5 then I32 else (if n == 6 then U64 else I64))))))

-- what a class combines by
abbrev pub class_op : ℕ → Option AtomicOp
class_op k = if k == 0 then None else Some (op_at ((k - 1) / 8))

-- the elements of a class
abbrev pub class_type : ℕ → ElemType
class_type k = type_at ((k - 1) % 8)

-- ---- the bits

-- job, class and cell above the sender's 16 bits
abbrev pub bits_above : ℕ → ℕ → ℕ
bits_above class c = (1 * 2 ^ 8 + class) * 2 ^ 24 + c

-- those of cell c: its class and number
abbrev pub cell_bits : Plan → ℕ → ℕ
cell_bits p c = bits_above (class_of (cell p c).op (cell p c).ty) c

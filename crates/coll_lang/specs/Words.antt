-- The words of the language, as they are written. The words of steps stand in their rows.
use Rattle.std.specs.Prelude.{ℕ, List, codes}
use Rattle.ptl_types.specs.declared.elements.ElemType.{ElemType}
use Rattle.ptl_types.specs.declared.elements.ElemType.TheVariants as types
use Rattle.ptl_types.specs.declared.elements.AtomicOp.{AtomicOp}
use Rattle.ptl_types.specs.declared.elements.AtomicOp.TheVariants as ops
use Rattle.coll_shape.specs.declared.types.Version.{Version}
use Rattle.coll_shape.specs.declared.types.Version.TheVariants as versions
use Rattle.coll_lang.specs.declared.choices.ChoiceKind.{ChoiceKind}
use Rattle.coll_lang.specs.declared.choices.ChoiceKind.TheVariants as choices
use Rattle.coll_lang.specs.declared.fault.Refusal.{Refusal}
use Rattle.coll_lang.specs.declared.fault.Refusal.TheVariants.{TooLong, BadByte, BadHeader, BadRanks, BadLine, BadNumber, NameTaken}
use Rattle.coll_lang.specs.declared.fault.Refusal.TheVariants.{UnknownBuffer, BadRoot, WrongShape, TooMany, TooLarge, Unended, AfterEnd}
use Rattle.coll_lang.specs.declared.fault.Refusal.TheVariants.{BadOrder, BadGroup, BadJson, BadForm, OneThread}

abbrev pub refusal_word : Refusal → List ℕ
refusal_word TooLong = codes "TooLong"
refusal_word BadByte = codes "BadByte"
refusal_word BadHeader = codes "BadHeader"
refusal_word BadRanks = codes "BadRanks"
refusal_word BadLine = codes "BadLine"
refusal_word BadNumber = codes "BadNumber"
refusal_word NameTaken = codes "NameTaken"
refusal_word UnknownBuffer = codes "UnknownBuffer"
refusal_word BadRoot = codes "BadRoot"
refusal_word WrongShape = codes "WrongShape"
refusal_word TooMany = codes "TooMany"
refusal_word TooLarge = codes "TooLarge"
refusal_word Unended = codes "Unended"
refusal_word AfterEnd = codes "AfterEnd"
refusal_word BadOrder = codes "BadOrder"
refusal_word BadGroup = codes "BadGroup"
refusal_word BadJson = codes "BadJson"
refusal_word BadForm = codes "BadForm"
refusal_word OneThread = codes "OneThread"

-- on one line the lowest number counts
abbrev pub refusal_number : Refusal → ℕ
refusal_number TooLong = 1
refusal_number BadByte = 2
refusal_number BadHeader = 3
refusal_number BadRanks = 4
refusal_number BadLine = 5
refusal_number BadNumber = 6
refusal_number NameTaken = 7
refusal_number UnknownBuffer = 8
refusal_number BadRoot = 9
refusal_number WrongShape = 10
refusal_number TooMany = 11
refusal_number TooLarge = 12
refusal_number Unended = 13
refusal_number AfterEnd = 14
refusal_number BadOrder = 15
refusal_number BadGroup = 16
refusal_number BadJson = 17
refusal_number BadForm = 18
refusal_number OneThread = 19

abbrev pub type_word : ElemType → List ℕ
type_word types.U8 = codes "u8"
type_word types.I8 = codes "i8"
type_word types.U16 = codes "u16"
type_word types.I16 = codes "i16"
type_word types.U32 = codes "u32"
type_word types.I32 = codes "i32"
type_word types.U64 = codes "u64"
type_word types.I64 = codes "i64"

abbrev pub op_word : AtomicOp → List ℕ
op_word ops.Min = codes "min"
op_word ops.Max = codes "max"
op_word ops.Sum = codes "sum"
op_word ops.Prod = codes "prod"
op_word ops.Lor = codes "lor"
op_word ops.Land = codes "land"
op_word ops.Bor = codes "bor"
op_word ops.Band = codes "band"
op_word ops.Lxor = codes "lxor"
op_word ops.Bxor = codes "bxor"

abbrev pub version_word : Version → List ℕ
version_word versions.One = codes "1"
version_word versions.Two = codes "2"

abbrev pub choice_word : ChoiceKind → List ℕ
choice_word choices.Elect = codes "elect"
choice_word choices.Tickets = codes "tickets"

-- Words of which only a few may stand.
use Rattle.std.specs.Prelude.{ℕ, List, Option, Some, None, Result, Bool, true, false, codes, if◌then◌else◌}
use Rattle.std.specs.Str.{bytes_eq}
use Rattle.ptl_types.specs.declared.entries.List.{List as EntryList}
use Rattle.ptl_types.specs.declared.entries.List.TheVariants as lists
use Rattle.ptl_types.specs.declared.elements.ElemType.{ElemType}
use Rattle.ptl_types.specs.declared.elements.AtomicOp.{AtomicOp}
use Rattle.ptl_types.specs.declared.elements.SwapOp.{SwapOp}
use Rattle.ptl_types.specs.declared.elements.SwapOp.TheVariants as swaps
use Rattle.coll_text.specs.Named.{op_named, type_named}
use Rattle.log_words.specs.Words.{Word, Rest}
use Rattle.log_words.specs.Reading.{Taken, next_as}
use Rattle.log_words.specs.declared.faults.Flaw.TheVariants.{BadWord}
use Rattle.log_words.specs.declared.faults.LineFault.{LineFault}
use Rattle.log_words.specs.declared.call_fields.said.StartName.{StartName}
use Rattle.log_words.specs.declared.call_fields.said.StartName.TheVariants as names

unfoldable pub list_named : List ℕ → Option EntryList
list_named w =
    if bytes_eq w (codes "priority") then Some lists.Priority
    else if bytes_eq w (codes "overflow") then Some lists.Overflow
    else None

-- whether a search deletes what it finds
unfoldable pub deletes_named : List ℕ → Option Bool
deletes_named w =
    if bytes_eq w (codes "keep") then Some false
    else if bytes_eq w (codes "delete") then Some true
    else None

unfoldable pub swap_named : List ℕ → Option SwapOp
swap_named w =
    if bytes_eq w (codes "swap") then Some swaps.Swap
    else if bytes_eq w (codes "cswap") then Some swaps.Cswap
    else if bytes_eq w (codes "mswap") then Some swaps.Mswap
    else None

unfoldable pub start_named : List ℕ → Option StartName
start_named w =
    if bytes_eq w (codes "put") then Some names.Put
    else if bytes_eq w (codes "get") then Some names.Get
    else if bytes_eq w (codes "atomic") then Some names.Atomic
    else if bytes_eq w (codes "fetch_atomic") then Some names.FetchAtomic
    else if bytes_eq w (codes "swap") then Some names.Swap
    else None

-- such a word as the next
unfoldable pub list_next : Rest → Result (Taken EntryList) LineFault
list_next = next_as BadWord (λ (w : Word). list_named w.text)

unfoldable pub deletes_next : Rest → Result (Taken Bool) LineFault
deletes_next = next_as BadWord (λ (w : Word). deletes_named w.text)

unfoldable pub type_next : Rest → Result (Taken ElemType) LineFault
type_next = next_as BadWord (λ (w : Word). type_named w.text)

unfoldable pub op_next : Rest → Result (Taken AtomicOp) LineFault
op_next = next_as BadWord (λ (w : Word). op_named w.text)

unfoldable pub swap_next : Rest → Result (Taken SwapOp) LineFault
swap_next = next_as BadWord (λ (w : Word). swap_named w.text)

-- The lines of a given plan, word by word.
use Rattle.std.specs.Prelude.{ℕ, ◌&&◌, List, [], ◌∷◌, Option, Some, None, Bool, true, false, Result, Ok, Err, is_some, nat_lt}
use Rattle.std.specs.Prelude.{option_and_then, option_map, if◌then◌else◌, codes}
use Rattle.std.specs.Str.{bytes_eq}
use Rattle.ptl_types.specs.declared.elements.AtomicOp.{AtomicOp}
use Rattle.coll_text.specs.Text.{number_between}
use Rattle.coll_text.specs.Named.{op_named, type_named}
use Rattle.coll_shape.specs.declared.types.Buffer.{Buffer}
use Rattle.coll_lang.specs.Forms.{◌>>=◌}
use Rattle.coll_lang.specs.Language.{buffer_number}
use Rattle.plan_core.specs.declared.Cell.{Cell}
use Rattle.plan_core.specs.declared.Link.{Link}
use Rattle.plan_core.specs.declared.LinkKind.{LinkKind}
use Rattle.plan_core.specs.declared.LinkKind.TheVariants.{Put, Atomic, Bump}
use Rattle.given_lines.specs.declared.fault.GivenRefusal.{GivenRefusal}
use Rattle.given_lines.specs.declared.fault.GivenRefusal.TheVariants.{BadPlan, TooMany}
use Rattle.given_lines.specs.declared.given.Counts.{Counts}
use Rattle.given_lines.specs.declared.given.Mark.{Mark}
use Rattle.given_lines.specs.declared.given.Mark.TheVariants as marks

-- ---- words

-- a number below 2^64
abbrev pub long_of : List ℕ → Option ℕ
long_of word = number_between 0 18446744073709551615 word

-- a number below 2^32
abbrev pub short_of : List ℕ → Option ℕ
short_of word = number_between 0 4294967295 word

abbrev pub kind_of : List ℕ → Option LinkKind
kind_of word =
    if bytes_eq word (codes "put") then Some Put
    else if bytes_eq word (codes "atomic") then Some Atomic
    else if bytes_eq word (codes "bump") then Some Bump
    else None

-- whether completion waits for acknowledgements too
abbrev pub remote_of : List ℕ → Option Bool
remote_of word =
    if bytes_eq word (codes "remote") then Some true
    else if bytes_eq word (codes "local") then Some false
    else None

-- a cell's operation; `-` stands for none
abbrev pub cell_op_of : List ℕ → Option (Option AtomicOp)
cell_op_of word = if bytes_eq word (codes "-") then Some None else option_map (λ o. Some o) (op_named word)

-- ---- lines

-- the words after the first two of a line that is numbered, which are its name and its number
unfoldable pub headed : List ℕ → ℕ → List (List ℕ) → Option (List (List ℕ))
headed name n [] = None
headed name n (key ∷ []) = None
headed name n (key ∷ number ∷ words) = if bytes_eq key name && is_some (number_between n n number) then Some words else None

-- `CELLS LINKS local`, or `remote`: with so many cells at least
unfoldable pub counts_in : ℕ → List (List ℕ) → Option Counts
counts_in least (cells ∷ links ∷ last ∷ []) = do
  c ← number_between least 16777215 cells
  l ← short_of links
  r ← remote_of last
  Some (record { cells = c; links = l; remote = r })
counts_in least _ = None

-- `plan RANKS CELLS LINKS local`, or `remote`: of so many ranks
abbrev pub counts_of : ℕ → ℕ → List (List ℕ) → Option Counts
counts_of ranks least words = headed (codes "plan") ranks words >>= counts_in least

-- a cell of these words
abbrev pub cell_with : List ℕ → List ℕ → List ℕ → List ℕ → List ℕ → Option Cell
cell_with rank ty op length needs = do
  r ← short_of rank
  t ← type_named ty
  o ← cell_op_of op
  l ← long_of length
  n ← long_of needs
  Some (record { rank = r; ty = t; op = o; length = l; needs = n })

-- `RANK TYPE OP LENGTH NEEDS`
unfoldable pub cell_in : List (List ℕ) → Option Cell
cell_in (rank ∷ ty ∷ op ∷ length ∷ needs ∷ []) = cell_with rank ty op length needs
cell_in _ = None

-- `cell NUMBER RANK TYPE OP LENGTH NEEDS`
abbrev pub cell_of : ℕ → List (List ℕ) → Option Cell
cell_of n words = headed (codes "cell") n words >>= cell_in

-- a link of these words
abbrev pub link_with : List ℕ → List ℕ → List ℕ → List ℕ → List ℕ → List ℕ → Option Link
link_with source source_offset length target target_offset kind = do
  s ← short_of source
  f ← long_of source_offset
  l ← long_of length
  t ← short_of target
  a ← long_of target_offset
  k ← kind_of kind
  Some (record { source = s; source_offset = f; length = l; target = t; target_offset = a; kind = k })

-- `SOURCE SOURCE_OFFSET LENGTH TARGET TARGET_OFFSET KIND`
unfoldable pub link_in : List (List ℕ) → Option Link
link_in (source ∷ source_offset ∷ length ∷ target ∷ target_offset ∷ kind ∷ []) =
    link_with source source_offset length target target_offset kind
link_in _ = None

-- `link NUMBER SOURCE SOURCE_OFFSET LENGTH TARGET TARGET_OFFSET KIND`
abbrev pub link_of : ℕ → List (List ℕ) → Option Link
link_of n words = headed (codes "link") n words >>= link_in

-- `THRESHOLD`
unfoldable pub done_in : List (List ℕ) → Option ℕ
done_in (threshold ∷ []) = long_of threshold
done_in _ = None

-- `done RANK THRESHOLD`
abbrev pub done_of : ℕ → List (List ℕ) → Option ℕ
done_of r words = headed (codes "done") r words >>= done_in

-- the last two words of a line that names a cell
abbrev pub at_cell : (ℕ → ℕ → Mark) → List ℕ → List ℕ → Option Mark
at_cell mark rank cell = do
  r ← short_of rank
  c ← short_of cell
  Some (mark r c)

-- a cell of a result, of these words after the first
abbrev pub result_of : List Buffer → List ℕ → List ℕ → List ℕ → Option Mark
result_of buffers name rank cell = buffer_number buffers name >>= (λ b. at_cell (marks.Result b) rank cell)

-- a cell at which a barrier is entered
abbrev pub enter_of : List ℕ → List ℕ → List ℕ → Option Mark
enter_of step rank cell = short_of step >>= (λ s. at_cell (marks.Enter s) rank cell)

-- a cell at which it is left
abbrev pub leave_of : List ℕ → List ℕ → List ℕ → Option Mark
leave_of step rank cell = short_of step >>= (λ s. at_cell (marks.Leave s) rank cell)

-- a cell that a line of these words names
abbrev pub mark_with : List Buffer → List ℕ → List ℕ → List ℕ → List ℕ → Option Mark
mark_with buffers key what rank cell =
    if bytes_eq key (codes "result") then result_of buffers what rank cell
    else if bytes_eq key (codes "enter") then enter_of what rank cell
    else if bytes_eq key (codes "leave") then leave_of what rank cell
    else None

-- `result NAME RANK CELL`, `enter STEP RANK CELL` or `leave STEP RANK CELL`
unfoldable pub mark_of : List Buffer → List (List ℕ) → Option Mark
mark_of buffers (key ∷ what ∷ rank ∷ cell ∷ []) = mark_with buffers key what rank cell
mark_of buffers _ = None

-- a plan with more links than are read is refused
abbrev pub bounded_links : Option Counts → Result Counts GivenRefusal
bounded_links None = Err BadPlan
bounded_links (Some counts) = if nat_lt 500000 counts.links then Err TooMany else Ok counts

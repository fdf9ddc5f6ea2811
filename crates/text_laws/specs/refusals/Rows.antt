-- The table of refusals: for each row a test that is true exactly where a line offends it, given the lines before it.
use Rattle.std.specs.Prelude.{◌≡◌, ◌≤◌, ◌↔◌, ℕ, ◌+◌, List, length, Option, Some, None, Ok, Err, Bool, false, ◌&&◌, ◌||◌, not, ◌==◌}
use Rattle.std.specs.Prelude.{nat_lt, nat_le, is_none, is_some, codes}
use Rattle.std.specs.List.{list_all, list_any}
use Rattle.std.specs.Str.{bytes_eq}
use Rattle.ptl_types.specs.declared.elements.ElemType.{ElemType}
use Rattle.coll_text.specs.Text.{words, number_of, number_between, is_empty}
use Rattle.coll_text.specs.Values.{value_of}
use Rattle.coll_shape.specs.Outline.{no_buffer}
use Rattle.coll_shape.specs.Collectives.{step_of}
use Rattle.coll_shape.specs.Collectives.{can_read, made_length}
use Rattle.coll_shape.specs.WellFormed.{most_ranks, elements_of, printed_elements}
use Rattle.coll_shape.specs.declared.types.Buffer.{Buffer}
use Rattle.coll_shape.specs.declared.types.CollStep.{CollStep}
use Rattle.coll_shape.specs.declared.limits.TheConstants.{MOST_GROUPS, MOST_BUFFERS, MOST_STEPS, MOST_PRINTS, MOST_GIVEN, MOST_ELEMENTS}
use Rattle.coll_lang.specs.Forms.{Form, StepWords, group, input, step, choice, print, form_of}
use Rattle.coll_lang.specs.Language.{Past, holds_of, is_allowed, ranks_in, all_numbers, are_members, is_taken, buffer_named, group_named}
use Rattle.coll_lang.specs.Language.{members_in, root_number, is_finished, judge, plain}
use Rattle.coll_lang.specs.declared.stage.Stage.{Stage}
use Rattle.coll_lang.specs.declared.stage.Stage.TheVariants.{Header, Ranks, Data}
use Rattle.coll_lang.specs.declared.fault.Refusal.{Refusal}
use Rattle.coll_lang.specs.declared.fault.Refusal.TheVariants.{BadByte, BadHeader, BadRanks, BadLine, BadNumber, NameTaken, UnknownBuffer}
use Rattle.coll_lang.specs.declared.fault.Refusal.TheVariants.{BadRoot, WrongShape, TooMany, TooLarge, BadGroup}
use Rattle.text_laws.specs.refusals.Table.{IsLowest}
use Rattle.text_laws.specs.refusals.Grammar.{may_be}

-- What a line is where it stands: line 1; line 2 by its words; a data line of so many values by its words; or another by
-- its words.
pub data Kind : Type 0 where
  first : (line : List ℕ) → Kind
  second : (words : List (List ℕ)) → Kind
  values : (ty : ElemType) (count : ℕ) (words : List (List ℕ)) → Kind
  other : (words : List (List ℕ)) → Kind

abbrev pub kind_at : Stage → List ℕ → Kind
kind_at Header line = first line
kind_at Ranks line = second (words line)
kind_at (Data left ty count) line = values ty count (words line)
kind_at stage line = other (words line)

-- line 1 is neither `coll 1` nor `coll 2`
abbrev pub bad_header : Kind → Bool
bad_header (first line) = not (bytes_eq line (codes "coll 1")) && not (bytes_eq line (codes "coll 2"))
bad_header _ = false

-- line 2 isn't `ranks N` with N from 1 to the version's most
abbrev pub bad_ranks : Past → Kind → Bool
bad_ranks past (second ws) = is_none (ranks_in (most_ranks past.version) ws)
bad_ranks past _ = false

-- the words aren't a line that may stand here; on a data line: they aren't as many as are due, or one is empty
abbrev pub bad_line : Past → Kind → Bool
bad_line past (values ty count ws) = not (length ws == count) || list_any is_empty ws
bad_line past (other ws) = not (may_be past.version past.stage ws)
bad_line past _ = false

-- what the words say, with numbers still as words
abbrev pub form_in : Kind → Option Form
form_in (other ws) = form_of ws
form_in _ = None

-- COUNT isn't from 1 to MOST_GIVEN, or ROOT or a member is no number
abbrev pub no_number : Form → Bool
no_number (group name members) = list_any (λ w. is_none (number_of w)) members
no_number (input name ty count) = is_none (number_between 1 MOST_GIVEN count)
no_number (step on words) = is_none (root_number words.root)
no_number _ = false

-- the same, or a word of a data line is no value of its type
abbrev pub bad_number : Kind → Bool
bad_number (values ty count ws) = list_any (λ w. is_none (value_of ty w)) ws
bad_number (other ws) = holds_of no_number (form_of ws)
bad_number _ = false

-- the new name is that of a buffer or a group already
abbrev pub name_taken : Past → Form → Bool
name_taken past (group name members) = is_taken past name
name_taken past (input name ty count) = is_taken past name
name_taken past (step on words) = holds_of (λ names. is_taken past names.1) words.names
name_taken past (choice kind name) = is_taken past name
name_taken past _ = false

-- A, or the name of a print, is no buffer
abbrev pub unknown_buffer : Past → Form → Bool
unknown_buffer past (step on words) = holds_of (λ names. is_none (buffer_named past.buffers names.0)) words.names
unknown_buffer past (print name) = is_none (buffer_named past.buffers name)
unknown_buffer past _ = false

-- ROOT isn't below the number of the group's members
abbrev pub bad_root : Past → Form → Bool
bad_root past (step on words) =
    holds_of (λ g. holds_of (λ word. holds_of (nat_le (length (members_in past g))) (number_of word)) words.root)
    (group_named past.groups on)
bad_root past _ = false

-- A with its number, where there is one of that name; a step without buffers reads none
abbrev pub source_in : Past → Option (List ℕ × List ℕ) → Option (ℕ × Buffer)
source_in past None = Some (0, no_buffer)
source_in past (Some names) = buffer_named past.buffers names.0

-- a test of the members, the step and A, where the line names a group, a number and a buffer
abbrev pub of_step : (List ℕ → CollStep → Buffer → Bool) → Past → Option (List ℕ) → StepWords → Bool
of_step test past on words =
    holds_of (λ g. holds_of (λ from. holds_of (λ root.
    test (members_in past g) (step_of words.kind root words.op from.0 (length past.buffers)) from.1)
    (root_number words.root)) (source_in past words.names)) (group_named past.groups on)

-- A isn't what the step's row asks of it
abbrev pub wrong_shape : Past → Form → Bool
wrong_shape past (step on words) = of_step (λ members s a. not (can_read members s a)) past on words
wrong_shape past _ = false

-- this is the 65th step, the 129th buffer, the 129th print or the 65th group
abbrev pub too_many : Past → Form → Bool
too_many past (group name members) = nat_le MOST_GROUPS (length past.groups)
too_many past (input name ty count) = nat_le MOST_BUFFERS (length past.buffers)
too_many past (step on words) = nat_le MOST_STEPS (length past.steps) || (is_some words.names && nat_le MOST_BUFFERS (length past.buffers))
too_many past (choice kind name) = nat_le MOST_STEPS (length past.choices) || nat_le MOST_BUFFERS (length past.buffers)
too_many past (print name) = nat_le MOST_PRINTS (length past.prints)
too_many past _ = false

-- the elements of the prints so far, over all ranks
abbrev pub printed_so_far : Past → ℕ
printed_so_far past = printed_elements (plain past).shape

-- the new buffer has more than 16,777,216 elements at some rank, or the prints up to this one have more over all ranks
abbrev pub too_large : Past → Form → Bool
too_large past (step on words) = of_step (λ members s a. nat_lt MOST_ELEMENTS (made_length members s a)) past on words
too_large past (print name) =
    holds_of (λ from. nat_lt MOST_ELEMENTS (printed_so_far past + elements_of from.1)) (buffer_named past.buffers name)
too_large past _ = false

-- the members aren't ranks, or don't rise; or the word after `on` is no group
abbrev pub bad_group : Past → Form → Bool
bad_group past (group name members) = holds_of (λ ms. not (are_members past.ranks ms)) (all_numbers members)
bad_group past (step on words) = is_none (group_named past.groups on)
bad_group past _ = false

-- a line of such a kind offends the row of that name
abbrev pub kind_offends : Past → Kind → Refusal → Bool
kind_offends past kind BadHeader = bad_header kind
kind_offends past kind BadRanks = bad_ranks past kind
kind_offends past kind BadLine = bad_line past kind
kind_offends past kind BadNumber = bad_number kind
kind_offends past kind NameTaken = holds_of (name_taken past) (form_in kind)
kind_offends past kind UnknownBuffer = holds_of (unknown_buffer past) (form_in kind)
kind_offends past kind BadRoot = holds_of (bad_root past) (form_in kind)
kind_offends past kind WrongShape = holds_of (wrong_shape past) (form_in kind)
kind_offends past kind TooMany = holds_of (too_many past) (form_in kind)
kind_offends past kind TooLarge = holds_of (too_large past) (form_in kind)
kind_offends past kind BadGroup = holds_of (bad_group past) (form_in kind)
kind_offends past kind _ = false

-- the line offends the row of that name
abbrev pub offends : Past → List ℕ → Refusal → Bool
offends past line BadByte = not (list_all is_allowed line)
offends past line name = kind_offends past (kind_at past.stage line) name

-- what is said so far tells the elements of its prints, and no group is empty
pub record Counts (past : Past) : Type 0 where
  pub counted : past.printed ≡ printed_so_far past
  pub peopled : (on : Option (List ℕ)) (g : Option ℕ) → group_named past.groups on ≡ Some g → 1 ≤ length (members_in past g)

-- a line that is due is refused by the lowest row that it offends, and taken where it offends none
pub record IsJudged (past : Past) (line : List ℕ) : Type 0 where
  pub refused : (name : Refusal) → judge past line ≡ Err name ↔ IsLowest (offends past line) name
  pub taken : ((next : Past) × (judge past line ≡ Ok next)) ↔ ((name : Refusal) → offends past line name ≡ false)

abbrev pub ByTheRows : Type 0
ByTheRows = (past : Past) (line : List ℕ) → Counts past → is_finished past.stage ≡ false → IsJudged past line

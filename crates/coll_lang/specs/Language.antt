-- The language: which line may stand where, what it says, and which refusal comes first.
use Rattle.std.specs.Prelude.{ℕ, zero, suc, ◌+◌, ◌-◌, List, [], ◌∷◌, ◌++◌, length, Option, Some, None, Result, Ok, Err, Bool, true, false}
use Rattle.std.specs.Prelude.{◌&&◌, ◌||◌, not, nat_lt, nat_le, is_some, option_map, if◌then◌else◌, codes, option_and_then}
use Rattle.std.specs.List.{list_all, position, slice_get}
use Rattle.std.specs.Str.{bytes_eq}
use Rattle.ptl_types.specs.declared.elements.ElemType.{ElemType}
use Rattle.ptl_types.specs.declared.elements.ElemType.TheVariants.{U64}
use Rattle.number_lists.specs.Numbers.{from_to}
use Rattle.coll_text.specs.Text.{lines, words, number_of, number_between, is_empty}
use Rattle.coll_text.specs.Values.{data_line}
use Rattle.coll_text.specs.declared.values.Flaw.{Flaw}
use Rattle.coll_text.specs.declared.values.Flaw.TheVariants.{Malformed, NoValue}
use Rattle.coll_shape.specs.Outline.{no_buffer, members_of}
use Rattle.coll_shape.specs.Rows.{in_rows}
use Rattle.coll_shape.specs.Collectives.{step_of, kind_since}
use Rattle.coll_shape.specs.Collectives.{can_read, made_length, made_holders}
use Rattle.coll_shape.specs.WellFormed.{most_ranks, elements_of}
use Rattle.coll_shape.specs.declared.types.Version.{Version}
use Rattle.coll_shape.specs.declared.types.Version.TheVariants.{One, Two}
use Rattle.coll_shape.specs.declared.types.Buffer.{Buffer}
use Rattle.coll_shape.specs.declared.types.Group.{Group}
use Rattle.coll_shape.specs.declared.types.CollStep.{CollStep}
use Rattle.coll_shape.specs.declared.limits.TheConstants.{MOST_GROUPS, MOST_BUFFERS, MOST_STEPS, MOST_PRINTS, MOST_GIVEN, MOST_ELEMENTS}
use Rattle.coll_lang.specs.Forms.{Form, StepWords, complete, group, input, step, choice, print, last, form_of}
use Rattle.coll_lang.specs.Program.{Chosen, Program}
use Rattle.coll_lang.specs.declared.choices.ChoiceKind.{ChoiceKind}
use Rattle.coll_lang.specs.declared.choices.ChoiceKind.TheVariants as kinds
use Rattle.coll_lang.specs.declared.choices.ChoiceStep.{ChoiceStep}
use Rattle.coll_lang.specs.declared.choices.ChoiceStep.TheVariants.{Elect, Tickets}
use Rattle.coll_lang.specs.declared.stage.Stage.{Stage}
use Rattle.coll_lang.specs.declared.stage.Stage.TheVariants.{Header, Ranks, Options, Groups, Inputs, Data, Steps, Choosing, Prints}
use Rattle.coll_lang.specs.declared.stage.Stage.TheVariants.{Finished}
use Rattle.coll_lang.specs.declared.fault.Refusal.{Refusal}
use Rattle.coll_lang.specs.declared.fault.Refusal.TheVariants.{TooLong, BadByte, BadHeader, BadRanks, BadLine, BadNumber, NameTaken}
use Rattle.coll_lang.specs.declared.fault.Refusal.TheVariants.{UnknownBuffer, BadRoot, WrongShape, TooMany, TooLarge, Unended, AfterEnd}
use Rattle.coll_lang.specs.declared.fault.Refusal.TheVariants.{BadGroup}
use Rattle.coll_lang.specs.declared.whole.TheConstants.{LONGEST_TEXT}

-- What the earlier lines say.
pub record Past : Type 0 where
  pub stage : Stage
  pub version : Version
  pub ranks : ℕ
  pub remote : Bool
  pub groups : List Group
  -- the inputs first; also what the steps of a choice text make
  pub buffers : List Buffer
  -- how many of the buffers are inputs
  pub inputs : ℕ
  -- the bytes of each data line
  pub given : List (List ℕ)
  pub steps : List CollStep
  -- for each step the number of the group that it names
  pub on : List (Option ℕ)
  -- the steps of a choice text
  pub choices : List ChoiceStep
  -- the numbers of the buffers that are printed
  pub prints : List ℕ
  -- the elements of all prints, over all ranks
  pub printed : ℕ

abbrev pub nothing : Past
nothing = record {
  stage = Header;
  version = One;
  ranks = 1;
  remote = false;
  groups = [];
  buffers = [];
  inputs = 0;
  given = [];
  steps = [];
  on = [];
  choices = [];
  prints = [];
  printed = 0;
}

infixl 10 ◌>>=◌
abbrev pub ◌>>=◌ : {A B : Type 0} → Result A Refusal → (A → Result B Refusal) → Result B Refusal
(Ok x) >>= f = f x
(Err e) >>= f = Err e

-- the refusal, if it holds
abbrev pub refuse : Bool → Refusal → Result (Unit {0}) Refusal
refuse b name = if b then Err name else Ok tt

abbrev pub or_refuse : {A : Type 0} → Refusal → Option A → Result A Refusal
or_refuse name None = Err name
or_refuse name (Some x) = Ok x

-- a test of a value, where there is one
abbrev pub holds_of : {A : Type 0} → (A → Bool) → Option A → Bool
holds_of p None = false
holds_of p (Some x) = p x

-- LF alone is allowed beside these, and stands in no line
abbrev pub is_allowed : ℕ → Bool
is_allowed b = nat_le 32 b && nat_le b 126

-- `coll 1` or `coll 2`
abbrev pub version_of : List ℕ → Option Version
version_of line = if bytes_eq line (codes "coll 1") then Some One else if bytes_eq line (codes "coll 2") then Some Two else None

-- `ranks N`
unfoldable pub ranks_in : ℕ → List (List ℕ) → Option ℕ
ranks_in most [] = None
ranks_in most (key ∷ []) = None
ranks_in most (key ∷ n ∷ []) = if bytes_eq key (codes "ranks") then number_between 1 most n else None
ranks_in most (key ∷ n ∷ w ∷ ws) = None

-- ---- where a line may stand

abbrev pub stands_in : Version → Version → Bool
stands_in One version = true
stands_in Two One = false
stands_in Two Two = true

-- the version from which on there are such lines
abbrev pub form_since : Form → Version
form_since (group name members) = Two
form_since (step None words) = kind_since words.kind
form_since (step (Some name) words) = Two
form_since (choice kind name) = Two
form_since _ = One

-- whether such a line may stand at this stage
abbrev pub stands_at : Stage → Form → Bool
stands_at Options _ = true
stands_at Groups complete = false
stands_at Groups (choice kind name) = false
stands_at Groups _ = true
stands_at Inputs complete = false
stands_at Inputs (group name members) = false
stands_at Inputs (choice kind name) = false
stands_at Inputs _ = true
stands_at Steps (step on words) = true
stands_at Steps (print name) = true
stands_at Steps last = true
stands_at Steps _ = false
stands_at Choosing (choice kind name) = true
stands_at Choosing (print name) = true
stands_at Choosing last = true
stands_at Choosing _ = false
stands_at Prints (print name) = true
stands_at Prints last = true
stands_at Prints _ = false
stands_at _ _ = false

abbrev pub may_stand : Version → Stage → Form → Bool
may_stand version stage form = stands_in (form_since form) version && stands_at stage form

-- ---- names

-- the number of the group of that name
abbrev pub group_number : List Group → List ℕ → Option ℕ
group_number groups name = position (λ (g : Group). bytes_eq g.name name) groups

-- the number of the buffer of that name
abbrev pub buffer_number : List Buffer → List ℕ → Option ℕ
buffer_number buffers name = position (λ (b : Buffer). bytes_eq b.name name) buffers

-- the buffer of that name, with its number
unfoldable pub buffer_named : List Buffer → List ℕ → Option (ℕ × Buffer)
buffer_named buffers name = option_and_then (λ i. option_map (λ (b : Buffer). (i, b)) (slice_get buffers i)) (buffer_number buffers name)

-- a group or a buffer has the name
abbrev pub is_taken : Past → List ℕ → Bool
is_taken past name = is_some (group_number past.groups name) || is_some (buffer_number past.buffers name)

-- ---- groups

-- the numbers that the words are, if each is one
abbrev pub all_numbers : List (List ℕ) → Option (List ℕ)
all_numbers [] = Some []
all_numbers (w ∷ ws) = option_and_then (λ n. option_map (λ ns. n ∷ ns) (all_numbers ws)) (number_of w)

abbrev pub is_rising : List ℕ → Bool
is_rising [] = true
is_rising (m ∷ []) = true
is_rising (m ∷ n ∷ ns) = nat_lt m n && is_rising (n ∷ ns)

-- ranks, rising, at least one
abbrev pub are_members : ℕ → List ℕ → Bool
are_members ranks ms = (list_all (λ m. nat_lt m ranks) ms && is_rising ms) && nat_lt 0 (length ms)

unfoldable pub group_line : Past → List ℕ → List (List ℕ) → Result Past Refusal
group_line past name members = do
  ms ← or_refuse BadNumber (all_numbers members)
  _ ← refuse (is_taken past name) NameTaken
  _ ← refuse (nat_le MOST_GROUPS (length past.groups)) TooMany
  _ ← refuse (not (are_members past.ranks ms)) BadGroup
  Ok (record past { stage = Groups; groups = past.groups ++ record { name = name; members = ms } ∷ [] })

-- ---- inputs

-- the stage where this many data lines are still due
abbrev pub data_due : ℕ → ElemType → ℕ → Stage
data_due zero ty count = Inputs
data_due (suc left) ty count = Data (suc left) ty count

-- an input is held by all ranks
abbrev pub input_buffer : ℕ → List ℕ → ElemType → ℕ → Buffer
input_buffer ranks name ty count = record { name = name; ty = ty; spread = record { length = count; holders = from_to 0 ranks } }

unfoldable pub input_line : Past → List ℕ → ElemType → List ℕ → Result Past Refusal
input_line past name ty count = do
  len ← or_refuse BadNumber (number_between 1 MOST_GIVEN count)
  _ ← refuse (is_taken past name) NameTaken
  _ ← refuse (nat_le MOST_BUFFERS (length past.buffers)) TooMany
  Ok (record past {
    stage = data_due past.ranks ty len;
    buffers = past.buffers ++ input_buffer past.ranks name ty len ∷ [];
    inputs = past.inputs + 1;
  })

-- ---- steps

-- the number that ROOT is; 0 where the step takes none
abbrev pub root_number : Option (List ℕ) → Option ℕ
root_number None = Some 0
root_number (Some word) = number_of word

-- A with its number, where B's name is new; of a step without buffers no buffer
unfoldable pub source_named : Past → Option (List ℕ × List ℕ) → Result (ℕ × Buffer) Refusal
source_named past None = Ok (0, no_buffer)
source_named past (Some names) =
    refuse (is_taken past names.1) NameTaken >>= λ _. or_refuse UnknownBuffer (buffer_named past.buffers names.0)

-- the number of the group that a step names, if there is such a group
abbrev pub group_named : List Group → Option (List ℕ) → Option (Option ℕ)
group_named groups None = Some None
group_named groups (Some name) = option_map (λ i. Some i) (group_number groups name)

abbrev pub members_in : Past → Option ℕ → List ℕ
members_in past on = members_of (from_to 0 past.ranks) past.groups on

-- B, of a step on the members g that reads x
abbrev pub new_buffer : List ℕ → CollStep → Buffer → List ℕ → Buffer
new_buffer g s x name = record { name = name; ty = x.ty; spread = record { length = made_length g s x; holders = made_holders g s } }

abbrev pub with_made : List Buffer → List ℕ → CollStep → Buffer → Option (List ℕ × List ℕ) → List Buffer
with_made buffers g s x None = buffers
with_made buffers g s x (Some names) = buffers ++ new_buffer g s x names.1 ∷ []

-- A step with that root, from a buffer with its number, on the group that was found, if one was. The refusals stand in the
-- order of their numbers.
unfoldable pub step_on : Past → StepWords → ℕ → ℕ × Buffer → Option (Option ℕ) → Result Past Refusal
step_on past words root from found =
    let s = step_of words.kind root words.op from.0 (length past.buffers) in do
      _ ← refuse (holds_of (λ on. nat_le (length (members_in past on)) root) found) BadRoot
      _ ← refuse (holds_of (λ on. not (can_read (members_in past on) s from.1)) found) WrongShape
      _ ← refuse (nat_le MOST_STEPS (length past.steps) || (is_some words.names && nat_le MOST_BUFFERS (length past.buffers))) TooMany
      _ ← refuse (holds_of (λ on. nat_lt MOST_ELEMENTS (made_length (members_in past on) s from.1)) found) TooLarge
      on ← or_refuse BadGroup found
      Ok (record past {
        stage = Steps;
        buffers = with_made past.buffers (members_in past on) s from.1 words.names;
        steps = past.steps ++ s ∷ [];
        on = past.on ++ on ∷ [];
      })

unfoldable pub rooted_line : Past → Option (List ℕ) → StepWords → ℕ → Result Past Refusal
rooted_line past on words root = source_named past words.names >>= λ from. step_on past words root from (group_named past.groups on)

unfoldable pub step_line : Past → Option (List ℕ) → StepWords → Result Past Refusal
step_line past on words = or_refuse BadNumber (root_number words.root) >>= λ root. rooted_line past on words root

-- ---- choice texts

abbrev pub choice_step : ChoiceKind → List ℕ → ChoiceStep
choice_step kinds.Elect name = Elect name
choice_step kinds.Tickets name = Tickets name

-- what a choice step makes: one element at every rank, whose type no rule looks at
abbrev pub choice_buffer : ℕ → List ℕ → Buffer
choice_buffer ranks name = input_buffer ranks name U64 1

unfoldable pub choice_line : Past → ChoiceKind → List ℕ → Result Past Refusal
choice_line past kind name = do
  _ ← refuse (is_taken past name) NameTaken
  _ ← refuse (nat_le MOST_STEPS (length past.choices) || nat_le MOST_BUFFERS (length past.buffers)) TooMany
  Ok (record past {
    stage = Choosing;
    buffers = past.buffers ++ choice_buffer past.ranks name ∷ [];
    choices = past.choices ++ choice_step kind name ∷ [];
  })

-- ---- prints

unfoldable pub print_line : Past → List ℕ → Result Past Refusal
print_line past name = do
  from ← or_refuse UnknownBuffer (buffer_named past.buffers name)
  _ ← refuse (nat_le MOST_PRINTS (length past.prints)) TooMany
  _ ← refuse (nat_lt MOST_ELEMENTS (past.printed + elements_of from.1)) TooLarge
  Ok (record past { stage = Prints; prints = past.prints ++ from.0 ∷ []; printed = past.printed + elements_of from.1 })

-- ---- lines

-- a line after the first two that may stand where it does
unfoldable pub form_line : Past → Form → Result Past Refusal
form_line past complete = Ok (record past { stage = Groups; remote = true })
form_line past (group name members) = group_line past name members
form_line past (input name ty count) = input_line past name ty count
form_line past (step on words) = step_line past on words
form_line past (choice kind name) = choice_line past kind name
form_line past (print name) = print_line past name
form_line past last = Ok (record past { stage = Finished })

-- a flaw of a data line as a refusal
abbrev pub unless_flawed : Result (List ℕ) Flaw → Result (List ℕ) Refusal
unless_flawed (Ok bytes) = Ok bytes
unless_flawed (Err Malformed) = Err BadLine
unless_flawed (Err NoValue) = Err BadNumber

-- the values of a data line are added, and one line fewer is due
abbrev pub with_values : Past → ℕ → ElemType → ℕ → List ℕ → Past
with_values past left ty count bytes = record past { stage = data_due (left - 1) ty count; given = past.given ++ bytes ∷ [] }

unfoldable pub values_line : Past → ℕ → ElemType → ℕ → List ℕ → Result Past Refusal
values_line past left ty count line = do
  bytes ← unless_flawed (data_line ty count (words line))
  Ok (with_values past left ty count bytes)

unfoldable pub later_line : Past → List ℕ → Result Past Refusal
later_line past line = do
  form ← or_refuse BadLine (form_of (words line))
  _ ← refuse (not (may_stand past.version past.stage form)) BadLine
  form_line past form

-- what a line of allowed bytes is at this stage
unfoldable pub line_at : Stage → Past → List ℕ → Result Past Refusal
line_at Header past line = or_refuse BadHeader (version_of line) >>= λ v. Ok (record past { stage = Ranks; version = v })
line_at Ranks past line =
    or_refuse BadRanks (ranks_in (most_ranks past.version) (words line)) >>= λ n. Ok (record past { stage = Options; ranks = n })
line_at (Data left ty count) past line = values_line past left ty count line
line_at Options past line = later_line past line
line_at Groups past line = later_line past line
line_at Inputs past line = later_line past line
line_at Steps past line = later_line past line
line_at Choosing past line = later_line past line
line_at Prints past line = later_line past line
line_at Finished past line = Err AfterEnd

-- a line, judged by the lines before it: what they all say together, or the refusal
unfoldable pub judge : Past → List ℕ → Result Past Refusal
judge past line = if list_all is_allowed line then line_at past.stage past line else Err BadByte

abbrev pub is_finished : Stage → Bool
is_finished Finished = true
is_finished _ = false

-- a refusal of a line has the line's number
abbrev pub numbered : {A B : Type 0} → ℕ → Result A Refusal → (A → Result B (ℕ × Refusal)) → Result B (ℕ × Refusal)
numbered line (Ok x) f = f x
numbered line (Err name) f = Err (line, name)

-- The pieces of a text from line k on. No LF stands after the last piece.
unfoldable pub read_from : Past → ℕ → List (List ℕ) → Result Past (ℕ × Refusal)
read_from past k [] = Err (k, Unended)
read_from past k (piece ∷ []) = if is_finished past.stage then (if is_empty piece then Ok past else Err (k, AfterEnd)) else Err (k, Unended)
read_from past k (line ∷ piece ∷ pieces) =
    if is_finished past.stage then Err (k, AfterEnd)
    else numbered k (judge past line) (λ next. read_from next (k + 1) (piece ∷ pieces))

-- ---- what all lines together describe

abbrev pub plain : Past → Program
plain past = record {
  shape = record {
    version = past.version;
    ranks = past.ranks;
    remote = past.remote;
    groups = past.groups;
    buffers = past.buffers;
    inputs = past.inputs;
    steps = past.steps;
    on = past.on;
    prints = past.prints;
  };
  inputs = in_rows past.ranks past.inputs past.given;
  choices = None;
}

-- A choice text: its shape has its ranks alone. (Nothing else can have been said, since its first step stands on line 3.)
abbrev pub chosen : Version → ℕ → Chosen → Program
chosen version ranks choices = record {
  shape = record {
    version = version;
    ranks = ranks;
    remote = false;
    groups = [];
    buffers = [];
    inputs = 0;
    steps = [];
    on = [];
    prints = [];
  };
  inputs = [];
  choices = Some choices;
}

abbrev pub described_by : Past → List ChoiceStep → Program
described_by past [] = plain past
described_by past (c ∷ cs) = chosen past.version past.ranks (record { steps = c ∷ cs; prints = past.prints })

unfoldable pub described : Past → Program
described past = described_by past past.choices

abbrev pub program_in : Result Past (ℕ × Refusal) → Result Program (ℕ × Refusal)
program_in (Ok past) = Ok (described past)
program_in (Err refusal) = Err refusal

-- What a text of at most a mebibyte describes, or its first refusal with its line.
unfoldable pub read : List ℕ → Result Program (ℕ × Refusal)
read bytes = if nat_lt LONGEST_TEXT (length bytes) then Err (0, TooLong) else program_in (read_from nothing 1 (lines bytes))

-- A line is judged by the rows, of which the lowest that it offends counts.
use Rattle.std.proofs.Common.{◌≡◌, ◌≤◌, ℕ, ◌+◌, List, [], ◌∷◌, ◌++◌, length, Option, Some, None, Result, Ok, Err, Bool, true, false, ◌&&◌}
use Rattle.std.proofs.Common.{◌||◌, not, cond, refl, sym, ap, ◌∙◌, arith, subst, codes}
use Rattle.std.specs.Prelude.{◌==◌, nat_lt, nat_le, is_none, is_some, option_and_then, option_map}
use Rattle.std.specs.List.{list_all, list_any}
use Rattle.std.specs.Str.{bytes_eq}
use Rattle.std.proofs.lemmas.Bool.Decides.{nat_tests}
use Rattle.ptl_types.specs.declared.elements.ElemType.{ElemType}
use Rattle.ptl_types.specs.Operations.{bytes_of}
use Rattle.ptl_types.specs.Elements.{little_endian}
use Rattle.coll_text.specs.Text.{words, number_of, number_between, is_empty}
use Rattle.coll_text.specs.Values.{value_of, all_values, or_no_value, data_line}
use Rattle.coll_text.specs.declared.values.Flaw.TheVariants.{Malformed}
use Rattle.coll_shape.specs.Collectives.{step_of}
use Rattle.coll_shape.specs.Collectives.{can_read, made_length}
use Rattle.coll_shape.specs.WellFormed.{most_ranks, elements_of}
use Rattle.coll_shape.specs.declared.types.Version.{Version}
use Rattle.coll_shape.specs.declared.types.Version.TheVariants.{One, Two}
use Rattle.coll_shape.specs.declared.types.Buffer.{Buffer}
use Rattle.coll_shape.specs.declared.limits.TheConstants.{MOST_GROUPS, MOST_BUFFERS, MOST_STEPS, MOST_PRINTS, MOST_GIVEN, MOST_ELEMENTS}
use Rattle.coll_lang.specs.Forms.{Form, StepWords, complete, group, input, step, choice, print, last, form_of}
use Rattle.coll_lang.specs.Language.{Past, ◌>>=◌, refuse, or_refuse, holds_of, is_allowed, ranks_in, may_stand, all_numbers, are_members}
use Rattle.coll_lang.specs.Language.{is_taken, buffer_named, group_named, members_in, root_number, source_named, step_on, rooted_line}
use Rattle.coll_lang.specs.Language.{step_line, group_line, input_line, choice_line, print_line, form_line, unless_flawed, values_line}
use Rattle.coll_lang.specs.Language.{later_line, line_at, judge, is_finished}
use Rattle.coll_lang.specs.declared.stage.Stage.{Stage}
use Rattle.coll_lang.specs.declared.stage.Stage.TheVariants.{Header, Ranks, Options, Groups, Inputs, Data, Steps, Choosing, Prints}
use Rattle.coll_lang.specs.declared.stage.Stage.TheVariants.{Finished}
use Rattle.coll_lang.specs.declared.fault.Refusal.{Refusal}
use Rattle.coll_lang.specs.declared.fault.Refusal.TheVariants.{BadByte, BadHeader, BadRanks, BadLine, BadNumber, NameTaken, UnknownBuffer}
use Rattle.coll_lang.specs.declared.fault.Refusal.TheVariants.{BadRoot, WrongShape, TooMany, TooLarge, BadGroup}
use Rattle.text_laws.specs.refusals.Grammar.{may_be}
use Rattle.text_laws.specs.refusals.Rows.{Kind, other, Counts, no_number, name_taken, unknown_buffer, bad_root, source_in, wrong_shape}
use Rattle.text_laws.specs.refusals.Rows.{too_many, too_large, bad_group, kind_at, kind_offends, offends, ByTheRows}
use Rattle.text_laws.proofs.refusals.Lowest.{first_of, first_row, refusal_in, all_names, lowest_of, first_is, none_of, none_is}
use Rattle.text_laws.proofs.refusals.Grammar.{words_by_the_table}

-- ---- lines that say something, if they may stand where they do
groups : {A : Type 0} (numbers : Option (List ℕ)) (taken full : Bool) (bad : List ℕ → Bool) (next : List ℕ → A)
    → refusal_in (or_refuse BadNumber numbers >>= λ ms. refuse taken NameTaken >>= λ _. refuse full TooMany >>= λ _. refuse
    (bad ms) BadGroup >>= λ _. Ok (next ms))
    ≡ first_row ((BadNumber, is_none numbers) ∷ (NameTaken, taken) ∷ (TooMany, full) ∷ (BadGroup, holds_of bad numbers) ∷ [])
groups None taken full bad next = refl
groups (Some ms) true full bad next = refl
groups (Some ms) false true bad next = refl
groups (Some ms) false false bad next = elim (bad ms) as
    (λ b. refusal_in (refuse b BadGroup >>= λ _. Ok (next ms)) ≡ first_row ((BadGroup, b) ∷ [])) [ true ↦ refl | false ↦ refl ]

-- all words are numbers, or one is none
numbers_there : (ws : List (List ℕ)) → is_none (all_numbers ws) ≡ list_any (λ w. is_none (number_of w)) ws
numbers_there [] = refl
numbers_there (w ∷ ws) = one (number_of w) (all_numbers ws) (list_any (λ w. is_none (number_of w)) ws) (numbers_there ws)
  where
    one : (n : Option ℕ) (more : Option (List ℕ)) (none : Bool) → is_none more ≡ none
        → is_none (option_and_then (λ n. option_map (λ ns. n ∷ ns) more) n) ≡ (is_none n || none)
    one None more none h = refl
    one (Some n) None none h = h
    one (Some n) (Some ns) none h = h

inputs : {A : Type 0} (count : Option ℕ) (taken full : Bool) (next : ℕ → A)
    → refusal_in (or_refuse BadNumber count >>= λ len. refuse taken NameTaken >>= λ _. refuse full TooMany >>= λ _. Ok (next len))
    ≡ first_row ((BadNumber, is_none count) ∷ (NameTaken, taken) ∷ (TooMany, full) ∷ [])
inputs None taken full next = refl
inputs (Some len) true full next = refl
inputs (Some len) false true next = refl
inputs (Some len) false false next = refl

choices : {A : Type 0} (taken full : Bool) (next : A)
    → refusal_in (refuse taken NameTaken >>= λ _. refuse full TooMany >>= λ _. Ok next)
    ≡ first_row ((NameTaken, taken) ∷ (TooMany, full) ∷ [])
choices true full next = refl
choices false true next = refl
choices false false next = refl

prints : {A F : Type 0} (from : Option F) (full : Bool) (large : F → Bool) (next : F → A)
    → refusal_in (or_refuse UnknownBuffer from >>= λ f. refuse full TooMany >>= λ _. refuse (large f) TooLarge >>= λ _. Ok (next f))
    ≡ first_row ((UnknownBuffer, is_none from) ∷ (TooMany, full) ∷ (TooLarge, holds_of large from) ∷ [])
prints None full large next = refl
prints (Some f) true large next = refl
prints (Some f) false large next = elim (large f) as
    (λ b. refusal_in (refuse b TooLarge >>= λ _. Ok (next f)) ≡ first_row ((TooLarge, b) ∷ [])) [ true ↦ refl | false ↦ refl ]

-- the last part of a step: its place, its shape, room, size and group
ends : {G A : Type 0} (late bad full large : Bool) (found : Option G) (next : G → A)
    → refusal_in (refuse late BadRoot >>= λ _. refuse bad WrongShape >>= λ _. refuse full TooMany >>= λ _.
    refuse large TooLarge >>= λ _. or_refuse BadGroup found >>= λ g. Ok (next g))
    ≡ first_row ((BadRoot, late) ∷ (WrongShape, bad) ∷ (TooMany, full) ∷ (TooLarge, large) ∷ (BadGroup, is_none found) ∷ [])
ends true bad full large found next = refl
ends false true full large found next = refl
ends false false true large found next = refl
ends false false false true found next = refl
ends false false false false None next = refl
ends false false false false (Some g) next = refl

-- a test of the members, where the group is found, and of ROOT and of A with its number, where there are these
abbrev of_found : (Option ℕ → ℕ × Buffer → ℕ → Bool) → Option (ℕ × Buffer) → Option ℕ → Option (Option ℕ) → Bool
of_found test source number found = holds_of (λ g. holds_of (λ from. holds_of (λ root. test g from root) number) source) found

abbrev unread : Past → StepWords → Option ℕ → ℕ × Buffer → ℕ → Bool
unread past words g from root = not (can_read (members_in past g) (step_of words.kind root words.op from.0 (length past.buffers)) from.1)

abbrev too_long : Past → StepWords → Option ℕ → ℕ × Buffer → ℕ → Bool
too_long past words g from root = nat_lt MOST_ELEMENTS
    (made_length (members_in past g) (step_of words.kind root words.op from.0 (length past.buffers)) from.1)

abbrev is_full : Past → StepWords → Bool
is_full past words = nat_le MOST_STEPS (length past.steps) || (is_some words.names && nat_le MOST_BUFFERS (length past.buffers))

-- the rows of a step, with ROOT's number: 0 where it has none
abbrev step_rows : Past → StepWords → Option (List ℕ × List ℕ) → Option ℕ → Option (Option ℕ) → List (Refusal × Bool)
step_rows past words names number found =
    (BadNumber, is_none number)
    ∷ (NameTaken, holds_of (λ n. is_taken past n.1) names)
    ∷ (UnknownBuffer, holds_of (λ n. is_none (buffer_named past.buffers n.0)) names)
    ∷ (BadRoot, holds_of (λ g. holds_of (nat_le (length (members_in past g))) number) found)
    ∷ (WrongShape, of_found (unread past words) (source_in past names) number found)
    ∷ (TooMany, is_full past words)
    ∷ (TooLarge, of_found (too_long past words) (source_in past names) number found)
    ∷ (BadGroup, is_none found) ∷ []

rooted : (past : Past) (words : StepWords) (root : ℕ) (from : ℕ × Buffer) (found : Option (Option ℕ))
    → refusal_in (step_on past words root from found)
    ≡ first_row ((BadRoot, holds_of (λ g. nat_le (length (members_in past g)) root) found)
    ∷ (WrongShape, holds_of (λ g. unread past words g from root) found) ∷ (TooMany, is_full past words)
    ∷ (TooLarge, holds_of (λ g. too_long past words g from root) found) ∷ (BadGroup, is_none found) ∷ [])
unfolding step_on
rooted past words root from found =
    ends (holds_of (λ g. nat_le (length (members_in past g)) root) found) (holds_of (λ g. unread past words g from root) found)
    (is_full past words) (holds_of (λ g. too_long past words g from root) found) found _

named : (past : Past) (words : StepWords) (root : ℕ) (found : Option (Option ℕ)) (taken : Bool) (source : Option (ℕ × Buffer))
    → refusal_in ((refuse taken NameTaken >>= λ _. or_refuse UnknownBuffer source) >>= λ from. step_on past words root from found)
    ≡ first_row ((NameTaken, taken) ∷ (UnknownBuffer, is_none source)
    ∷ (BadRoot, holds_of (λ g. nat_le (length (members_in past g)) root) found)
    ∷ (WrongShape, of_found (unread past words) source (Some root) found) ∷ (TooMany, is_full past words)
    ∷ (TooLarge, of_found (too_long past words) source (Some root) found) ∷ (BadGroup, is_none found) ∷ [])
named past words root found true source = refl
named past words root found false None = refl
named past words root found false (Some from) = rooted past words root from found

chain : (past : Past) (words : StepWords) (names : Option (List ℕ × List ℕ)) (number : Option ℕ) (found : Option (Option ℕ))
    → refusal_in (or_refuse BadNumber number >>= λ root. source_named past names >>= λ from. step_on past words root from found)
    ≡ first_row (step_rows past words names number found)
unfolding source_named
chain past words names None found = refl
chain past words None (Some root) found = rooted past words root _ found
chain past words (Some n) (Some root) found = named past words root found (is_taken past n.1) (buffer_named past.buffers n.0)

-- a step without ROOT has 0 in its place, and a member of that place
no_place : (m : ℕ) → 1 ≤ m → nat_le m 0 ≡ false
no_place m l = grind (arith, nat_tests)

late_is : (past : Past) (on : Option (List ℕ)) (root : Option (List ℕ)) (found : Option (Option ℕ))
    → ((g : Option ℕ) → found ≡ Some g → 1 ≤ length (members_in past g))
    → holds_of (λ g. holds_of (nat_le (length (members_in past g))) (root_number root)) found
    ≡ holds_of (λ g. holds_of (λ word. holds_of (nat_le (length (members_in past g))) (number_of word)) root) found
late_is past on root None h = refl
late_is past on None (Some g) h = no_place (length (members_in past g)) (h g refl)
late_is past on (Some word) (Some g) h = refl

-- ---- a line that may stand, by what it says
abbrev others : Past → Bool → Option Form → List (Refusal × Bool)
others past right form =
    (BadLine, not right)
    ∷ (BadNumber, holds_of no_number form)
    ∷ (NameTaken, holds_of (name_taken past) form)
    ∷ (UnknownBuffer, holds_of (unknown_buffer past) form)
    ∷ (BadRoot, holds_of (bad_root past) form)
    ∷ (WrongShape, holds_of (wrong_shape past) form)
    ∷ (TooMany, holds_of (too_many past) form)
    ∷ (TooLarge, holds_of (too_large past) form)
    ∷ (BadGroup, holds_of (bad_group past) form) ∷ []

steps : (past : Past) (on : Option (List ℕ)) (words : StepWords) → Counts past
    → refusal_in (step_line past on words) ≡ first_row (others past true (Some (step on words)))
unfolding step_line rooted_line
steps past on words counts =
    chain past words words.names (root_number words.root) (group_named past.groups on)
    ∙ ap (λ late. first_row ((BadNumber, is_none (root_number words.root)) ∷ (NameTaken, holds_of (λ n. is_taken past n.1) words.names)
    ∷ (UnknownBuffer, holds_of (λ n. is_none (buffer_named past.buffers n.0)) words.names) ∷ (BadRoot, late)
    ∷ (WrongShape, of_found (unread past words) (source_in past words.names) (root_number words.root) (group_named past.groups on))
    ∷ (TooMany, is_full past words)
    ∷ (TooLarge, of_found (too_long past words) (source_in past words.names) (root_number words.root) (group_named past.groups on))
    ∷ (BadGroup, is_none (group_named past.groups on)) ∷ []))
    (late_is past on words.root (group_named past.groups on) (counts.peopled on))

forms : (past : Past) (form : Form) → Counts past → refusal_in (form_line past form) ≡ first_row (others past true (Some form))
unfolding form_line group_line input_line choice_line print_line
forms past complete counts = refl
forms past (group name members) counts =
    groups (all_numbers members) (is_taken past name) (nat_le MOST_GROUPS (length past.groups)) (λ ms. not (are_members past.ranks ms)) _
    ∙ ap (λ b. first_row ((BadNumber, b) ∷ (NameTaken, is_taken past name) ∷ (TooMany, nat_le MOST_GROUPS (length past.groups))
    ∷ (BadGroup, holds_of (λ ms. not (are_members past.ranks ms)) (all_numbers members)) ∷ [])) (numbers_there members)
forms past (input name ty count) counts = inputs (number_between 1 MOST_GIVEN count) (is_taken past name)
    (nat_le MOST_BUFFERS (length past.buffers)) _
forms past (step on words) counts = steps past on words counts
forms past (choice kind name) counts = choices (is_taken past name)
    (nat_le MOST_STEPS (length past.choices) || nat_le MOST_BUFFERS (length past.buffers)) _
forms past (print name) counts =
    prints (buffer_named past.buffers name) (nat_le MOST_PRINTS (length past.prints))
    (λ from. nat_lt MOST_ELEMENTS (past.printed + elements_of from.1)) _
    ∙ ap (λ n. first_row ((UnknownBuffer, is_none (buffer_named past.buffers name)) ∷ (TooMany, nat_le MOST_PRINTS (length past.prints))
    ∷ (TooLarge, holds_of (λ from. nat_lt MOST_ELEMENTS (n + elements_of from.1)) (buffer_named past.buffers name))
    ∷ [])) counts.counted
forms past last counts = refl

-- a line that says something, if that may stand here
if_it_stands : (past : Past) (form : Form) (b : Bool) → Counts past
    → refusal_in (refuse (not b) BadLine >>= λ _. form_line past form) ≡ first_row (others past b (Some form))
if_it_stands past form true counts = forms past form counts
if_it_stands past form false counts = refl

stands : (past : Past) (form : Option Form) (right : Bool) → Counts past → holds_of (may_stand past.version past.stage) form ≡ right
    → refusal_in (or_refuse BadLine form >>= λ f. refuse (not (may_stand past.version past.stage f)) BadLine >>= λ _. form_line past f)
    ≡ first_row (others past right form)
stands past None right counts e = subst (λ r. Some BadLine ≡ first_row (others past r None)) e refl
stands past (Some form) right counts e =
    subst (λ r. refusal_in (refuse (not (may_stand past.version past.stage form)) BadLine >>= λ _. form_line past form)
    ≡ first_row (others past r (Some form))) e (if_it_stands past form (may_stand past.version past.stage form) counts)

-- ---- the rows of a line of allowed bytes
abbrev rows_of : Past → Kind → List (Refusal × Bool)
rows_of past kind =
    (BadHeader, kind_offends past kind BadHeader)
    ∷ (BadRanks, kind_offends past kind BadRanks)
    ∷ (BadLine, kind_offends past kind BadLine)
    ∷ (BadNumber, kind_offends past kind BadNumber)
    ∷ (NameTaken, kind_offends past kind NameTaken)
    ∷ (UnknownBuffer, kind_offends past kind UnknownBuffer)
    ∷ (BadRoot, kind_offends past kind BadRoot)
    ∷ (WrongShape, kind_offends past kind WrongShape)
    ∷ (TooMany, kind_offends past kind TooMany)
    ∷ (TooLarge, kind_offends past kind TooLarge)
    ∷ (BadGroup, kind_offends past kind BadGroup) ∷ []

later : (past : Past) (line : List ℕ) → Counts past → refusal_in (later_line past line) ≡ first_row (rows_of past (other (words line)))
unfolding later_line
later past line counts = stands past (form_of (words line)) (may_be past.version past.stage (words line)) counts
    (words_by_the_table past.version past.stage (words line))

-- all words are values, or one is none
values_there : (ty : ElemType) (ws : List (List ℕ)) → is_none (all_values ty ws) ≡ list_any (λ w. is_none (value_of ty w)) ws
values_there ty [] = refl
values_there ty (w ∷ ws) = one (value_of ty w) (all_values ty ws) (list_any (λ w. is_none (value_of ty w)) ws) (values_there ty ws)
  where
    one : (n : Option ℕ) (more : Option (List ℕ)) (none : Bool) → is_none more ≡ none
        → is_none (option_and_then (λ n. option_map (λ more. little_endian (bytes_of ty) n ++ more) more) n) ≡ (is_none n || none)
    one None more none h = refl
    one (Some n) None none h = h
    one (Some n) (Some bytes) none h = h

values_end : {A : Type 0} (counted empty : Bool) (bytes : Option (List ℕ)) (next : List ℕ → A)
    → refusal_in (unless_flawed (cond (counted && not empty) (or_no_value bytes) (Err Malformed)) >>= λ b. Ok (next b))
    ≡ first_row ((BadLine, not counted || empty) ∷ (BadNumber, is_none bytes) ∷ [])
values_end false empty bytes next = refl
values_end true true bytes next = refl
values_end true false None next = refl
values_end true false (Some b) next = refl

data_lines : (past : Past) (left : ℕ) (ty : ElemType) (count : ℕ) (line : List ℕ)
    → refusal_in (values_line past left ty count line)
    ≡ first_row ((BadLine, not (length (words line) == count) || list_any is_empty (words line))
    ∷ (BadNumber, list_any (λ w. is_none (value_of ty w)) (words line)) ∷ [])
unfolding values_line data_line
data_lines past left ty count line =
    values_end (length (words line) == count) (list_any is_empty (words line)) (all_values ty (words line)) _
    ∙ ap (λ (b : Bool). first_row ((BadLine, not (length (words line) == count) || list_any is_empty (words line)) ∷ (BadNumber, b) ∷ []))
    (values_there ty (words line))

header : {A : Type 0} (one two : Bool) (next : Version → A)
    → refusal_in (or_refuse BadHeader (cond one (Some One) (cond two (Some Two) None)) >>= λ v. Ok (next v))
    ≡ first_row ((BadHeader, not one && not two) ∷ [])
header true two next = refl
header false true next = refl
header false false next = refl

ranks_end : {A : Type 0} (n : Option ℕ) (next : ℕ → A)
    → refusal_in (or_refuse BadRanks n >>= λ n. Ok (next n)) ≡ first_row ((BadRanks, is_none n) ∷ [])
ranks_end None next = refl
ranks_end (Some n) next = refl

at : (stage : Stage) (past : Past) (line : List ℕ) → Counts past → is_finished stage ≡ false
    → refusal_in (line_at stage past line) ≡ first_row (rows_of past (kind_at stage line))
unfolding line_at
at Header past line counts due = header (bytes_eq line (codes "coll 1")) (bytes_eq line (codes "coll 2")) _
at Ranks past line counts due = ranks_end (ranks_in (most_ranks past.version) (words line)) _
at (Data left ty count) past line counts due = data_lines past left ty count line
at Options past line counts due = later past line counts
at Groups past line counts due = later past line counts
at Inputs past line counts due = later past line counts
at Steps past line counts due = later past line counts
at Choosing past line counts due = later past line counts
at Prints past line counts due = later past line counts
at Finished past line counts due = cc

-- the refusal is the first row in the order of numbers
pub first_judged : (past : Past) (line : List ℕ) → Counts past → is_finished past.stage ≡ false
    → refusal_in (judge past line) ≡ first_of (offends past line) all_names
unfolding judge
first_judged past line counts due = bytes (list_all is_allowed line) (line_at past.stage past line)
    (rows_of past (kind_at past.stage line)) (at past.stage past line counts due)
  where
    bytes : (b : Bool) (r : Result Past Refusal) (others : List (Refusal × Bool)) → refusal_in r ≡ first_row others
        → refusal_in (cond b r (Err BadByte)) ≡ first_row ((BadByte, not b) ∷ others)
    bytes true r others h = h
    bytes false r others h = refl

abbrev refused : Refusal → Result Past Refusal
refused name = Err name

pub name_is : (r : Result Past Refusal) (name : Refusal) → refusal_in r ≡ Some name → r ≡ Err name
name_is (Ok past) name h = cc
name_is (Err e) name h = cc

past_is : (r : Result Past Refusal) → refusal_in r ≡ None → (next : Past) × (r ≡ Ok next)
past_is (Ok next) h = (next, refl)
past_is (Err e) h = absurd (never e h)
  where
    never : (e : Refusal) → Some e ≡ None → ⊥
    never e h = cc

pub by_the_rows : ByTheRows
by_the_rows past line counts due =
    let e = first_judged past line counts due in
    record {
      refused = λ name. (
        λ h. lowest_of (offends past line) name (sym e ∙ ap refusal_in h),
        λ low. name_is (judge past line) name (e ∙ first_is (offends past line) name low),
      );
      taken = (
        λ h. none_of (offends past line) (sym e ∙ ap refusal_in h.1),
        λ none. past_is (judge past line) (e ∙ none_is (offends past line) none),
      );
    }

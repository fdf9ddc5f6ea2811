-- Lines keep the elements of the prints so far, and that no group is empty.
use Rattle.std.proofs.Common.{◌≡◌, ◌≤◌, ◌<◌, ℕ, zero, suc, ◌+◌, List, [], ◌∷◌, ◌++◌, length, get_or, Option, Some, None, Result, Ok, Err}
use Rattle.std.proofs.Common.{Bool, true, false, ◌&&◌, ◌||◌, not, cond, refl, sym, ap, ◌∙◌, arith, subst}
use Rattle.std.specs.Prelude.{nat_lt, nat_le, is_some, option_and_then}
use Rattle.std.specs.List.{list_all, sum_by}
use Rattle.std.proofs.lemmas.Bool.Decides.{nat_tests}
use Rattle.std.proofs.lemmas.List.Sums.{sum_by-cons, sum_by_push}
use Rattle.ptl_types.specs.declared.elements.ElemType.{ElemType}
use Rattle.coll_text.specs.Text.{words, number_of, number_between}
use Rattle.coll_text.specs.Values.{data_line}
use Rattle.number_lists.specs.Numbers.{from_to}
use Rattle.coll_shape.specs.Outline.{no_buffer, no_group}
use Rattle.coll_shape.specs.Collectives.{can_read, made_length}
use Rattle.coll_shape.specs.Collectives.{step_of}
use Rattle.coll_shape.specs.WellFormed.{most_ranks, elements_of}
use Rattle.coll_shape.specs.declared.types.Buffer.{Buffer}
use Rattle.coll_shape.specs.declared.types.Group.{Group}
use Rattle.coll_shape.specs.declared.types.CollStep.{CollStep}
use Rattle.coll_shape.specs.declared.limits.TheConstants.{MOST_GROUPS, MOST_BUFFERS, MOST_STEPS, MOST_PRINTS, MOST_GIVEN, MOST_ELEMENTS}
use Rattle.coll_lang.specs.Forms.{Form, StepWords, complete, group, input, step, choice, print, last, form_of}
use Rattle.coll_lang.specs.Language.{Past, ◌>>=◌, refuse, or_refuse, holds_of, nothing, is_allowed, version_of, ranks_in, may_stand}
use Rattle.coll_lang.specs.Language.{all_numbers, are_members, is_taken, buffer_named, group_named, members_in, with_made, root_number}
use Rattle.coll_lang.specs.Language.{source_named, step_on, rooted_line, step_line, group_line, input_line, choice_line, print_line}
use Rattle.coll_lang.specs.Language.{form_line, unless_flawed, values_line, later_line, line_at, judge}
use Rattle.coll_lang.specs.declared.choices.ChoiceKind.{ChoiceKind}
use Rattle.coll_lang.specs.declared.stage.Stage.{Stage}
use Rattle.coll_lang.specs.declared.stage.Stage.TheVariants.{Header, Ranks, Options, Groups, Inputs, Data, Steps, Choosing, Prints}
use Rattle.coll_lang.specs.declared.stage.Stage.TheVariants.{Finished}
use Rattle.coll_lang.specs.declared.fault.Refusal.{Refusal}
use Rattle.coll_lang.specs.declared.fault.Refusal.TheVariants.{BadByte, BadHeader, BadRanks, BadLine, BadNumber, NameTaken, UnknownBuffer}
use Rattle.coll_lang.specs.declared.fault.Refusal.TheVariants.{BadRoot, WrongShape, TooMany, TooLarge, BadGroup}
use Rattle.coll_lang.proofs.Growing.{old_at, longer, each_more}
use Rattle.coll_lang.proofs.Sound.{both_true, not_not}
use Rattle.coll_lang.proofs.SoundSteps.{found, group_found}
use Rattle.text_laws.specs.refusals.Rows.{Counts}
use Rattle.text_laws.specs.refusals.Texts.{taken, said_by, LinesCount}

-- each of the numbers is below n
abbrev Below : ℕ → List ℕ → Type 0
Below n [] = Unit {0}
Below n (i ∷ is) = (i < n) × Below n is

below_more : (n m : ℕ) (is : List ℕ) → n ≤ m → Below n is → Below m is
below_more n m [] l h = tt
below_more n m (i ∷ is) l h = (let b = h.0 in omega (arith, b, l), below_more n m is l h.1)

below_push : (n i : ℕ) (is : List ℕ) → Below n is → i < n → Below n (is ++ i ∷ [])
below_push n i [] h l = (l, tt)
below_push n i (j ∷ is) h l = (h.0, below_push n i is h.1 l)

-- the elements of prints of these buffers
abbrev elements : List Buffer → List ℕ → ℕ
elements bs = sum_by (λ b. elements_of (get_or bs b no_buffer))

grown : (bs c : List Buffer) (is : List ℕ) → Below (length bs) is → elements (bs ++ c) is ≡ elements bs is
grown bs c [] h = refl
grown bs c (i ∷ is) h =
    sum_by-cons (λ b. elements_of (get_or (bs ++ c) b no_buffer)) i is
    ∙ (ap (λ (x : Buffer). elements_of x + elements (bs ++ c) is) (old_at bs c no_buffer i h.0)
    ∙ (ap (λ n. elements_of (get_or bs i no_buffer) + n) (grown bs c is h.1)
    ∙ sym (sum_by-cons (λ b. elements_of (get_or bs b no_buffer)) i is)))

pub record Held (past : Past) : Type 0 where
  pub counted : past.printed ≡ elements past.buffers past.prints
  pub below : Below (length past.buffers) past.prints
  pub some_ranks : 1 ≤ past.ranks
  pub peopled : (i : ℕ) → i < length past.groups → 1 ≤ length (get_or past.groups i no_group).members

everyone : (n : ℕ) → 1 ≤ n → 1 ≤ length (from_to 0 n)
everyone zero l = absurd (omega (arith, l))
everyone (suc n) l = omega arith

pub counts_of : (past : Past) → Held past → Counts past
counts_of past h = record { counted = h.counted; peopled = λ on g e. some g on e }
  where
    some : (g : Option ℕ) (on : Option (List ℕ)) → group_named past.groups on ≡ Some g → 1 ≤ length (members_in past g)
    some None on e = everyone past.ranks h.some_ranks
    some (Some i) on e = h.peopled i (group_found past on (Some i) e).is

-- what holds of a past that is answered
abbrev Of : Result Past Refusal → Type 0
Of (Ok past) = Held past
Of (Err name) = Unit {0}

of_or : {A : Type 0} (name : Refusal) (o : Option A) (f : A → Result Past Refusal) → ((x : A) → o ≡ Some x → Of (f x))
    → Of (or_refuse name o >>= f)
of_or name None f h = tt
of_or name (Some x) f h = h x refl

of_refuse : (b : Bool) (name : Refusal) (f : Unit {0} → Result Past Refusal) → (b ≡ false → Of (f tt)) → Of (refuse b name >>= f)
of_refuse true name f h = tt
of_refuse false name f h = h refl

of_then : {A : Type 0} (r : Result A Refusal) (f : A → Result Past Refusal) → ((x : A) → Of (f x)) → Of (r >>= f)
of_then (Ok x) f h = h x
of_then (Err e) f h = tt

of_if : (b : Bool) (name : Refusal) (r : Result Past Refusal) → Of r → Of (cond b r (Err name))
of_if true name r h = h
of_if false name r h = tt

-- more buffers
counted_with : (past : Past) (c : List Buffer) → Held past → past.printed ≡ elements (past.buffers ++ c) past.prints
counted_with past c h = h.counted ∙ sym (grown past.buffers c past.prints h.below)

below_with : (past : Past) (b : Buffer) → Held past → Below (length (past.buffers ++ b ∷ [])) past.prints
below_with past b h = let l = longer past.buffers b in below_more (length past.buffers) (length (past.buffers ++ b ∷ [])) past.prints
    (omega (arith, l)) h.below

some_members : (ms : List ℕ) → nat_lt 0 (length ms) ≡ true → 1 ≤ length ms
some_members ms h = grind (arith, nat_tests)

groups_held : (past : Past) (name : List ℕ) (members : List (List ℕ)) → Held past → Of (group_line past name members)
unfolding group_line
groups_held past name members h =
    of_or BadNumber (all_numbers members) _ (λ ms _.
    of_refuse (is_taken past name) NameTaken _ (λ _.
    of_refuse (nat_le MOST_GROUPS (length past.groups)) TooMany _ (λ _.
    of_refuse (not (are_members past.ranks ms)) BadGroup _ (λ right.
    record {
      counted = h.counted;
      below = h.below;
      some_ranks = h.some_ranks;
      peopled = each_more (λ (g : Group). 1 ≤ length g.members) past.groups (record { name = name; members = ms }) no_group h.peopled
          (some_members ms (both_true _ _ (not_not (are_members past.ranks ms) right)).1);
    }))))

inputs_held : (past : Past) (name : List ℕ) (ty : ElemType) (count : List ℕ) → Held past → Of (input_line past name ty count)
unfolding input_line
inputs_held past name ty count h =
    of_or BadNumber (number_between 1 MOST_GIVEN count) _ (λ len _.
    of_refuse (is_taken past name) NameTaken _ (λ _.
    of_refuse (nat_le MOST_BUFFERS (length past.buffers)) TooMany _ (λ _.
    record { counted = counted_with past _ h; below = below_with past _ h; some_ranks = h.some_ranks; peopled = h.peopled })))

choices_held : (past : Past) (kind : ChoiceKind) (name : List ℕ) → Held past → Of (choice_line past kind name)
unfolding choice_line
choices_held past kind name h =
    of_refuse (is_taken past name) NameTaken _ (λ _.
    of_refuse (nat_le MOST_STEPS (length past.choices) || nat_le MOST_BUFFERS (length past.buffers)) TooMany _ (λ _.
    record { counted = counted_with past _ h; below = below_with past _ h; some_ranks = h.some_ranks; peopled = h.peopled }))

prints_held : (past : Past) (name : List ℕ) → Held past → Of (print_line past name)
unfolding print_line
prints_held past name h =
    of_or UnknownBuffer (buffer_named past.buffers name) _ (λ from is.
    of_refuse (nat_le MOST_PRINTS (length past.prints)) TooMany _ (λ _.
    of_refuse (nat_lt MOST_ELEMENTS (past.printed + elements_of from.1)) TooLarge _ (λ _.
    let f = found past.buffers name from is in
    record {
      counted = ap (λ n. n + elements_of from.1) h.counted
          ∙ ap (λ n. elements past.buffers past.prints + n) (sym (ap elements_of f.at))
          ∙ sym (sum_by_push (λ b. elements_of (get_or past.buffers b no_buffer)) past.prints from.0);
      below = below_push (length past.buffers) from.0 past.prints h.below f.there;
      some_ranks = h.some_ranks;
      peopled = h.peopled;
    })))

steps_held : (past : Past) (on : Option (List ℕ)) (words : StepWords) → Held past → Of (step_line past on words)
unfolding step_line rooted_line step_on
steps_held past on words h =
    of_or BadNumber (root_number words.root) _ (λ root _.
    of_then (source_named past words.names) _ (λ from.
    let s = step_of words.kind root words.op from.0 (length past.buffers) in
    of_refuse (holds_of (λ on. nat_le (length (members_in past on)) root) (group_named past.groups on)) BadRoot _ (λ _.
    of_refuse (holds_of (λ on. not (can_read (members_in past on) s from.1)) (group_named past.groups on)) WrongShape _ (λ _.
    of_refuse (nat_le MOST_STEPS (length past.steps) || (is_some words.names && nat_le MOST_BUFFERS (length past.buffers))) TooMany _ (λ _.
    of_refuse (holds_of (λ on. nat_lt MOST_ELEMENTS (made_length (members_in past on) s from.1)) (group_named past.groups on)) TooLarge _
    (λ _.
    of_or BadGroup (group_named past.groups on) _ (λ g _.
    record {
      counted = counted words.names (members_in past g) s from.1;
      below = below words.names (members_in past g) s from.1;
      some_ranks = h.some_ranks;
      peopled = h.peopled;
    })))))))
  where
    counted : (names : Option (List ℕ × List ℕ)) (g : List ℕ) (s : CollStep) (x : Buffer)
        → past.printed ≡ elements (with_made past.buffers g s x names) past.prints
    counted None g s x = h.counted
    counted (Some n) g s x = counted_with past _ h

    below : (names : Option (List ℕ × List ℕ)) (g : List ℕ) (s : CollStep) (x : Buffer)
        → Below (length (with_made past.buffers g s x names)) past.prints
    below None g s x = h.below
    below (Some n) g s x = below_with past _ h

forms_held : (past : Past) (form : Form) → Held past → Of (form_line past form)
unfolding form_line
forms_held past complete h = record { counted = h.counted; below = h.below; some_ranks = h.some_ranks; peopled = h.peopled }
forms_held past (group name members) h = groups_held past name members h
forms_held past (input name ty count) h = inputs_held past name ty count h
forms_held past (step on words) h = steps_held past on words h
forms_held past (choice kind name) h = choices_held past kind name h
forms_held past (print name) h = prints_held past name h
forms_held past last h = record { counted = h.counted; below = h.below; some_ranks = h.some_ranks; peopled = h.peopled }

later_held : (past : Past) (line : List ℕ) → Held past → Of (later_line past line)
unfolding later_line
later_held past line h =
    of_or BadLine (form_of (words line)) _
    (λ form _. of_refuse (not (may_stand past.version past.stage form)) BadLine _ (λ _. forms_held past form h))

values_held : (past : Past) (left : ℕ) (ty : ElemType) (count : ℕ) (line : List ℕ) → Held past →
    Of (values_line past left ty count line)
unfolding values_line
values_held past left ty count line h =
    of_then (unless_flawed (data_line ty count (words line))) _
    (λ bytes. record { counted = h.counted; below = h.below; some_ranks = h.some_ranks; peopled = h.peopled })

-- the number of line 2 is at least 1
some_number : (low high : ℕ) (word : List ℕ) (n : ℕ) → number_between low high word ≡ Some n → low ≤ n
some_number low high word n h = go (number_of word) h
  where
    inner : (m : ℕ) (b c : Bool) → (b ≡ true → low ≤ m) → cond (b && c) (Some m) None ≡ Some n → low ≤ n
    inner m true true l e = subst (λ x. low ≤ x) (same m n e) (l refl)
      where
        same : (a b : ℕ) → Some a ≡ Some b → a ≡ b
        same a b e = cc
    inner m true false l e = cc
    inner m false c l e = cc

    least : (m : ℕ) → nat_le low m ≡ true → low ≤ m
    least m e = grind (arith, nat_tests)

    go : (o : Option ℕ) → option_and_then (λ n. cond (nat_le low n && nat_le n high) (Some n) None) o ≡ Some n → low ≤ n
    go None e = cc
    go (Some m) e = inner m (nat_le low m) (nat_le m high) (least m) e

some_ranks_in : (most : ℕ) (ws : List (List ℕ)) (n : ℕ) → ranks_in most ws ≡ Some n → 1 ≤ n
unfolding ranks_in
some_ranks_in most [] n h = cc
some_ranks_in most (key ∷ []) n h = cc
some_ranks_in most (key ∷ w ∷ []) n h = some_number 1 most w n (kept _ (number_between 1 most w) h)
  where
    kept : (b : Bool) (o : Option ℕ) → cond b o None ≡ Some n → o ≡ Some n
    kept true o e = e
    kept false o e = cc
some_ranks_in most (key ∷ w ∷ v ∷ ws) n h = cc

at_held : (stage : Stage) (past : Past) (line : List ℕ) → Held past → Of (line_at stage past line)
unfolding line_at
at_held Header past line h = of_or BadHeader (version_of line) _
    (λ v _. record { counted = h.counted; below = h.below; some_ranks = h.some_ranks; peopled = h.peopled })
at_held Ranks past line h =
    of_or BadRanks (ranks_in (most_ranks past.version) (words line)) _
    (λ n is. record {
      counted = h.counted;
      below = h.below;
      some_ranks = some_ranks_in (most_ranks past.version)
          (words line) n is;
      peopled = h.peopled;
    })
at_held (Data left ty count) past line h = values_held past left ty count line h
at_held Options past line h = later_held past line h
at_held Groups past line h = later_held past line h
at_held Inputs past line h = later_held past line h
at_held Steps past line h = later_held past line h
at_held Choosing past line h = later_held past line h
at_held Prints past line h = later_held past line h
at_held Finished past line h = tt

judge_held : (past : Past) (line : List ℕ) → Held past → Of (judge past line)
unfolding judge
judge_held past line h = of_if (list_all is_allowed line) BadByte (line_at past.stage past line) (at_held past.stage past line h)

-- a line that is taken
pub held_on : (past next : Past) (line : List ℕ) → Held past → judge past line ≡ Ok next → Held next
held_on past next line h e = at (judge past line) (judge_held past line h) e
  where
    at : (r : Result Past Refusal) → Of r → r ≡ Ok next → Held next
    at r o e = subst Of e o

pub held_first : Held nothing
held_first = record { counted = refl; below = tt; some_ranks = omega arith; peopled = λ i l. absurd (omega (arith, l)) }

-- lines that are taken
held_by : (past end : Past) (lines : List (List ℕ)) → Held past → said_by past lines ≡ Some end → Held end
held_by past end [] h e = subst Held (some_is past end e) h
  where
    some_is : (x y : Past) → Some x ≡ Some y → x ≡ y
    some_is x y e = cc
held_by past end (line ∷ lines) h e = on (judge past line) (λ next is. held_by next end lines (held_on past next line h is)) e
  where
    on : (r : Result Past Refusal) → ((next : Past) → r ≡ Ok next → said_by next lines ≡ Some end → Held end)
        → option_and_then (λ next. said_by next lines) (taken r) ≡ Some end → Held end
    on (Ok next) f e = f next refl e
    on (Err name) f e = cc

pub lines_count : LinesCount
lines_count before past e = counts_of past (held_by nothing past before held_first e)

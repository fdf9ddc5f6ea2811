-- Lines that lead from what is said before them to what is said after them.
use Rattle.std.proofs.Common.{◌≡◌, ℕ, ◌+◌, List, [], ◌∷◌, ◌++◌, Some, Ok, true, false, refl, ap, ◌∙◌, arith, append_assoc}
use Rattle.std.specs.Prelude.{◌==◌}
use Rattle.std.specs.List.{list_all, join_with_byte, AllByRecursion}
use Rattle.std.proofs.lemmas.Bool.Decides.{nat_tests}
use Rattle.coll_text.specs.Text.{lines, words, line}
use Rattle.coll_text.proofs.ReadBack.{passes_too, none_is, line_of, joined_passes, words_of_joined}
use Rattle.coll_text.proofs.WordsBack.{is_solid, solid_apart}
use Rattle.coll_lang.specs.Forms.{Form, complete, group, input, step, choice, print, last, form_of}
use Rattle.coll_lang.specs.Language.{Past, judge, line_at, later_line, form_line, form_since, stands_in, stands_at, may_stand, read_from}
use Rattle.coll_lang.specs.Language.{is_allowed, is_finished}
use Rattle.coll_lang.specs.declared.stage.Stage.{Stage}
use Rattle.coll_lang.specs.declared.stage.Stage.TheVariants.{Header, Ranks, Options, Groups, Inputs, Data, Steps, Choosing, Prints}
use Rattle.coll_lang.specs.declared.stage.Stage.TheVariants.{Finished}
use Rattle.coll_lang.proofs.Reading.{goes_on}

-- whatever follows
abbrev pub Leads : Past → Past → List ℕ → Type 0
Leads past next bytes =
    (final : Past) (rest : List ℕ) → ((k : ℕ) → read_from next k (lines rest) ≡ Ok final) → (k : ℕ)
    → read_from past k (lines (bytes ++ rest)) ≡ Ok final

no_break : (b : ℕ) → is_allowed b ≡ true → b == 10 ≡ false
no_break b h = grind (arith, nat_tests)

-- one line
pub one_line : (past next : Past) (l : List ℕ) → is_finished past.stage ≡ false → list_all is_allowed l ≡ true → judge past l ≡ Ok next
    → Leads past next (l ++ 10 ∷ [])
one_line past next l going allowed taken = λ final rest h k.
    ap (λ (x : List ℕ). read_from past k (lines x)) (append_assoc l (10 ∷ []) rest)
    ∙ ap (read_from past k) (line_of l rest (none_is is_allowed 10 l no_break allowed))
    ∙ goes_on past next k l rest going taken
    ∙ h (k + 1)

-- lines after lines
pub then : (past mid next : Past) (x y : List ℕ) → Leads past mid x → Leads mid next y → Leads past next (x ++ y)
then past mid next x y f g = λ final rest h k.
    ap (λ (z : List ℕ). read_from past k (lines z)) (append_assoc x y rest) ∙ f final (y ++ rest) (g final rest h) k

-- words of seen bytes
pub solid_allowed : (ws : List (List ℕ)) → AllByRecursion (λ w. list_all is_solid w ≡ true) ws
    → list_all is_allowed (join_with_byte 32 ws) ≡ true
solid_allowed ws h = joined_passes is_allowed 32 ws refl (each ws h)
  where
    seen : (b : ℕ) → is_solid b ≡ true → is_allowed b ≡ true
    seen b h = grind (arith, nat_tests)

    each : (ws : List (List ℕ)) → AllByRecursion (λ w. list_all is_solid w ≡ true) ws
        → AllByRecursion (λ w. list_all is_allowed w ≡ true) ws
    each [] h = tt
    each (w ∷ ws) h = (passes_too is_solid is_allowed w seen h.0, each ws h.1)

pub solid_words : (w : List ℕ) (ws : List (List ℕ)) → AllByRecursion (λ w. list_all is_solid w ≡ true) (w ∷ ws)
    → words (join_with_byte 32 (w ∷ ws)) ≡ w ∷ ws
solid_words w ws h = words_of_joined w ws (solid_apart (w ∷ ws) h)

-- a line that may stand is judged by its form
never : {A : Type 0} → false ≡ true → A
never e = absurd (clash e)
  where
    clash : false ≡ true → ⊥
    clash e = cc

at_later : (stage : Stage) (past : Past) (l : List ℕ) (form : Form) → stands_at stage form ≡ true → line_at stage past l ≡ later_line past l
unfolding line_at
at_later Header past l form h = never h
at_later Ranks past l form h = never h
at_later Options past l form h = refl
at_later Groups past l form h = refl
at_later Inputs past l form h = refl
at_later (Data left ty count) past l form h = never h
at_later Steps past l form h = refl
at_later Choosing past l form h = refl
at_later Prints past l form h = refl
at_later Finished past l form h = never h

later_taken : (past next : Past) (l : List ℕ) (form : Form) → form_of (words l) ≡ Some form → may_stand past.version past.stage form ≡ true
    → form_line past form ≡ Ok next → later_line past l ≡ Ok next
unfolding later_line
later_taken past next l form is stands taken = rw (is, stands) taken

judged_by : (past next : Past) (l : List ℕ) (form : Form) → list_all is_allowed l ≡ true → form_of (words l) ≡ Some form
    → stands_in (form_since form) past.version ≡ true → stands_at past.stage form ≡ true → form_line past form ≡ Ok next
    → judge past l ≡ Ok next
unfolding judge
judged_by past next l form allowed is since stands taken =
    rw allowed (at_later past.stage past l form stands ∙ later_taken past next l form is (rw (since, stands) refl) taken)

goes : (stage : Stage) (form : Form) → stands_at stage form ≡ true → is_finished stage ≡ false
goes Header form h = refl
goes Ranks form h = refl
goes Options form h = refl
goes Groups form h = refl
goes Inputs form h = refl
goes (Data left ty count) form h = refl
goes Steps form h = refl
goes Choosing form h = refl
goes Prints form h = refl
goes Finished form h = never h

pub form_leads : (past next : Past) (form : Form) (w : List ℕ) (ws : List (List ℕ))
    → AllByRecursion (λ w. list_all is_solid w ≡ true) (w ∷ ws) → form_of (w ∷ ws) ≡ Some form
    → stands_in (form_since form) past.version ≡ true → stands_at past.stage form ≡ true → form_line past form ≡ Ok next
    → Leads past next (line (w ∷ ws))
form_leads past next form w ws solid is since stands taken =
    let allowed = solid_allowed (w ∷ ws) solid in
    one_line past next (join_with_byte 32 (w ∷ ws)) (goes past.stage form stands) allowed
    (judged_by past next (join_with_byte 32 (w ∷ ws)) form allowed (ap form_of (solid_words w ws solid) ∙ is) since stands taken)

-- a stage at which all may stand that may stand at another
abbrev pub Wider : Stage → Stage → Type 0
Wider a b = (form : Form) → stands_at b form ≡ true → stands_at a form ≡ true

pub options_wider : Wider Options Groups
options_wider form h = refl

pub groups_wider : Wider Groups Inputs
groups_wider complete h = never h
groups_wider (group name members) h = refl
groups_wider (input name ty count) h = refl
groups_wider (step on w) h = refl
groups_wider (choice kind name) h = never h
groups_wider (print name) h = refl
groups_wider last h = refl

pub inputs_wider : Wider Inputs Steps
inputs_wider complete h = never h
inputs_wider (group name members) h = never h
inputs_wider (input name ty count) h = refl
inputs_wider (step on w) h = refl
inputs_wider (choice kind name) h = never h
inputs_wider (print name) h = refl
inputs_wider last h = refl

pub steps_wider : Wider Steps Prints
steps_wider complete h = never h
steps_wider (group name members) h = never h
steps_wider (input name ty count) h = never h
steps_wider (step on w) h = never h
steps_wider (choice kind name) h = never h
steps_wider (print name) h = refl
steps_wider last h = refl

pub options_choosing : Wider Options Choosing
options_choosing form h = refl

pub choosing_wider : Wider Choosing Prints
choosing_wider complete h = never h
choosing_wider (group name members) h = never h
choosing_wider (input name ty count) h = never h
choosing_wider (step on w) h = never h
choosing_wider (choice kind name) h = never h
choosing_wider (print name) h = refl
choosing_wider last h = refl

-- The prints of a text, the steps of a choice text, and the last line are read as what they were written of.
use Rattle.std.proofs.Common.{◌≡◌, ℕ, ◌+◌, ◌<◌, ◌≤◌, List, [], ◌∷◌, ◌++◌, length, get_or, Some, Ok, true, false, refl, sym, ap, ◌∙◌, arith}
use Rattle.std.proofs.Common.{codes, subst, append_assoc, length-append}
use Rattle.std.specs.List.{sum_by, AllByRecursion}
use Rattle.std.proofs.lemmas.List.{append-nil}
use Rattle.std.proofs.lemmas.List.Sums.{sum_by-cons}
use Rattle.coll_text.specs.Text.{lines, line, is_name}
use Rattle.coll_shape.specs.declared.types.Version.TheVariants.{Two}
use Rattle.coll_shape.specs.declared.types.Buffer.{Buffer}
use Rattle.coll_shape.specs.Outline.{no_buffer}
use Rattle.coll_shape.specs.WellFormed.{elements_of}
use Rattle.coll_shape.specs.declared.limits.TheConstants.{MOST_BUFFERS, MOST_STEPS, MOST_PRINTS, MOST_ELEMENTS}
use Rattle.coll_lang.specs.Words.{choice_word}
use Rattle.coll_lang.specs.Forms.{choice, print, last}
use Rattle.coll_lang.specs.Language.{Past, form_line, print_line, choice_line, choice_step, choice_buffer, buffer_named, is_taken}
use Rattle.coll_lang.specs.Language.{read_from, stands_in}
use Rattle.coll_lang.specs.Spelling.{prints_text, name_at, choice_name, choice_words}
use Rattle.coll_lang.specs.declared.choices.ChoiceKind.{ChoiceKind}
use Rattle.coll_lang.specs.declared.choices.ChoiceKind.TheVariants as kinds
use Rattle.coll_lang.specs.declared.choices.ChoiceStep.{ChoiceStep}
use Rattle.coll_lang.specs.declared.choices.ChoiceStep.TheVariants.{Elect, Tickets}
use Rattle.coll_lang.specs.declared.stage.Stage.{Stage}
use Rattle.coll_lang.specs.declared.stage.Stage.TheVariants.{Choosing, Prints, Finished}
use Rattle.coll_lang.proofs.Leading.{Leads, then, form_leads, Wider}
use Rattle.coll_lang.proofs.FormsBack.{name_solid, print_back, choice_back, last_back}
use Rattle.coll_lang.proofs.Leaders.{at, Led, led_none, isnt_full, isnt_above}
use Rattle.coll_lang.proofs.InputsBack.{Parts, named_there}

-- ---- prints
print_taken : (past : Past) (name : List ℕ) (i : ℕ) (b : Buffer) → buffer_named past.buffers name ≡ Some (i, b)
    → length past.prints < MOST_PRINTS
    → past.printed + elements_of b ≤ MOST_ELEMENTS
    → form_line past (print name)
    ≡ Ok (record past { stage = Prints; prints = past.prints ++ i ∷ []; printed = past.printed + elements_of b })
unfolding form_line print_line
print_taken past name i b found at_most le =
    let full = isnt_full (length past.prints) MOST_PRINTS at_most in
    let large = isnt_above (past.printed + elements_of b) MOST_ELEMENTS le in
    rw (found, full, large) refl

-- the elements of so many prints
abbrev pub in_all : List Buffer → List ℕ → ℕ
in_all bs prints = sum_by (λ i. elements_of (get_or bs i no_buffer)) prints

pub prints_led : (base : Past) → Parts base.groups base.buffers base.buffers []
    → ((i : ℕ) → i < length base.buffers → is_name (name_at base.buffers i) ≡ true) → (s : Stage) (before prints : List ℕ) (printed : ℕ)
    → Wider s Prints
    → AllByRecursion (λ i. i < length base.buffers) prints → length before + length prints ≤ MOST_PRINTS
    → printed + in_all base.buffers prints ≤ MOST_ELEMENTS
    → Led (record base { stage = s; prints = before; printed = printed }) (prints_text (name_at base.buffers) prints)
    (record base { prints = before ++ prints; printed = printed + in_all base.buffers prints }) Prints
prints_led base p named s before [] printed wider there at_most le =
    let p0 : Past = record base { prints = before; printed = printed } in
    subst (λ (x : Past). Led (at s p0) [] x Prints)
    (ap (λ (ps : List ℕ). let x : Past = record base { prints = ps; printed = printed } in x) (sym (append-nil before))
    ∙ ap (λ (n : ℕ). let x : Past = record base { prints = before ++ []; printed = n } in x) (no_more printed))
    (led_none s p0 Prints wider)
  where
    no_more : (n : ℕ) → n ≡ n + 0
    no_more n = omega arith
prints_led base p named s before (i ∷ prints) printed wider there at_most le =
    let all = base.buffers in
    let own = elements_of (get_or all i no_buffer) in
    let others = in_all all prints in
    let both : in_all all (i ∷ prints) ≡ own + others = sum_by-cons (λ i. elements_of (get_or all i no_buffer)) i prints in
    let k = length-append before (i ∷ []) in
    let name = named i there.0 in
    let past : Past = record base { stage = s; prints = before; printed = printed } in
    let mid : Past = record base { stage = Prints; prints = before ++ i ∷ []; printed = printed + own } in
    let made : Past = record base { prints = (before ++ i ∷ []) ++ prints; printed = (printed + own) + others } in
    let next : Past = record base { prints = before ++ i ∷ prints; printed = printed + in_all all (i ∷ prints) } in
    let first : Leads past mid (line (codes "print" ∷ name_at all i ∷ [])) =
    form_leads past mid (print (name_at all i)) (codes "print") (name_at all i ∷ []) (refl, (name_solid (name_at all i) name, tt))
    (print_back (name_at all i) name) refl (wider (print (name_at all i)) refl)
    (print_taken past (name_at all i) i (get_or all i no_buffer) (named_there base.groups all all [] p i there.0) (omega (arith, at_most))
    (omega (arith, le, both))) in
    let more = prints_led base p named Prints (before ++ i ∷ []) prints (printed + own) (λ form h. h) there.1 (omega (arith, at_most, k))
    (omega (arith, le, both)) in
    let same : made ≡ next =
    ap (λ (ps : List ℕ). let x : Past = record base { prints = ps; printed = (printed + own) + others } in x)
    (append_assoc before (i ∷ []) prints)
    ∙ ap (λ (n : ℕ). let x : Past = record base { prints = before ++ i ∷ prints; printed = n } in x)
    (sums printed own others ∙ ap (λ n. printed + n) (sym both)) in
    let l : Led past (prints_text (name_at all) (i ∷ prints)) made Prints =
    record {
      stage = more.stage;
      wider = more.wider;
      leads = then past mid (at more.stage made) (line (codes "print" ∷ name_at all i ∷ [])) (prints_text (name_at all) prints) first
          more.leads;
    } in
    subst (λ (x : Past). Led past (prints_text (name_at all) (i ∷ prints)) x Prints) same l
  where
    sums : (a b c : ℕ) → (a + b) + c ≡ a + (b + c)
    sums a b c = omega arith

-- ---- a step of a choice text
choice_taken : (past : Past) (kind : ChoiceKind) (name : List ℕ) → is_taken past name ≡ false → length past.choices < MOST_STEPS
    → length past.buffers < MOST_BUFFERS
    → form_line past (choice kind name)
    ≡ Ok (record past {
      stage = Choosing;
      buffers = past.buffers ++ choice_buffer past.ranks name ∷ [];
      choices = past.choices ++ choice_step kind name ∷ [];
    })
unfolding form_line choice_line
choice_taken past kind name new at_most room =
    let full = isnt_full (length past.choices) MOST_STEPS at_most in
    let filled = isnt_full (length past.buffers) MOST_BUFFERS room in
    rw (new, full, filled) refl

-- what is said after it
abbrev pub with_choice : Past → ChoiceStep → Past
with_choice past c = record past {
  stage = Choosing;
  buffers = past.buffers ++ choice_buffer past.ranks (choice_name c) ∷ [];
  choices = past.choices ++ c ∷ [];
}

pub choice_leads : (past : Past) (c : ChoiceStep) → stands_in Two past.version ≡ true → Wider past.stage Choosing
    → is_name (choice_name c) ≡ true → is_taken past (choice_name c) ≡ false → length past.choices < MOST_STEPS
    → length past.buffers < MOST_BUFFERS
    → Leads past (with_choice past c) (line (choice_words c))
choice_leads past (Elect name) v w named new at_most room =
    form_leads past (with_choice past (Elect name)) (choice kinds.Elect name) (choice_word kinds.Elect) (name ∷ [])
    (refl, (name_solid name named, tt)) (choice_back kinds.Elect name named) v (w (choice kinds.Elect name) refl)
    (choice_taken past kinds.Elect name new at_most room)
choice_leads past (Tickets name) v w named new at_most room =
    form_leads past (with_choice past (Tickets name)) (choice kinds.Tickets name) (choice_word kinds.Tickets) (name ∷ [])
    (refl, (name_solid name named, tt)) (choice_back kinds.Tickets name named) v (w (choice kinds.Tickets name) refl)
    (choice_taken past kinds.Tickets name new at_most room)

-- ---- the last line
pub last_leads : (past : Past) → Wider past.stage Prints → Leads past (at Finished past) (line (codes "end" ∷ []))
unfolding form_line
last_leads past wider = form_leads past (at Finished past) last (codes "end") [] (refl, tt) last_back refl (wider last refl) refl

pub ends : (past : Past) (k : ℕ) → past.stage ≡ Finished → read_from past k (lines []) ≡ Ok past
unfolding read_from
ends past k e = rw e refl

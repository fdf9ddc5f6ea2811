-- A text that is read is what is written of its description, and what it says is readable.
use Rattle.std.proofs.Common.{◌≡◌, ℕ, ◌+◌, ◌-◌, ◌^◌, ◌<◌, ◌≤◌, List, [], ◌∷◌, ◌++◌, length, map, Some, None, Result, Ok, Err, Bool, true}
use Rattle.std.proofs.Common.{false, cond, not, refl, sym, ap, ◌∙◌, arith, codes, subst, append_assoc, inl, inr, ◌⊎◌}
use Rattle.std.specs.List.{list_all, join_with_byte}
use Rattle.std.specs.Str.{bytes_eq}
use Rattle.std.specs.Fmt.{decimal}
use Rattle.std.proofs.lemmas.List.{append-nil}
use Rattle.coll_text.specs.Text.{words, line, is_empty, number_between}
use Rattle.coll_text.proofs.Spelled.{same, chosen, rejoined, in_range, between_spelled}
use Rattle.coll_shape.specs.declared.types.Version.{Version}
use Rattle.coll_shape.specs.declared.types.Version.TheVariants.{One, Two}
use Rattle.coll_shape.specs.declared.types.Buffer.{Buffer}
use Rattle.coll_shape.specs.WellFormed.{most_ranks}
use Rattle.coll_shape.specs.declared.limits.TheConstants.{MOST_STEPS}
use Rattle.coll_lang.specs.Words.{version_word}
use Rattle.coll_lang.specs.Forms.{Form, complete, group, input, step, choice, print, last, form_of}
use Rattle.coll_lang.specs.Language.{Past, data_due, version_of, ranks_in, stands_in, stands_at, form_since, may_stand, form_line}
use Rattle.coll_lang.specs.Language.{later_line, line_at, judge, is_allowed, is_finished, numbered, read_from, nothing}
use Rattle.coll_lang.specs.Spelling.{head_text, choice_name}
use Rattle.number_lists.specs.Members.{In, Distinct}
use Rattle.coll_lang.specs.declared.choices.ChoiceStep.{ChoiceStep}
use Rattle.coll_lang.proofs.InputLists.{Filled}
use Rattle.coll_lang.proofs.Growing.{none_there}
use Rattle.coll_lang.specs.declared.stage.Stage.{Stage}
use Rattle.coll_lang.specs.declared.stage.Stage.TheVariants.{Header, Ranks, Options, Groups, Inputs, Data, Steps, Choosing, Prints}
use Rattle.coll_lang.specs.declared.stage.Stage.TheVariants.{Finished}
use Rattle.coll_lang.specs.declared.fault.Refusal.{Refusal}
use Rattle.coll_lang.specs.declared.fault.Refusal.TheVariants.{BadByte, BadHeader, BadRanks, BadLine, Unended, AfterEnd}
use Rattle.coll_lang.proofs.FormSaid.{Fits, form_words, form_said}
use Rattle.coll_lang.proofs.Reading.{not_empty}
use Rattle.coll_lang.proofs.Facts.{few_of}
use Rattle.coll_lang.proofs.Lines.{bare_facts}
use Rattle.coll_lang.proofs.Sound.{body, some_of, passed, ok_is, both_true, complete_goes}
use Rattle.coll_lang.proofs.SoundEarly.{Given, data_goes}
use Rattle.coll_lang.proofs.AllLines.{choice_made, AtChoices, AtOptions, Sound, written, Leads, leads_to, at_due, due_written, prints_go}
use Rattle.coll_lang.proofs.AllLines.{choosing_go, chosen_go, steps_go, inputs_go, groups_go}

-- ---- line 3
complete_line : (past next : Past) → AtOptions past → form_line past complete ≡ Ok next
    → Leads (body past) next (line (form_words complete))
unfolding form_line
complete_line past next a h =
    let g = complete_goes past a.groups.inputs a.groups.none a.no_groups a.plain in
    subst (λ p. Leads (body past) p (line (form_words complete))) (ok_is (record past { stage = Groups; remote = true }) next h)
    (record { sound = record { inputs = g.0; none = a.groups.none }; written_is = g.1 })

first_choice : (past : Past) → AtOptions past → past.version ≡ Two → AtChoices past
first_choice past a v =
    let e = a.groups.inputs.early in
    record {
      version = v;
      some_ranks = e.facts.some_rank;
      few_ranks = few_of past.version past.ranks e.facts.few_ranks;
      no_remote = a.plain;
      no_groups = a.no_groups;
      no_inputs = e.early.counted ∙ ap length a.groups.none;
      no_given = subst (λ (bs : List Buffer). Filled past.ranks bs past.given) a.groups.none a.groups.inputs.filled;
      no_steps = e.early.no_steps;
      no_on = e.early.no_on;
      at_most = subst (λ (l : List ChoiceStep). length l ≤ MOST_STEPS) (sym e.no_choices) (omega arith);
      made = a.groups.none ∙ sym (ap (map (choice_made past.ranks)) e.no_choices);
      spelled = λ x i. absurd (nothing_in x (subst (λ (l : List ChoiceStep). In x (map choice_name l)) e.no_choices i));
      distinct = subst (λ (l : List ChoiceStep). Distinct (map choice_name l)) (sym e.no_choices) tt;
      few_prints = e.facts.few_prints;
      printed = λ i k. none_there past.prints e.early.no_prints i k;
    }
  where
    nothing_in : (x : List ℕ) → In x [] → ⊥
    nothing_in x i = i

version_two : (v : Version) → stands_in Two v ≡ true → v ≡ Two
version_two One h = cc
version_two Two h = refl

options_go : (past next : Past) (form : Form) → AtOptions past → Fits form → stands_in (form_since form) past.version ≡ true
    → form_line past form ≡ Ok next → Leads (body past) next (line (form_words form))
options_go past next complete a fits v h = complete_line past next a h
options_go past next (group name members) a fits v h = groups_go past next (group name members) a.groups fits v refl h
options_go past next (input name ty count) a fits v h = groups_go past next (input name ty count) a.groups fits v refl h
options_go past next (step on w) a fits v h = groups_go past next (step on w) a.groups fits v refl h
options_go past next (choice kind name) a fits v h =
    chosen_go past next kind name (first_choice past a (version_two past.version v)) a.groups.inputs.early.early.no_prints fits h
options_go past next (print name) a fits v h = groups_go past next (print name) a.groups fits v refl h
options_go past next last a fits v h = groups_go past next last a.groups fits v refl h

-- ---- a line after the first two is its form, which may stand there
pub record FormOf (past next : Past) (l : List ℕ) : Type 0 where
  pub form : Form
  pub fits : Fits form
  pub spelled : l ++ 10 ∷ [] ≡ line (form_words form)
  pub since : stands_in (form_since form) past.version ≡ true
  pub stands : stands_at past.stage form ≡ true
  pub goes : form_line past form ≡ Ok next

stands : (b : Bool) → not b ≡ false → b ≡ true
stands true h = refl
stands false h = cc

later : (past next : Past) (l : List ℕ) → later_line past l ≡ Ok next → FormOf past next l
unfolding later_line
later past next l h =
    let f = some_of BadLine (form_of (words l)) _ next h in
    let m = passed (not (may_stand past.version past.stage f.0)) BadLine _ next f.2 in
    let said = form_said (words l) f.0 f.1 in
    let two = both_true (stands_in (form_since f.0) past.version) (stands_at past.stage f.0)
    (stands (may_stand past.version past.stage f.0) m.0) in
    record { form = f.0; fits = said.fits; spelled = rejoined l (form_words f.0) said.spelled; since = two.0; stands = two.1; goes = m.1 }

-- ---- the first two lines
version_said : (l : List ℕ) (v : Version) → version_of l ≡ Some v → l ++ 10 ∷ [] ≡ line (codes "coll" ∷ version_word v ∷ [])
version_said l v h = one (bytes_eq l (codes "coll 1")) (bytes_eq l (codes "coll 2")) (same l (codes "coll 1")) (same l (codes "coll 2")) h
  where
    one : (b c : Bool) → (b ≡ true → l ≡ codes "coll 1") → (c ≡ true → l ≡ codes "coll 2")
        → cond b (Some One) (cond c (Some Two) None) ≡ Some v → l ++ 10 ∷ [] ≡ line (codes "coll" ∷ version_word v ∷ [])
    one true c p q h = ap (λ (x : List ℕ). x ++ 10 ∷ []) (p refl) ∙ ap (λ v. line (codes "coll" ∷ version_word v ∷ [])) (some_is One v h)
      where
        some_is : (a b : Version) → Some a ≡ Some b → a ≡ b
        some_is a b e = cc
    one false true p q h =
        ap (λ (x : List ℕ). x ++ 10 ∷ []) (q refl) ∙ ap (λ v. line (codes "coll" ∷ version_word v ∷ [])) (some_is Two v h)
      where
        some_is : (a b : Version) → Some a ≡ Some b → a ≡ b
        some_is a b e = cc
    one false false p q h = cc

pub record RanksSaid (most : ℕ) (ws : List (List ℕ)) (n : ℕ) : Type 0 where
  pub spelled : ws ≡ codes "ranks" ∷ decimal n ∷ []
  pub some : 1 ≤ n
  pub at_most : n ≤ most

ranks_said : (most : ℕ) (ws : List (List ℕ)) (n : ℕ) → most < 2 ^ 64 → ranks_in most ws ≡ Some n → RanksSaid most ws n
unfolding ranks_in
ranks_said most [] n l h = cc
ranks_said most (key ∷ []) n l h = cc
ranks_said most (key ∷ w ∷ []) n l h =
    let p = chosen (bytes_eq key (codes "ranks")) (number_between 1 most w) n h in
    let r = in_range 1 most n w p.1 in
    record { spelled = rw (same key (codes "ranks") p.0, between_spelled 1 most n w l p.1) refl; some = r.least; at_most = r.most }
ranks_said most (key ∷ w ∷ v ∷ ws) n l h = cc

few_most : (v : Version) → most_ranks v < 2 ^ 64
few_most One = omega arith
few_most Two = omega arith

begins : (v : Version) (n : ℕ) → 1 ≤ n → n ≤ most_ranks v → AtOptions (record nothing { stage = Options; version = v; ranks = n })
begins v n some at_most = record {
  groups = record {
    inputs = record {
      early = record {
        facts = bare_facts v n some at_most;
        early = record { no_steps = refl; no_on = refl; no_prints = refl; counted = refl };
        no_choices = refl;
        none_printed = refl;
      };
      filled = refl;
    };
    none = refl;
  };
  no_groups = refl;
  plain = refl;
}

-- ---- each line, by where it stands
pub line_goes : (stage : Stage) (past next : Past) (l : List ℕ) → past.stage ≡ stage → Sound stage past → line_at stage past l ≡ Ok next
    → Leads (written stage past) next (l ++ 10 ∷ [])
unfolding line_at
line_goes Header past next l at s h =
    let v = some_of BadHeader (version_of l) _ next h in
    subst (λ n. Leads [] n (l ++ 10 ∷ [])) (ok_is (record past { stage = Ranks; version = v.0 }) next v.2)
    (record {
      sound = record { is = ap (λ (p : Past). record p { stage = Ranks; version = v.0 }) s.is };
      written_is = sym (version_said l v.0 v.1);
    })
line_goes Ranks past next l at s h =
    let r = some_of BadRanks (ranks_in (most_ranks past.version) (words l)) _ next h in
    let said = ranks_said (most_ranks past.version) (words l) r.0 (few_most past.version) r.1 in
    let is : record nothing { stage = Options; version = past.version; ranks = r.0 }
    ≡ next = sym (ap (λ (p : Past). record p { stage = Options; ranks = r.0 }) s.is)
    ∙ ok_is (record past { stage = Options; ranks = r.0 }) next r.2 in
    subst (λ n. Leads (line (codes "coll" ∷ version_word past.version ∷ [])) n (l ++ 10 ∷ [])) is
    (record {
      sound = begins past.version r.0 said.some said.at_most;
      written_is = append-nil (head_text past.version r.0)
          ∙ ap (λ (x : List ℕ). line (codes "coll" ∷ version_word past.version ∷ []) ++ x)
          (sym (rejoined l (codes "ranks" ∷ decimal r.0 ∷ []) said.spelled));
    })
line_goes Options past next l at s h =
    let f = later past next l h in
    subst (λ (x : List ℕ). Leads (body past) next x) (sym f.spelled) (options_go past next f.form s f.fits f.since f.goes)
line_goes Groups past next l at s h =
    let f = later past next l h in
    subst (λ (x : List ℕ). Leads (body past) next x) (sym f.spelled)
    (groups_go past next f.form s f.fits f.since (ap (λ t. stands_at t f.form) (sym at) ∙ f.stands) f.goes)
line_goes Inputs past next l at s h =
    let f = later past next l h in
    subst (λ (x : List ℕ). Leads (body past) next x) (sym f.spelled)
    (inputs_go past next f.form s f.fits f.since (ap (λ t. stands_at t f.form) (sym at) ∙ f.stands) f.goes)
line_goes (Data left ty count) past next l at s h =
    let g = data_goes past next left ty count l s h in
    leads_to (Given (left - 1) ty count) (data_due (left - 1) ty count) (body past) next (l ++ 10 ∷ []) (at_due (left - 1) ty count)
    (due_written (left - 1) ty count) g.holds.stage_is g
line_goes Steps past next l at s h =
    let f = later past next l h in
    subst (λ (x : List ℕ). Leads (body past) next x) (sym f.spelled)
    (steps_go past next f.form s f.fits f.since (ap (λ t. stands_at t f.form) (sym at) ∙ f.stands) f.goes)
line_goes Choosing past next l at s h =
    let f = later past next l h in
    subst (λ (x : List ℕ). Leads (body past) next x) (sym f.spelled)
    (choosing_go past next f.form s.0 s.1 f.fits (ap (λ t. stands_at t f.form) (sym at) ∙ f.stands) f.goes)
line_goes Prints past next l at s h =
    let f = later past next l h in
    subst (λ (x : List ℕ). Leads (body past) next x) (sym f.spelled)
    (prints_go past next f.form s (ap (λ t. stands_at t f.form) (sym at) ∙ f.stands) f.goes)
line_goes Finished past next l at s h = cc

-- ---- all lines
taken : (k : ℕ) (r : Result Past Refusal) (f : Past → Result Past (ℕ × Refusal)) (final : Past) → numbered k r f ≡ Ok final
    → (next : Past) × (r ≡ Ok next) × (f next ≡ Ok final)
taken k (Err e) f final h = cc
taken k (Ok next) f final h = (next, refl, h)

pub allowed : (b : Bool) (r : Result Past Refusal) (next : Past) → cond b r (Err BadByte) ≡ Ok next → r ≡ Ok next
allowed true r next h = h
allowed false r next h = cc

chosen_way : (b : Bool) (x y : Result Past (ℕ × Refusal)) (final : Past) → cond b x y ≡ Ok final
    → ((b ≡ true) × (x ≡ Ok final)) ⊎ ((b ≡ false) × (y ≡ Ok final))
chosen_way true x y final h = inl (refl, h)
chosen_way false x y final h = inr (refl, h)

-- all the lines are written, and the last one is `end`
pub record Ends (past final : Past) (bytes : List ℕ) : Type 0 where
  pub done : is_finished final.stage ≡ true
  pub sound : Sound final.stage final
  pub written_is : written final.stage final ≡ written past.stage past ++ bytes

abbrev pub refusal : ℕ → Refusal → Result Past (ℕ × Refusal)
refusal k name = Err (k, name)

abbrev pub accepted : Past → Result Past (ℕ × Refusal)
accepted past = Ok past

clash : {A : Type 0} (k : ℕ) (name : Refusal) (final : Past) → refusal k name ≡ accepted final → A
clash k name final h = absurd (never_equal k name final h)
  where
    never_equal : (k : ℕ) (name : Refusal) (final : Past) → refusal k name ≡ accepted final → ⊥
    never_equal k name final h = cc

same_past : (x y : Past) → accepted x ≡ accepted y → x ≡ y
same_past x y h = cc

last_piece : (past final : Past) (k : ℕ) (piece : List ℕ) → Sound past.stage past → is_finished past.stage ≡ true
    → cond (is_empty piece) (accepted past) (refusal k AfterEnd) ≡ accepted final → Ends past final piece
last_piece past final k [] sound done h =
    subst (λ f. Ends past f []) (same_past past final h)
    (record { done = done; sound = sound; written_is = sym (append-nil (written past.stage past)) })
last_piece past final k (b ∷ piece) sound done h =
    clash k AfterEnd final (sym (ap (λ t. cond t (accepted past) (refusal k AfterEnd)) (not_empty b piece)) ∙ h)

assoc : (w l j : List ℕ) → (w ++ (l ++ 10 ∷ [])) ++ j ≡ w ++ (l ++ 10 ∷ j)
assoc w l j = simp append_assoc

pub all_go : (past final : Past) (k : ℕ) (pieces : List (List ℕ)) → Sound past.stage past → read_from past k pieces ≡ Ok final
    → Ends past final (join_with_byte 10 pieces)
unfolding read_from judge
all_go past final k [] sound h = cc
all_go past final k (piece ∷ []) sound h =
    elim (chosen_way (is_finished past.stage) (cond (is_empty piece) (accepted past) (refusal k AfterEnd)) (refusal k Unended) final h) [
      | inl p ↦ last_piece past final k piece sound p.0 p.1
      | inr p ↦ clash k Unended final p.1
    ]
all_go past final k (l ∷ piece ∷ pieces) sound h =
    elim (chosen_way (is_finished past.stage) (refusal k AfterEnd)
    (numbered k (judge past l) (λ next. read_from next (k + 1) (piece ∷ pieces))) final h) [
      | inl p ↦ clash k AfterEnd final p.1
      | inr p ↦
          let t = taken k (judge past l) (λ next. read_from next (k + 1) (piece ∷ pieces)) final p.1 in
          let one = line_goes past.stage past t.0 l refl sound (allowed (list_all is_allowed l) (line_at past.stage past l) t.0 t.1) in
          let rest = all_go t.0 final (k + 1) (piece ∷ pieces) one.sound t.2 in
          record {
            done = rest.done;
            sound = rest.sound;
            written_is = rest.written_is
                ∙ ap (λ (x : List ℕ). x ++ join_with_byte 10 (piece ∷ pieces)) one.written_is
                ∙ assoc (written past.stage past) l (join_with_byte 10 (piece ∷ pieces));
          }
    ]

pub finished_is : (stage : Stage) → is_finished stage ≡ true → stage ≡ Finished
finished_is Header h = cc
finished_is Ranks h = cc
finished_is Options h = cc
finished_is Groups h = cc
finished_is Inputs h = cc
finished_is (Data left ty count) h = cc
finished_is Steps h = cc
finished_is Choosing h = cc
finished_is Prints h = cc
finished_is Finished h = refl

-- The first line `end` of a text that is accepted is its last.
use Rattle.std.proofs.Common.{ℕ, zero, suc, ◌+◌, ◌-◌, ◌≡◌, ◌++◌, List, [], ◌∷◌, length, Option, Some, None, Result, Ok, Err, Bool, true}
use Rattle.std.proofs.Common.{false, cond, ◌&&◌, ◌||◌, refl, sym, ap, subst, ◌∙◌, inl, inr, arith, append_assoc, length-append, codes}
use Rattle.std.specs.Prelude.{◌==◌, nat_lt, nat_le, is_some, not, option_and_then, option_map}
use Rattle.std.specs.List.{list_all, list_any, join_with_byte}
use Rattle.std.specs.Str.{bytes_eq}
use Rattle.std.proofs.lemmas.Bool.{cases_Bool}
use Rattle.std.proofs.lemmas.Bool.Decides.{nat_tests}
use Rattle.std.proofs.lemmas.List.Splits.{join_with_byte-slice_split}
use Rattle.ptl_types.specs.declared.elements.ElemType.{ElemType}
use Rattle.ptl_types.specs.Operations.{bytes_of, is_signed}
use Rattle.ptl_types.specs.Elements.{little_endian}
use Rattle.coll_text.specs.Text.{is_empty, lines, number_between, words}
use Rattle.coll_text.specs.Values.{all_values, data_line, negative_of, or_no_value, unsigned_of, value_of}
use Rattle.coll_text.specs.declared.values.Flaw.TheVariants.{Malformed}
use Rattle.coll_text.proofs.ReadBack.{line_of, none_is}
use Rattle.coll_text.proofs.Spelled.{same}
use Rattle.coll_shape.specs.Collectives.{step_of}
use Rattle.coll_shape.specs.Collectives.{can_read, made_length}
use Rattle.coll_shape.specs.WellFormed.{most_ranks, elements_of}
use Rattle.coll_shape.specs.declared.limits.TheConstants.{MOST_GROUPS, MOST_BUFFERS, MOST_STEPS, MOST_PRINTS, MOST_GIVEN, MOST_ELEMENTS}
use Rattle.coll_lang.specs.Forms.{Form, complete, group, input, step, choice, print, last, form_of}
use Rattle.coll_lang.specs.Language.{Past, all_numbers, buffer_named, choice_line, data_due, form_line, group_line, group_named, holds_of}
use Rattle.coll_lang.specs.Language.{input_line, is_allowed, is_finished, is_taken, judge, later_line, line_at, may_stand, members_in}
use Rattle.coll_lang.specs.Language.{nothing, numbered, print_line, program_in, ranks_in, read, read_from, root_number, rooted_line}
use Rattle.coll_lang.specs.Language.{source_named, step_line, step_on, unless_flawed, values_line, version_of, are_members}
use Rattle.coll_lang.specs.Program.{Program}
use Rattle.coll_lang.specs.declared.stage.Stage.{Stage}
use Rattle.coll_lang.specs.declared.stage.Stage.TheVariants.{Header, Ranks, Options, Groups, Inputs, Data, Steps, Choosing, Prints}
use Rattle.coll_lang.specs.declared.stage.Stage.TheVariants.{Finished}
use Rattle.coll_lang.specs.declared.fault.Refusal.{Refusal}
use Rattle.coll_lang.specs.declared.fault.Refusal.TheVariants.{BadByte, BadGroup, BadHeader, BadLine, BadNumber, BadRanks, BadRoot}
use Rattle.coll_lang.specs.declared.fault.Refusal.TheVariants.{NameTaken, TooLarge, TooLong, TooMany, UnknownBuffer, WrongShape}
use Rattle.coll_lang.proofs.FormSaid.{form_said, form_words}
use Rattle.coll_lang.proofs.Reading.{not_empty}
use Rattle.coll_lang.proofs.Sound.{ok_is, ok_of, passed, some_of}
use Rattle.coll_lang.proofs.WholeText.{allowed}
use Rattle.coll_lang.specs.declared.whole.TheConstants.{LONGEST_TEXT}
use Rattle.order_lines.specs.Check.{description_bytes}
use Rattle.order_lines.proofs.Ends.{bytes_at, bytes_on}

-- ---- a line that ends a description is `end`
no_way : (x next : Past) → x ≡ next → is_finished x.stage ≡ false → is_finished next.stage ≡ true → ⊥
no_way x next e going t =
    let q : false ≡ true = sym going ∙ ap (λ (p : Past). is_finished p.stage) e ∙ t in
    cc

due_open : (n : ℕ) (ty : ElemType) (count : ℕ) → is_finished (data_due n ty count) ≡ false
due_open zero ty count = refl
due_open (suc n) ty count = refl

form_ends : (past next : Past) (form : Form) → form_line past form ≡ Ok next → is_finished next.stage ≡ true → form ≡ last
unfolding form_line group_line input_line step_line rooted_line step_on choice_line print_line
form_ends past next complete h t = absurd (no_way _ next (ok_is _ next h) refl t)
form_ends past next (group name members) h t =
    let n = some_of BadNumber (all_numbers members) _ next h in
    let a = passed (is_taken past name) NameTaken _ next n.2 in
    let b = passed (nat_le MOST_GROUPS (length past.groups)) TooMany _ next a.1 in
    let c = passed (not (are_members past.ranks n.0)) BadGroup _ next b.1 in
    absurd (no_way _ next (ok_is _ next c.1) refl t)
form_ends past next (input name ty count) h t =
    let n = some_of BadNumber (number_between 1 MOST_GIVEN count) _ next h in
    let a = passed (is_taken past name) NameTaken _ next n.2 in
    let b = passed (nat_le MOST_BUFFERS (length past.buffers)) TooMany _ next a.1 in
    absurd (no_way _ next (ok_is _ next b.1) (due_open past.ranks ty n.0) t)
form_ends past next (step on w) h t =
    let r = some_of BadNumber (root_number w.root) _ next h in
    let from = ok_of (source_named past w.names) _ next r.2 in
    let found = group_named past.groups on in
    let s = step_of w.kind r.0 w.op from.0.0 (length past.buffers) in
    let a = passed (holds_of (λ on. nat_le (length (members_in past on)) r.0) found) BadRoot _ next from.2 in
    let b = passed (holds_of (λ on. not (can_read (members_in past on) s from.0.1)) found) WrongShape _ next a.1 in
    let c = passed (nat_le MOST_STEPS (length past.steps) || (is_some w.names && nat_le MOST_BUFFERS (length past.buffers)))
    TooMany _ next b.1 in
    let d = passed (holds_of (λ on. nat_lt MOST_ELEMENTS (made_length (members_in past on) s from.0.1)) found) TooLarge _ next c.1 in
    let i = some_of BadGroup found _ next d.1 in
    absurd (no_way _ next (ok_is _ next i.2) refl t)
form_ends past next (choice kind name) h t =
    let a = passed (is_taken past name) NameTaken _ next h in
    let b = passed (nat_le MOST_STEPS (length past.choices) || nat_le MOST_BUFFERS (length past.buffers)) TooMany _ next a.1 in
    absurd (no_way _ next (ok_is _ next b.1) refl t)
form_ends past next (print name) h t =
    let from = some_of UnknownBuffer (buffer_named past.buffers name) _ next h in
    let a = passed (nat_le MOST_PRINTS (length past.prints)) TooMany _ next from.2 in
    let b = passed (nat_lt MOST_ELEMENTS (past.printed + elements_of from.0.1)) TooLarge _ next a.1 in
    absurd (no_way _ next (ok_is _ next b.1) refl t)
form_ends past next last h t = refl

later_ends : (past next : Past) (l : List ℕ) → later_line past l ≡ Ok next → is_finished next.stage ≡ true → l ≡ codes "end"
unfolding later_line
later_ends past next l h t =
    let f = some_of BadLine (form_of (words l)) _ next h in
    let m = passed (not (may_stand past.version past.stage f.0)) BadLine _ next f.2 in
    sym (join_with_byte-slice_split 32 l)
    ∙ ap (join_with_byte 32) ((form_said (words l) f.0 f.1).spelled ∙ ap form_words (form_ends past next f.0 m.1 t))

line_ends : (stage : Stage) (past next : Past) (l : List ℕ) → line_at stage past l ≡ Ok next → is_finished next.stage ≡ true
    → l ≡ codes "end"
unfolding line_at values_line
line_ends Header past next l h t =
    let v = some_of BadHeader (version_of l) _ next h in
    absurd (no_way _ next (ok_is _ next v.2) refl t)
line_ends Ranks past next l h t =
    let n = some_of BadRanks (ranks_in (most_ranks past.version) (words l)) _ next h in
    absurd (no_way _ next (ok_is _ next n.2) refl t)
line_ends (Data left ty count) past next l h t =
    let b = ok_of (unless_flawed (data_line ty count (words l))) _ next h in
    absurd (no_way _ next (ok_is _ next b.2) (due_open (left - 1) ty count) t)
line_ends Options past next l h t = later_ends past next l h t
line_ends Groups past next l h t = later_ends past next l h t
line_ends Inputs past next l h t = later_ends past next l h t
line_ends Steps past next l h t = later_ends past next l h t
line_ends Choosing past next l h t = later_ends past next l h t
line_ends Prints past next l h t = later_ends past next l h t
line_ends Finished past next l h t = cc

-- ---- and `end` ends one, wherever it is accepted
no_value : (ty : ElemType) → value_of ty (codes "end") ≡ None
unfolding value_of
no_value ty = at (is_signed ty)
  where
    at : (b : Bool) → cond (b && (101 == 45)) (negative_of ty (110 ∷ 100 ∷ [])) (unsigned_of ty (codes "end")) ≡ None
    at true = refl
    at false = refl

flawed : (c : Bool) (o : Option (List ℕ)) (x : List ℕ) → o ≡ None → unless_flawed (cond c (or_no_value o) (Err Malformed)) ≡ Ok x → ⊥
flawed true None x e h = cc
flawed true (Some bytes) x e h = cc
flawed false o x e h = cc

no_data : (past next : Past) (left : ℕ) (ty : ElemType) (count : ℕ) → values_line past left ty count (codes "end") ≡ Ok next → ⊥
unfolding values_line data_line
no_data past next left ty count h =
    let ws = words (codes "end") in
    let b = ok_of (unless_flawed (data_line ty count ws)) _ next h in
    flawed (length ws == count && not (list_any is_empty ws)) (all_values ty ws) b.0
    (ap (option_and_then (λ n. option_map (λ more. little_endian (bytes_of ty) n ++ more) (Some []))) (no_value ty)) b.1

end_later : (past next : Past) → later_line past (codes "end") ≡ Ok next → is_finished next.stage ≡ true
unfolding later_line form_of form_line
end_later past next h =
    let m = passed (not (may_stand past.version past.stage last)) BadLine _ next h in
    ap (λ (p : Past). is_finished p.stage) (sym (ok_is _ next m.1))

end_ends : (stage : Stage) (past next : Past) → line_at stage past (codes "end") ≡ Ok next → is_finished next.stage ≡ true
unfolding line_at ranks_in
end_ends Header past next h = cc
end_ends Ranks past next h = cc
end_ends (Data left ty count) past next h = absurd (no_data past next left ty count h)
end_ends Options past next h = end_later past next h
end_ends Groups past next h = end_later past next h
end_ends Inputs past next h = end_later past next h
end_ends Steps past next h = end_later past next h
end_ends Choosing past next h = end_later past next h
end_ends Prints past next h = end_later past next h
end_ends Finished past next h = cc

-- a line that is accepted
pub record IsJudged (past next : Past) (l : List ℕ) : Type 0 where
  pub allowed : list_all is_allowed l ≡ true
  pub last : is_finished next.stage ≡ bytes_eq l (codes "end")

good : (b : Bool) (r : Result Past Refusal) (next : Past) → cond b r (Err BadByte) ≡ Ok next → b ≡ true
good true r next h = refl
good false r next h = cc

both_ways : (b c : Bool) → (b ≡ true → c ≡ true) → (c ≡ true → b ≡ true) → b ≡ c
both_ways true c f g = sym (f refl)
both_ways false true f g = g refl
both_ways false false f g = refl

judged : (past next : Past) (l : List ℕ) → judge past l ≡ Ok next → IsJudged past next l
unfolding judge
judged past next l h =
    let at = allowed (list_all is_allowed l) (line_at past.stage past l) next h in
    record {
      allowed = good (list_all is_allowed l) (line_at past.stage past l) next h;
      last = both_ways (is_finished next.stage) (bytes_eq l (codes "end"))
          (λ t. ap (λ x. bytes_eq x (codes "end")) (line_ends past.stage past next l at t))
          (λ e. end_ends past.stage past next (subst (λ x. line_at past.stage past x ≡ Ok next) (same l (codes "end") e) at));
    }

-- ---- all lines
taken : (k : ℕ) (r : Result Past Refusal) (f : Past → Result Past (ℕ × Refusal)) (final : Past) → numbered k r f ≡ Ok final
    → (next : Past) × (r ≡ Ok next) × (f next ≡ Ok final)
taken k (Err e) f final h = cc
taken k (Ok next) f final h = (next, refl, h)

-- after the last line there is nothing
nothing_behind : (past final : Past) (k : ℕ) (piece : List ℕ) (pieces : List (List ℕ)) → is_finished past.stage ≡ true
    → read_from past k (piece ∷ pieces) ≡ Ok final → join_with_byte 10 (piece ∷ pieces) ≡ []
unfolding read_from
nothing_behind past final k piece (other ∷ pieces) done h = let e = rw done at h in cc
nothing_behind past final k [] [] done h = refl
nothing_behind past final k (b ∷ piece) [] done h = let e = rw (done, not_empty b piece) at h in cc

no_break : (b : ℕ) → is_allowed b ≡ true → b == 10 ≡ false
no_break b h = grind (arith, nat_tests, h)

front : (past final : Past) (k : ℕ) (pieces : List (List ℕ)) (rest : List ℕ) → is_finished past.stage ≡ false
    → read_from past k pieces ≡ Ok final
    → description_bytes (lines (join_with_byte 10 pieces ++ rest)) ≡ length (join_with_byte 10 pieces)
unfolding read_from
front past final k [] rest going h = cc
front past final k (piece ∷ []) rest going h = let e = rw going at h in cc
front past final k (l ∷ piece ∷ pieces) rest going h =
    let later = join_with_byte 10 (piece ∷ pieces) in
    let t = taken k (judge past l) (λ next. read_from next (k + 1) (piece ∷ pieces)) final (rw going at h) in
    let j = judged past t.0 l t.1 in
    let cut : lines ((l ++ 10 ∷ later) ++ rest) ≡ l ∷ lines (later ++ rest) =
    ap lines (append_assoc l (10 ∷ later) rest) ∙ line_of l (later ++ rest) (none_is is_allowed 10 l no_break j.allowed) in
    let long = length-append l (10 ∷ later) in
    elim (cases_Bool (is_finished t.0.stage)) [
      | inl done ↦
          let none = ap length (nothing_behind t.0 final (k + 1) piece pieces done t.2) in
          let bytes = bytes_at ((l ++ 10 ∷ later) ++ rest) l (later ++ rest) cut (sym j.last ∙ done) in
          omega (arith, long, none, bytes)
      | inr more ↦
          let behind = front t.0 final (k + 1) (piece ∷ pieces) rest more t.2 in
          let bytes = bytes_on ((l ++ 10 ∷ later) ++ rest) l (later ++ rest) cut (sym j.last ∙ more) in
          omega (arith, long, behind, bytes)
    ]

unlimited : (b : Bool) (e : ℕ × Refusal) (r : Result Program (ℕ × Refusal)) (d : Program) → cond b (Err e) r ≡ Ok d → r ≡ Ok d
unlimited true e r d h = cc
unlimited false e r d h = h

read_there : (r : Result Past (ℕ × Refusal)) (d : Program) → program_in r ≡ Ok d → (final : Past) × (r ≡ Ok final)
read_there (Ok final) d h = (final, refl)
read_there (Err e) d h = cc

-- what stands after an accepted text is no part of the description
pub whole_front : (bytes rest : List ℕ) (d : Program) → read bytes ≡ Ok d → description_bytes (lines (bytes ++ rest)) ≡ length bytes
unfolding read
whole_front bytes rest d h =
    let f = read_there (read_from nothing 1 (lines bytes)) d
    (unlimited (nat_lt LONGEST_TEXT (length bytes)) (0, TooLong) (program_in (read_from nothing 1 (lines bytes))) d h) in
    subst (λ x. description_bytes (lines (x ++ rest)) ≡ length x) (join_with_byte-slice_split 10 bytes)
    (front nothing f.0 1 (lines bytes) rest refl f.1)

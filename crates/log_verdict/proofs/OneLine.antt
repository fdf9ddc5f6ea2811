-- A line after which a log goes on has no LF.
use Rattle.std.proofs.Common.{◌≡◌, ◌≢◌, ℕ, ◌-◌, ◌^◌, ◌≤◌, List, [], ◌∷◌, length, Bool, true, false, cond, codes, not, ◌&&◌, get_or}
use Rattle.std.proofs.Common.{Option, Some, None}
use Rattle.std.proofs.Common.{Ok, refl, sym, subst, arith}
use Rattle.std.specs.Prelude.{◌==◌, All, nat_le, option_and_then}
use Rattle.std.specs.List.{AllByRecursion, list_all, position, position_or_len}
use Rattle.std.proofs.lemmas.List.Sums.{fails_before_first, list_all-from_AllPass}
use Rattle.std.specs.Str.{bytes_eq}
use Rattle.std.proofs.lemmas.Bool.Decides.{nat_tests}
use Rattle.std.proofs.lemmas.List.Splits.{join_with_byte-slice_split}
use Rattle.coll_text.specs.Text.{is_digit, is_number, number_between, with_digits, words}
use Rattle.coll_text.proofs.ReadBack.{joined_passes, none_is, passes_too}
use Rattle.coll_text.proofs.Spelled.{both, chosen, same}
use Rattle.log_words.specs.declared.faults.LineFault.{LineFault}
use Rattle.log_lines.specs.Lines.{byte_flaw, early_flaw, is_allowed, read_after, read_line}
use Rattle.log_lines.specs.declared.lines.Line.{Line}
use Rattle.log_verdict.specs.Judging.{BodyTook, LineTook, Passes, ShortTook, StageTook, Took, heads, next_line, ranks_of, ranks_taken}
use Rattle.log_verdict.specs.Judging.{too_long, took, verdict_given}
use Rattle.log_verdict.specs.Judging.BodyTook.{Long, Short}
use Rattle.log_verdict.specs.Judging.Passes.{Judged, Written}
use Rattle.log_verdict.specs.Judging.ShortTook.{Flawed, Over, Reads}
use Rattle.log_verdict.specs.declared.judge.Judge.{Judge}
use Rattle.log_verdict.specs.declared.judge.Stage.{Stage}
use Rattle.log_verdict.specs.declared.judge.Stage.TheVariants.{Body, Ended, Header, Ranks}
use Rattle.log_verdict.specs.declared.judge.Taken.{Taken}
use Rattle.log_verdict.specs.declared.judge.Taken.TheVariants as takes

abbrev Allowed : List ℕ → Type 0
Allowed line = list_all is_allowed line ≡ true

-- ---- the first bytes that may not stand there

beyond : (p : ℕ → Bool) (xs : List ℕ) → position p xs ≡ None → length xs ≤ position_or_len p xs
beyond p xs none = grind (arith, nat_tests, none)

passes : (b : Bool) → not b ≡ false → b ≡ true
passes true h = refl
passes false h = cc

all_but : (xs : List ℕ) → position (λ b. not (is_allowed b)) xs ≡ None → Allowed xs
all_but xs none =
    let ge = beyond (λ b. not (is_allowed b)) xs none in
    list_all-from_AllPass is_allowed xs
    (λ k d lt. passes (is_allowed (get_or xs k d)) (fails_before_first (λ b. not (is_allowed b)) xs k d (omega (arith, ge, lt))))

unflawed : (o : Option ℕ) (line : List ℕ) → byte_flaw o line ≡ None → o ≡ None
unflawed None line e = refl
unflawed (Some i) line e = absurd cc

short_unflawed : (long : Bool) (x y : Option LineFault) → cond long x y ≡ None → x ≢ None → y ≡ None
short_unflawed true x y e n = absurd (n e)
short_unflawed false x y e n = e

not_none : (fault : LineFault) → Some fault ≡ None → ⊥
not_none fault is = absurd cc

early_allowed : (line : List ℕ) → early_flaw line ≡ None → Allowed line
unfolding early_flaw
early_allowed line e = all_but line (unflawed _ line (short_unflawed _ _ _ e (not_none _)))

read_allowed : (o : Option LineFault) (line : List ℕ) (l : Line) → read_after o line ≡ Ok l → o ≡ None
read_allowed None line l e = refl
read_allowed (Some fault) line l e = absurd cc

reads_allowed : (line : List ℕ) (l : Line) → read_line line ≡ Ok l → Allowed line
unfolding read_line
reads_allowed line l e = early_allowed line (read_allowed (early_flaw line) line l e)

-- ---- `ranks N`

digit_allowed : (b : ℕ) → is_digit b ≡ true → is_allowed b ≡ true
digit_allowed b h = grind (arith, nat_tests)

number_digits : (w : List ℕ) → is_number w ≡ true → list_all is_digit w ≡ true
number_digits [] h = refl
number_digits (b ∷ []) h = rw h refl
number_digits (b ∷ c ∷ bs) h =
    let p = both (is_digit b && not (b == 48)) (list_all is_digit (c ∷ bs)) h in
    let q = both (is_digit b) (not (b == 48)) p.0 in
    rw (q.0, p.1) refl

abbrev in_range : ℕ → ℕ → ℕ → Option ℕ
in_range low high n = cond (nat_le low n && nat_le n high) (Some n) None

between_allowed : (low high n : ℕ) (w : List ℕ) → number_between low high w ≡ Some n → Allowed w
between_allowed low high n w e = at (is_number w) refl e
  where
    at : (b : Bool) → is_number w ≡ b
        → option_and_then (in_range low high) (cond b (Some (with_digits 0 w)) None) ≡ Some n → Allowed w
    at true is e = passes_too is_digit is_allowed w digit_allowed (number_digits w is)
    at false is e = absurd cc

ranks_words : (ws : List (List ℕ)) (n : ℕ) → ranks_of ws ≡ Some n → AllByRecursion (λ w. list_all is_allowed w ≡ true) ws
ranks_words [] n e = tt
ranks_words (a ∷ []) n e = absurd cc
ranks_words (key ∷ m ∷ []) n e =
    let k = chosen (bytes_eq key (codes "ranks")) (number_between 1 (2 ^ 32 - 1) m) n e in
    (subst Allowed (sym (same key (codes "ranks") k.0)) refl, (between_allowed 1 (2 ^ 32 - 1) n m k.1, tt))
ranks_words (a ∷ b ∷ c ∷ ds) n e = absurd cc

ranks_allowed : (line : List ℕ) (n : ℕ) → ranks_of (words line) ≡ Some n → Allowed line
ranks_allowed line n e =
    subst Allowed (join_with_byte-slice_split 32 line) (joined_passes is_allowed 32 (words line) refl (ranks_words (words line) n e))

-- ---- the line that is due

module _ (j : Judge) (line : List ℕ) where
  -- a log goes on after it, and all its bytes may stand there
  abbrev Goes : Took → Type 0
  Goes t = verdict_given t.taken ≡ None → Allowed line

  on : (t u : Took) → t ≡ u → Goes u → Goes t
  on t u e h = subst Goes (sym e) h

  either : (b : Bool) (x y : Took) → (b ≡ true → Goes x) → (b ≡ false → Goes y) → Goes (cond b x y)
  either true x y h k = h refl
  either false x y h k = k refl

  heads_free : Goes (heads j line)
  heads_free =
      either (too_long line) _ _ (λ b e. absurd cc)
      (λ b. either (bytes_eq line (codes "ni 1")) _ _ (λ is e. subst Allowed (sym (same line (codes "ni 1") is)) refl) (λ is e. absurd cc))

  ranks_free : (o : Option ℕ) → ranks_of (words line) ≡ o → Goes (ranks_taken o j)
  ranks_free None is = λ e. absurd cc
  ranks_free (Some n) is = λ e. ranks_allowed line n is

  short_free : (t : Took) → ShortTook j line t → Goes t
  short_free t (Over is e) = λ g. subst Allowed (sym (same line (codes "end") is)) refl
  short_free t (Flawed fault is flaw e) = on t _ e (λ g. absurd cc)
  short_free t (Reads l is reads h) = λ g. reads_allowed line l reads

  body_free : (t : Took) → BodyTook j line t → Goes t
  body_free t (Long is e) = on t _ e (λ g. absurd cc)
  body_free t (Short is h) = short_free t h

  stage_free : (stage : Stage) (t : Took) → StageTook stage j line t → Goes t
  stage_free Header t h = on t _ h heads_free
  stage_free Ranks t h = on t _ h (either (too_long line) _ _ (λ b e. absurd cc) (λ b. ranks_free (ranks_of (words line)) refl))
  stage_free Body t h = body_free t h
  stage_free Ended t h = on t _ h (λ g. absurd cc)

no_break : (b : ℕ) → is_allowed b ≡ true → b == 10 ≡ false
no_break b h = grind (arith, nat_tests)

goes_free : (j k : Judge) (line : List ℕ) (t : Taken) → LineTook j line (took k t) → verdict_given t ≡ None → Allowed line
unfolding LineTook
goes_free j k line t h g = stage_free j line j.stage (took k t) h g

pub one_line : (j k : Judge) (line : List ℕ) → Passes j line k → All (λ b. b == 10 ≡ false) line
one_line j k line (Judged h) = none_is is_allowed 10 line no_break (goes_free (next_line j) k line takes.Goes h refl)
one_line j k line (Written text h) = none_is is_allowed 10 line no_break (goes_free (next_line j) k line (takes.Owes text) h refl)

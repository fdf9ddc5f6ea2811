-- A line that is too long is refused by its beginning, whatever follows, and where the text ends with it.
use Rattle.std.proofs.Common.{◌≡◌, ℕ, ◌+◌, ◌<◌, List, ◌++◌, length, Bool, true, false, cond, refl, sym, ◌∙◌, ap, arith, length-append}
use Rattle.std.specs.Prelude.{nat_lt}
use Rattle.std.proofs.lemmas.Bool.Decides.{nat_tests}
use Rattle.coll_text.specs.Text.{is_empty}
use Rattle.log_words.specs.declared.faults.Flaw.TheVariants.{AfterEnd, TooLong}
use Rattle.log_lines.specs.declared.lines.TheConstants.{LONGEST_LINE}
use Rattle.log_verdict.specs.Filling.{end_or}
use Rattle.log_verdict.specs.Judging.{LineTook, StageTook, Took, end_at, end_verdict, refused, too_long, took as took_by}
use Rattle.log_verdict.specs.Judging.BodyTook.{Long, Short}
use Rattle.log_verdict.specs.declared.judge.Judge.{Judge}
use Rattle.log_verdict.specs.declared.judge.Stage.{Stage}
use Rattle.log_verdict.specs.declared.judge.Stage.TheVariants.{Body, Ended, Header, Ranks}
use Rattle.log_verdict.specs.declared.judge.Taken.{Taken}
use Rattle.log_verdict.specs.declared.judge.Taken.TheVariants as takes
use Rattle.log_verdict.specs.declared.judge.Verdict.{Verdict}

abbrev long_verdict : Stage → Judge → Verdict
long_verdict Header j = refused j (LONGEST_LINE + 1) TooLong
long_verdict Ranks j = refused j (LONGEST_LINE + 1) TooLong
long_verdict Body j = refused j (LONGEST_LINE + 1) TooLong
long_verdict Ended j = refused j 1 AfterEnd

stops : (stage : Stage) (j : Judge) (w : Verdict) → end_or (long_verdict stage j) w ≡ long_verdict stage j
stops Header j w = refl
stops Ranks j w = refl
stops Body j w = refl
stops Ended j w = refl

first : {A : Type 0} (b : Bool) (x y : A) → b ≡ true → cond b x y ≡ x
first true x y e = refl
first false x y e = cc

second : {A : Type 0} (b : Bool) (x y : A) → b ≡ false → cond b x y ≡ y
second true x y e = cc
second false x y e = refl

module _ (j : Judge) (line : List ℕ) (long : too_long line ≡ true) where
  comes : (stage : Stage) (t : Took) → StageTook stage j line t → t ≡ took_by j (takes.Ends (long_verdict stage j))
  comes Header t h = h ∙ first _ _ _ long
  comes Ranks t h = h ∙ first _ _ _ long
  comes Body t (Long is e) = e
  comes Body t (Short is h) = absurd cc
  comes Ended t h = h

  gives : (stage : Stage) (t : Took) → t ≡ took_by j (takes.Ends (long_verdict stage j)) → StageTook stage j line t
  gives Header t e = e ∙ sym (first _ _ _ long)
  gives Ranks t e = e ∙ sym (first _ _ _ long)
  gives Body t e = Long long e
  gives Ended t e = e

  some : is_empty line ≡ false
  some = grind (arith, nat_tests, long)

  ends : (stage : Stage) → end_at stage j line ≡ long_verdict stage j
  ends Header = first _ _ _ long
  ends Ranks = first _ _ _ long
  ends Body = first _ _ _ long
  ends Ended = second _ _ _ some

is_long : (line more : List ℕ) → LONGEST_LINE < length line → too_long (line ++ more) ≡ true
is_long line more lt = let all = length-append line more in below LONGEST_LINE (length (line ++ more)) (omega (arith, all, lt))
  where
    below : (a b : ℕ) → a < b → nat_lt a b ≡ true
    below a b lt = grind (arith, nat_tests)

is_long_alone : (line : List ℕ) → LONGEST_LINE < length line → too_long line ≡ true
is_long_alone line lt = grind (arith, nat_tests)

-- what became of it
pub record LongTook (j k : Judge) (line : List ℕ) (t : Taken) : Type 0 where
  pub v : Verdict
  pub is : t ≡ takes.Ends v
  pub took : LineTook j line (took_by k (takes.Ends v))
  pub ends : end_verdict j line ≡ v
  pub stops : (w : Verdict) → end_or v w ≡ v

pub long_took : (j k : Judge) (line more : List ℕ) (t : Taken) → LONGEST_LINE < length line → LineTook j line (took_by k t)
    → LongTook j k (line ++ more) t
unfolding LineTook end_verdict
long_took j k line more t lt h =
    let e = comes j line (is_long_alone line lt) j.stage (took_by k t) h in
    let is : t ≡ takes.Ends (long_verdict j.stage j) = ap (λ (x : Took). x.taken) e in
    record {
      v = long_verdict j.stage j;
      is = is;
      took = gives j (line ++ more) (is_long line more lt) j.stage _ (ap (took_by k) (sym is) ∙ e);
      ends = ends j (line ++ more) (is_long line more lt) j.stage;
      stops = stops j.stage j;
    }

-- What a check finds and writes, and what then holds for the bytes of the source.
use Rattle.std.proofs.Common.{◌≡◌, ◌≢◌, ◌≤◌, ◌<◌, ◌+◌, ℕ, Bool, true, false, cond, List, [], ◌∷◌, length, take, Option, Some, None}
use Rattle.std.proofs.Common.{Result, Ok, refl, sym, subst, ap, ◌∙◌, inl, inr, arith, eq-eqb}
use Rattle.std.proofs.lemmas.Bool.{le-ltb, lt-ltb, ne_eqb}
use Rattle.std.specs.Prelude.{codes}
use Rattle.std.specs.Str.{bytes_eq}
use Rattle.ptl_types.specs.declared.steps.LocalStep.{LocalStep}
use Rattle.port_io.specs.Counts.{Rose}
use Rattle.port_io.specs.Ends.{Inflow, Outflow}
use Rattle.coll_lang.specs.declared.fault.Refusal.{Refusal}
use Rattle.coll_lang.specs.declared.fault.Refusal.TheVariants.{BadOrder, TooLong}
use Rattle.coll_lang.specs.Program.{Program}
use Rattle.order_lines.specs.Check.{line_after, read_check}
use Rattle.cuts.specs.declared.orders.Verdict.{Verdict}
use Rattle.cuts.specs.declared.orders.Verdict.TheVariants.{Holds, Fails}
use Rattle.given_verdicts.specs.declared.answer.FlawlessText.{FlawlessText}
use Rattle.given_verdicts.specs.declared.answer.GivenAnswer.{GivenAnswer}
use Rattle.given_verdicts.specs.declared.answer.GivenAnswer.TheVariants as answers
use Rattle.given_verdicts.specs.declared.answer.Judged.{Judged}
use Rattle.given_verdicts.specs.Answers.{judged_text}
use Rattle.given_verdicts.specs.declared.answer.TextRefusal.TheVariants.{Description}
use Rattle.run_text.specs.declared.status.Status.{Status}
use Rattle.run_text.specs.declared.status.Status.TheVariants.{Done, Usage, Refused, ReadFault, WriteFault, NoMemory}
use Rattle.run_text.specs.Ending.{IsTold, Written}
use Rattle.run_text.specs.Putting.{Ends, FailsWithin}
use Rattle.run_text.proofs.Ended.{leaves}
use Rattle.run_text.proofs.Told.{AreAlike, Told, short-text, told-any}
use Rattle.plan_top.specs.Owed.{owed_given}
use Rattle.given_top.specs.declared.checking.TheConstants.{LONGEST_PLAN_CHECK}
use Rattle.given_top.specs.declared.runs.running.GivenRun.{GivenRun}
use Rattle.given_top.specs.Checked.{CheckAnswered, Checks, CheckText, Found, IsVerdictOn, check_text, owed_check, owed_found}
use Rattle.given_top.specs.Checked.{on_orders, on_plan, owed_verdict, plan_end}
use Rattle.given_top.specs.Checked.CheckText.{Ordered, Told as IsAnswered}
use Rattle.given_top.proofs.ReadTexts.{given_owes, rose_at}

-- ---- a verdict

pub verdict-written : (v : Verdict) (status : Status) (sink sink' : Outflow) → status ≡ (owed_verdict v).status
    → Ends sink sink' (owed_verdict v).text → Written (owed_verdict v) sink sink' status
verdict-written Holds status sink sink' is ends =
    subst (λ s. Written (owed_verdict Holds) sink sink' s) (sym is) (record { allowed = refl; no_read = λ e. absurd (cc); text = ends })
verdict-written (Fails r place cause) status sink sink' is ends =
    subst (λ s. Written (owed_verdict (Fails r place cause)) sink sink' s) (sym is)
    (record { allowed = refl; no_read = λ e. absurd (cc); text = ends })

pub verdict-failed : (v : Verdict) (sink sink' : Outflow) → FailsWithin sink sink' (owed_verdict v).text
    → Written (owed_verdict v) sink sink' WriteFault
verdict-failed v sink sink' fails = record { allowed = tt; no_read = λ e. absurd (cc); text = fails }

verdict-owed : (v : Verdict) → (owed_verdict v).status ≢ Usage
verdict-owed Holds = λ is. absurd (cc)
verdict-owed (Fails r place cause) = λ is. absurd (cc)

found-owed : (found : Option Verdict) → (owed_found found).status ≢ Usage
found-owed None = λ is. absurd (cc)
found-owed (Some v) = verdict-owed v

check-owed : (found : Option Verdict) (text : CheckText) → (owed_check found text).status ≢ Usage
check-owed found (IsAnswered answer) = given_owes answer
check-owed found (Ordered t orders) = found-owed found

pub verdict-no_memory : (v : Verdict) (sink : Outflow) → Written (owed_verdict v) sink sink NoMemory
verdict-no_memory v sink = record { allowed = verdict-owed v; no_read = λ e. absurd (cc); text = refl }

-- the verdict was found, where it or a beginning of its text was written
pub ordered : (t : FlawlessText) (orders : List (List LocalStep)) (v : Verdict) (sink sink' : Outflow) (status : Status)
    → IsVerdictOn t orders v → Written (owed_verdict v) sink sink' status → Checks (Ordered t orders) sink sink' status
ordered t orders v sink sink' Done on written = (Some v, written, on)
ordered t orders v sink sink' Usage on written = absurd (verdict-owed v written.allowed)
ordered t orders v sink sink' Refused on written = (Some v, written, on)
ordered t orders v sink sink' ReadFault on written = absurd (written.no_read refl)
ordered t orders v sink sink' WriteFault on written = (Some v, written, on)
ordered t orders v sink sink' NoMemory on written =
    (None, record { allowed = λ e. absurd (cc); no_read = λ e. absurd (cc); text = written.text }, refl)

-- ---- nothing was found

none-found : (answer : GivenAnswer) (status : Status) → Found status (IsAnswered answer) None
none-found answer Done = refl
none-found answer Usage = refl
none-found answer Refused = refl
none-found answer ReadFault = refl
none-found answer WriteFault = refl
none-found answer NoMemory = refl

pub told : (answer : GivenAnswer) (sink sink' : Outflow) (status : Status) → Written (owed_given answer) sink sink' status
    → Checks (IsAnswered answer) sink sink' status
told answer sink sink' status written = (None, written, none-found answer status)

pub no_memory : (text : CheckText) (sink : Outflow) → Checks text sink sink NoMemory
no_memory text sink = (None, record { allowed = check-owed None text; no_read = λ e. absurd (cc); text = refl }, refl)

-- ---- the whole

long_check : (text : List ℕ) → LONGEST_PLAN_CHECK < length text → check_text text ≡ IsAnswered (answers.Refused 0 (Description TooLong))
unfolding check_text
long_check text long = rw (lt-ltb LONGEST_PLAN_CHECK (length text) long) refl

pub too_long : (text : List ℕ) (sink sink' : Outflow) (status : Status) → LONGEST_PLAN_CHECK < length text
    → Written (owed_given (answers.Refused 0 (Description TooLong))) sink sink' status → Checks (check_text text) sink sink' status
too_long text sink sink' status long written =
    subst (λ (t : CheckText). Checks t sink sink' status) (sym (long_check text long)) (told _ sink sink' status written)

same_check : (xs ys : List ℕ) → AreAlike LONGEST_PLAN_CHECK xs ys → check_text xs ≡ check_text ys
same_check xs ys (inl same) = ap check_text same
same_check xs ys (inr long) = long_check xs long.0 ∙ sym (long_check ys long.1)

done_short : (found : Option Verdict) (text : List ℕ) → (owed_check found (check_text text)).status ≡ Done
    → length text ≤ LONGEST_PLAN_CHECK
done_short found text done =
    short-text LONGEST_PLAN_CHECK text
    (λ long.
    let refused : Refused ≡ Done = subst (λ (t : CheckText). (owed_check found t).status ≡ Done) (long_check text long) done in
    absurd (cc))

pub checked_read : (text : List ℕ) (source source' : Inflow) (sink sink' : Outflow) (status : Status) (run : GivenRun)
    (told : Told LONGEST_PLAN_CHECK source.left source'.left text) → Checks (check_text text) sink sink' status
    → run ≡ record { status = status; world = None; spent = None } → CheckAnswered told.bytes source source' sink sink' run
checked_read text source source' sink sink' status run told checks is =
    subst (λ (r : GivenRun). CheckAnswered told.bytes source source' sink sink' r) (sym is)
    (made (subst (λ (t : CheckText). Checks t sink sink' status) (sym (same_check told.bytes text told.alike)) checks))
  where
    made : Checks (check_text told.bytes) sink sink' status
        → CheckAnswered told.bytes source source' sink sink' (record { status = status; world = None; spent = None })
    made c = record {
      verdict = c.0;
      found = c.2;
      allowed = c.1.allowed;
      text = c.1.text;
      read_fault = λ e. absurd (c.1.no_read e);
      write_fault = rose_at sink sink' status _ c.1.text;
      rest =
          leaves LONGEST_PLAN_CHECK (owed_check checks.0 (check_text text)).status status text source source' told
          (done_short checks.0 text) checks.1.allowed;
      world = refl;
    }

pub check_failed : (source source' : Inflow) (sink : Outflow) (run : GivenRun) → Rose source.faults source'.faults
    → run ≡ record { status = ReadFault; world = None; spent = None }
    → (bytes : List ℕ) × IsTold source.left bytes × CheckAnswered bytes source source' sink sink run
check_failed source source' sink run rose is =
    let any = told-any source.left in (
      any.0,
      any.1,
      subst (λ (r : GivenRun). CheckAnswered any.0 source source' sink sink r) (sym is)
          (record {
            verdict = None;
            found = refl;
            allowed = check-owed None (check_text any.0);
            text = refl;
            read_fault = λ e. rose;
            write_fault = λ e. absurd (cc);
            rest = tt;
            world = refl;
          }),
    )

pub check_without_memory : (source source' : Inflow) (sink : Outflow) (run : GivenRun)
    → run ≡ record { status = NoMemory; world = None; spent = None }
    → (bytes : List ℕ) × IsTold source.left bytes × CheckAnswered bytes source source' sink sink run
check_without_memory source source' sink run is =
    let any = told-any source.left in (
      any.0,
      any.1,
      subst (λ (r : GivenRun). CheckAnswered any.0 source source' sink sink r) (sym is)
          (record {
            verdict = None;
            found = refl;
            allowed = check-owed None (check_text any.0);
            text = refl;
            read_fault = λ e. absurd (cc);
            write_fault = λ e. absurd (cc);
            rest = tt;
            world = refl;
          }),
    )

-- ---- a text of the right length

short_check : (text : List ℕ) → length text ≤ LONGEST_PLAN_CHECK → check_text text ≡ on_plan text (judged_text (take (plan_end text) text))
unfolding check_text
short_check text short = rw (le-ltb LONGEST_PLAN_CHECK (length text) short) refl

pub judged : (text : List ℕ) (j : Judged) (sink sink' : Outflow) (status : Status) → length text ≤ LONGEST_PLAN_CHECK
    → judged_text (take (plan_end text) text) ≡ j → Checks (on_plan text j) sink sink' status → Checks (check_text text) sink sink' status
judged text j sink sink' status short is checks =
    subst (λ (t : CheckText). Checks t sink sink' status) (sym (short_check text short))
    (subst (λ (k : Judged). Checks (on_plan text k) sink sink' status) (sym is) checks)

-- order lines that were read, one a rank
pub orders_read : (lines : ℕ) (t : FlawlessText) (text : List ℕ) (d : Program) (orders : List (List LocalStep)) (sink sink' : Outflow)
    (status : Status) → read_check text ≡ Ok (d, orders) → length orders ≡ t.given.plan.ranks
    → Checks (Ordered t orders) sink sink' status → Checks (on_orders lines t (read_check text)) sink sink' status
orders_read lines t text d orders sink sink' status read count checks =
    subst (λ (r : Result (Program × List (List LocalStep)) (ℕ × Refusal)). Checks (on_orders lines t r) sink sink' status) (sym read)
    (subst (λ (b : Bool). Checks (cond b (Ordered t orders) (IsAnswered (answers.Refused 0 (Description BadOrder)))) sink sink' status)
    (sym (eq-eqb _ _ count)) checks)

-- or not
pub orders_unlike : (lines : ℕ) (t : FlawlessText) (text : List ℕ) (d : Program) (orders : List (List LocalStep)) (sink sink' : Outflow)
    (status : Status) → read_check text ≡ Ok (d, orders) → length orders ≢ t.given.plan.ranks
    → Written (owed_given (answers.Refused 0 (Description BadOrder))) sink sink' status
    → Checks (on_orders lines t (read_check text)) sink sink' status
orders_unlike lines t text d orders sink sink' status read unlike written =
    subst (λ (r : Result (Program × List (List LocalStep)) (ℕ × Refusal)). Checks (on_orders lines t r) sink sink' status) (sym read)
    (subst (λ (b : Bool). Checks (cond b (Ordered t orders) (IsAnswered (answers.Refused 0 (Description BadOrder)))) sink sink' status)
    (sym (ne_eqb _ _ unlike)) (told (answers.Refused 0 (Description BadOrder)) sink sink' status written))

-- the line after a text's part is one of it, or the next
pub line_least : (k : ℕ) (ls : List (List ℕ)) → k ≤ line_after k ls
unfolding line_after
line_least k [] = omega arith
line_least k (piece ∷ []) = omega arith
line_least k (line ∷ piece ∷ pieces) = at (bytes_eq line (codes "end")) (line_least (k + 1) (piece ∷ pieces))
  where
    at : (b : Bool) → k + 1 ≤ line_after (k + 1) (piece ∷ pieces) → k ≤ cond b (k + 1) (line_after (k + 1) (piece ∷ pieces))
    at true later = omega arith
    at false later = omega (arith, later)

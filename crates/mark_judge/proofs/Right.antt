-- No line is at fault exactly where the lines are those that the description asks for.
use Rattle.std.proofs.Common.{ℕ, Bool, true, false, cond, not, ◌&&◌, ◌≡◌, ◌<◌, ◌==◌, List, Option, Some, None, refl, ap, ◌∙◌}
use Rattle.std.proofs.Common.{sym, subst, length, get_or, take, inl, inr, arith}
use Rattle.std.specs.List.{list_any}
use Rattle.std.specs.Option.{option_or}
use Rattle.std.proofs.lemmas.Bool.{and_from, and_parts, cases_Bool, eqb-true, eq-eqb, false_from_ne_true, false≢true, not-false, not-true}
use Rattle.std.proofs.lemmas.Bool.{not_from_false, not_from_true}
use Rattle.std.proofs.lemmas.List.{get_or-take, length-take-le}
use Rattle.std.proofs.lemmas.List.Folds.{list_any_at}
use Rattle.std.proofs.lemmas.Option.{none-some}
use Rattle.number_lists.specs.Numbers.{from_to}
use Rattle.coll_shape.specs.Collectives.{is_in}
use Rattle.coll_shape.specs.Outline.{Outline, buffer_at, group_at}
use Rattle.coll_shape.proofs.Asking.{In-is_in}
use Rattle.given_lines.specs.declared.given.Mark.{Mark}
use Rattle.given_lines.specs.declared.given.Mark.TheVariants as marks
use Rattle.mark_judge.specs.declared.flaw.Due.{Due}
use Rattle.mark_judge.specs.declared.flaw.Due.TheVariants.{Result, Enter, Leave}
use Rattle.mark_judge.specs.declared.flaw.MarkFlaw.{MarkFlaw}
use Rattle.mark_judge.specs.declared.flaw.MarkFlaw.TheVariants.{BadDone, BadResult, NoResult, EarlyEntry, BarrierOpen}
use Rattle.mark_judge.specs.Bound.{is_bound}
use Rattle.mark_judge.specs.Due.{cell_of, does_fit, due_of, is_barrier_at, is_due, is_good, is_named, is_same, mark_at, no_mark}
use Rattle.mark_judge.specs.Judged.{barriers_flaw, done_flaw, early_flaw, is_apart, is_early, is_open, line_flaw, marks_flaw, marks_judged}
use Rattle.mark_judge.specs.Judged.{missing, missing_at, missing_barriers}
use Rattle.mark_judge.specs.Judged.{missing_member, missing_results, open_flaw}
use Rattle.mark_judge.specs.Leading.{leads}
use Rattle.mark_judge.specs.Marked.{AreMarked, DoesFit, IsDue, IsMember}
use Rattle.mark_judge.proofs.Binding.{bound-is, is-bound}
use Rattle.mark_judge.proofs.Chains.{Leads-leads, Rising, leads-Leads}
use Rattle.mark_judge.proofs.Finds.{In-none, none-In}
use Rattle.mark_judge.proofs.Good.{barrier_there, due-is, fit-is, fit-known, is-due, is-fit, member-is}
use Rattle.mark_judge.proofs.Naming.{is-same, same-is}
use Rattle.mark_judge.proofs.Tests.{In-any, In-get_or, any-In, any_none, get_or-In}
use Rattle.plan_core.specs.calls.RankOps.{done_threshold}
use Rattle.plan_core.specs.Members.{In}
use Rattle.plan_core.specs.Plan.{Plan}
use Rattle.plan_core.proofs.Links.{In-from_to}
use Rattle.plan_judge.specs.Causes.{first_found}
use Rattle.plan_judge.proofs.Rows.{clear_or, found_none, none_found, or_clear}

-- ---- a fault unless a test passes
passed : {A : Type 0} (b : Bool) (x : A) → cond b None (Some x) ≡ None → b ≡ true
passed true x e = refl
passed false x e = absurd (none-some x (sym e))

passes : {A : Type 0} (b : Bool) (x : A) → b ≡ true → cond b None (Some x) ≡ None
passes true x e = refl
passes false x e = absurd (false≢true e)

-- or if one does
failed : {A : Type 0} (b : Bool) (x : A) → cond b (Some x) None ≡ None → b ≡ false
failed true x e = absurd (none-some x (sym e))
failed false x e = refl

fails : {A : Type 0} (b : Bool) (x : A) → b ≡ false → cond b (Some x) None ≡ None
fails true x e = absurd (false≢true (sym e))
fails false x e = refl

if_so : {A : Type 0} (b : Bool) (o : Option A) → b ≡ true → cond b o None ≡ None → o ≡ None
if_so true o e n = n
if_so false o e n = absurd (false≢true e)

so_if : {A : Type 0} (b : Bool) (o : Option A) → (b ≡ true → o ≡ None) → cond b o None ≡ None
so_if true o f = f refl
so_if false o f = refl

-- ---- one line
pub line_good : (p : Plan) (o : Outline) (ms : List Mark) (i : ℕ) → line_flaw p o ms i ≡ None → is_good p o (mark_at ms i) ≡ true
line_good p o ms i e =
    (and_parts (is_good p o (mark_at ms i)) (not (is_named (take i ms) (due_of (mark_at ms i)))) (passed _ (BadResult i) e)).0

line_new : (p : Plan) (o : Outline) (ms : List Mark) (i : ℕ) → line_flaw p o ms i ≡ None
    → is_named (take i ms) (due_of (mark_at ms i)) ≡ false
line_new p o ms i e =
    not-true (is_named (take i ms) (due_of (mark_at ms i)))
    (and_parts (is_good p o (mark_at ms i)) (not (is_named (take i ms) (due_of (mark_at ms i)))) (passed _ (BadResult i) e)).1

-- what it is for, and its cell
good_due : (p : Plan) (o : Outline) (m : Mark) → is_good p o m ≡ true → IsDue o (due_of m)
good_due p o m t = due-is o (due_of m) (and_parts (is_due o (due_of m)) (does_fit p o (due_of m) (cell_of m)) t).0

good_fit : (p : Plan) (o : Outline) (m : Mark) → is_good p o m ≡ true → DoesFit p o (due_of m) (cell_of m)
good_fit p o m t = fit-is p o (due_of m) (cell_of m) (and_parts (is_due o (due_of m)) (does_fit p o (due_of m) (cell_of m)) t).1

pub good_known : (p : Plan) (o : Outline) (m : Mark) → is_good p o m ≡ true → cell_of m < length p.cells
good_known p o m t = fit-known p o (due_of m) (cell_of m) (good_fit p o m t)

-- each line's cell is one of the plan
pub all_known : (p : Plan) (o : Outline) (ms : List Mark) → first_found (line_flaw p o ms) (from_to 0 (length ms)) ≡ None → (i : ℕ)
    → i < length ms → cell_of (mark_at ms i) < length p.cells
all_known p o ms e i h =
    good_known p o (mark_at ms i)
    (line_good p o ms i (none_found (line_flaw p o ms) 0 (length ms) e i (omega arith) (omega arith)))

-- ---- a thing that has a line
named-is : (ms : List Mark) (d : Due) → is_named ms d ≡ true → (i : ℕ) × (i < length ms) × (due_of (mark_at ms i) ≡ d)
named-is ms d t =
    let m = any-In (λ x. is_same d (due_of x)) ms t in
    let i = get_or-In m.0 ms no_mark m.1 in
    (i.0, i.1, ap due_of i.2 ∙ sym (same-is d (due_of m.0) m.2))

is-named : (ms : List Mark) (d : Due) (i : ℕ) → i < length ms → due_of (mark_at ms i) ≡ d → is_named ms d ≡ true
is-named ms d i h e = list_any_at (λ x. is_same d (due_of x)) ms i no_mark h (is-same d (due_of (mark_at ms i)) (sym e))

-- an earlier line is for the same
earlier : (ms : List Mark) (i j : ℕ) → i < j → j < length ms → due_of (mark_at ms i) ≡ due_of (mark_at ms j)
    → is_named (take j ms) (due_of (mark_at ms j)) ≡ true
earlier ms i j lt h e =
    let long = length-take-le j ms (omega arith) in
    is-named (take j ms) (due_of (mark_at ms j)) i (omega (arith, long, lt))
    (ap due_of (get_or-take j ms i no_mark lt) ∙ e)

-- ---- no fault
record Clear (p : Plan) (o : Outline) (said : List ℕ) (ms : List Mark) : Type 0 where
  done : (r : ℕ) → r < p.ranks → done_flaw p said r ≡ None
  lines : (i : ℕ) → i < length ms → line_flaw p o ms i ≡ None
  results : missing_results o (is_named ms) ≡ None
  barriers : missing_barriers o (is_named ms) ≡ None
  begun : (i : ℕ) → i < length ms → early_flaw p ms i ≡ None
  closed : (i : ℕ) → i < length ms → open_flaw p ms i ≡ None

from_judged : (p : Plan) (o : Outline) (done : List ℕ) (ms : List Mark) → marks_judged p o done ms ≡ None → Clear p o done ms
from_judged p o done ms clear =
    let a = or_clear (first_found (done_flaw p done) (from_to 0 p.ranks)) (marks_flaw p o ms) clear in
    let ending = barriers_flaw p ms in
    let b = or_clear (first_found (line_flaw p o ms) (from_to 0 (length ms)))
    (option_or (missing_results o (is_named ms)) (option_or (missing_barriers o (is_named ms)) ending)) a.1 in
    let c = or_clear (missing_results o (is_named ms)) (option_or (missing_barriers o (is_named ms)) ending) b.1 in
    let d = or_clear (missing_barriers o (is_named ms)) ending c.1 in
    let e = or_clear (first_found (early_flaw p ms) (from_to 0 (length ms))) (first_found (open_flaw p ms) (from_to 0 (length ms))) d.1 in
    record {
      done = λ r h. none_found (done_flaw p done) 0 p.ranks a.0 r (omega arith) (omega arith);
      lines = λ i h. none_found (line_flaw p o ms) 0 (length ms) b.0 i (omega arith) (omega arith);
      results = c.0;
      barriers = d.0;
      begun = λ i h. none_found (early_flaw p ms) 0 (length ms) e.0 i (omega arith) (omega arith);
      closed = λ i h. none_found (open_flaw p ms) 0 (length ms) e.1 i (omega arith) (omega arith);
    }

to_judged : (p : Plan) (o : Outline) (done : List ℕ) (ms : List Mark) → Clear p o done ms → marks_judged p o done ms ≡ None
to_judged p o done ms k =
    let ending = barriers_flaw p ms in
    clear_or (first_found (done_flaw p done) (from_to 0 p.ranks)) (marks_flaw p o ms)
    (found_none (done_flaw p done) 0 p.ranks (λ r a h. k.done r (omega arith)))
    ∙ clear_or (first_found (line_flaw p o ms) (from_to 0 (length ms)))
    (option_or (missing_results o (is_named ms)) (option_or (missing_barriers o (is_named ms)) ending))
    (found_none (line_flaw p o ms) 0 (length ms) (λ i a h. k.lines i (omega arith)))
    ∙ clear_or (missing_results o (is_named ms)) (option_or (missing_barriers o (is_named ms)) ending) k.results
    ∙ clear_or (missing_barriers o (is_named ms)) ending k.barriers
    ∙ clear_or (first_found (early_flaw p ms) (from_to 0 (length ms))) (first_found (open_flaw p ms) (from_to 0 (length ms)))
    (found_none (early_flaw p ms) 0 (length ms) (λ i a h. k.begun i (omega arith)))
    ∙ found_none (open_flaw p ms) 0 (length ms) (λ i a h. k.closed i (omega arith))

-- ---- what is asked for has a line
abbrev results_at : Outline → List Mark → ℕ → Option MarkFlaw
results_at o ms b = first_found (λ r. missing (is_named ms) (Result b r)) (buffer_at o b).spread.holders

member_has : (o : Outline) (ms : List Mark) → missing_barriers o (is_named ms) ≡ None → (s r : ℕ) → IsDue o (Enter s r)
    → missing_member (is_named ms) s r ≡ None
member_has o ms barriers s r h =
    none-In (missing_member (is_named ms) s) (group_at o s)
    (if_so (is_barrier_at o s) (first_found (missing_member (is_named ms) s) (group_at o s)) (barrier_there o s h.0 h.1)
    (none-In (missing_at o (is_named ms)) (from_to 0 (length o.steps)) barriers s
    (In-from_to 0 (length o.steps) s (omega arith) (let lt = h.0 in omega (arith, lt))))) r h.2

has_line : (o : Outline) (ms : List Mark) → missing_results o (is_named ms) ≡ None → missing_barriers o (is_named ms) ≡ None
    → (d : Due) → IsDue o d → is_named ms d ≡ true
has_line o ms results barriers (Result b r) h =
    passed (is_named ms (Result b r)) (NoResult (Result b r))
    (none-In (λ q. missing (is_named ms) (Result b q)) (buffer_at o b).spread.holders
    (none-In (results_at o ms) o.prints results b h.0) r h.1)
has_line o ms results barriers (Enter s r) h =
    passed (is_named ms (Enter s r)) (NoResult (Enter s r))
    (or_clear (missing (is_named ms) (Enter s r)) (missing (is_named ms) (Leave s r)) (member_has o ms barriers s r h)).0
has_line o ms results barriers (Leave s r) h =
    passed (is_named ms (Leave s r)) (NoResult (Leave s r))
    (or_clear (missing (is_named ms) (Enter s r)) (missing (is_named ms) (Leave s r)) (member_has o ms barriers s r h)).1

no_result : (o : Outline) (ms : List Mark) → ((d : Due) → IsDue o d → is_named ms d ≡ true) → missing_results o (is_named ms) ≡ None
no_result o ms all =
    In-none (results_at o ms) o.prints
    (λ b i. In-none (λ r. missing (is_named ms) (Result b r)) (buffer_at o b).spread.holders
    (λ r j. passes (is_named ms (Result b r)) (NoResult (Result b r)) (all (Result b r) (i, j))))

no_barrier : (o : Outline) (ms : List Mark) → ((d : Due) → IsDue o d → is_named ms d ≡ true) → missing_barriers o (is_named ms) ≡ None
no_barrier o ms all =
    In-none (missing_at o (is_named ms)) (from_to 0 (length o.steps))
    (λ s i. so_if (is_barrier_at o s) (first_found (missing_member (is_named ms) s) (group_at o s))
    (λ t. In-none (missing_member (is_named ms) s) (group_at o s)
    (λ r j. clear_or (missing (is_named ms) (Enter s r)) (missing (is_named ms) (Leave s r))
    (passes (is_named ms (Enter s r)) (NoResult (Enter s r)) (all (Enter s r) (member_in s r t j)))
    ∙ passes (is_named ms (Leave s r)) (NoResult (Leave s r)) (all (Leave s r) (member_in s r t j)))))
  where
    member_in : (s r : ℕ) → is_barrier_at o s ≡ true → In r (group_at o s) → IsMember o s r
    member_in s r t j = member-is o s r (and_from (is_barrier_at o s) (is_in r (group_at o s)) t (In-is_in r (group_at o s) j))

-- ---- barriers
begun_at : (p : Plan) (ms : List Mark) → ((i : ℕ) → i < length ms → early_flaw p ms i ≡ None) → (s r c : ℕ) → In (marks.Enter s r c) ms
    → is_bound p c ≡ true
begun_at p ms begun s r c enters =
    let i = get_or-In (marks.Enter s r c) ms no_mark enters in
    not-false (is_bound p c)
    (ap (is_early p) (sym i.2) ∙ failed (is_early p (mark_at ms i.0)) (EarlyEntry i.0) (begun i.0 i.1))

early_none : (p : Plan) (ms : List Mark) → ((s r c : ℕ) → In (marks.Enter s r c) ms → is_bound p c ≡ true) → (m : Mark) → In m ms
    → is_early p m ≡ false
early_none p ms all (marks.Result b r c) i = refl
early_none p ms all (marks.Enter s r c) i = not_from_true (is_bound p c) (all s r c i)
early_none p ms all (marks.Leave s r c) i = refl

closed_at : (p : Plan) (ms : List Mark) → ((i : ℕ) → i < length ms → open_flaw p ms i ≡ None) → (s r q b c : ℕ)
    → In (marks.Enter s r b) ms → In (marks.Leave s q c) ms → leads p b c ≡ true
closed_at p ms closed s r q b c enters leaves =
    let i = get_or-In (marks.Leave s q c) ms no_mark leaves in
    let none : list_any (is_apart p s c) ms ≡ false =
    ap (is_open p ms) (sym i.2) ∙ failed (is_open p ms (mark_at ms i.0)) (BarrierOpen i.0) (closed i.0 i.1) in
    elim (cases_Bool (leads p b c)) [
      | inl t ↦ t
      | inr f ↦ absurd (false≢true (sym none ∙ In-any (is_apart p s c) (marks.Enter s r b) ms enters
          (and_from (s == s) (not (leads p b c)) (eq-eqb s s refl) (not_from_false (leads p b c) f))))
    ]

open_none : (p : Plan) (ms : List Mark) → ((s r q b c : ℕ) → In (marks.Enter s r b) ms → In (marks.Leave s q c) ms → leads p b c ≡ true)
    → (m : Mark) → In m ms → is_open p ms m ≡ false
open_none p ms closed (marks.Result b r c) h = refl
open_none p ms closed (marks.Enter s r c) h = refl
open_none p ms closed (marks.Leave s q c) leaves = any_none (is_apart p s c) ms each
  where
    each : (m : Mark) → In m ms → is_apart p s c m ≡ false
    each (marks.Result b r d) i = refl
    each (marks.Leave t r d) i = refl
    each (marks.Enter t r b) i =
        false_from_ne_true ((t == s) && not (leads p b c))
        (λ e. let h = and_parts (t == s) (not (leads p b c)) e in
        let same = eqb-true t s h.0 in
        false≢true (sym (not-true (leads p b c) h.1)
        ∙ closed s r q b c (subst (λ n. In (marks.Enter n r b) ms) same i) leaves))

-- ---- both ways
pub judged_right : (p : Plan) (o : Outline) (done : List ℕ) (ms : List Mark) → Rising p → marks_judged p o done ms ≡ None
    → AreMarked p o done ms
judged_right p o done ms up e =
    let k = from_judged p o done ms e in
    record {
      done = λ r h. eqb-true (get_or done r 0) (done_threshold p r)
          (passed (get_or done r 0 == done_threshold p r) (BadDone r) (k.done r h));
      due = λ i h. good_due p o (mark_at ms i) (line_good p o ms i (k.lines i h));
      fit = λ i h. good_fit p o (mark_at ms i) (line_good p o ms i (k.lines i h));
      once = λ i j lt h q. false≢true (sym (line_new p o ms j (k.lines j h)) ∙ earlier ms i j lt h q);
      all = λ d h. named-is ms d (has_line o ms k.results k.barriers d h);
      begun = λ s r c h. bound-is p c (begun_at p ms k.begun s r c h);
      closed = λ s r q b c h i. leads-Leads p b c (closed_at p ms k.closed s r q b c h i);
    }

pub right_judged : (p : Plan) (o : Outline) (done : List ℕ) (ms : List Mark) → Rising p → AreMarked p o done ms
    → marks_judged p o done ms ≡ None
right_judged p o done ms up a =
    to_judged p o done ms (record {
      done = λ r h. passes (get_or done r 0 == done_threshold p r) (BadDone r) (eq-eqb (get_or done r 0) (done_threshold p r) (a.done r h));
      lines = λ i h. passes (is_good p o (mark_at ms i) && not (is_named (take i ms) (due_of (mark_at ms i)))) (BadResult i)
          (and_from (is_good p o (mark_at ms i)) (not (is_named (take i ms) (due_of (mark_at ms i))))
          (and_from (is_due o (due_of (mark_at ms i))) (does_fit p o (due_of (mark_at ms i)) (cell_of (mark_at ms i)))
          (is-due o (due_of (mark_at ms i)) (a.due i h)) (is-fit p o (due_of (mark_at ms i)) (cell_of (mark_at ms i)) (a.fit i h)))
          (not_from_false (is_named (take i ms) (due_of (mark_at ms i))) (first_for i h)));
      results = no_result o ms all;
      barriers = no_barrier o ms all;
      begun = λ i h. fails (is_early p (mark_at ms i)) (EarlyEntry i)
          (early_none p ms (λ s r c h. is-bound p up c (a.begun s r c h)) (mark_at ms i) (In-get_or ms i no_mark h));
      closed = λ i h. fails (is_open p ms (mark_at ms i)) (BarrierOpen i)
          (open_none p ms (λ s r q b c e l. Leads-leads p up b c (a.closed s r q b c e l)) (mark_at ms i) (In-get_or ms i no_mark h));
    })
  where
    all : (d : Due) → IsDue o d → is_named ms d ≡ true
    all d h = let i = a.all d h in is-named ms d i.0 i.1 i.2

    first_for : (i : ℕ) → i < length ms → is_named (take i ms) (due_of (mark_at ms i)) ≡ false
    first_for i h =
        false_from_ne_true (is_named (take i ms) (due_of (mark_at ms i)))
        (λ t. let j = named-is (take i ms) (due_of (mark_at ms i)) t in
        let long = length-take-le i ms (omega arith) in
        let low = j.1 in
        let lt : j.0 < i = omega (arith, long, low) in
        a.once j.0 i lt h (ap due_of (sym (get_or-take i ms j.0 no_mark lt)) ∙ j.2))

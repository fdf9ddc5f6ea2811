-- The lines of a shape's own plan are those that are asked for.
use Rattle.std.proofs.Common.{◌≡◌, ℕ, zero, suc, ◌+◌, ◌<◌, length, get_or, map, None, refl, ap, subst, ◌∙◌, arith}
use Rattle.coll_lang.proofs.Facts.{apart}
use Rattle.number_lists.specs.Members.{In}
use Rattle.number_lists.specs.Numbers.{from_to}
use Rattle.coll_shape.specs.Outline.{Outline, group_at}
use Rattle.coll_shape.specs.WellFormed.{IsWellFormed}
use Rattle.given_lines.specs.declared.given.Mark.{Mark}
use Rattle.given_lines.specs.declared.given.Mark.TheVariants as marks
use Rattle.mark_judge.specs.Due.{due_of, mark_at, no_mark}
use Rattle.mark_judge.specs.Marked.{AreMarked, IsDue}
use Rattle.mark_judge.specs.declared.flaw.Due.{Due}
use Rattle.mark_judge.specs.declared.flaw.Due.TheVariants as dues
use Rattle.mark_judge.proofs.Tests.{In-get_or, get_or-In}
use Rattle.marked_plans.specs.Marks.{marks_of}
use Rattle.verdict_laws.proofs.drawn.Apart.{distinct_marks, same_mark}
use Rattle.verdict_laws.proofs.drawn.Begun.{Begins, of_begun}
use Rattle.verdict_laws.proofs.drawn.Cells.{holders_low, of_closed, of_due, of_fit}
use Rattle.verdict_laws.proofs.drawn.Named.{IsOf, entry_there, exit_there, of_marks, result_there}
use Rattle.plan_core.specs.calls.RankOps.{done_threshold}
use Rattle.schedule_compiler.specs.shapes.Drawing.{plan_of}
use Rattle.schedule_compiler.specs.shapes.Footprint.{refusal}
use Rattle.schedule_compiler.proofs.shapes.Final.{fine-shape}

-- the done counters, rank by rank
at_rank : (f : ℕ → ℕ) (k n r : ℕ) → r < n → get_or (map f (from_to k n)) r 0 ≡ f (k + r)
at_rank f k zero r low = absurd (omega arith)
at_rank f k (suc n) zero low = ap f (let z : k ≡ k + 0 = omega arith in z)
at_rank f k (suc n) (suc r) low = at_rank f (suc k) n r (omega arith) ∙ ap f (let z : suc k + r ≡ k + suc r = omega arith in z)

-- a buffer that is printed
printed_low : (o : Outline) → IsWellFormed o → (b : ℕ) → In b o.prints → b < length o.buffers
printed_low o a b printed =
    let at = get_or-In b o.prints 0 printed in subst (λ v. v < length o.buffers) at.2 (a.shape.printed at.0 at.1)

-- what is due has a line
abbrev HasLine : Outline → Due → Type 0
HasLine o d = (i : ℕ) × (i < length (marks_of o)) × (due_of (mark_at (marks_of o) i) ≡ d)

has_line : (o : Outline) (d : Due) (m : Mark) → In m (marks_of o) → due_of m ≡ d → HasLine o d
has_line o d m there is = let at = get_or-In m (marks_of o) no_mark there in (at.0, at.1, ap due_of at.2 ∙ is)

line_of_due : (o : Outline) → IsWellFormed o → (d : Due) → IsDue o d → HasLine o d
line_of_due o a (dues.Result b r) due =
    let low = printed_low o a b due.0 in
    let rank = holders_low o a b r low due.1 in
    let held = (fine-shape o a).holders b r low rank due.1 in
    has_line o (dues.Result b r) (marks.Result b r held.number) (result_there o b r held.number due.0 rank held.is) refl
line_of_due o a (dues.Enter s r) due =
    let at = get_or-In r (group_at o s) 0 due.2 in
    has_line o (dues.Enter s r) _ (entry_there o s at.0 (record { step = due.0; barrier = due.1; place = at.1 })) (ap (dues.Enter s) at.2)
line_of_due o a (dues.Leave s r) due =
    let at = get_or-In r (group_at o s) 0 due.2 in
    has_line o (dues.Leave s r) _ (exit_there o s at.0 (record { step = due.0; barrier = due.1; place = at.1 })) (ap (dues.Leave s) at.2)

of_line : (o : Outline) (i : ℕ) → i < length (marks_of o) → IsOf o (mark_at (marks_of o) i)
of_line o i low = of_marks o (mark_at (marks_of o) i) (In-get_or (marks_of o) i no_mark low)

pub are_marked : (o : Outline) → Begins o → IsWellFormed o → refusal o ≡ None
    → AreMarked (plan_of o) o (map (done_threshold (plan_of o)) (from_to 0 (plan_of o).ranks)) (marks_of o)
are_marked o begins a none = record {
  done = λ r low. at_rank (done_threshold (plan_of o)) 0 (plan_of o).ranks r low
      ∙ ap (done_threshold (plan_of o)) (let z : 0 + r ≡ r = omega arith in z);
  due = λ i low. of_due o a (printed_low o a) (mark_at (marks_of o) i) (of_line o i low);
  fit = λ i low. of_fit o a (printed_low o a) (mark_at (marks_of o) i) (of_line o i low);
  once = λ i j before low same.
      let less : i < length (marks_of o) = omega (arith, before, low) in
      let is = apart (marks_of o) no_mark (distinct_marks o) i j less low (same_mark o a (mark_at (marks_of o) i) (mark_at (marks_of o) j)
      (of_line o i less) (of_line o j low) same) in
      omega (arith, before, is);
  all = λ d due. line_of_due o a d due;
  begun = λ s r c enter.
      let of = of_marks o (marks.Enter s r c) enter in
      of_begun o a none begins s r c of (of_fit o a (printed_low o a) (marks.Enter s r c) of);
  closed = λ s r q b c enter leave. of_closed o a s r q b c (of_marks o (marks.Enter s r b) enter) (of_marks o (marks.Leave s q c) leave);
}

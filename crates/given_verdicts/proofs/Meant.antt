-- What it tells of the results of a plan that none of them is wrong.
use Rattle.std.proofs.Common.{ℕ, Bool, true, false, cond, ◌≡◌, ◌+◌, ◌<◌, ◌==◌, ◌∷◌, [], List, Some, None, length, get_or, refl, ap₂}
use Rattle.std.proofs.Common.{◌∙◌, sym, subst, arith}
use Rattle.std.proofs.lemmas.Bool.{eqb-true}
use Rattle.coll_shape.specs.Folding.{at}
use Rattle.coll_shape.specs.Meaning.{Lists, lists_of, meaning_of}
use Rattle.coll_shape.specs.Outline.{Outline}
use Rattle.coll_shape.specs.WellFormed.{IsWellFormed}
use Rattle.plan_core.specs.Plan.{Plan, cell}
use Rattle.plan_core.specs.Values.{value}
use Rattle.plan_agreement.specs.Agreement.{HasCell, IsMeant, IsPlanFor}
use Rattle.plan_agreement.specs.Bare.{IsNamed}
use Rattle.plan_judge.proofs.Rows.{map_clear, none_found}
use Rattle.plan_tables.proofs.Passes.{get-row}
use Rattle.given_lines.specs.declared.given.Mark.{Mark}
use Rattle.given_lines.specs.declared.given.Mark.TheVariants as marks
use Rattle.mark_judge.specs.Due.{cell_of, due_of, mark_at}
use Rattle.mark_judge.specs.Marked.{AreMarked, DoesFit, IsDue}
use Rattle.mark_judge.proofs.Good.{fit-known}
use Rattle.mark_judge.proofs.Right.{judged_right}
use Rattle.mark_judge.proofs.Tests.{get_or-In}
use Rattle.given_verdicts.specs.declared.answer.FlawlessText.{FlawlessText}
use Rattle.given_verdicts.specs.Answers.{IsFlawless, all_values, element_at, wrong_for, wrong_list, wrong_result}
use Rattle.given_verdicts.specs.Differences.{difference_from}

same_lists : (i : ℕ) (xs ys : List ℕ) → difference_from i xs ys ≡ None → xs ≡ ys
unfolding difference_from
same_lists i [] [] e = refl
same_lists i [] (y ∷ ys) e = cc
same_lists i (x ∷ xs) [] e = cc
same_lists i (x ∷ xs) (y ∷ ys) e = by_first (x == y) refl (λ f. same_lists (i + 1) xs ys f) e
  where
    by_first : (b : Bool) → (x == y) ≡ b → (difference_from (i + 1) xs ys ≡ None → xs ≡ ys)
        → cond b (difference_from (i + 1) xs ys) (Some i) ≡ None → x ∷ xs ≡ y ∷ ys
    by_first true q rest f = ap₂ (λ (u : ℕ) (us : List ℕ). u ∷ us) (eqb-true x y q) (rest f)
    by_first false q rest f = cc

not_wrong : (o : Outline) (p : Plan) (inputs : Lists) (m : Mark) → cell_of m < length p.cells
    → wrong_list o (all_values p inputs) (meaning_of o inputs) m ≡ None → IsMeant p o inputs m
not_wrong o p inputs (marks.Result b r c) h e =
    sym (get-row (value p inputs) (length p.cells) c [] h)
    ∙ same_lists 0 (get_or (all_values p inputs) c []) (at (lists_of (meaning_of o inputs) b) r)
    (map_clear (element_at o b r) (difference_from 0 (get_or (all_values p inputs) c []) (at (lists_of (meaning_of o inputs) b) r)) e)
not_wrong o p inputs (marks.Enter s r c) h e = tt
not_wrong o p inputs (marks.Leave s r c) h e = tt

-- where no result is wrong for these inputs each whose cell is there is meant
pub meant_at : (t : FlawlessText) (inputs : Lists) (i : ℕ) → i < length t.given.marks
    → cell_of (mark_at t.given.marks i) < length t.given.plan.cells → wrong_for t inputs ≡ None
    → IsMeant t.given.plan t.description.shape inputs (mark_at t.given.marks i)
meant_at t inputs i h known e =
    let o = t.description.shape in
    let g = t.given in
    let found = none_found (wrong_result t.line g.plan o (all_values g.plan inputs) (meaning_of o inputs) g.marks) 0 (length g.marks) e i
    (omega arith) (omega (arith, h)) in
    not_wrong o g.plan inputs (mark_at g.marks i) known
    (map_clear _ (wrong_list o (all_values g.plan inputs) (meaning_of o inputs) (mark_at g.marks i)) found)

-- ---- a text in which no flaw was found
pub marked : (t : FlawlessText) → IsFlawless t → IsPlanFor t.given.plan t.description.shape
    → AreMarked t.given.plan t.description.shape t.given.done t.given.marks
marked t flawless fits =
    judged_right t.given.plan t.description.shape t.given.done t.given.marks (λ l h. (fits.sound.links_sound l h).rising) flawless.marks

pub known_at : (t : FlawlessText) (i : ℕ) → IsFlawless t → IsPlanFor t.given.plan t.description.shape → i < length t.given.marks
    → cell_of (mark_at t.given.marks i) < length t.given.plan.cells
known_at t i flawless fits h =
    let m = mark_at t.given.marks i in
    fit-known t.given.plan t.description.shape (due_of m) (cell_of m) ((marked t flawless fits).fit i h)

pub has_cell : (p : Plan) (m : Mark) → cell_of m < length p.cells → HasCell p m
has_cell p (marks.Result b r c) h = h
has_cell p (marks.Enter s r c) h = h
has_cell p (marks.Leave s r c) h = h

-- a line that is asked for and names a cell that fits
named : (p : Plan) (o : Outline) (m : Mark) → IsPlanFor p o → IsWellFormed o → IsDue o (due_of m) → DoesFit p o (due_of m) (cell_of m)
    → IsNamed p o m
named p o (marks.Result b r c) fits wf due fit =
    let i = get_or-In b o.prints 0 due.0 in (
      subst (λ x. x < length o.buffers) i.2 (wf.shape.printed i.0 i.1),
      (
        subst (λ x. x < o.ranks) fit.0.1 (subst (λ n. (cell p c).rank < n) fits.ranks (fits.sound.ranks_known c fit.0.0)),
        fit.0.0,
      ),
    )
named p o (marks.Enter s r c) fits wf due fit = tt
named p o (marks.Leave s r c) fits wf due fit = tt

pub named_at : (t : FlawlessText) (i : ℕ) → IsFlawless t → IsPlanFor t.given.plan t.description.shape → IsWellFormed t.description.shape
    → i < length t.given.marks → IsNamed t.given.plan t.description.shape (mark_at t.given.marks i)
named_at t i flawless fits wf h =
    let is = marked t flawless fits in
    named t.given.plan t.description.shape (mark_at t.given.marks i) fits wf (is.due i h) (is.fit i h)

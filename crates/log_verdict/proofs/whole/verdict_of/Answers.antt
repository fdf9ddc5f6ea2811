use Rattle.std.proofs.Common.{◌≡◌, ℕ, List, [], ◌∷◌, Option, Some, None, Bor, refl, sym, ap, ◌∙◌, subst}
use Rattle.coll_text.specs.Cuts.{parts_after}
use Rattle.coll_text.specs.Text.{lines}
use Rattle.log_verdict.specs.Judging.{LineJudged, Verdicts, end_verdict, next_line}
use Rattle.log_verdict.specs.Judging.Verdicts.{EndsAt, GoesOn, Stands}
use Rattle.log_verdict.specs.declared.judge.Judge.{Judge}
use Rattle.log_verdict.specs.declared.judge.Verdict.{Verdict}
use Rattle.log_verdict.proofs.Pieces.{not_empty}
use Rattle.log_verdict.proofs.whole.verdict_of.Goals as goal

module _ (v : Verdict) (j : Judge) (rest line : List ℕ) where
  -- no LF is left
  here : (after : Option (Bor (List ℕ))) → lines rest ≡ line ∷ parts_after 10 after → ((x : Bor (List ℕ)) → (after ≡ Some x → ⊥))
      → v ≡ end_verdict (next_line j) line → Verdicts v j (lines rest)
  here None e n h = subst (λ (ps : List (List ℕ)). Verdicts v j ps) (sym e) (Stands j line h)
  here (Some x) e n h = absurd (n x refl)

  module _ (k : Judge) (pieces : List (List ℕ)) (e : lines rest ≡ line ∷ pieces) where
    at_line : (o : Option Verdict) → (pieces ≡ [] → ⊥) → LineJudged j line k o → o ≡ Some v → Verdicts v j (lines rest)
    at_line o more h is =
        subst (λ (ps : List (List ℕ)). Verdicts v j ps) (sym e)
        (EndsAt j k line pieces more (subst (λ (p : Option Verdict). LineJudged j line k p) is h))

    behind : (o : Option Verdict) → LineJudged j line k o → ((x : Verdict) → (o ≡ Some x → ⊥)) → Verdicts v k pieces
        → Verdicts v j (lines rest)
    behind None h n s = subst (λ (ps : List (List ℕ)). Verdicts v j ps) (sym e) (GoesOn j k line pieces h s)
    behind (Some x) h n s = absurd (n x refl)

pub returns-in_default : goal.returns-in_default
returns-in_default c =
    c.lines.invariant c.end.result
    (here c.end.result c.lines.judge c.lines.rest.now c.cut.result.0.now c.cut.result.1 c.cut.ensures.parts c.in_default.not-Some
    c.end.ensures)

pub returns-in-Some-judged : goal.returns-in-Some-judged
returns-in-Some-judged c =
    let line = c.cut.result.0.now in
    let pieces = lines c.in-Some.after.now in
    let are : parts_after 10 c.cut.result.1 ≡ pieces = rw c.in-Some.is (cc) in
    c.lines.invariant c.in-Some-judged.verdict
    (at_line c.in-Some-judged.verdict c.lines.judge c.lines.rest.now line c.judge_line.new.self pieces
    (c.cut.ensures.parts ∙ ap (λ (ps : List (List ℕ)). line ∷ ps) are) c.in_ok-judged.judged (not_empty 10 c.in-Some.after.now)
    c.in_ok-judged.ensures c.in-Some-judged.is)

pub lines-preserved : goal.lines-preserved
lines-preserved c = λ v s.
    let line = c.cut.result.0.now in
    let pieces = lines c.in-Some.after.now in
    let are : parts_after 10 c.cut.result.1 ≡ pieces = rw c.in-Some.is (cc) in
    c.lines.invariant v
    (behind v c.lines.judge c.lines.rest.now line c.judge_line.new.self pieces
    (c.cut.ensures.parts ∙ ap (λ (ps : List (List ℕ)). line ∷ ps) are) c.in_ok-judged.judged c.in_ok-judged.ensures
    c.in_default-judged.not-Some s)

-- The verdict on a log is one in two runs, whatever slots new things get.
use Rattle.std.proofs.Common.{◌+◌, ◌≡◌, ℕ, Bool, true, false, List, Option, Some, None, refl, ap, sym, subst, ◌∙◌, cond, codes}
use Rattle.std.specs.Str.{bytes_eq}
use Rattle.ptl_types.specs.Handles.{one_more}
use Rattle.coll_text.specs.Text.{lines as lines_of, words}
use Rattle.log_words.specs.declared.faults.Flaw.{Flaw}
use Rattle.log_words.specs.declared.faults.Flaw.TheVariants.{AfterEnd, BadHeader, TooLong}
use Rattle.log_words.specs.declared.faults.LineFault.{LineFault}
use Rattle.log_lines.specs.declared.lines.Line.{Line}
use Rattle.log_verdict.specs.Judging.{BodyTook, IsNew, IsVerdict, LineTook, Passes, ShortTook, StageTook, StepTook, Took, Verdicts, became}
use Rattle.log_verdict.specs.Judging.{end_verdict, heads}
use Rattle.log_lines.specs.declared.lines.TheConstants.{LONGEST_LINE}
use Rattle.log_verdict.specs.Judging.{counted, end_at, next_line, ranks_of, ranks_taken, refuses, refuses_long, tells_ranks, too_long, took}
use Rattle.log_verdict.specs.Judging.{verdict_given, with_counted}
use Rattle.log_verdict.specs.Steps.{LineCame}
use Rattle.log_verdict.specs.declared.answering.Step.{Step}
use Rattle.log_verdict.specs.declared.answering.Step.TheVariants as steps
use Rattle.log_verdict.specs.declared.judge.Judge.{Judge}
use Rattle.log_verdict.specs.declared.judge.Stage.{Stage}
use Rattle.log_verdict.specs.declared.judge.Stage.TheVariants.{Header, Ranks, Body, Ended}
use Rattle.log_verdict.specs.declared.judge.Taken.{Taken}
use Rattle.log_verdict.specs.declared.judge.Taken.TheVariants as takes
use Rattle.log_verdict.specs.declared.judge.Verdict.{Verdict}
use Rattle.log_verdict.specs.declared.judge.Verdict.TheVariants as verdicts
use Rattle.log_verdict.specs.declared.scenes.Scene.{Scene}
use Rattle.log_verdict.specs.Scenes.{no_interfaces}
use Rattle.slot_laws.specs.Renaming.{KeepsApart}
use Rattle.slot_laws.proofs.terms.Scenes.{AllAlike, AllConsistent, AreRenamings, Renamings, ScenesAlike}
use Rattle.slot_laws.proofs.terms.Kin.{GoesOn, Kin, KinCame}
use Rattle.slot_laws.proofs.terms.Judges.{JudgesKin, TookKin}
use Rattle.slot_laws.proofs.Coming.{line_kin}

-- ---- a line

module _ (g : Renamings) (j k : Judge) (kin : JudgesKin g j k) where
  refused_kin : (column : ℕ) (flaw : Flaw) → TookKin (refuses j column flaw) (refuses k column flaw)
  refused_kin column flaw = record {
    taken = ap (λ n. takes.Ends (verdicts.Refused n column flaw)) kin.line;
    judge = λ none. cc;
  }

  at_stage : (stage : Stage) → TookKin (took (record j { stage = stage }) takes.Goes) (took (record k { stage = stage }) takes.Goes)
  at_stage stage = record {
    taken = refl;
    judge = λ none. (g, record { fills = kin.fills; stage = refl; line = kin.line; calls = kin.calls; scene = kin.scene });
  }

  heads_kin : (line : List ℕ) → TookKin (heads j line) (heads k line)
  heads_kin line =
      elim (too_long line) as (λ b. TookKin
      (cond b (refuses_long j) (cond (bytes_eq line (codes "ni 1")) (took (record j { stage = Ranks }) takes.Goes) (refuses j 1 BadHeader)))
      (cond b (refuses_long k) (cond (bytes_eq line (codes "ni 1")) (took (record k { stage = Ranks }) takes.Goes)
      (refuses k 1 BadHeader)))) [
        | true ↦ refused_kin (LONGEST_LINE + 1) TooLong
        | false ↦ elim (bytes_eq line (codes "ni 1")) as (λ b. TookKin
            (cond b (took (record j { stage = Ranks }) takes.Goes) (refuses j 1 BadHeader))
            (cond b (took (record k { stage = Ranks }) takes.Goes) (refuses k 1 BadHeader))) [
              | true ↦ at_stage Ranks
              | false ↦ refused_kin 1 BadHeader
            ]
      ]

  ranks_kin : (n : ℕ) → Kin g (record j.scene { ranks = n }) (record k.scene { ranks = n })
  ranks_kin n = record {
    are = kin.scene.are;
    alike = λ h are agree. let s : ScenesAlike h j.scene k.scene = kin.scene.alike h are agree in
        record { ranks = refl; any_order = s.any_order; seats = s.seats; flights = s.flights };
    here = kin.scene.here;
    there = kin.scene.there;
  }

  taken_ranks : (o : Option ℕ) → TookKin (ranks_taken o j) (ranks_taken o k)
  taken_ranks None = refused_kin 1 BadHeader
  taken_ranks (Some n) = record {
    taken = refl;
    judge = λ none. (g, record { fills = kin.fills; stage = refl; line = kin.line; calls = kin.calls; scene = ranks_kin n });
  }

  tells_kin : (line : List ℕ) → TookKin (tells_ranks j line) (tells_ranks k line)
  tells_kin line =
      elim (too_long line) as (λ b. TookKin (cond b (refuses_long j) (ranks_taken (ranks_of (words line)) j))
      (cond b (refuses_long k) (ranks_taken (ranks_of (words line)) k))) [
        | true ↦ refused_kin (LONGEST_LINE + 1) TooLong
        | false ↦ taken_ranks (ranks_of (words line))
      ]

  -- by what came of it
  counted_kin : (h : Renamings) (l : Line) (s t : Scene) → Kin h s t →
      JudgesKin h (with_counted l (record j { scene = s })) (with_counted l (record k { scene = t }))
  counted_kin h l s t scenes = record {
    fills = kin.fills;
    stage = kin.stage;
    line = kin.line;
    calls = ap (counted l) kin.calls;
    scene = scenes;
  }

  became_kin : (step : Step) (l : Line) (h : Renamings) (s t : Scene) → (GoesOn step → Kin h s t) →
      TookKin (became step l (record j { scene = s })) (became step l (record k { scene = t }))
  became_kin steps.Goes l h s t on = record { taken = refl; judge = λ none. (h, counted_kin h l s t (on tt)) }
  became_kin (steps.Owes text) l h s t on = record { taken = refl; judge = λ none. (h, counted_kin h l s t (on tt)) }
  became_kin (steps.Refused fault) l h s t on = record {
    taken = ap (λ n. takes.Ends (verdicts.Refused n fault.column fault.flaw)) kin.line;
    judge = λ none. cc;
  }
  became_kin (steps.Differs column said o) l h s t on = record {
    taken = ap (λ n. takes.Ends (verdicts.Differs n column said o)) kin.line;
    judge = λ none. cc;
  }

  steps_kin : (l : Line) (t u : Took) → StepTook l j t → StepTook l k u → TookKin t u
  steps_kin l t u m n =
      let both : KinCame m.came n.came =
      line_kin g j.scene k.scene kin.scene j.fills l m.came n.came m.comes (subst (λ b. LineCame b l k.scene n.came) kin.fills n.comes) in
      subst (λ x. TookKin x u) (sym m.is)
      (subst (λ x. TookKin (became m.came.step l (record j { scene = m.came.scene })) x)
      (sym (n.is ∙ ap (λ step. became step l (record k { scene = n.came.scene })) both.step))
      (became_kin m.came.step l both.renaming m.came.scene n.came.scene both.kin))

  is_both : (t u x y : Took) → t ≡ x → u ≡ y → TookKin x y → TookKin t u
  is_both t u x y m n both = subst (λ z. TookKin z u) (sym m) (subst (λ z. TookKin x z) (sym n) both)

  short_kin : (line : List ℕ) (t u : Took) → ShortTook j line t → ShortTook k line u → TookKin t u
  short_kin line t u (ShortTook.Over e m) (ShortTook.Over f n) =
      is_both t u (took (record j { stage = Ended }) takes.Goes) (took (record k { stage = Ended }) takes.Goes) m n (at_stage Ended)
  short_kin line t u (ShortTook.Over e m) (ShortTook.Flawed fault f r n) = absurd (cc)
  short_kin line t u (ShortTook.Over e m) (ShortTook.Reads l f r n) = absurd (cc)
  short_kin line t u (ShortTook.Flawed fault e q m) (ShortTook.Over f n) = absurd (cc)
  short_kin line t u (ShortTook.Flawed fault e q m) (ShortTook.Flawed fault' f r n) =
      let same : fault' ≡ fault = let both = sym r ∙ q in cc in
      is_both t u (refuses j fault.column fault.flaw) (refuses k fault.column fault.flaw) m
      (n ∙ ap (λ (z : LineFault). refuses k z.column z.flaw) same) (refused_kin fault.column fault.flaw)
  short_kin line t u (ShortTook.Flawed fault e q m) (ShortTook.Reads l f r n) =
      let both = sym q ∙ r in absurd (cc)
  short_kin line t u (ShortTook.Reads l e q m) (ShortTook.Over f n) = absurd (cc)
  short_kin line t u (ShortTook.Reads l e q m) (ShortTook.Flawed fault f r n) =
      let both = sym q ∙ r in absurd (cc)
  short_kin line t u (ShortTook.Reads l e q m) (ShortTook.Reads l' f r n) =
      let same : l' ≡ l = let both = sym r ∙ q in cc in
      steps_kin l t u m (subst (λ z. StepTook z k u) same n)

  body_kin : (line : List ℕ) (t u : Took) → BodyTook j line t → BodyTook k line u → TookKin t u
  body_kin line t u (BodyTook.Long e m) (BodyTook.Long f n) =
      is_both t u (refuses_long j) (refuses_long k) m n (refused_kin (LONGEST_LINE + 1) TooLong)
  body_kin line t u (BodyTook.Long e m) (BodyTook.Short f n) = absurd (cc)
  body_kin line t u (BodyTook.Short e m) (BodyTook.Long f n) = absurd (cc)
  body_kin line t u (BodyTook.Short e m) (BodyTook.Short f n) = short_kin line t u m n

  stage_kin : (stage : Stage) (line : List ℕ) (t u : Took) → StageTook stage j line t → StageTook stage k line u → TookKin t u
  stage_kin Header line t u m n = is_both t u (heads j line) (heads k line) m n (heads_kin line)
  stage_kin Ranks line t u m n = is_both t u (tells_ranks j line) (tells_ranks k line) m n (tells_kin line)
  stage_kin Body line t u m n = body_kin line t u m n
  stage_kin Ended line t u m n = is_both t u (refuses j 1 AfterEnd) (refuses k 1 AfterEnd) m n (refused_kin 1 AfterEnd)

  pub took_kin : (line : List ℕ) (t u : Took) → LineTook j line t → LineTook k line u → TookKin t u
  unfolding LineTook
  took_kin line t u m n = stage_kin j.stage line t u m (subst (λ z. StageTook z k line u) kin.stage n)

  pub end_kin : (rest : List ℕ) → end_verdict k rest ≡ end_verdict j rest
  unfolding end_verdict
  end_kin rest = ap (λ z. end_at z k rest) kin.stage ∙ by j.stage
    where
      by : (z : Stage) → end_at z k rest ≡ end_at z j rest
      by Header = rw kin.line refl
      by Ranks = rw kin.line refl
      by Body = rw kin.line refl
      by Ended = rw (kin.line, kin.calls) refl

pub next_kin : (g : Renamings) (j k : Judge) → JudgesKin g j k → JudgesKin g (next_line j) (next_line k)
next_kin g j k kin = record { fills = kin.fills; stage = kin.stage; line = ap one_more kin.line; calls = kin.calls; scene = kin.scene }

-- ---- the verdict

-- a line after which the log goes on gives none
pub record PassesAs (j : Judge) (line : List ℕ) (k : Judge) : Type 0 where
  pub taken : Taken
  pub took : LineTook (next_line j) line (took k taken)
  pub none : verdict_given taken ≡ None

pub passes_as : (j : Judge) (line : List ℕ) (k : Judge) → Passes j line k → PassesAs j line k
passes_as j line k (Passes.Judged m) = record { taken = takes.Goes; took = m; none = refl }
passes_as j line k (Passes.Written text m) = record { taken = takes.Owes text; took = m; none = refl }

verdicts_kin : (v w : Verdict) (pieces : List (List ℕ)) (g : Renamings) (j k : Judge) → JudgesKin g j k → Verdicts v j pieces →
    Verdicts w k pieces → v ≡ w
verdicts_kin v w _ g j k kin (Verdicts.Stands _ rest e) (Verdicts.Stands _ _ f) =
    e ∙ sym (end_kin g (next_line j) (next_line k) (next_kin g j k kin) rest) ∙ sym f
verdicts_kin v w _ g j k kin (Verdicts.Stands _ rest e) (Verdicts.EndsAt _ k' _ _ more n) = absurd (more refl)
verdicts_kin v w _ g _ k kin (Verdicts.Stands j rest e) (Verdicts.GoesOn _ k' _ _ passes later) = elim later [ ]
verdicts_kin v w _ g j k kin (Verdicts.EndsAt _ j' _ _ more m) (Verdicts.Stands _ rest f) = absurd (more refl)
verdicts_kin v w _ g j k kin (Verdicts.EndsAt _ j' line pieces more m) (Verdicts.EndsAt _ k' _ _ more' n) =
    let both = (took_kin g (next_line j) (next_line k) (next_kin g j k kin) line (took j' (takes.Ends v))
    (took k' (takes.Ends w)) m n).taken in
    cc
verdicts_kin v w _ g j k kin (Verdicts.EndsAt _ j' line pieces more m) (Verdicts.GoesOn _ k' _ _ passes later) =
    let n : PassesAs k line k' = passes_as k line k' passes in
    let both = (took_kin g (next_line j) (next_line k) (next_kin g j k kin) line (took j' (takes.Ends v))
    (took k' n.taken) m n.took).taken in
    let none = sym (ap verdict_given both) ∙ n.none in
    absurd (cc)
verdicts_kin v w _ g _ k kin (Verdicts.GoesOn j j' line _ passes later) (Verdicts.Stands _ _ f) = elim later [ ]
verdicts_kin v w _ g j k kin (Verdicts.GoesOn _ j' line pieces passes later) (Verdicts.EndsAt _ k' _ _ more n) =
    let m : PassesAs j line j' = passes_as j line j' passes in
    let both = (took_kin g (next_line j) (next_line k) (next_kin g j k kin) line (took j' m.taken)
    (took k' (takes.Ends w)) m.took n).taken in
    let none = ap verdict_given both ∙ m.none in
    absurd (cc)
verdicts_kin v w _ g j k kin (Verdicts.GoesOn _ j' line pieces passes later) (Verdicts.GoesOn _ k' _ _ passes' later') =
    let m : PassesAs j line j' = passes_as j line j' passes in
    let n : PassesAs k line k' = passes_as k line k' passes' in
    let both = (took_kin g (next_line j) (next_line k) (next_kin g j k kin) line (took j' m.taken)
    (took k' n.taken) m.took n.took).judge m.none in
    verdicts_kin v w pieces both.0 j' k' both.1 later later'

-- ---- a whole log

first_are : AreRenamings (λ rank sort h. h)
first_are = record {
  apart = λ rank. record { ct = same; eq = same; me = same; md = λ k. same };
  none = λ rank. record { ct = refl; eq = refl; me = refl; md = λ k. refl };
}
  where
    same : KeepsApart (λ h. h)
    same = record { stamp = λ h. refl; same = λ a b. refl }

pub first_kin : (filling any_order : Bool) (j k : Judge) → IsNew filling any_order j → IsNew filling any_order k →
    JudgesKin (λ rank sort h. h) j k
first_kin filling any_order j k m n = record {
  fills = n.fills ∙ sym m.fills;
  stage = n.stage ∙ sym m.stage;
  line = n.line ∙ sym m.line;
  calls = n.calls ∙ sym m.calls;
  scene = subst (λ s. Kin (λ rank sort h. h) s k.scene) (sym m.scene)
      (subst (λ s. Kin (λ rank sort h. h) (no_interfaces 0 any_order) s) (sym n.scene) (record {
        are = first_are;
        alike = λ h are agree. record { ranks = refl; any_order = refl; seats = AllAlike.None_open; flights = refl };
        here = AllConsistent.None_open;
        there = AllConsistent.None_open;
      }));
}

-- the verdict on a log is one, whatever slots new things get
pub verdicts_are_one : (any_order : Bool) (text : List ℕ) (v w : Verdict) → IsVerdict any_order text v → IsVerdict any_order text w → v ≡ w
verdicts_are_one any_order text v w m n =
    verdicts_kin v w (lines_of text) (λ rank sort h. h) m.judge n.judge
    (first_kin false any_order m.judge n.judge m.is_new n.is_new) m.stands n.stands

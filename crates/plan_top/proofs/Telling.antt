-- What is told beside an answer.
use Rattle.std.proofs.Common.{◌≡◌, ℕ, ◌<◌, List, length, Option, Some, Result, Ok, Err, refl, sym, subst, ◌∙◌, inl, inr, arith}
use Rattle.coll_shape.specs.Outline.{Outline}
use Rattle.coll_lang.specs.declared.fault.Refusal.{Refusal}
use Rattle.coll_lang.specs.declared.fault.Refusal.TheVariants.{OneThread, TooLong}
use Rattle.coll_lang.specs.Program.{Chosen, Program}
use Rattle.given_verdicts.specs.declared.answer.GivenAnswer.{GivenAnswer}
use Rattle.given_verdicts.specs.declared.answer.GivenAnswer.TheVariants as answers
use Rattle.given_verdicts.specs.declared.answer.TextRefusal.TheVariants as texts
use Rattle.given_verdicts.specs.declared.answer.Judged.{Judged}
use Rattle.given_verdicts.specs.Answers.{answer_of}
use Rattle.given_verdicts.specs.general.General.{IsAnsweredBy, IsGeneralAnswer}
use Rattle.given_verdicts.proofs.Answering.{long_judged, long_text}
use Rattle.port_io.specs.declared.ends.Failed.{Failed}
use Rattle.port_io.specs.Ends.{Outflow}
use Rattle.run_text.specs.declared.status.Status.{Status}
use Rattle.run_text.specs.declared.status.Status.TheVariants.{Done, Usage, Refused, ReadFault, WriteFault, NoMemory}
use Rattle.run_text.specs.Ending.{Due, Written, done}
use Rattle.run_text.specs.Putting.{EndsWith}
use Rattle.run_text.specs.Refused.{step_line}
use Rattle.run_text.proofs.Told.{AreAlike}
use Rattle.schedule_compiler.specs.shapes.Footprint.{Excess, refusal}
use Rattle.plan_top.specs.notes.Notes.{IsNoteOf, Notes, description_in}
use Rattle.plan_top.specs.declared.words.PlanRequest.{PlanRequest}
use Rattle.plan_top.specs.declared.words.PlanRequest.TheVariants.{Draw, Verify, VerifyGiven}
use Rattle.plan_top.specs.Owed.{excess_name, longest, owed_given}
use Rattle.plan_top.specs.Explained.{Beside, BesideDescribed, BesideDrawn, BesidePlan, Explained, Says, Stood, TellsOf}
use Rattle.plan_top.proofs.Answering.{too_long}

-- ---- what was said stands, or a call of standard error failed

pub stood : (old new : Outflow) (bytes : List ℕ) (r : Result (Unit {0}) Failed) → EndsWith old new bytes r → Stood old new bytes
stood old new bytes (Ok done) ends = inl ends
stood old new bytes (Err failed) fails = inr fails

-- ---- a text is told beside what isn't a result

pub tells : (P : List ℕ → Type 0) (status : Status) (told : List ℕ) → (status ≡ Refused → P told) → TellsOf P status told
tells P Done told is = tt
tells P Usage told is = tt
tells P Refused told is = is refl
tells P ReadFault told is = tt
tells P WriteFault told is = tt
tells P NoMemory told is = tt

-- what is refused is owed a refusal
refused_owed : (due : Due) (sink sink' : Outflow) (status : Status) → Written due sink sink' status → status ≡ Refused
    → due.status ≡ Refused
refused_owed due sink sink' Done written is = absurd (cc)
refused_owed due sink sink' Usage written is = absurd (cc)
refused_owed due sink sink' Refused written is = written.allowed
refused_owed due sink sink' ReadFault written is = absurd (cc)
refused_owed due sink sink' WriteFault written is = absurd (cc)
refused_owed due sink sink' NoMemory written is = absurd (cc)

pub result_tells : (P : List ℕ → Type 0) (text : List ℕ) (sink sink' : Outflow) (status : Status) (told : List ℕ)
    → Written (done text) sink sink' status → TellsOf P status told
result_tells P text sink sink' status told written =
    tells P status told (λ is. absurd (let e = refused_owed (done text) sink sink' status written is in cc))

-- ---- a plan that isn't drawn

pub plan_tells : (bytes : List ℕ) (o : Outline) (k : ℕ) (name : Excess) (status : Status) (told : List ℕ)
    → refusal o ≡ Some (record { step = k; name = name }) → IsNoteOf bytes (step_line o k) (excess_name name) told
    → TellsOf (BesidePlan bytes o (refusal o)) status told
plan_tells bytes o k name status told is note =
    tells (BesidePlan bytes o (refusal o)) status told (λ refused. subst (λ r. BesidePlan bytes o r told) (sym is) note)

pub choices_tells : (bytes : List ℕ) (o : Outline) (choices : Option Chosen) (c : Chosen) (status : Status) (told : List ℕ)
    → choices ≡ Some c → IsNoteOf bytes 0 OneThread told → TellsOf (BesideDescribed bytes o choices) status told
choices_tells bytes o choices c status told is note =
    tells (BesideDescribed bytes o choices) status told (λ refused. subst (λ x. BesideDescribed bytes o x told) (sym is) note)

pub read_tells : (bytes : List ℕ) (r : Result Program (ℕ × Refusal)) (n : ℕ) (name : Refusal) (status : Status) (told : List ℕ)
    → r ≡ Err (n, name) → IsNoteOf bytes n name told → TellsOf (BesideDrawn bytes r) status told
read_tells bytes r n name status told is note =
    tells (BesideDrawn bytes r) status told (λ refused. subst (λ x. BesideDrawn bytes x told) (sym is) note)

-- ---- a plan that is judged

pub general_tells : (bytes : List ℕ) (answer : GivenAnswer) (sink sink' : Outflow) (status : Status) (told : List ℕ)
    → IsGeneralAnswer bytes answer → Written (owed_given answer) sink sink' status → (status ≡ Refused → Notes bytes answer told)
    → TellsOf (Beside Verify bytes sink sink') status told
general_tells bytes answer sink sink' status told general written notes =
    tells (Beside Verify bytes sink sink') status told
    (λ is. (answer, general, (subst (Written (owed_given answer) sink sink') is written).text, notes is))

pub given_tells : (bytes : List ℕ) (answer : GivenAnswer) (sink sink' : Outflow) (status : Status) (told : List ℕ)
    → answer ≡ answer_of bytes → (status ≡ Refused → Notes bytes answer told)
    → TellsOf (Beside VerifyGiven bytes sink sink') status told
given_tells bytes answer sink sink' status told same notes =
    tells (Beside VerifyGiven bytes sink sink') status told (λ is. subst (λ a. Notes bytes a told) same (notes is))

-- ---- what is told of the text that was read is told of the bytes of the source

-- a note of a whole text shows nothing of it
whole_note : (xs ys : List ℕ) (name : Refusal) (text : List ℕ) → IsNoteOf ys 0 name text → IsNoteOf xs 0 name text
whole_note xs ys name text is =
    record {
      note = is.note;
      line = is.line;
      named = is.named;
      path = is.path;
      found = λ some. absurd (omega arith);
      shown = is.shown;
    }

abbrev pub refused_long : GivenAnswer
refused_long = answers.Refused 0 (texts.Description TooLong)

pub long_notes : (xs ys text : List ℕ) (answer : GivenAnswer) → answer ≡ refused_long → Notes ys answer text → Notes xs answer text
long_notes xs ys text answer is notes =
    let so : Notes ys refused_long text = subst (λ a. Notes ys a text) is notes in
    subst (λ a. Notes xs a text) (sym is) (whole_note (description_in xs) (description_in ys) TooLong text so)

long_beside : (request : PlanRequest) (xs ys : List ℕ) → longest request < length xs → longest request < length ys
    → (sink sink' : Outflow) (text : List ℕ) → Beside request ys sink sink' text → Beside request xs sink sink' text
long_beside Draw xs ys long other sink sink' text beside =
    subst (λ r. BesideDrawn xs r text) (sym (too_long xs long))
    (whole_note xs ys TooLong text (subst (λ r. BesideDrawn ys r text) (too_long ys other) beside))
long_beside Verify xs ys long other sink sink' text beside =
    let answered = subst (λ (j : Judged). IsAnsweredBy j beside.0) (long_judged ys other) beside.1 in (
      beside.0,
      subst (λ (j : Judged). IsAnsweredBy j beside.0) (long_judged ys other ∙ sym (long_judged xs long)) beside.1,
      beside.2,
      long_notes xs ys text beside.0 answered beside.3,
    )
long_beside VerifyGiven xs ys long other sink sink' text beside =
    let same = long_text ys other ∙ sym (long_text xs long) in
    long_notes xs ys text (answer_of xs) (long_text xs long) (subst (λ a. Notes ys a text) same beside)

alike_beside : (request : PlanRequest) (xs ys : List ℕ) → AreAlike (longest request) xs ys → (sink sink' : Outflow) (text : List ℕ)
    → Beside request ys sink sink' text → Beside request xs sink sink' text
alike_beside request xs ys (inl same) sink sink' text beside = subst (λ v. Beside request v sink sink' text) (sym same) beside
alike_beside request xs ys (inr long) sink sink' text beside = long_beside request xs ys long.0 long.1 sink sink' text beside

pub tells_weaker : (P Q : List ℕ → Type 0) (status : Status) (told : List ℕ) → (P told → Q told) → TellsOf P status told
    → TellsOf Q status told
tells_weaker P Q Done told then is = tt
tells_weaker P Q Usage told then is = tt
tells_weaker P Q Refused told then is = then is
tells_weaker P Q ReadFault told then is = tt
tells_weaker P Q WriteFault told then is = tt
tells_weaker P Q NoMemory told then is = tt

pub alike_tells : (request : PlanRequest) (xs ys : List ℕ) → AreAlike (longest request) xs ys → (sink sink' : Outflow) (status : Status)
    (told : List ℕ) → TellsOf (Beside request ys sink sink') status told → TellsOf (Beside request xs sink sink') status told
alike_tells request xs ys alike sink sink' status told is =
    tells_weaker (Beside request ys sink sink') (Beside request xs sink sink') status told
    (alike_beside request xs ys alike sink sink' told) is

-- ---- what is told is said

pub explained : (P : List ℕ → Type 0) (status : Status) (told : List ℕ) (old new : Outflow) → TellsOf P status told
    → Says status told old new → Explained P status old new
explained P Done told old new tells says = says
explained P Usage told old new tells says = says
explained P Refused told old new tells says = (told, tells, says)
explained P ReadFault told old new tells says = says
explained P WriteFault told old new tells says = says
explained P NoMemory told old new tells says = says

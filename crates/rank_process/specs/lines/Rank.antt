-- One rank of what a text asks for by itself: its interface, its history.
use Rattle.std.specs.Prelude.{ℕ, false, ◌≡◌, ◌≤◌, ◌<◌, ◌⊎◌, List, [], None, Ok, Err, length}
use Rattle.ptl_types.specs.declared.headers.Lane.{Lane}
use Rattle.ptl_types.specs.Messages.{Sent}
use Rattle.ni_model.specs.State.{State}
use Rattle.coll_lang.specs.Language.{read}
use Rattle.coll_lang.specs.Program.{Program}
use Rattle.coll_lang.specs.declared.fault.Refusal.{Refusal}
use Rattle.coll_shape.specs.Outline.{Outline}
use Rattle.given_verdicts.specs.Answers.{judged_text}
use Rattle.given_verdicts.specs.declared.answer.FlawlessText.{FlawlessText}
use Rattle.given_verdicts.specs.declared.answer.Judged.TheVariants.{Flawless}
use Rattle.verdict_laws.specs.GivenJobs.{flawless_job}
use Rattle.schedule_compiler.specs.shapes.Footprint.{refusal}
use Rattle.schedule_compiler.specs.Schedules.{ScheduleOf, schedule_of}
use Rattle.plan_core.specs.Plan.{Plan}
use Rattle.plan_core.specs.Values.{Inputs}
use Rattle.plan_core.specs.calls.Lanes.{lane_messages}
use Rattle.cuts.specs.histories.Cut.{owned}
use Rattle.cuts.specs.histories.History.{Legal, Local, got, made, state}
use Rattle.cuts.specs.histories.Plans.{start_of}
use Rattle.cuts.specs.view.Calls.{prepare}
use Rattle.cuts.specs.view.Slots.{Slots}

-- ---- what ranks run

-- a schedule and its inputs, and the shape that names what is printed
pub record Work : Type 0 where
  pub shape : Outline
  pub schedule : ScheduleOf
  pub inputs : Inputs

-- the text is that of a description that ranks can run: it is no choice text, and its plan isn't refused
pub record IsDescribed (text : List ℕ) (d : Program) : Type 0 where
  pub read : read text ≡ Ok d
  pub planned : d.choices ≡ None
  pub accepted : refusal d.shape ≡ None

-- a description's own plan, with its inputs
abbrev pub own_work : Program → Work
own_work d = record { shape = d.shape; schedule = schedule_of d.shape; inputs = d.inputs }

-- the text, which is none of a description, is that of a description and of a plan for it that has no flaw
pub record IsGiven (text : List ℕ) (t : FlawlessText) : Type 0 where
  pub refusal : ℕ × Refusal
  pub unread : read text ≡ Err refusal
  pub judged : judged_text text ≡ Flawless t

-- that plan, with the description's inputs
abbrev pub given_work : FlawlessText → Work
given_work t =
    let job = flawless_job t in
    record { shape = t.description.shape; schedule = job.schedule; inputs = job.inputs }

-- the text asks for a description's own plan, or for the one that is given
abbrev pub Asks : List ℕ → Work → Type 0
Asks text w = ((d : Program) × IsDescribed text d × (w ≡ own_work d)) ⊎ ((t : FlawlessText) × IsGiven text t × (w ≡ given_work t))

-- ---- a rank of a plan

-- the interface of rank r after a history, with the slots that its tables gave, and the messages that the history makes
abbrev pub state_after : Plan → Inputs → ℕ → Slots → List Local → State
state_after p inputs r k es = state (start_of p k r) (prepare p inputs k r) es

abbrev pub made_by_rank : Plan → Inputs → ℕ → Slots → List Local → List Sent
made_by_rank p inputs r k es = made (start_of p k r) (prepare p inputs k r) es

-- a history of it: each step may be made where it stands; each lane brings no more than in a whole run; all of it is of ranks, and of
-- the job
pub record IsHistory (p : Plan) (inputs : Inputs) (r : ℕ) (k : Slots) (es : List Local) : Type 0 where
  pub legal : Legal (start_of p k r) false (prepare p inputs k r) es
  pub within : (s : ℕ) (lane : Lane) → s < p.ranks → length (got es s lane) ≤ lane_messages p s r lane
  pub known : (s : ℕ) (lane : Lane) → p.ranks ≤ s → got es s lane ≡ []
  pub own : (s : ℕ) (lane : Lane) → owned (got es s lane) ≡ got es s lane

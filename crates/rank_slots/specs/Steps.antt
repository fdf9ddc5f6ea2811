-- What a turn at a rank did: what was taken, and what was given back, are each a history and a note.
use Rattle.std.specs.Prelude.{ℕ, Bool, true, false, ◌≡◌, ◌<◌, ◌⊎◌, ◌++◌, ◌∷◌, [], Option, Some, None, IsTrue, IsFalse}
use mathlib.Core.Option.{some}
use lib.ListN.{get_elem?}
use Rattle.ptl_types.specs.declared.headers.Lane.{Lane}
use Rattle.ptl_types.specs.declared.headers.Lane.TheVariants.{Request, Answer}
use Rattle.ptl_types.specs.declared.steps.LocalStep.{LocalStep}
use Rattle.ptl_types.specs.Messages.{Sent}
use Rattle.ni_model.specs.Answers.{is_awaited}
use Rattle.ni_model.specs.Ready.{is_ready, target_at}
use Rattle.ptl_types.specs.Handles.{one_more}
use Rattle.plan_core.specs.calls.Lanes.{is_used_lane}
use Rattle.cuts.specs.view.Slots.{Slots}
use Rattle.cuts.specs.histories.History.{Local}
use Rattle.cuts.specs.histories.History.Local.{Start, Receive, Fire}
use Rattle.cuts.specs.histories.Plans.{system_of}
use Rattle.cuts.specs.histories.System.{state_at}
use Rattle.rank_node.specs.Copies.{has_start, listed}
use Rattle.rank_node.specs.Handles.{Agrees}
use Rattle.schedule_compiler.specs.Jobs.{JobOf}
use Rattle.rank_slots.specs.declared.gate.StartAnswer.{StartAnswer}
use Rattle.rank_slots.specs.declared.gate.StartAnswer.TheVariants.{Started, AlreadyStarted}
use Rattle.rank_slots.specs.Names.{InCount, Mark, Note, OutCount}

-- ---- a step
abbrev pub Grew : Local → Mark → Mark → Type 0
Grew e a b = b.0 ≡ a.0 ++ e ∷ []

-- a step of this kind, whatever message it received
abbrev pub Made : LocalStep → Mark → Mark → Type 0
Made step a b = (e : Local) × (listed e ≡ step) × Grew e a b

-- ---- why none was made

-- the queue of the lane to rank d was found full, and a message waits there
pub record IsFull (d : ℕ) (lane : Lane) (old new : Note) : Type 0 where
  pub at : ℕ
  pub before : OutCount
  pub after : OutCount
  pub was : get_elem? old.outs at ≡ some before
  pub is : get_elem? new.outs at ≡ some after
  pub target : after.target ≡ d
  pub lane_is : after.lane ≡ lane
  pub waits : after.waits ≡ true
  pub rose : after.refused ≡ one_more before.refused

-- the queue of the lane from rank s was found empty
pub record IsEmpty (s : ℕ) (lane : Lane) (old new : Note) : Type 0 where
  pub at : ℕ
  pub before : InCount
  pub after : InCount
  pub was : get_elem? old.ins at ≡ some before
  pub is : get_elem? new.ins at ≡ some after
  pub source : after.source ≡ s
  pub lane_is : after.lane ≡ lane
  pub rose : after.empty ≡ one_more before.empty

-- each operation that was ready sends a message, and the queue of its lane was found full
abbrev pub NoneFires : Note → Note → Type 0
NoneFires old new = (t : ℕ) → is_ready old.nic t ≡ true → (d : ℕ) × (target_at old.nic t ≡ Some d) × IsFull d Request old new

-- the lane from rank s was found empty; or no answer is awaited, and it is one of answers; or its message's answer would have to wait
abbrev pub PassedOver : ℕ → Lane → Note → Note → Type 0
PassedOver s Request old new = IsEmpty s Request old new ⊎ IsFull s Answer old new
PassedOver s Answer old new = IsEmpty s Answer old new ⊎ (is_awaited old.nic.mds.live ≡ false)

-- the interface that was taken is that of the history
abbrev pub IsOfHistory : JobOf → ℕ → Mark → Type 0
IsOfHistory job r a =
    (slots : ℕ → Slots) → Agrees (slots r) a.1.kept → a.1.nic ≡ state_at (system_of job.schedule.plan job.inputs slots) (λ q. a.0) r

-- rank r had started, nothing that was ready found room for its message, and each lane to it was passed over
pub record IsIdle (job : JobOf) (r : ℕ) (a b : Mark) : Type 0 where
  pub same : b.0 ≡ a.0
  pub started : has_start a.0 ≡ true
  pub interface : IsOfHistory job r a
  pub none_fires : NoneFires a.1 b.1
  pub over : (s : ℕ) (lane : Lane) → s < job.schedule.plan.ranks → is_used_lane job.schedule.plan s r lane ≡ true
      → PassedOver s lane a.1 b.1

-- ---- what the calls answer

-- the rank was started, or had been
abbrev pub Begun : StartAnswer → Mark → Mark → Type 0
Begun Started a b = (has_start a.0 ≡ false) × Grew Start a b
Begun AlreadyStarted a b = (has_start a.0 ≡ true) × (b.0 ≡ a.0)

-- an operation was fired that was ready, or none could be
abbrev pub Fired : Option ℕ → Mark → Mark → Type 0
Fired (Some t) a b = (is_ready a.1.nic t ≡ true) × Grew (Fire t) a b
Fired None a b = (b.0 ≡ a.0) × NoneFires a.1 b.1

-- a message of the lane was received, or the lane was passed over
pub record Delivered (s : ℕ) (lane : Lane) (answer : Bool) (a b : Mark) : Type 0 where
  pub yes : IsTrue answer → (m : Sent) × Grew (Receive s lane m) a b
  pub no : IsFalse answer → (b.0 ≡ a.0) × PassedOver s lane a.1 b.1

-- What comes over the lanes of a choice text, and what goes onto them.
use Rattle.std.specs.Prelude.{ℕ, true, ◌≡◌, ◌<◌, ◌≤◌, length}
use Rattle.ptl_types.specs.declared.calls.Outcome.{Outcome}
use Rattle.ptl_types.specs.declared.calls.Outcome.TheVariants.{Answered, Matched}
use Rattle.ptl_types.specs.declared.headers.Lane.{Lane}
use Rattle.ptl_types.specs.declared.headers.Lane.TheVariants.{Request, Answer}
use Rattle.ptl_types.specs.Kinds.{lane_of}
use Rattle.ptl_types.specs.Messages.{Sent}
use Rattle.ni_model.specs.State.{State, target as received}
use Rattle.plan_choice.specs.texts.laws.Decided.{is_choice_lane}

-- a request finds its entry, an answer is awaited
abbrev pub outcome_on : Lane → Outcome
outcome_on Request = Matched
outcome_on Answer = Answered

-- the first message of the lane from rank s to rank d, whose interface is v
pub record IsComing (s d : ℕ) (lane : Lane) (v : State) (m : Sent) : Type 0 where
  pub source : m.header.source ≡ s
  pub target : m.header.target ≡ d
  pub of_lane : lane_of m.header.kind ≡ lane
  pub outcome : (received v m).delivered.outcome ≡ outcome_on lane
  -- a word, or nothing
  pub short : length m.bytes ≤ 8

-- a message that a step of rank r makes goes to a rank, on a lane that is used
pub record IsMade (ranks r : ℕ) (m : Sent) : Type 0 where
  pub source : m.header.source ≡ r
  pub in_range : m.header.target < ranks
  pub used : is_choice_lane r m.header.target (lane_of m.header.kind) ≡ true

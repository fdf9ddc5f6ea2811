-- When a rank of a plan is done, and what is left of the job there.
use Rattle.std.specs.Prelude.{ℕ, true, ◌+◌, ◌<◌, ◌≤◌, ◌≡◌, List, Some, [], ◌∷◌, ◌++◌, length}
use Rattle.ptl_types.specs.declared.handles.Count.{Count}
use Rattle.ptl_types.specs.declared.headers.Lane.{Lane}
use Rattle.ni_model.specs.Ready.{is_ready, message_target}
use Rattle.ni_model.specs.State.{Posted, State}
use Rattle.ni_model.specs.Tables.{lookup}
use Rattle.plan_core.specs.Members.{In}
use Rattle.plan_core.specs.Plan.{Plan, cell}
use Rattle.plan_core.specs.Values.{Inputs, value}
use Rattle.plan_core.specs.calls.RankOps.{done_threshold}
use Rattle.cuts.specs.view.Slots.{Slots, done_ct}
use Rattle.cuts.specs.histories.Cut.{IsCut, IsPrefixOf, got_by, is_received_stray}
use Rattle.cuts.specs.histories.History.{Local}
use Rattle.cuts.specs.histories.Plans.{cell_bytes, system_of}
use Rattle.cuts.specs.histories.System.{Histories, System, sent_by, state_at}

-- the counter has reached so much, success and failure together, as a threshold counts them
abbrev pub HasCounted : Count → ℕ → Type 0
HasCounted count n = n ≤ count.success + count.failure

-- the done counter of rank r has reached its threshold
pub record IsDone (p : Plan) (inputs : Inputs) (slots : ℕ → Slots) (w : Histories) (r : ℕ) : Type 0 where
  pub count : Count
  pub counter : lookup (done_ct (slots r)) (state_at (system_of p inputs slots) w r).cts.live ≡ Some count
  pub enough : HasCounted count (done_threshold p r)

-- each cell of rank r holds its value, its final bytes
abbrev pub HoldsValues : Plan → Inputs → (ℕ → Slots) → Histories → ℕ → Type 0
HoldsValues p inputs slots w r = (c : ℕ) → c < length p.cells → (cell p c).rank ≡ r → cell_bytes p inputs slots w c ≡ value p inputs c

-- each history is the beginning of what it is later
abbrev pub GoesOn : System → Histories → Histories → Type 0
GoesOn k w later = (r : ℕ) → r < k.count → IsPrefixOf (w r) (later r)

-- now and in every later cut, what was sent to rank r on its lanes is what it has got by now: no message of the job is on its way to
-- it, and none is sent to it any more
abbrev pub HasGotAll : System → Histories → ℕ → Type 0
HasGotAll k w r =
    (later : Histories) → IsCut k later → GoesOn k w later →
    (s : ℕ) (lane : Lane) → s < k.count → sent_by k later s r lane ≡ got_by w r s lane

-- each pending operation is ready, and sends
abbrev pub OnlySendsAreLeft : State → Type 0
OnlySendsAreLeft s =
    (q : Posted) → In q s.pending.waiting → (is_ready s q.number ≡ true) × ((d : ℕ) × (message_target q.action ≡ Some d))

-- each of these steps is the receipt of a stray
abbrev pub AreStrays : List Local → Type 0
AreStrays [] = Unit {0}
AreStrays (e ∷ es) = (is_received_stray e ≡ true) × AreStrays es

-- from now on rank r only receives strays, and its interface stays as it is but for the drops that it counts
pub record IsLeftAlone (k : System) (w : Histories) (r : ℕ) (later : Histories) : Type 0 where
  pub more : List Local
  pub goes_on : w r ++ more ≡ later r
  pub strays : AreStrays more
  pub state : state_at k later r ≡ record (state_at k w r) { drops = (state_at k later r).drops }

-- What a step makes of the seats and lanes of a choice world.
use Rattle.std.specs.Prelude.{ℕ, true, ◌*◌, ◌<◌, ◌≤◌, ◌≡◌, nat_lt, List, Option, [], ◌∷◌, length, count_by, slice_index_or, slice_set}
use Rattle.std.specs.Prelude.{if◌then◌else◌}
use Rattle.ptl_types.specs.declared.headers.Lane.{Lane}
use Rattle.ptl_types.specs.declared.headers.Lane.TheVariants.{Answer, Request}
use Rattle.ptl_types.specs.Messages.{Sent}
use Rattle.ni_model.specs.Ready.{is_ready, ready_numbers}
use Rattle.ni_model.specs.State.{opened}
use Rattle.pair_wires.specs.Lanes.{Plain}
use Rattle.cuts.specs.histories.History.{Local, is_start, made_by}
use Rattle.cuts.specs.histories.History.Local.{Fire as Fired, Receive as Received}
use Rattle.cuts.specs.declared.orders.Step.{Step}
use Rattle.cuts.specs.declared.orders.Step.TheVariants.{Deliver, Fire, Start}
use Rattle.cuts.specs.windows.Places.{lane_place}
use Rattle.rank_node.specs.Handles.{no_handles}
use Rattle.plan_choice.specs.texts.view.Install.{limits_of}
use Rattle.worlds.specs.declared.parts.traffic.Traffic.{Traffic}
use Rattle.worlds.specs.parts.Layout.{lane_at}
use Rattle.worlds.specs.parts.Marks.{HasPlace, delivery_mark, out_with, popped, receiver}
use Rattle.plan_choice.specs.ranks.Seats.{ChoiceRankState, fired_seat, received_seat, started_seat}

-- past the last rank
abbrev pub no_seated : ChoiceRankState
no_seated = record {
  kept = no_handles (record { counters = 0; entries = 0; descriptors = 0 });
  diary = record { locals = []; steps = []; room = 0; receipts = 0; bytes = 0 };
  nic = opened 0 1 (limits_of []) [];
}

-- the seat of a rank
abbrev pub seat_at : List ChoiceRankState → ℕ → ChoiceRankState
seat_at seats r = slice_index_or seats r no_seated

-- what a rank makes by a local step
abbrev pub made_at : List ChoiceRankState → ℕ → Local → Option Sent
made_at seats r e = made_by (seat_at seats r).nic e

-- a lane's first message, and the others
abbrev pub IsFirst : ℕ → List Plain → ℕ → ℕ → Lane → Sent → List Sent → Type 0
IsFirst n lanes s d lane m rest = (lane_at lanes (lane_place n s d lane)).messages ≡ m ∷ rest

-- ---- what a step needs

-- there is room in the history, and a go counter
pub record MayStart (s : ChoiceRankState) : Type 0 where
  pub room : 0 < s.diary.room
  pub counter : 0 < length s.kept.counters

-- the operation is ready, and its message finds room
pub record MayFire (n : ℕ) (seats : List ChoiceRankState) (lanes : List Plain) (r t : ℕ) : Type 0 where
  pub room : 0 < (seat_at seats r).diary.room
  pub ready : is_ready (seat_at seats r).nic t ≡ true
  pub goes : HasPlace n r lanes (made_at seats r (Fired t))

-- there is room in the history for the message, it is for this rank, and its answer finds room
pub record MayReceive (n : ℕ) (seats : List ChoiceRankState) (lanes : List Plain) (s d : ℕ) (lane : Lane) (m : Sent) : Type 0 where
  pub room : 0 < (seat_at seats d).diary.room
  pub receipts : 0 < (seat_at seats d).diary.receipts
  pub bytes : length m.bytes ≤ (seat_at seats d).diary.bytes
  pub target : m.header.target ≡ (seat_at seats d).nic.rank
  pub goes : HasPlace n d (popped n s d lane lanes) (made_at seats d (Received s lane m))

-- by the step, between n ranks
abbrev pub MayMake : ℕ → List ChoiceRankState → List Plain → Step → Type 0
MayMake n seats lanes (Start r) = (r < n) × MayStart (seat_at seats r)
MayMake n seats lanes (Fire r t) = (r < n) × MayFire n seats lanes r t
MayMake n seats lanes (Deliver s d lane) = (s < n) × (d < n) × (0 < length (lane_at lanes (lane_place n s d lane)).messages)
    × ((m : Sent) (rest : List Sent) → IsFirst n lanes s d lane m rest → MayReceive n seats lanes s d lane m)

-- ---- what it leaves

-- these seats and lanes; and those that changed are of these two ranks
pub record AreLeft (nexts new : List ChoiceRankState) (out mid : List Plain) (a s b d : ℕ) : Type 0 where
  pub seats : nexts ≡ new
  pub lanes : out ≡ mid
  pub source : a ≡ s
  pub destination : b ≡ d

-- by the step: a rank's seat is that after its local step, and what it makes goes to the end of its lane
abbrev pub IsMade : ℕ → List ChoiceRankState → List Plain → Step → List ChoiceRankState → List Plain → ℕ → ℕ → Type 0
IsMade n seats lanes (Start r) nexts later a b =
    AreLeft nexts (slice_set seats r (started_seat (seat_at seats r))) later lanes a r b r
IsMade n seats lanes (Fire r t) nexts later a b =
    AreLeft nexts (slice_set seats r (fired_seat t (seat_at seats r))) later (out_with n r (made_at seats r (Fired t)) lanes)
    a r b (receiver r (made_at seats r (Fired t)))
IsMade n seats lanes (Deliver s d lane) nexts later a b = (m : Sent) (rest : List Sent) → IsFirst n lanes s d lane m rest →
    AreLeft nexts (slice_set seats d (received_seat s lane m (seat_at seats d))) later
    (out_with n d (made_at seats d (Received s lane m)) (popped n s d lane lanes)) a s b d

-- ---- the counts

-- one start, where there was none
abbrev pub start_count : ChoiceRankState → ℕ
start_count s = if nat_lt 0 (count_by is_start s.diary.locals) then 0 else 1

-- what is ready
abbrev pub firing_count : ChoiceRankState → ℕ
firing_count s = length (ready_numbers s.nic)

-- each set at its place
abbrev pub start_mark : List ChoiceRankState → ℕ → List ℕ → List ℕ
start_mark seats r xs = slice_set xs r (start_count (seat_at seats r))

abbrev pub firing_mark : List ChoiceRankState → ℕ → List ℕ → List ℕ
firing_mark seats r xs = slice_set xs r (firing_count (seat_at seats r))

-- those of the four lanes between two ranks, under a window
abbrev pub lane_marks : ℕ → ℕ → List Plain → ℕ → ℕ → List ℕ → List ℕ
lane_marks n window lanes s d xs =
    delivery_mark lanes n window d s Answer
    (delivery_mark lanes n window d s Request (delivery_mark lanes n window s d Answer (delivery_mark lanes n window s d Request xs)))

-- as many of each as there are ranks and lanes
pub record AreSized (ss : List ChoiceRankState) (t : Traffic) : Type 0 where
  pub at_most : t.setting.ranks ≤ 256
  pub seats : length ss ≡ t.setting.ranks
  pub lanes : length t.lanes ≡ 2 * (t.setting.ranks * t.setting.ranks)
  pub starts : length t.starts ≡ t.setting.ranks
  pub deliveries : length t.deliveries ≡ 2 * (t.setting.ranks * t.setting.ranks)
  pub firings : length t.firings ≡ t.setting.ranks

-- the counts of two ranks and of the lanes between them made anew
abbrev pub marked : List ChoiceRankState → ℕ → ℕ → Traffic → Traffic
marked seats s d t = record t {
  starts = start_mark seats d (start_mark seats s t.starts);
  deliveries = lane_marks t.setting.ranks t.setting.window t.lanes s d t.deliveries;
  firings = firing_mark seats d (firing_mark seats s t.firings);
}

-- the same traffic over such lanes
abbrev pub with_lanes : Traffic → List Plain → Traffic
with_lanes t lanes = record t { lanes = lanes }

-- after a step, with its counts
pub record IsStepped (seats : List ChoiceRankState) (t : Traffic) (step : Step) (nexts : List ChoiceRankState) (u : Traffic)
    : Type 0 where
  pub s : ℕ
  pub d : ℕ
  pub source : s < t.setting.ranks
  pub destination : d < t.setting.ranks
  pub made : IsMade t.setting.ranks seats t.lanes step nexts u.lanes s d
  pub marks : u ≡ marked nexts s d (with_lanes t u.lanes)

-- A pass over a plan in the order of time: what is known of the times so far.
use Rattle.std.specs.Prelude.{ℕ, Bool, true, false, not, nat_lt, ◌&&◌, ◌==◌, ◌≡◌, ◌<◌, ◌≤◌, ◌^◌, ◌+◌, ◌-◌, ◌⊎◌, List, length, get_or, set}
use Rattle.std.specs.Prelude.{map, max, replicate, sum_by, if◌then◌else◌}
use Rattle.plan_core.specs.Plan.{Plan, all_cells, all_links, cell, link}
use Rattle.plan_core.specs.Members.{In}
use Rattle.plan_tables.specs.Rising.{of_key}
use Rattle.plan_tables.specs.Tables.{from_rank, to_rank}
use Rattle.plan_costs.specs.declared.events.Event.{Event}
use Rattle.plan_costs.specs.declared.numbers.LogGp.{LogGp}
use Rattle.plan_costs.specs.declared.state.Stage.{Stage}
use Rattle.plan_costs.specs.declared.state.Stage.TheVariants.{Waiting, Sent, Counted}
use Rattle.plan_costs.specs.Soonest.{Before, IsSoonest}
use Rattle.plan_costs.specs.Times.{IsTimed, TimesOf, arrival, counted, in_turn, ready, receiving, received_at, received_through, sending}
use Rattle.plan_costs.specs.Times.{sent_at, sent_through, stays}
use Rattle.plan_costs.specs.Events.{Comes, Has, Popped}

-- the times so far, where each link stands, how many links each cell still awaits, and when each rank's ports are free
pub record StateOf : Type 0 where
  pub times : TimesOf
  pub stages : List Stage
  pub awaited : List ℕ
  pub senders : List ℕ
  pub receivers : List ℕ

abbrev pub is_sent : Stage → Bool
is_sent Waiting = false
is_sent _ = true

abbrev pub is_counted : Stage → Bool
is_counted Counted = true
is_counted _ = false

abbrev pub stage_of : StateOf → ℕ → Stage
stage_of s l = get_or s.stages l Waiting

abbrev pub awaited_of : StateOf → ℕ → ℕ
awaited_of s c = get_or s.awaited c 0

abbrev pub cell_time : StateOf → ℕ → ℕ
cell_time s c = get_or s.times.cells c 0

-- a message between ranks that is sent
pub record IsSent (p : Plan) (s : StateOf) (m : ℕ) : Type 0 where
  pub known : m < length p.links
  pub between : stays p m ≡ false
  pub sent : is_sent (stage_of s m) ≡ true

-- a message between ranks that is received
pub record IsReceived (p : Plan) (s : StateOf) (m : ℕ) : Type 0 where
  pub known : m < length p.links
  pub between : stays p m ≡ false
  pub counted : is_counted (stage_of s m) ≡ true

-- a link to cell c that is counted
pub record IsCounted (p : Plan) (s : StateOf) (c l : ℕ) : Type 0 where
  pub known : l < length p.links
  pub there : (link p l).target ≡ c
  pub counted : is_counted (stage_of s l) ≡ true

-- the messages that passed a port so far: each began as soon as it might after those before it, and the port is free after the last
pub record Port (port : ℕ → ℕ) (Passed : ℕ → Type 0) (come start through free : ℕ → ℕ) : Type 0 where
  pub starts : (l : ℕ) → Passed l
      → IsSoonest (come l) (λ m. Passed m × (port m ≡ port l) × Before (come m) m (come l) l) through (start l)
  pub frees : (r : ℕ) → IsSoonest 0 (λ m. Passed m × (port m ≡ r)) through (free r)

-- ---- what is due: each link whose source is reached has one event, until it is counted

abbrev pub due_time : LogGp → Plan → StateOf → ℕ → Stage → ℕ
due_time n p s l Waiting = ready p s.times l
due_time n p s l _ = arrival n p s.times l

pub record IsDue (n : LogGp) (p : Plan) (s : StateOf) (e : Event) : Type 0 where
  pub known : e.link < length p.links
  pub reached : awaited_of s (link p e.link).source ≡ 0
  pub open_still : is_counted (stage_of s e.link) ≡ false
  pub time : e.time ≡ due_time n p s e.link (stage_of s e.link)
  pub between : e.between ≡ not (stays p e.link)

-- the events of these that are past
abbrev pub sending_of : Plan → StateOf → ℕ → Event
sending_of p s m = record { time = ready p s.times m; between = true; link = m }

abbrev pub receipt_of : LogGp → Plan → StateOf → ℕ → Event
receipt_of n p s m = record { time = arrival n p s.times m; between = true; link = m }

-- ---- what is left: links that a cell awaits, and the time that messages may still take one after the other

abbrev pub awaits : Plan → StateOf → ℕ → ℕ → ℕ
awaits p s c l = if (link p l).target == c && not (is_counted (stage_of s l)) then 1 else 0

abbrev pub left_for : Plan → StateOf → ℕ → ℕ
left_for p s c = sum_by (awaits p s c) (all_links p)

abbrev pub rest_by : LogGp → Plan → ℕ → Stage → ℕ
rest_by n p l Waiting = if stays p l then 0 else sending n p l + n.latency + receiving n p l
rest_by n p l Sent = receiving n p l
rest_by n p l Counted = 0

abbrev pub rest : LogGp → Plan → StateOf → ℕ
rest n p s = sum_by (λ l. rest_by n p l (stage_of s l)) (all_links p)

-- so many events are still to come
abbrev pub events_by : Stage → ℕ
events_by Waiting = 2
events_by Sent = 1
events_by Counted = 0

abbrev pub events_left : Plan → StateOf → ℕ
events_left p s = sum_by (λ l. events_by (stage_of s l)) (all_links p)

pub record HaveSizes (p : Plan) (s : StateOf) : Type 0 where
  pub cells : length s.times.cells ≡ length p.cells
  pub awaited : length s.awaited ≡ length p.cells
  pub sent : length s.times.sent ≡ length p.links
  pub received : length s.times.received ≡ length p.links
  pub stages : length s.stages ≡ length p.links
  pub senders : length s.senders ≡ p.ranks
  pub receivers : length s.receivers ≡ p.ranks

-- no sum passes 2^64: what may still come on top of each time is within the whole
pub record HasRoom (n : LogGp) (p : Plan) (s : StateOf) (q : List Event) : Type 0 where
  pub cells : (c : ℕ) → cell_time s c + rest n p s ≤ in_turn n p
  pub senders : (r : ℕ) → get_or s.senders r 0 + rest n p s ≤ in_turn n p
  pub receivers : (r : ℕ) → get_or s.receivers r 0 + rest n p s ≤ in_turn n p
  pub queue : (e : Event) → Has q e → e.time + rest n p s ≤ in_turn n p

-- cells and links: what is awaited, what is due, and each cell's time so far
pub record IsFlow (n : LogGp) (p : Plan) (s : StateOf) (q : List Event) : Type 0 where
  pub due : (e : Event) → Has q e → IsDue n p s e
  pub queued : (e : Event) → IsDue n p s e → Has q e
  pub awaited : (c : ℕ) → c < length p.cells → awaited_of s c ≡ left_for p s c
  pub cells : (c : ℕ) → c < length p.cells → IsSoonest 0 (IsCounted p s c) (counted n p s.times) (cell_time s c)
  pub reached : (l : ℕ) → l < length p.links → is_sent (stage_of s l) ≡ true → awaited_of s (link p l).source ≡ 0
  pub stay : (l : ℕ) → l < length p.links → stays p l ≡ true → is_sent (stage_of s l) ≡ true
      → (is_counted (stage_of s l) ≡ true) × (sent_at s.times l ≡ ready p s.times l) × (received_at s.times l ≡ ready p s.times l)

-- the pass is in the order of time
pub record IsOrdered (n : LogGp) (p : Plan) (s : StateOf) (q : List Event) : Type 0 where
  pub sent : (m : ℕ) → IsSent p s m → (e : Event) → Has q e → Comes (sending_of p s m) e
  pub received : (m : ℕ) → IsReceived p s m → (e : Event) → Has q e → Comes (receipt_of n p s m) e

-- a pass so far, with the events that are to come
pub record IsPass (n : LogGp) (p : Plan) (s : StateOf) (q : List Event) : Type 0 where
  pub sizes : HaveSizes p s
  pub flow : IsFlow n p s q
  pub ordered : IsOrdered n p s q
  pub sends : Port (from_rank p) (IsSent p s) (ready p s.times) (sent_at s.times) (sent_through n p s.times) (λ r. get_or s.senders r 0)
  pub receipts : Port (to_rank p) (IsReceived p s) (arrival n p s.times) (received_at s.times) (received_through n p s.times)
      (λ r. get_or s.receivers r 0)
  pub room : HasRoom n p s q

-- ---- what one event does

-- a message is sent at this time, and keeps its port busy for so long
abbrev pub after_send : StateOf → ℕ → ℕ → ℕ → ℕ → StateOf
after_send s l r at busy = record {
  times = record { cells = s.times.cells; sent = set s.times.sent l at; received = s.times.received };
  stages = set s.stages l Sent;
  awaited = s.awaited;
  senders = set s.senders r (at + busy);
  receivers = s.receivers;
}

-- a message's receipt begins at this time
abbrev pub after_receive : StateOf → ℕ → ℕ → ℕ → ℕ → StateOf
after_receive s l r at busy = record {
  times = record { cells = s.times.cells; sent = s.times.sent; received = set s.times.received l at };
  stages = set s.stages l Counted;
  awaited = s.awaited;
  senders = s.senders;
  receivers = set s.receivers r (at + busy);
}

-- a link on one rank takes no time
abbrev pub after_stay : StateOf → ℕ → ℕ → StateOf
after_stay s l at = record {
  times = record { cells = s.times.cells; sent = set s.times.sent l at; received = set s.times.received l at };
  stages = set s.stages l Counted;
  awaited = s.awaited;
  senders = s.senders;
  receivers = s.receivers;
}

-- a link is counted at cell c at this time
abbrev pub after_count : StateOf → ℕ → ℕ → StateOf
after_count s c at = record {
  times = record { cells = set s.times.cells c (max (cell_time s c) at); sent = s.times.sent; received = s.times.received };
  stages = s.stages;
  awaited = set s.awaited c (awaited_of s c - 1);
  senders = s.senders;
  receivers = s.receivers;
}

-- the event of a link from cell c, once the cell is reached
pub record Opens (p : Plan) (s : StateOf) (c : ℕ) (e : Event) : Type 0 where
  pub known : e.link < length p.links
  pub source : (link p e.link).source ≡ c
  pub reached : awaited_of s c ≡ 0
  pub time : e.time ≡ cell_time s c
  pub between : e.between ≡ not (stays p e.link)

-- with the events of cell c, if it is reached
pub record Settled (p : Plan) (s : StateOf) (c : ℕ) (old new : List Event) : Type 0 where
  pub keeps : (e : Event) → Has old e → Has new e
  pub has : (e : Event) → Opens p s c e → Has new e
  pub only : (e : Event) → Has new e → Has old e ⊎ Opens p s c e

-- ---- the beginning

-- a go cell waits for its host alone, all others for their links
abbrev pub awaited_first : Plan → ℕ → ℕ
awaited_first p c = if nat_lt c p.ranks then 0 else (cell p c).needs

abbrev pub first : Plan → StateOf
first p = record {
  times = record { cells = replicate (length p.cells) 0; sent = replicate (length p.links) 0; received = replicate (length p.links) 0 };
  stages = replicate (length p.links) Waiting;
  awaited = map (awaited_first p) (all_cells p);
  senders = replicate p.ranks 0;
  receivers = replicate p.ranks 0;
}

-- the events of the cells below k that are reached
pub record Filled (p : Plan) (s : StateOf) (k : ℕ) (q : List Event) : Type 0 where
  pub due : (e : Event) → Has q e → ((link p e.link).source < k) × Opens p s (link p e.link).source e
  pub queued : (e : Event) → Opens p s (link p e.link).source e → (link p e.link).source < k → Has q e

-- the links that a cell fires, and those of all cells
abbrev pub links_from : Plan → ℕ → List ℕ
links_from p c = of_key (λ l. (link p l).source) (length p.links) c

abbrev pub AreLinksFrom : Plan → List (List ℕ) → Type 0
AreLinksFrom p table = table ≡ map (links_from p) (all_cells p)

-- an event that has just come first
pub record MayTake (n : LogGp) (p : Plan) (s : StateOf) (x : Event) (q : List Event) : Type 0 where
  pub before : List Event
  pub pass : IsPass n p s before
  pub popped : Popped before x q

-- what is to be known of a plan and of the numbers
pub record CanPass (n : LogGp) (p : Plan) : Type 0 where
  pub timed : IsTimed p
  pub some : 1 ≤ n.overhead
  pub small : in_turn n p < 2 ^ 64

-- a pass that has come one event further
pub record Further (n : LogGp) (p : Plan) (old s : StateOf) (q : List Event) : Type 0 where
  pub pass : IsPass n p s q
  pub fewer : events_left p s < events_left p old

-- the first event of a link whose source is reached at this time
abbrev pub opening : Plan → ℕ → ℕ → Event
opening p time l = record { time = time; between = not (stays p l); link = l }

-- with those of these links
pub record Opened (p : Plan) (ls : List ℕ) (time : ℕ) (old new : List Event) : Type 0 where
  pub keeps : (e : Event) → Has old e → Has new e
  pub has : (l : ℕ) → In l ls → Has new (opening p time l)
  pub only : (e : Event) → Has new e → Has old e ⊎ ((l : ℕ) × In l ls × (opening p time l ≡ e))

-- a plan with its numbers, and the links that each cell fires
pub record IsCourse (n : LogGp) (p : Plan) (table : List (List ℕ)) : Type 0 where
  pub can : CanPass n p
  pub links : AreLinksFrom p table

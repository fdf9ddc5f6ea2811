-- When each cell of a plan is reached under LogGP, if every host starts at 0.
--
-- A rank has a port to send by and a port to receive by, and each has one message at a time: messages are sent in the order in which
-- their source cells were reached, and received in the order in which they have arrived; at the same time the lower link is first. A
-- link that stays on its rank takes no time. A message of k bytes keeps the wire busy for k - 1 times the gap of a byte.
use Rattle.std.specs.Prelude.{ℕ, Bool, true, false, ◌==◌, ◌≡◌, ◌<◌, ◌≤◌, ◌+◌, ◌-◌, ◌*◌, List, length, get_or, max, sum_by, if◌then◌else◌}
use Rattle.plan_core.specs.Plan.{Plan, all_links, cell, in_links, is_atomic, link}
use Rattle.plan_tables.specs.Tables.{IsTabled, from_rank, to_rank}
use Rattle.plan_costs.specs.declared.numbers.LogGp.{LogGp}
use Rattle.plan_costs.specs.Soonest.{Before, IsSoonest}

-- a plan whose links lead from lower cells to higher ones, and whose cells wait for their links: every sound plan is one
pub record IsTimed (p : Plan) : Type 0 where
  pub tabled : IsTabled p
  pub rising : (l : ℕ) → l < length p.links → (link p l).source < (link p l).target
  pub needs : (c : ℕ) → c < length p.cells → p.ranks ≤ c → (cell p c).needs ≡ length (in_links p c)
  pub go : (l : ℕ) → l < length p.links → p.ranks ≤ (link p l).target

-- the numbers of LogGP, from L, o and g in nanoseconds, and G and O in picoseconds a byte
abbrev pub numbers_of : ℕ → ℕ → ℕ → ℕ → ℕ → LogGp
numbers_of latency overhead gap byte_gap byte_work = record {
  latency = latency * 1000;
  overhead = overhead * 1000;
  gap = gap * 1000;
  byte_gap = byte_gap;
  byte_work = byte_work;
}

-- ---- how long a link's message takes, in picoseconds

-- whether it stays on its rank
abbrev pub stays : Plan → ℕ → Bool
stays p l = from_rank p l == to_rank p l

-- its bytes after the first, on the wire
abbrev pub wire_time : LogGp → Plan → ℕ → ℕ
wire_time n p l = ((link p l).length - 1) * n.byte_gap

-- how long the sending port has it
abbrev pub sending : LogGp → Plan → ℕ → ℕ
sending n p l = max n.overhead n.gap + wire_time n p l

-- from the begin of its sending until its last byte has arrived
abbrev pub travel : LogGp → Plan → ℕ → ℕ
travel n p l = n.overhead + wire_time n p l + n.latency

-- from the begin of its receipt until it is counted; an Atomic's bytes are combined with the target's
abbrev pub handling : LogGp → Plan → ℕ → ℕ
handling n p l = n.overhead + (if is_atomic (link p l).kind then (link p l).length * n.byte_work else 0)

-- how long the receiving port has it
abbrev pub receiving : LogGp → Plan → ℕ → ℕ
receiving n p l = max (handling n p l) (n.gap + wire_time n p l)

-- ---- times, by cell and by link

-- when each cell is reached, when each link is sent, and when its receipt begins
pub record TimesOf : Type 0 where
  pub cells : List ℕ
  pub sent : List ℕ
  pub received : List ℕ

abbrev pub ready : Plan → TimesOf → ℕ → ℕ
ready p t l = get_or t.cells (link p l).source 0

abbrev pub sent_at : TimesOf → ℕ → ℕ
sent_at t l = get_or t.sent l 0

abbrev pub received_at : TimesOf → ℕ → ℕ
received_at t l = get_or t.received l 0

-- when the sending port, and the receiving port, is free again
abbrev pub sent_through : LogGp → Plan → TimesOf → ℕ → ℕ
sent_through n p t l = sent_at t l + sending n p l

abbrev pub received_through : LogGp → Plan → TimesOf → ℕ → ℕ
received_through n p t l = received_at t l + receiving n p l

abbrev pub arrival : LogGp → Plan → TimesOf → ℕ → ℕ
arrival n p t l = sent_at t l + travel n p l

-- when it is counted at its target
abbrev pub counted : LogGp → Plan → TimesOf → ℕ → ℕ
counted n p t l = if stays p l then received_at t l else received_at t l + handling n p l

-- a link that comes to cell c
pub record ComesTo (p : Plan) (c l : ℕ) : Type 0 where
  pub known : l < length p.links
  pub there : (link p l).target ≡ c

-- message m has the port before message l has it: it goes by the same rank's, and its time is earlier
pub record Precedes (p : Plan) (port time : ℕ → ℕ) (m l : ℕ) : Type 0 where
  pub known : m < length p.links
  pub between : stays p m ≡ false
  pub same : port m ≡ port l
  pub before : Before (time m) m (time l) l

-- The equations: everything comes about as soon as it may. Where the overhead is at least 1 they have one solution: each time is later
-- than those that it rests on, by `travel`, by `handling`, or since a link leads to a higher cell.
pub record AreTimes (n : LogGp) (p : Plan) (t : TimesOf) : Type 0 where
  pub cell_count : length t.cells ≡ length p.cells
  pub sent_count : length t.sent ≡ length p.links
  pub received_count : length t.received ≡ length p.links
  pub cells : (c : ℕ) → c < length p.cells → IsSoonest 0 (ComesTo p c) (counted n p t) (get_or t.cells c 0)
  pub at_once : (l : ℕ) → l < length p.links → stays p l ≡ true → (sent_at t l ≡ ready p t l) × (received_at t l ≡ ready p t l)
  pub sends : (l : ℕ) → l < length p.links → stays p l ≡ false
      → IsSoonest (ready p t l) (λ m. Precedes p (from_rank p) (ready p t) m l) (sent_through n p t) (sent_at t l)
  pub receipts : (l : ℕ) → l < length p.links → stays p l ≡ false
      → IsSoonest (arrival n p t l) (λ m. Precedes p (to_rank p) (arrival n p t) m l) (received_through n p t) (received_at t l)

-- ---- the longest that it may take

-- a message by itself
abbrev pub alone : LogGp → Plan → ℕ → ℕ
alone n p l = if stays p l then 0 else sending n p l + n.latency + receiving n p l

-- all messages, one after the other
abbrev pub in_turn : LogGp → Plan → ℕ
in_turn n p = sum_by (alone n p) (all_links p)

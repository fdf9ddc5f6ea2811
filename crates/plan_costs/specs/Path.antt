-- The path that a plan's time rests on, and what each message of it takes.
use Rattle.std.specs.Prelude.{ℕ, ◌≡◌, ◌<◌, ◌+◌, ◌-◌, ◌^◌, List, [], ◌∷◌, get_or, if◌then◌else◌, length, reverse, sum_by}
use Rattle.plan_core.specs.Plan.{Plan, all_links, link}
use Rattle.plan_costs.specs.declared.numbers.LogGp.{LogGp}
use Rattle.plan_costs.specs.declared.spent.Spent.{Spent}
use Rattle.plan_costs.specs.declared.traffic.Traffic.{Traffic}
use Rattle.plan_costs.specs.Times.{AreTimes, ComesTo, IsTimed, TimesOf, arrival, handling, in_turn, ready, received_at, sent_at}
use Rattle.plan_costs.specs.Times.{stays, wire_time}
use Rattle.plan_costs.specs.Lasts.{IsLastSoFar, IsLatestBelow}

-- these are a plan's times, which 64 bits hold
pub record IsCosted (n : LogGp) (p : Plan) (t : TimesOf) : Type 0 where
  pub timed : IsTimed p
  pub small : in_turn n p < 2 ^ 64
  pub times : AreTimes n p t

-- ---- what a link takes, in picoseconds

abbrev pub nothing : Spent
nothing = record { queued = 0; overhead = 0; wire = 0; latency = 0; held = 0; work = 0 }

-- a message waits for its sending port, is handed over, sent and carried, waits for its receiving port, is handed over and combined
abbrev pub spent_between : LogGp → Plan → TimesOf → ℕ → Spent
spent_between n p t l = record {
  queued = sent_at t l - ready p t l;
  overhead = n.overhead + n.overhead;
  wire = wire_time n p l;
  latency = n.latency;
  held = received_at t l - arrival n p t l;
  work = handling n p l - n.overhead;
}

-- a link that stays on its rank takes no time
abbrev pub spent_by : LogGp → Plan → TimesOf → ℕ → Spent
spent_by n p t l = if stays p l then nothing else spent_between n p t l

abbrev pub plus : Spent → Spent → Spent
plus a b = record {
  queued = a.queued + b.queued;
  overhead = a.overhead + b.overhead;
  wire = a.wire + b.wire;
  latency = a.latency + b.latency;
  held = a.held + b.held;
  work = a.work + b.work;
}

-- all of it together
abbrev pub whole : Spent → ℕ
whole s = s.queued + s.overhead + s.wire + s.latency + s.held + s.work

-- by these links
unfoldable pub spent_on : LogGp → Plan → TimesOf → List ℕ → Spent
spent_on n p t [] = nothing
spent_on n p t (l ∷ ls) = plus (spent_by n p t l) (spent_on n p t ls)

-- ---- the path

-- the link that is counted last at cell c; of several the lowest
abbrev pub IsLastTo : LogGp → Plan → TimesOf → ℕ → ℕ → Type 0
IsLastTo n p t c l = IsLastSoFar n p t (length p.links) c l

-- links that lead to cell c, the last one first: each is the last that is counted at its target, and nothing comes to where they begin
unfoldable pub LeadTo : LogGp → Plan → TimesOf → ℕ → List ℕ → Type 0
LeadTo n p t c [] = (l : ℕ) → ComesTo p c l → ⊥
LeadTo n p t c (l ∷ ls) = IsLastTo n p t c l × LeadTo n p t (link p l).source ls

-- the cell that is reached last; of several the lowest
abbrev pub IsLatest : Plan → TimesOf → ℕ → Type 0
IsLatest p t c = IsLatestBelow p t (length p.cells) c

-- where it ends, its links from the first to the last, and what they take together
pub record PathOf : Type 0 where
  pub end : ℕ
  pub links : List ℕ
  pub spent : Spent

pub record IsCritical (n : LogGp) (p : Plan) (t : TimesOf) (path : PathOf) : Type 0 where
  pub latest : IsLatest p t path.end
  pub known : (i : ℕ) → i < length path.links → get_or path.links i 0 < length p.links
  pub links : LeadTo n p t path.end (reverse path.links)
  pub spent : path.spent ≡ spent_on n p t path.links
  pub whole_time : whole path.spent ≡ get_or t.cells path.end 0

-- ---- all messages between ranks, and their bytes

abbrev pub messages_by : Plan → ℕ → ℕ
messages_by p l = if stays p l then 0 else 1

abbrev pub bytes_by : Plan → ℕ → ℕ
bytes_by p l = if stays p l then 0 else (link p l).length

abbrev pub traffic : Plan → Traffic
traffic p = record { messages = sum_by (messages_by p) (all_links p); bytes = sum_by (bytes_by p) (all_links p) }

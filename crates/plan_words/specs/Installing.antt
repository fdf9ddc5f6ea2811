-- What the ranks of a plan install on their interfaces, counted in the calls themselves (Portals 4.3): that so much is told of them, that
-- their interfaces are opened for just so much, and that no run sends a rank more.
use Rattle.std.specs.Prelude.{ℕ, Bool, true, false, ◌==◌, ◌+◌, ◌<◌, ◌≤◌, ◌≡◌, List, [], ◌∷◌, if◌then◌else◌, count_by, length, max, sum_by}
use Rattle.ptl_types.specs.declared.calls.Limits.{Limits}
use Rattle.ptl_types.specs.declared.headers.Lane.TheVariants.{Request}
use Rattle.ptl_types.specs.declared.steps.PlannedOp.{PlannedOp}
use Rattle.ptl_types.specs.declared.steps.PlannedOp.TheVariants.{Send}
use Rattle.ptl_types.specs.declared.steps.Call.{Call}
use Rattle.ptl_types.specs.declared.steps.Call.TheVariants.{CtDone, CtCell, MdBind, Overflow, MeAppend, Trigger}
use Rattle.number_lists.specs.Numbers.{from_to}
use Rattle.plan_core.specs.Plan.{Plan}
use Rattle.plan_core.specs.Values.{Inputs}
use Rattle.cuts.specs.view.Slots.{Slots}
use Rattle.cuts.specs.histories.Cut.{IsCut}
use Rattle.cuts.specs.histories.Lanes.{bytes_in}
use Rattle.cuts.specs.histories.Plans.{system_of}
use Rattle.cuts.specs.histories.System.{Histories, sent_by}
use Rattle.rank_node.specs.Node.{Task}
use Rattle.rank_node.specs.Plans.{IsCompiledFor}
use Rattle.plan_words.specs.declared.takes.Takes.{Takes}

-- ---- what a call makes

-- a triggered operation
abbrev pub is_triggered : Call → Bool
is_triggered (Trigger c threshold act) = true
is_triggered _ = false

-- a counting event
abbrev pub is_counting : Call → Bool
is_counting CtDone = true
is_counting (CtCell c) = true
is_counting _ = false

-- a match entry
abbrev pub is_entry : Call → Bool
is_entry (Overflow start size bits ignored) = true
is_entry (MeAppend c start size bits ignored) = true
is_entry _ = false

-- a memory descriptor
abbrev pub is_descriptor : Call → Bool
is_descriptor (MdBind size remote) = true
is_descriptor _ = false

-- ---- what a triggered operation sends; one that only counts sends nothing

-- a message to rank d
abbrev pub sends_to : ℕ → PlannedOp → Bool
sends_to d (Send local size target bits remote hdr op ty ack) = target == d
sends_to d _ = false

-- so many bytes, to whichever rank
abbrev pub sends_bytes : PlannedOp → ℕ
sends_bytes (Send local size target bits remote hdr op ty ack) = size
sends_bytes _ = 0

abbrev pub posts_to : ℕ → Call → Bool
posts_to d (Trigger c threshold act) = sends_to d act
posts_to d _ = false

abbrev pub posts_bytes : Call → ℕ
posts_bytes (Trigger c threshold act) = sends_bytes act
posts_bytes _ = 0

-- ---- calls together

-- the messages to rank d, and their bytes
abbrev pub messages_to : ℕ → List Call → ℕ
messages_to d calls = count_by (posts_to d) calls

abbrev pub bytes_to : ℕ → List Call → ℕ
bytes_to d calls = sum_by (λ call. if posts_to d call then posts_bytes call else 0) calls

-- the bytes of the longest message
abbrev pub longest_of : List Call → ℕ
longest_of [] = 0
longest_of (call ∷ calls) = max (posts_bytes call) (longest_of calls)

-- ---- what is told of a rank, by what all ranks install

-- what is compiled for each rank
abbrev pub AreCompiled : Plan → Inputs → (ℕ → Task) → Type 0
AreCompiled p inputs tasks = (r : ℕ) → r < p.ranks → IsCompiledFor p inputs r (tasks r)

-- the messages from one rank to another; not those that a rank sends to itself
abbrev pub between : (ℕ → Task) → ℕ → ℕ → ℕ
between tasks s d = if s == d then 0 else messages_to d (tasks s).calls

-- each number is that of the things that the rank's calls make, its start's appends of its own cells' entries among them; of what comes
-- to it, that of what all ranks' operations send there
pub record AreInstalled (ranks : ℕ) (tasks : ℕ → Task) (r : ℕ) (t : Takes) : Type 0 where
  pub triggered : t.triggered ≡ count_by is_triggered (tasks r).calls
  pub counting : t.counting ≡ count_by is_counting (tasks r).calls
  pub entries : t.entries ≡ count_by is_entry (tasks r).calls + length (tasks r).own
  pub descriptors : t.descriptors ≡ count_by is_descriptor (tasks r).calls
  pub region : t.region ≡ length (tasks r).region
  pub longest : t.longest ≡ longest_of (tasks r).calls
  pub sent : t.sent ≡ sum_by (λ d. between tasks r d) (from_to 0 ranks)
  pub received : t.received ≡ sum_by (λ s. between tasks s r) (from_to 0 ranks)
  pub own : t.own ≡ messages_to r (tasks r).calls
  pub headers : t.headers ≡ sum_by (λ s. messages_to r (tasks s).calls) (from_to 0 ranks)
  pub early : t.early ≡ sum_by (λ s. bytes_to r (tasks s).calls) (from_to 0 ranks)

-- an interface is opened for just so much
pub record IsOpenedFor (t : Takes) (limits : Limits) : Type 0 where
  pub triggered : limits.triggered ≡ t.triggered
  pub counting : limits.cts ≡ t.counting
  pub entries : limits.entries ≡ t.entries
  pub descriptors : limits.mds ≡ t.descriptors
  pub headers : limits.unexpected ≡ t.headers
  pub longest : limits.msg ≡ t.longest

-- ---- in a run, whatever its order

-- the requests that the ranks have sent to rank r, and their bytes, those that are still on their way among them
abbrev pub requests_to : Plan → Inputs → (ℕ → Slots) → Histories → ℕ → ℕ
requests_to p inputs slots w r = sum_by (λ s. length (sent_by (system_of p inputs slots) w s r Request)) (from_to 0 p.ranks)

abbrev pub request_bytes_to : Plan → Inputs → (ℕ → Slots) → Histories → ℕ → ℕ
request_bytes_to p inputs slots w r = sum_by (λ s. bytes_in (sent_by (system_of p inputs slots) w s r Request)) (from_to 0 p.ranks)

-- no run sends rank r more messages than there are headers, nor more bytes
pub record IsNeverPassed (p : Plan) (inputs : Inputs) (r : ℕ) (t : Takes) : Type 0 where
  pub headers : (slots : ℕ → Slots) (w : Histories) → IsCut (system_of p inputs slots) w → requests_to p inputs slots w r ≤ t.headers
  pub early : (slots : ℕ → Slots) (w : Histories) → IsCut (system_of p inputs slots) w → request_bytes_to p inputs slots w r ≤ t.early

-- ---- of all ranks

pub record AreTaken (p : Plan) (inputs : Inputs) (takes : ℕ → Takes) : Type 0 where
  pub installed : (tasks : ℕ → Task) → AreCompiled p inputs tasks → (r : ℕ) → r < p.ranks → AreInstalled p.ranks tasks r (takes r)
  pub opened : (tasks : ℕ → Task) → AreCompiled p inputs tasks → (r : ℕ) → r < p.ranks → IsOpenedFor (takes r) (tasks r).limits
  pub passed : (r : ℕ) → r < p.ranks → IsNeverPassed p inputs r (takes r)

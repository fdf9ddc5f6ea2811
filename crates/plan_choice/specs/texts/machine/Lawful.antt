-- What every moment of the machine keeps.
use Rattle.std.specs.Prelude.{ℕ, Bool, true, false, ◌≡◌, ◌<◌, ◌⊎◌, List, Option, Some, None, map, length, is_some, count_by}
use Rattle.ptl_types.specs.Handles.{top}
use Rattle.plan_core.specs.Members.{Distinct, In}
use Rattle.plan_core.specs.Plan.{from_to}
use Rattle.coll_lang.specs.declared.choices.ChoiceKind.{ChoiceKind}
use Rattle.plan_choice.specs.texts.machine.Choices.{choice_at}
use Rattle.coll_lang.specs.declared.choices.ChoiceKind.TheVariants.{Elect, Tickets}
use Rattle.plan_choice.specs.texts.machine.Machine.{Answer, Ask, Moment, Phase, is_ready}
use Rattle.plan_choice.specs.texts.machine.Machine.Phase.{Answered, Asked, Idle, Learned, Read, Reading, Served, Told}

-- ---- what is under way

-- a request belongs to this phase
abbrev pub IsAsk : Phase → Ask → Type 0
IsAsk Asked a = a.reads ≡ false
IsAsk (Reading old) a = a.reads ≡ true
IsAsk _ a = ⊥

-- an answer does
abbrev pub IsAnswer : Phase → Answer → Type 0
IsAnswer (Served old) a = (a.reads ≡ false) × (a.value ≡ old)
IsAnswer (Read old value) a = (a.reads ≡ true) × (a.value ≡ value)
IsAnswer _ a = ⊥

-- a request is under way
abbrev pub on_request : Phase → Bool
on_request Asked = true
on_request (Reading old) = true
on_request _ = false

-- an answer is
abbrev pub on_answer : Phase → Bool
on_answer (Served old) = true
on_answer (Read old value) = true
on_answer _ = false

-- the step of a request, and of an answer
abbrev pub ask_step : Ask → ℕ
ask_step a = a.step

-- of an answer
abbrev pub answer_step : Answer → ℕ
answer_step a = a.step

-- of one rank: what is under way is what its phases say, once for each step
pub record InFlight (steps : ℕ) (phase : ℕ → Phase) (asks : List Ask) (answers : List Answer) : Type 0 where
  pub asks_known : (a : Ask) → In a asks → (a.step < steps) × IsAsk (phase a.step) a
  pub answers_known : (a : Answer) → In a answers → (a.step < steps) × IsAnswer (phase a.step) a
  pub asks_once : Distinct (map ask_step asks)
  pub answers_once : Distinct (map answer_step answers)
  pub asks_all : (s : ℕ) → s < steps → on_request (phase s) ≡ true → In s (map ask_step asks)
  pub answers_all : (s : ℕ) → s < steps → on_answer (phase s) ≡ true → In s (map answer_step answers)

-- ---- the word of rank 0 in one step, beside the phases of the ranks there

-- the first request was taken
abbrev pub is_past : Phase → Bool
is_past Idle = false
is_past Asked = false
is_past _ = true

-- what the get read
abbrev pub read_by : Phase → Option ℕ
read_by (Read old value) = Some value
read_by (Learned old value) = Some value
read_by (Told old value) = Some value
read_by _ = None

-- the word is 2^64 - 1 until the first request is taken, and from then on a rank, which every get reads
pub record ElectHolds (ranks : ℕ) (phase : ℕ → Phase) (word : ℕ) : Type 0 where
  pub known : (word ≡ top) ⊎ (word < ranks)
  pub settled : (r : ℕ) → r < ranks → is_past (phase r) ≡ true → word < ranks
  pub values : (r v : ℕ) → r < ranks → read_by (phase r) ≡ Some v → v ≡ word

-- a phase of tickets
abbrev pub is_plain : Phase → Bool
is_plain (Answered old) = false
is_plain (Reading old) = false
is_plain (Read old value) = false
is_plain _ = true

-- the ticket that the rank was given
abbrev pub ticket_of : Phase → Option ℕ
ticket_of (Served old) = Some old
ticket_of (Learned old value) = Some value
ticket_of (Told old value) = Some value
ticket_of _ = None

-- the rank was given one
abbrev pub has_ticket : Phase → Bool
has_ticket p = is_some (ticket_of p)

-- the word is the number of requests taken, and each number below it was given once
pub record TicketsHold (ranks : ℕ) (phase : ℕ → Phase) (word : ℕ) : Type 0 where
  pub plain : (r : ℕ) → r < ranks → is_plain (phase r) ≡ true
  pub below : (r v : ℕ) → r < ranks → ticket_of (phase r) ≡ Some v → v < word
  pub apart : (q r v : ℕ) → q < ranks → r < ranks → ticket_of (phase q) ≡ Some v → ticket_of (phase r) ≡ Some v → q ≡ r
  pub count : count_by (λ r. has_ticket (phase r)) (from_to 0 ranks) ≡ word

-- by the step
abbrev pub Holds : ChoiceKind → ℕ → (ℕ → Phase) → ℕ → Type 0
Holds Elect ranks phase word = ElectHolds ranks phase word
Holds Tickets ranks phase word = TicketsHold ranks phase word

-- both, of all ranks and steps
pub record IsLawful (ranks : ℕ) (ks : List ChoiceKind) (m : Moment) : Type 0 where
  pub flight : (r : ℕ) → r < ranks → InFlight (length ks) (m.phase r) (m.asks r) (m.answers r)
  pub holds : (s : ℕ) → s < length ks → Holds (choice_at ks s) ranks (λ r. m.phase r s) (m.word s)

-- all have started, nothing is under way and no operation is ready
pub record IsResting (ranks : ℕ) (ks : List ChoiceKind) (m : Moment) : Type 0 where
  pub no_asks : (r : ℕ) → r < ranks → length (m.asks r) ≡ 0
  pub no_answers : (r : ℕ) → r < ranks → length (m.answers r) ≡ 0
  pub idle : (r s : ℕ) → r < ranks → s < length ks → is_ready (choice_at ks s) (m.phase r s) ≡ false

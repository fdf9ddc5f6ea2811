-- Interleavings: histories and lanes, and one step of one rank or of one stray.
use Rattle.std.specs.Prelude.{ℕ, Bool, true, false, Option, Some, None, ◌&&◌, ◌==◌, ◌<◌, ◌≡◌, ◌⊎◌, List, [], ◌∷◌, ◌++◌, if◌then◌else◌}
use Rattle.std.specs.Prelude.{filter, count_by, IsTrue, length}
use Rattle.ptl_types.specs.Messages.{Sent}
use Rattle.ptl_types.specs.declared.headers.Lane.{Lane}
use Rattle.ptl_types.specs.declared.headers.Lane.TheVariants.{Answer, Request}
use Rattle.ni_model.specs.Conditions.{IsKept}
use Rattle.ni_model.specs.Ready.{fired, is_ready}
use Rattle.plan_core.specs.Members.{In}
use Rattle.cuts.specs.histories.History.{Local, and_then, got, is_for, is_start, made_by, same_lane}
use Rattle.cuts.specs.histories.History.Local.{Fire, Receive, Start}
use Rattle.cuts.specs.histories.System.{Histories, System, sent_by, state_at}
use Rattle.cuts.specs.histories.Cut.{IsCut, is_stray, owned}

-- the messages that are on their way, from rank to rank on a lane, oldest first
abbrev pub Lanes : Type 0
Lanes = ℕ → ℕ → Lane → List Sent

-- ---- steps

-- a start that has not been, the receipt of the first message of a lane, a firing that is ready
abbrev pub IsEnabled : System → Histories → Lanes → ℕ → Local → Type 0
IsEnabled k w held r Start = count_by is_start (w r) ≡ 0
IsEnabled k w held r (Receive s lane m) = (s < k.count) × ((later : List Sent) × (held s r lane ≡ m ∷ later))
IsEnabled k w held r (Fire t) = IsTrue (is_ready (state_at k w r) t)

-- what rank s gains on its lane to rank d by step e of rank r
abbrev pub sent_more : System → Histories → ℕ → Local → ℕ → ℕ → Lane → List Sent
sent_more k w r e s d lane = if s == r then filter (is_for d lane) (and_then (made_by (state_at k w r) e) []) else []

-- rank r makes local step e: what it receives is the first of its lane, and what it makes goes to the end of its lane
pub record IsLocalStep (k : System) (w : Histories) (held : Lanes) (next : Histories) (after : Lanes) : Type 0 where
  pub r : ℕ
  pub e : Local
  pub in_range : r < k.count
  pub enabled : IsEnabled k w held r e
  pub rank : next r ≡ w r ++ e ∷ []
  pub others : (q : ℕ) → (q ≡ r → ⊥) → next q ≡ w q
  pub rest : Lanes
  pub taken : (s d : ℕ) (lane : Lane) → held s d lane ≡ (if d == r then got (e ∷ []) s lane else []) ++ rest s d lane
  pub left : (s d : ℕ) (lane : Lane) → after s d lane ≡ rest s d lane ++ sent_more k w r e s d lane

-- m is a stray of source s and target d, as it may lie on their request lane
pub record IsStrayOf (s d : ℕ) (lane : Lane) (m : Sent) : Type 0 where
  pub stray : is_stray m ≡ true
  pub asks : lane ≡ Request
  pub source : m.header.source ≡ s
  pub target : m.header.target ≡ d
  pub kept : IsKept m

-- the request lane from s to d
abbrev pub is_request_lane : ℕ → ℕ → ℕ → ℕ → Lane → Bool
is_request_lane s d q u lane = (q == s) && ((u == d) && same_lane lane Request)

-- a stray is put at the end of a used request lane; no history grows
pub record IsStrayStep (k : System) (w : Histories) (held : Lanes) (next : Histories) (after : Lanes) : Type 0 where
  pub s : ℕ
  pub d : ℕ
  pub m : Sent
  pub from : s < k.count
  pub to : d < k.count
  pub used : k.used s d Request ≡ true
  pub stray : IsStrayOf s d Request m
  pub same : (q : ℕ) → next q ≡ w q
  pub put : (q u : ℕ) (lane : Lane) → after q u lane ≡ held q u lane ++ (if is_request_lane s d q u lane then m ∷ [] else [])

-- one of both
abbrev pub IsStep : System → Histories → Lanes → Histories → Lanes → Type 0
IsStep k w held next after = IsLocalStep k w held next after ⊎ IsStrayStep k w held next after

-- ---- moments

-- a moment: a cut, and on each lane what was sent is what was received, followed by what is held, both without the strays, which lie on
-- request lanes alone
pub record IsMoment (k : System) (w : Histories) (held : Lanes) : Type 0 where
  pub cut : IsCut k w
  pub lanes : (s d : ℕ) (lane : Lane) → s < k.count → d < k.count →
      owned (got (w d) s lane ++ held s d lane) ≡ sent_by k w s d lane
  pub strays : (s d : ℕ) (lane : Lane) (m : Sent) → s < k.count → d < k.count →
      In m (held s d lane) → is_stray m ≡ true → IsStrayOf s d lane m

-- no step but a stray's is enabled: each rank has started, no lane holds a message, and no operation is ready
pub record IsStill (k : System) (w : Histories) (held : Lanes) : Type 0 where
  pub started : (r : ℕ) → r < k.count → 0 < count_by is_start (w r)
  pub empty : (s d : ℕ) (lane : Lane) → s < k.count → d < k.count → held s d lane ≡ []
  pub idle : (r t : ℕ) → r < k.count → is_ready (state_at k w r) t ≡ false

-- no stray waits in a lane
abbrev pub HasNoneHeld : System → Lanes → Type 0
HasNoneHeld k held = (s d : ℕ) (lane : Lane) (m : Sent) → s < k.count → d < k.count → In m (held s d lane) → is_stray m ≡ false

-- ---- windows: how many messages a lane may hold

-- the message, if there is one, finds room on the request lane to its target
abbrev pub HasWindow : Lanes → ℕ → ℕ → Option Sent → Type 0
HasWindow held window r None = Unit {0}
HasWindow held window r (Some m) = length (held r m.header.target Request) < window

-- an enabled step is possible under a window: a start, a receipt of an answer; a firing whose message finds room; a receipt of a
-- request whose answer would find room
abbrev pub IsPossible : System → Histories → Lanes → ℕ → ℕ → Local → Type 0
IsPossible k w held window r Start = Unit {0}
IsPossible k w held window r (Fire t) = HasWindow held window r (fired (state_at k w r) t).message
IsPossible k w held window r (Receive s Answer m) = Unit {0}
IsPossible k w held window r (Receive s Request m) = length (held r s Answer) < window

-- no enabled step is possible
abbrev pub IsStuck : System → Histories → Lanes → ℕ → Type 0
IsStuck k w held window = (r : ℕ) (e : Local) → r < k.count → IsEnabled k w held r e → IsPossible k w held window r e → ⊥

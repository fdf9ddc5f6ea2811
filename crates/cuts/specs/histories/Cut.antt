-- Cuts and rest.
use Rattle.std.specs.Prelude.{ℕ, Bool, false, ◌&&◌, not, ◌==◌, ◌<◌, ◌≤◌, ◌≡◌, ◌/◌, ◌%◌, ◌^◌, List, [], ◌++◌, filter, count_by}
use Rattle.ptl_types.specs.Messages.{Sent}
use Rattle.ptl_types.specs.declared.headers.Lane.{Lane}
use Rattle.ptl_types.specs.Kinds.{is_no_ack, is_put_or_atomic}
use Rattle.ni_model.specs.Ready.{is_ready}
use Rattle.cuts.specs.histories.History.{Legal, Local, got, is_start}
use Rattle.cuts.specs.histories.History.Local.{Receive}
use Rattle.cuts.specs.histories.System.{Histories, System, sent_by, state_at}

-- ---- strays: messages of another job

-- a put or an atomic with NoAck whose job bits, the highest sixteen of the match bits, aren't 1
abbrev pub is_stray : Sent → Bool
is_stray m = is_put_or_atomic m.header.kind && (is_no_ack m.header.ack && not (m.header.match_bits / 2 ^ 48 % 2 ^ 16 == 1))

-- without the strays
abbrev pub owned : List Sent → List Sent
owned ms = filter (λ m. not (is_stray m)) ms

-- the receipt of a stray
abbrev pub is_received_stray : Local → Bool
is_received_stray (Receive s lane m) = is_stray m
is_received_stray _ = false

-- what rank d received from rank s on a lane, strays left out
abbrev pub got_by : Histories → ℕ → ℕ → Lane → List Sent
got_by w d s lane = owned (got (w d) s lane)

-- ---- cuts

-- ys begins with xs
abbrev pub IsPrefixOf : {A : Type 0} → List A → List A → Type 0
IsPrefixOf {A} xs ys = (rest : List A) × (xs ++ rest ≡ ys)

-- a consistent cut of processes with first-in first-out channels: one legal history for each rank, whose receipts come from ranks, and
-- on each lane what was received, strays left out, is the beginning of what was sent. It has no common time.
pub record IsCut (k : System) (w : Histories) : Type 0 where
  pub legal : (r : ℕ) → r < k.count → Legal (k.go r) false (k.first r) (w r)
  pub known : (r s : ℕ) (lane : Lane) → r < k.count → k.count ≤ s → got (w r) s lane ≡ []
  pub lanes : (s d : ℕ) (lane : Lane) → s < k.count → d < k.count → IsPrefixOf (got_by w d s lane) (sent_by k w s d lane)

-- all have started, nothing is on its way, and no operation is ready
pub record IsAtRest (k : System) (w : Histories) : Type 0 where
  pub started : (r : ℕ) → r < k.count → 0 < count_by is_start (w r)
  pub empty : (s d : ℕ) (lane : Lane) → s < k.count → d < k.count → got_by w d s lane ≡ sent_by k w s d lane
  pub idle : (r t : ℕ) → r < k.count → is_ready (state_at k w r) t ≡ false

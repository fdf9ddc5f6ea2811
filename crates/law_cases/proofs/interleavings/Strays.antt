-- A barrier of two ranks to which messages of another job come.
use Rattle.std.proofs.Common.{ℕ, zero, suc, true, false, ◌==◌, ◌≡◌, ◌<◌, ◌≤◌, List, [], ◌∷◌, ◌++◌, refl, map, ap, inl, arith, lit<}
use Rattle.std.proofs.Common.{if◌then◌else◌, ◌+◌, length, Option, Some}
use Rattle.std.proofs.lemmas.Bool.{ne_eqb}
use Rattle.ptl_types.specs.Messages.{Sent}
use Rattle.ptl_types.specs.declared.headers.Lane.{Lane}
use Rattle.ptl_types.specs.declared.headers.Lane.TheVariants.{Answer, Request}
use Rattle.ni_model.specs.Append.{append}
use Rattle.ni_model.specs.Arrive.{request}
use Rattle.ni_model.specs.State.{target}
use Rattle.cuts.specs.view.Calls.{call_made}
use Rattle.cuts.specs.histories.Cut.{IsCut, IsPrefixOf, got_by}
use Rattle.cuts.specs.histories.History.{Legal, Local, got}
use Rattle.cuts.specs.histories.History.Local.{Receive}
use Rattle.cuts.specs.histories.Moment.{Lanes, is_request_lane}
use Rattle.cuts.specs.histories.Plans.{system_of}
use Rattle.cuts.specs.histories.System.{Histories, System, sent_by}
use Rattle.cuts.specs.orders.Taking.{listed}
use Rattle.cuts.specs.interleavings.Interleaving.{IsReachedIn, IsStillButStrays, steps_due, strays_received}
use Rattle.cuts.specs.interleavings.Interleaving.IsReachedIn.{Begun, Strayed}
use Rattle.cuts.specs.interleavings.Open.{stray_in}
use Rattle.law_cases.proofs.plans.Broadcast.{slots}
use Rattle.law_cases.proofs.plans.Moments.{stray}
use Rattle.law_cases.proofs.plans.Orders.{history_of_rank_0, history_of_rank_1, sync_message, two_ranks}

abbrev system : System
system = system_of two_ranks [] (λ r. slots)

-- a stray that brings this byte
abbrev bringing : ℕ → Sent
bringing b = record stray { bytes = b ∷ [] }

-- rank 1 received it from rank 0, and nothing else was done
abbrev came : ℕ → Histories
came b r = if r == 1 then Receive 0 Request (bringing b) ∷ [] else []

below2 : (P : ℕ → Type 0) → P 0 → P 1 → (r : ℕ) → r < 2 → P r
below2 P a b zero h = a
below2 P a b (suc zero) h = b
below2 P a b (suc (suc r)) h = absurd (omega arith)

-- ---- each is a cut, and listed they are alike: the order lines leave open which stray it was
from_ranks : (b r s : ℕ) (lane : Lane) → r < 2 → 2 ≤ s → got (came b r) s lane ≡ []
from_ranks b r zero lane h k = absurd (omega arith)
from_ranks b r (suc zero) lane h k = absurd (omega arith)
from_ranks b r (suc (suc s)) lane h k =
    let a : (0 == suc (suc s)) ≡ false = ne_eqb 0 (suc (suc s)) (λ i. absurd (omega arith)) in
    below2 (λ r. got (came b r) (suc (suc s)) lane ≡ []) refl (rw a refl) r h

abbrev Begins : ℕ → Lane → ℕ → ℕ → Type 0
Begins b lane s d = IsPrefixOf (got_by (came b) d s lane) (sent_by system (came b) s d lane)

begins : (b : ℕ) (lane : Lane) (s d : ℕ) → s < 2 → d < 2 → Begins b lane s d
unfolding target request append call_made
begins b Request s d h k =
    below2 (λ s. Begins b Request s d)
    (below2 (Begins b Request 0) ([], refl) ([], refl) d k) (below2 (Begins b Request 1) ([], refl) ([], refl) d k) s h
begins b Answer s d h k =
    below2 (λ s. Begins b Answer s d)
    (below2 (Begins b Answer 0) ([], refl) ([], refl) d k) (below2 (Begins b Answer 1) ([], refl) ([], refl) d k) s h

legal : (b r : ℕ) → r < 2 → Legal (system.go r) false (system.first r) (came b r)
unfolding target request append call_made
legal b = below2 (λ r. Legal (system.go r) false (system.first r) (came b r)) tt ((refl, refl, refl, refl, tt), tt)

cut : (b : ℕ) → IsCut system (came b)
cut b = record { legal = legal b; known = from_ranks b; lanes = λ s d lane h k. begins b lane s d h k }

listed_alike : (a b r : ℕ) → r < 2 → map listed (came a r) ≡ map listed (came b r)
listed_alike a b = below2 (λ r. map listed (came a r) ≡ map listed (came b r)) refl refl

-- the first byte that a history received
abbrev first_byte : List ℕ → ℕ
first_byte [] = 0
first_byte (b ∷ bs) = b

abbrev byte_in : List Local → ℕ
byte_in (Receive s lane m ∷ es) = first_byte m.bytes
byte_in _ = 0

-- so where strays were received the lists alone don't tell them
lists_are_not_enough : ((one other : Histories) → IsCut system one → IsCut system other
    → ((r : ℕ) → r < 2 → map listed (one r) ≡ map listed (other r)) → (r : ℕ) → r < 2 → one r ≡ other r) → ⊥
lists_are_not_enough law =
    let q : 1 ≡ 2 = ap byte_in (law (came 1) (came 2) (cut 1) (cut 2) (listed_alike 1 2) 1 (lit< tt)) in
    absurd (omega (arith, q))

-- and what is told of strays does
told_apart : map stray_in (came 1 1) ≡ map stray_in (came 2 1) → ⊥
told_apart e = let q : 1 ≡ 2 = ap byte_told e in absurd (omega (arith, q))
  where
    byte_told : List (Option Sent) → ℕ
    byte_told (Some m ∷ os) = first_byte m.bytes
    byte_told _ = 0

-- one rank received one stray
one_received : strays_received (came 1) 2 ≡ 1
one_received = refl

-- the plan gives as many steps as the histories of a cut at rest have: no fewer are enough, and no more are said to be due
as_many_as_due : steps_due two_ranks ≡ length history_of_rank_0 + length history_of_rank_1
as_many_as_due = refl

-- ---- a stray is put in the lane from rank 0 to rank 1: a step, though no rank has started
abbrev put : Lanes
put s d lane = [] ++ (if is_request_lane 0 1 s d lane then stray ∷ [] else [])

one_put : IsReachedIn system 0 1 (λ r. []) put
one_put = Strayed Begun (record {
  s = 0;
  d = 1;
  m = stray;
  from = lit< tt;
  to = lit< tt;
  used = refl;
  stray = record { stray = refl; asks = refl; source = refl; target = refl; kept = refl };
  same = λ q. refl;
  put = λ q u lane. refl;
})

-- the lanes hold nothing but strays, but no rank has started: that is no end
not_an_end : IsStillButStrays system (λ r. []) put → ⊥
not_an_end h = let q = h.started 0 (lit< tt) in absurd (omega (arith, q))

-- nor is one where a message of the job is on its way
job_message_left : (w : Histories) → IsStillButStrays system w (λ s d lane. sync_message 5 ∷ []) → ⊥
job_message_left w h = let q : false ≡ true = h.strays 0 1 Request (sync_message 5) (lit< tt) (lit< tt) (inl refl) in cc

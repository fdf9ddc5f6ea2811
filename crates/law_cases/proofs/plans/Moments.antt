-- Moments of the barrier of two ranks: one at rest in which a stray still waits, what is no moment, a wave of probes, and windows.
use Rattle.std.proofs.Common.{ℕ, zero, suc, Bool, true, false, cond, ◌&&◌, ◌==◌, ◌≡◌, ◌<◌, ◌≤◌, ◌*◌, ◌^◌, List, Some, [], ◌∷◌, ◌++◌, refl}
use Rattle.std.proofs.Common.{length, inl, inr, arith, lit<, append-nil, subst, ◌∙◌, if◌then◌else◌}
use Rattle.std.proofs.lemmas.Bool.{ne_eqb}
use Rattle.ptl_types.specs.Messages.{Sent}
use Rattle.ptl_types.specs.declared.headers.Lane.{Lane}
use Rattle.ptl_types.specs.declared.headers.Lane.TheVariants.{Answer, Request}
use Rattle.ptl_types.specs.declared.headers.MessageKind.TheVariants.{Get}
use Rattle.ni_model.specs.Answers.{answered}
use Rattle.ni_model.specs.Append.{append}
use Rattle.ni_model.specs.Arrive.{request}
use Rattle.ni_model.specs.Ready.{fired, is_ready}
use Rattle.ni_model.specs.Starts.{started}
use Rattle.ni_model.specs.State.{target}
use Rattle.plan_core.specs.Members.{In}
use Rattle.cuts.specs.view.Calls.{call_made}
use Rattle.cuts.specs.view.TriggeredOps.{link_header}
use Rattle.cuts.specs.start.Start.{bring, cell_started}
use Rattle.cuts.specs.histories.Cut.{IsAtRest, IsCut, got_by, owned}
use Rattle.cuts.specs.histories.History.{Legal, got, state}
use Rattle.cuts.specs.histories.History.Local.{Fire, Receive, Start}
use Rattle.cuts.specs.histories.Moment.{HasWindow, IsMoment, IsPossible, IsStill, IsStrayOf, IsStuck, Lanes}
use Rattle.cuts.specs.histories.Plans.{system_of}
use Rattle.cuts.specs.histories.System.{Histories, System, sent_by, state_at}
use Rattle.cuts.specs.histories.Wave.{IsWave}
use Rattle.cuts.proofs.rest.Moments.{still_none}
use Rattle.law_cases.proofs.plans.Broadcast.{slots}
use Rattle.law_cases.proofs.plans.Orders.{history_of_rank_0, history_of_rank_1, sync_message, two_ranks}

abbrev system : System
system = system_of two_ranks [] (λ r. slots)

abbrev world : Histories
world r = if r == 0 then history_of_rank_0 else history_of_rank_1

-- a put of one byte from rank 0 to rank 1, of job 2
abbrev pub stray : Sent
stray = record { header = record (link_header two_ranks slots 5) { match_bits = 2 * 2 ^ 48; length = 1 }; bytes = 1 ∷ [] }

-- the one lane on which something waits
abbrev waits : List Sent → Lanes
waits ms s d Request = if (s == 0) && (d == 1) then ms else []
waits ms s d Answer = []

below2 : (P : ℕ → Type 0) → P 0 → P 1 → (r : ℕ) → r < 2 → P r
below2 P a b zero h = a
below2 P a b (suc zero) h = b
below2 P a b (suc (suc r)) h = absurd (omega arith)

-- ---- the cut at rest
legal : (r : ℕ) → r < 2 → Legal (system.go r) false (system.first r) (world r)
unfolding target request answered started fired append call_made cell_started bring
legal = below2 (λ r. Legal (system.go r) false (system.first r) (world r))
    (refl, (refl, (refl, (refl, (refl, (refl, ((refl, refl, refl, refl, tt), (refl, tt))))))))
    (refl, (refl, (refl, (refl, (refl, (refl, ((refl, refl, refl, refl, tt), (refl, tt))))))))

known : (r s : ℕ) (lane : Lane) → r < 2 → 2 ≤ s → got (world r) s lane ≡ []
known r zero lane h k = absurd (omega arith)
known r (suc zero) lane h k = absurd (omega arith)
known r (suc (suc s)) lane h k =
    let a : (0 == suc (suc s)) ≡ false = ne_eqb 0 (suc (suc s)) (λ i. absurd (omega arith)) in
    let b : (1 == suc (suc s)) ≡ false = ne_eqb 1 (suc (suc s)) (λ i. absurd (omega arith)) in
    below2 (λ r. got (world r) (suc (suc s)) lane ≡ []) (rw b refl) (rw a refl) r h

abbrev Agrees : Lane → ℕ → ℕ → Type 0
Agrees lane s d = got_by world d s lane ≡ sent_by system world s d lane

agree : (lane : Lane) (s d : ℕ) → s < 2 → d < 2 → Agrees lane s d
unfolding target request answered started fired append call_made cell_started bring
agree Request s d h k = below2 (λ s. Agrees Request s d) (below2 (λ d. Agrees Request 0 d) refl refl d k)
    (below2 (λ d. Agrees Request 1 d) refl refl d k) s h
agree Answer s d h k = below2 (λ s. Agrees Answer s d) (below2 (λ d. Agrees Answer 0 d) refl refl d k)
    (below2 (λ d. Agrees Answer 1 d) refl refl d k) s h

cut : IsCut system world
cut = record {
  legal = legal;
  known = known;
  lanes = λ s d lane h k. ([], append-nil (got_by world d s lane) ∙ agree lane s d h k);
}

rest : IsAtRest system world
unfolding target request answered started fired append call_made cell_started bring
rest = record {
  started = below2 (λ r. 0 < _) (lit< tt) (lit< tt);
  empty = λ s d lane h k. agree lane s d h k;
  idle = λ r t h. below2 (λ r. is_ready (state_at system world r) t ≡ false) refl refl r h;
}

-- ---- with a stray that waits it is a moment, at rest and not still
abbrev Balanced : List Sent → Lane → ℕ → ℕ → Type 0
Balanced ms lane s d = owned (got (world d) s lane ++ waits ms s d lane) ≡ sent_by system world s d lane

balanced : (lane : Lane) (s d : ℕ) → s < 2 → d < 2 → Balanced (stray ∷ []) lane s d
unfolding target request answered started fired append call_made cell_started bring
balanced Request s d h k = below2 (λ s. Balanced (stray ∷ []) Request s d) (below2 (λ d. Balanced (stray ∷ []) Request 0 d) refl refl d k)
    (below2 (λ d. Balanced (stray ∷ []) Request 1 d) refl refl d k) s h
balanced Answer s d h k = below2 (λ s. Balanced (stray ∷ []) Answer s d) (below2 (λ d. Balanced (stray ∷ []) Answer 0 d) refl refl d k)
    (below2 (λ d. Balanced (stray ∷ []) Answer 1 d) refl refl d k) s h

one_stray : (m : Sent) → In m (stray ∷ []) → IsStrayOf 0 1 Request m
one_stray m (inr i) = absurd i
one_stray m (inl e) = subst (IsStrayOf 0 1 Request) e (record { stray = refl; asks = refl; source = refl; target = refl; kept = refl })

moment_with_a_stray : IsMoment system world (waits (stray ∷ []))
moment_with_a_stray = record {
  cut = cut;
  lanes = λ s d lane h k. balanced lane s d h k;
  strays = λ s d lane m h k i e. strays lane s d m h k i;
}
  where
    strays : (lane : Lane) (s d : ℕ) (m : Sent) → s < 2 → d < 2 → In m (waits (stray ∷ []) s d lane) → IsStrayOf s d lane m
    strays Answer s d m h k i = absurd i
    strays Request s d m h k i =
        below2 (λ s. In m (waits (stray ∷ []) s d Request) → IsStrayOf s d Request m)
        (λ i. below2 (λ d. In m (waits (stray ∷ []) 0 d Request) → IsStrayOf 0 d Request m) (λ i. absurd i) (λ i. one_stray m i) d k i)
        (λ i. below2 (λ d. In m (waits (stray ∷ []) 1 d Request) → IsStrayOf 1 d Request m) (λ i. absurd i) (λ i. absurd i) d k i)
        s h i

not_still : IsStill system world (waits (stray ∷ [])) → ⊥
not_still h = let q : stray ∷ [] ≡ [] = h.empty 0 1 Request (lit< tt) (lit< tt) in cc

-- its delivery raises the drop register
then_dropped : (state (system.go 1) (system.first 1) (history_of_rank_1 ++ Receive 0 Request stray ∷ [])).drops ≡ 1
unfolding target request answered started fired append call_made cell_started bring
then_dropped = refl

-- ---- a message of the job that nobody sent makes it no moment, and neither does a stray of another source
no_moment_with_more : IsMoment system world (waits (sync_message 5 ∷ [])) → ⊥
unfolding target request answered started fired append call_made cell_started bring
no_moment_with_more m = let q : sync_message 5 ∷ sync_message 5 ∷ [] ≡ sync_message 5 ∷ [] = m.lanes 0 1 Request (lit< tt) (lit< tt) in cc

abbrev foreign : Sent
foreign = record { header = record stray.header { source = 1 }; bytes = 1 ∷ [] }

no_moment_of_another_source : IsMoment system world (waits (foreign ∷ [])) → ⊥
no_moment_of_another_source m = let q : 1 ≡ 0 = (m.strays 0 1 Request foreign (lit< tt) (lit< tt) (inl refl) refl).source in
    absurd (omega (arith, q))

-- ---- windows: at rest with empty lanes nothing is possible; a stray that waits may be received
empty_still : IsStill system world (waits [])
empty_still = record {
  started = rest.started;
  empty = λ s d lane h k. nothing lane (s == 0) (d == 1) s d;
  idle = rest.idle;
}
  where
    nothing : (lane : Lane) (a b : Bool) (s d : ℕ) → waits [] s d lane ≡ []
    nothing Answer a b s d = refl
    nothing Request a b s d = either ((s == 0) && (d == 1))
      where
        either : (c : Bool) → cond {A = List Sent} c [] [] ≡ []
        either true = refl
        either false = refl

stuck : IsStuck system world (waits []) 1
stuck r e h enabled possible = still_none system world (waits []) empty_still r e h enabled

not_stuck : IsStuck system world (waits (stray ∷ [])) 1 → ⊥
not_stuck h = h 1 (Receive 0 Request stray) (lit< tt) (lit< tt, ([], refl)) (lit< tt)

-- a lane that holds one message is full under a window of one: no start would find room there
full : IsPossible system (λ r. history_of_rank_0) (λ s d lane. sync_message 5 ∷ []) 1 1 (Receive 0 Request (sync_message 5)) → ⊥
full h = absurd (omega arith)

-- it is the lane back to the sender that the answer needs: here the one from rank 1 to rank 0, and not the one from rank 0
abbrev back : Lanes
back s d lane = if s == 1 then sync_message 5 ∷ [] else []

full_back : IsPossible system (λ r. history_of_rank_0) back 1 1 (Receive 0 Request (sync_message 5)) → ⊥
full_back h = absurd (omega arith)

-- a request needs room on the lane to its target
abbrev there : Lanes
there s d lane = if d == 1 then sync_message 5 ∷ [] else []

full_there : HasWindow there 1 0 (Some (sync_message 5)) → ⊥
full_there h = absurd (omega arith)

-- ---- a get, whatever its match bits, is no stray: strays are puts and atomics alone
abbrev asking : Sent
asking = record { header = record stray.header { kind = Get }; bytes = [] }

get_is_no_stray : owned (asking ∷ stray ∷ []) ≡ asking ∷ []
get_is_no_stray = refl

-- ---- a wave of probes over the whole histories, and one of a front that is short of a receipt
wave : IsWave system world world
unfolding target request answered started fired append call_made cell_started bring
wave = record {
  front = λ r h. ([], append-nil (world r));
  started = rest.started;
  idle = rest.idle;
  balanced = λ s d lane h k used. counts lane s d h k;
}
  where
    Counted : Lane → ℕ → ℕ → Type 0
    Counted lane s d = length (got (world d) s lane) ≡ length (sent_by system world s d lane)

    counts : (lane : Lane) (s d : ℕ) → s < 2 → d < 2 → Counted lane s d
    counts Request s d h k = below2 (λ s. Counted Request s d) (below2 (λ d. Counted Request 0 d) refl refl d k)
        (below2 (λ d. Counted Request 1 d) refl refl d k) s h
    counts Answer s d h k = below2 (λ s. Counted Answer s d) (below2 (λ d. Counted Answer 0 d) refl refl d k)
        (below2 (λ d. Counted Answer 1 d) refl refl d k) s h

abbrev short : Histories
short r = if r == 0 then Start ∷ Fire 0 ∷ Fire 1 ∷ Fire 2 ∷ Fire 3 ∷ Fire 4 ∷ [] else history_of_rank_1

no_wave : IsWave system short world → ⊥
unfolding target request answered started fired append call_made cell_started bring
no_wave h = let q : 0 ≡ 1 = h.balanced 1 0 Request (lit< tt) (lit< tt) refl in absurd (omega (arith, q))

-- Three ranks that count acknowledgements, of which the group of rank 0 and rank 2 meets at a barrier and rank 0 gets rank 2's byte: a
-- cut at
-- rest at which each rank is complete, and histories that are no cut, no rest, or leave a rank incomplete, each by one fault.
use Rattle.std.proofs.Common.{ℕ, true, false, ◌==◌, ◌≡◌, ◌<◌, ◌≤◌, ◌*◌, ◌^◌, List, [], ◌∷◌, ◌++◌, take, drop, None}
use Rattle.std.proofs.Common.{refl, arith, lit<, lit≤, append-nil, ◌∙◌, if◌then◌else◌}
use Rattle.std.proofs.lemmas.Bool.{ne_eqb}
use Rattle.ptl_types.specs.Messages.{Sent}
use Rattle.ptl_types.specs.declared.elements.ElemType.TheVariants.{U8}
use Rattle.ptl_types.specs.declared.headers.Lane.{Lane}
use Rattle.ptl_types.specs.declared.headers.Lane.TheVariants.{Answer, Request}
use Rattle.ptl_types.specs.declared.headers.AckRequest.TheVariants.{NoAck}
use Rattle.ni_model.specs.Answers.{answered}
use Rattle.ni_model.specs.Append.{append}
use Rattle.ni_model.specs.Arrive.{request}
use Rattle.ni_model.specs.Ready.{fired, is_ready}
use Rattle.ni_model.specs.Starts.{started}
use Rattle.ni_model.specs.State.{target}
use Rattle.plan_core.specs.declared.Cell.{Cell}
use Rattle.plan_core.specs.Plan.{Plan}
use Rattle.plan_core.specs.Values.{Inputs}
use Rattle.cuts.specs.view.Calls.{call_made}
use Rattle.cuts.specs.view.TriggeredOps.{ack_message, link_header, link_message}
use Rattle.cuts.specs.start.Start.{bring, cell_started}
use Rattle.cuts.specs.histories.Cut.{IsAtRest, IsCut, IsPrefixOf, got_by}
use Rattle.cuts.specs.histories.History.{Legal, Local, got, state}
use Rattle.cuts.specs.histories.History.Local.{Fire, Receive, Start}
use Rattle.cuts.specs.histories.Plans.{system_of}
use Rattle.cuts.specs.histories.System.{Histories, System, sent_by, state_at}
use Rattle.law_cases.proofs.plans.Broadcast.{bump_link, put_link, slots}
use Rattle.law_cases.proofs.plans.Orders.{empty_on, sync_link}
use Rattle.law_cases.proofs.plans.Three.{below3}

abbrev byte_on : ℕ → ℕ → Cell
byte_on r k = record { rank = r; ty = U8; op = None; length = 1; needs = k }

-- go cells 0 1 2, inputs 3 4 5, entries 6 at rank 0 and 7 at rank 2, exits 8 and 9, and at rank 0 what rank 2's input sends it
abbrev pub three : Plan
three = record {
  ranks = 3;
  remote = true;
  cells = empty_on 0 1 ∷ empty_on 1 1 ∷ empty_on 2 1 ∷ byte_on 0 1 ∷ byte_on 1 1 ∷ byte_on 2 1
      ∷ empty_on 0 1 ∷ empty_on 2 1 ∷ empty_on 0 2 ∷ empty_on 2 2 ∷ byte_on 0 2 ∷ [];
  links = bump_link 0 3 ∷ bump_link 1 4 ∷ bump_link 2 5 ∷ bump_link 3 6 ∷ bump_link 5 7
      ∷ bump_link 6 8 ∷ sync_link 7 8 ∷ bump_link 7 9 ∷ sync_link 6 9 ∷ bump_link 8 10 ∷ put_link 5 10 ∷ [];
}

abbrev pub inputs : Inputs
inputs = ((7 ∷ []) ∷ (8 ∷ []) ∷ (9 ∷ []) ∷ []) ∷ []

abbrev pub system : System
system = system_of three inputs (λ r. slots)

abbrev pub says : ℕ → List ℕ → Sent
says l bytes = link_message three slots l bytes

abbrev pub ack : ℕ → Sent
ack l = ack_message three slots l

-- an empty put of job 2 from rank 0 to rank 1
abbrev pub stray : Sent
stray = record { header = record (link_header three slots 8) { target = 1; match_bits = 2 * 2 ^ 48; ack = NoAck; home = None }; bytes = [] }

abbrev pub order0 : List Local
order0 =
    Start ∷ Fire 0 ∷ Fire 1 ∷ Fire 2 ∷ Fire 3 ∷ Receive 2 Request (says 6 []) ∷ Fire 4
    ∷ Receive 2 Request (says 10 (9 ∷ [])) ∷ Receive 2 Answer (ack 8) ∷ Fire 5 ∷ Fire 6 ∷ Fire 7 ∷ Fire 8 ∷ Fire 9 ∷ []

abbrev pub order1 : List Local
order1 = Start ∷ Fire 0 ∷ Fire 1 ∷ Fire 2 ∷ Receive 0 Request stray ∷ []

abbrev pub order2 : List Local
order2 =
    Start ∷ Fire 0 ∷ Fire 1 ∷ Fire 2 ∷ Fire 3 ∷ Fire 4 ∷ Receive 0 Request (says 8 [])
    ∷ Receive 0 Answer (ack 6) ∷ Receive 0 Answer (ack 10) ∷ Fire 5 ∷ Fire 6 ∷ Fire 7 ∷ Fire 8 ∷ []

-- one list for each rank
abbrev pub each : List Local → List Local → List Local → Histories
each a b c r = if r == 0 then a else (if r == 1 then b else c)

abbrev pub whole : Histories
whole = each order0 order1 order2

-- ---- a cut at rest

-- no rank received from a fourth one, whatever these lists are that name the ranks below 3 alone
known_of : (a b c : List Local) → ((s : ℕ) (lane : Lane) → (0 == s) ≡ false → (2 == s) ≡ false → got a s lane ≡ [])
    → ((s : ℕ) (lane : Lane) → (0 == s) ≡ false → (2 == s) ≡ false → got b s lane ≡ [])
    → ((s : ℕ) (lane : Lane) → (0 == s) ≡ false → (2 == s) ≡ false → got c s lane ≡ [])
    → (r s : ℕ) (lane : Lane) → r < 3 → 3 ≤ s → got (each a b c r) s lane ≡ []
known_of a b c ga gb gc r s lane h k =
    let z : (0 == s) ≡ false = ne_eqb 0 s (λ i. absurd (omega (arith, i, k))) in
    let t : (2 == s) ≡ false = ne_eqb 2 s (λ i. absurd (omega (arith, i, k))) in
    below3 (λ r. got (each a b c r) s lane ≡ []) (ga s lane z t) (gb s lane z t) (gc s lane z t) r h

-- the steps of rank r after its first n
abbrev Goes : ℕ → ℕ → Type 0
Goes n r = Legal (system.go r) true (state (system.go r) (system.first r) (take n (whole r))) (drop n (whole r))

goes0 : Goes 7 0
unfolding target request answered started fired append call_made cell_started bring
goes0 = ((refl, refl, refl, refl, tt), ((refl, refl, refl, refl, refl), (refl, (refl, (refl, (refl, (refl, tt)))))))

goes2 : Goes 7 2
unfolding target request answered started fired append call_made cell_started bring
goes2 = ((refl, refl, refl, refl, refl), ((refl, refl, refl, refl, refl), (refl, (refl, (refl, (refl, tt))))))

legal : (r : ℕ) → r < 3 → Legal (system.go r) false (system.first r) (whole r)
unfolding target request answered started fired append call_made cell_started bring
legal = below3 (λ r. Legal (system.go r) false (system.first r) (whole r))
    (refl, (refl, (refl, (refl, (refl, ((refl, refl, refl, refl, tt), (refl, goes0)))))))
    (refl, (refl, (refl, (refl, ((refl, refl, refl, refl, tt), tt)))))
    (refl, (refl, (refl, (refl, (refl, (refl, ((refl, refl, refl, refl, tt), goes2)))))))

abbrev Agrees : Histories → Lane → ℕ → ℕ → Type 0
Agrees w lane s d = got_by w d s lane ≡ sent_by system w s d lane

agree : (lane : Lane) (s d : ℕ) → s < 3 → d < 3 → Agrees whole lane s d
unfolding target request answered started fired append call_made cell_started bring
agree Request s d h k = below3 (λ s. Agrees whole Request s d) (below3 (λ d. Agrees whole Request 0 d) refl refl refl d k)
    (below3 (λ d. Agrees whole Request 1 d) refl refl refl d k) (below3 (λ d. Agrees whole Request 2 d) refl refl refl d k) s h
agree Answer s d h k = below3 (λ s. Agrees whole Answer s d) (below3 (λ d. Agrees whole Answer 0 d) refl refl refl d k)
    (below3 (λ d. Agrees whole Answer 1 d) refl refl refl d k) (below3 (λ d. Agrees whole Answer 2 d) refl refl refl d k) s h

pub cut : IsCut system whole
cut = record {
  legal = legal;
  known = known_of order0 order1 order2 (λ s lane z t. rw t refl) (λ s lane z t. rw z refl) (λ s lane z t. rw z refl);
  lanes = λ s d lane h k. ([], append-nil (got_by whole d s lane) ∙ agree lane s d h k);
}

pub rest : IsAtRest system whole
unfolding target request answered started fired append call_made cell_started bring
rest = record {
  started = below3 (λ r. 0 < _) (lit< tt) (lit< tt) (lit< tt);
  empty = λ s d lane h k. agree lane s d h k;
  idle = λ r t h. below3 (λ r. is_ready (state_at system whole r) t ≡ false) refl refl refl r h;
}

-- ---- no cuts

-- rank 2 tells of its go cell before its start
abbrev too_soon : Histories
too_soon = each order0 order1 (Fire 5 ∷ order2)

not_ready_yet : IsCut system too_soon → ⊥
unfolding target request answered started fired append call_made cell_started bring
not_ready_yet h = let q : false ≡ true = (h.legal 2 (lit< tt)).0 in cc

from_a_fourth : IsCut system (each order0 order1 (order2 ++ Receive 3 Request (says 8 []) ∷ [])) → ⊥
from_a_fourth h = let q : says 8 [] ∷ [] ≡ [] = h.known 2 3 Request (lit< tt) (lit≤ tt) in cc

-- rank 0 received what rank 2 didn't send, a request and an answer
never_sent : IsCut system (each order0 order1 []) → ⊥
never_sent h =
    let q : (rest : List Sent) × (says 6 [] ∷ says 10 (9 ∷ []) ∷ rest ≡ []) = h.lanes 2 0 Request (lit< tt) (lit< tt) in
    let e : says 6 [] ∷ says 10 (9 ∷ []) ∷ q.0 ≡ [] = q.1 in cc

never_answered : IsCut system (each order0 order1 []) → ⊥
never_answered h =
    let q : (rest : List Sent) × (ack 8 ∷ rest ≡ []) = h.lanes 2 0 Answer (lit< tt) (lit< tt) in
    let e : ack 8 ∷ q.0 ≡ [] = q.1 in cc

-- ---- at no rest: rank 2 hasn't started; an acknowledgement is on its way to rank 0; rank 2's last operation is ready
not_started : IsAtRest system (each order0 order1 []) → ⊥
not_started h = let q : 0 < 0 = h.started 2 (lit< tt) in absurd (omega (arith, q))

abbrev pub unacknowledged : List Local
unacknowledged =
    Start ∷ Fire 0 ∷ Fire 1 ∷ Fire 2 ∷ Fire 3 ∷ Receive 2 Request (says 6 []) ∷ Fire 4
    ∷ Receive 2 Request (says 10 (9 ∷ [])) ∷ Fire 5 ∷ Fire 6 ∷ Fire 7 ∷ Fire 8 ∷ Fire 9 ∷ []

on_its_way : IsAtRest system (each unacknowledged order1 order2) → ⊥
unfolding target request answered started fired append call_made cell_started bring
on_its_way h = let q : [] ≡ ack 8 ∷ [] = h.empty 2 0 Answer (lit< tt) (lit< tt) in cc

abbrev pub short : List Local
short =
    Start ∷ Fire 0 ∷ Fire 1 ∷ Fire 2 ∷ Fire 3 ∷ Fire 4
    ∷ Receive 0 Request (says 8 []) ∷ Receive 0 Answer (ack 6) ∷ Receive 0 Answer (ack 10) ∷ Fire 5 ∷ Fire 6 ∷ Fire 7 ∷ []

one_is_ready : IsAtRest system (each order0 order1 short) → ⊥
unfolding target request answered started fired append call_made cell_started bring
one_is_ready h = let q : true ≡ false = h.idle 2 8 (lit< tt) in cc

-- ---- what was sent need not have been received: a cut that is no rest, of which rank 2 alone made steps
abbrev pub ahead : List Local
ahead = Start ∷ Fire 0 ∷ Fire 1 ∷ Fire 2 ∷ Fire 3 ∷ Fire 4 ∷ []

sent_ahead : IsCut system (each [] [] ahead)
unfolding target request answered started fired append call_made cell_started bring
sent_ahead = record {
  legal = below3 (λ r. Legal (system.go r) false (system.first r) (each [] [] ahead r)) tt tt
      (refl, (refl, (refl, (refl, (refl, (refl, tt))))));
  known = known_of [] [] ahead (λ s lane z t. refl) (λ s lane z t. refl) (λ s lane z t. refl);
  lanes = λ s d lane h k. begins lane s d h k;
}
  where
    Begins : Lane → ℕ → ℕ → Type 0
    Begins lane s d = IsPrefixOf (got_by (each [] [] ahead) d s lane) (sent_by system (each [] [] ahead) s d lane)

    begins : (lane : Lane) (s d : ℕ) → s < 3 → d < 3 → Begins lane s d
    begins Request s d h k = below3 (λ s. Begins Request s d)
        (below3 (λ d. Begins Request 0 d) ([], refl) ([], refl) ([], refl) d k)
        (below3 (λ d. Begins Request 1 d) ([], refl) ([], refl) ([], refl) d k)
        (below3 (λ d. Begins Request 2 d) (says 6 [] ∷ says 10 (9 ∷ []) ∷ [], refl) ([], refl) ([], refl) d k) s h
    begins Answer s d h k = below3 (λ s. Begins Answer s d)
        (below3 (λ d. Begins Answer 0 d) ([], refl) ([], refl) ([], refl) d k)
        (below3 (λ d. Begins Answer 1 d) ([], refl) ([], refl) ([], refl) d k)
        (below3 (λ d. Begins Answer 2 d) ([], refl) ([], refl) ([], refl) d k) s h

-- Three ranks that count acknowledgements: the order of the possible steps, moments to which steps lead, what is taken of lists, and
-- verdicts;
-- right ones, and wrong ones by one fault each.
use Rattle.std.proofs.Common.{ℕ, zero, suc, Bool, true, false, ◌&&◌, ◌==◌, ◌≡◌, ◌<◌, ◌+◌, ◌-◌, nat_lt, List, [], ◌∷◌, ◌++◌, map}
use Rattle.std.proofs.Common.{length, get_or}
use Rattle.std.proofs.lemmas.Bool.{eq-eqb, ne_eqb}
use Rattle.std.proofs.lemmas.List.{length-append}
use Rattle.std.proofs.Common.{count_by, refl, arith, ap, subst, sym, ◌∙◌, lit<, inl, inr, if◌then◌else◌}
use Rattle.ptl_types.specs.Messages.{Sent}
use Rattle.ptl_types.specs.declared.headers.Lane.{Lane}
use Rattle.ptl_types.specs.declared.headers.Lane.TheVariants.{Answer, Request}
use Rattle.ptl_types.specs.declared.steps.Cause.TheVariants.{NotAtRest, NotReady, NotSent, StartedTwice}
use Rattle.ptl_types.specs.declared.steps.LocalStep.{LocalStep}
use Rattle.ptl_types.specs.declared.steps.LocalStep.TheVariants.{Start as Starts, Receive as Receives, Fire as Fires}
use Rattle.ni_model.specs.Answers.{answered}
use Rattle.ni_model.specs.Append.{append}
use Rattle.ni_model.specs.Arrive.{request}
use Rattle.ni_model.specs.Ready.{fired}
use Rattle.ni_model.specs.Starts.{started}
use Rattle.ni_model.specs.State.{target}
use Rattle.cuts.specs.view.Calls.{call_made}
use Rattle.cuts.specs.start.Start.{bring, cell_started}
use Rattle.cuts.specs.histories.History.Local.{Fire as Fired, Receive as Received, Start as Started}
use Rattle.cuts.specs.histories.History.{Local, got, is_start}
use Rattle.cuts.specs.histories.Moment.{IsEnabled, IsLocalStep, Lanes, sent_more}
use Rattle.cuts.specs.histories.Plans.{system_of}
use Rattle.cuts.specs.histories.System.{Histories, System, sent_by}
use Rattle.cuts.specs.orders.Chosen.{IsChosen, chosen, enabled_steps, start_at}
use Rattle.cuts.specs.orders.Ending.{untaken}
use Rattle.cuts.specs.orders.Reached.{EndsSo, IsReached}
use Rattle.cuts.specs.orders.Reached.IsReached.{Begun, Stepped}
use Rattle.cuts.specs.orders.Taking.{IsInterleaving, IsNext, IsStuckAt, IsTaken, Lists, MayTake, Move, histories, listed, with_step}
use Rattle.cuts.specs.orders.Verdict.{IsVerdict, IsWhole, Rests, Says, cause_of}
use Rattle.cuts.specs.declared.orders.Verdict.{Verdict}
use Rattle.cuts.specs.declared.orders.Step.{Step}
use Rattle.cuts.specs.declared.orders.Step.TheVariants.{Start, Deliver, Fire}
use Rattle.cuts.specs.declared.orders.Verdict.TheVariants.{Fails, Holds}
use Rattle.law_cases.proofs.plans.Acknowledged.{ack, ahead, each, order0, order2, says, short, system, whole}
use Rattle.law_cases.proofs.plans.Broadcast.{slots}
use Rattle.law_cases.proofs.plans.Orders.{one_rank}
use Rattle.law_cases.proofs.plans.Three.{below3}

below1 : (P : ℕ → Type 0) → P 0 → (r : ℕ) → r < 1 → P r
below1 P a zero h = a
below1 P a (suc r) h = absurd (omega arith)

-- ---- the order of the possible steps

-- a message on every lane, and nobody has started: starts by rank; deliveries by source, then target, a request before an answer
all_in_order : enabled_steps system (record { world = λ r. []; held = λ s d lane. says 8 [] ∷ [] })
    ≡ Start 0 ∷ Start 1 ∷ Start 2 ∷ Deliver 0 0 Request ∷ Deliver 0 0 Answer ∷ Deliver 0 1 Request ∷ Deliver 0 1 Answer
    ∷ Deliver 0 2 Request ∷ Deliver 0 2 Answer ∷ Deliver 1 0 Request ∷ Deliver 1 0 Answer ∷ Deliver 1 1 Request ∷ Deliver 1 1 Answer
    ∷ Deliver 1 2 Request
    ∷ Deliver 1 2 Answer ∷ Deliver 2 0 Request ∷ Deliver 2 0 Answer ∷ Deliver 2 1 Request ∷ Deliver 2 1 Answer ∷ Deliver 2 2 Request
    ∷ Deliver 2 2 Answer ∷ []
unfolding target request answered started fired append call_made cell_started bring
all_in_order = refl

-- then firings, by rank and by number, after deliveries; a rank that has started doesn't start again
deliveries_before_firings : enabled_steps system
    (record { world = each (Started ∷ []) [] ahead; held = λ s d lane. if d == 0 then says 6 [] ∷ says 10 (9 ∷ []) ∷ [] else [] })
    ≡ Start 1 ∷ Deliver 0 0 Request ∷ Deliver 0 0 Answer ∷ Deliver 1 0 Request ∷ Deliver 1 0 Answer ∷ Deliver 2 0 Request
    ∷ Deliver 2 0 Answer ∷ Fire 0 0 ∷ Fire 0 5 ∷ Fire 2 5 ∷ Fire 2 6 ∷ Fire 2 7 ∷ []
unfolding target request answered started fired append call_made cell_started bring
deliveries_before_firings = refl

none_at_rest : enabled_steps system (record { world = whole; held = λ s d lane. [] }) ≡ []
unfolding target request answered started fired append call_made cell_started bring
none_at_rest = refl

-- ---- what is enabled, and what isn't
abbrev lanes_of_two : Lanes
lanes_of_two s d Request = if (s == 2) && (d == 0) then says 6 [] ∷ says 10 (9 ∷ []) ∷ [] else []
lanes_of_two s d Answer = []

first_of_its_lane : IsEnabled system (each [] [] ahead) lanes_of_two 0 (Received 2 Request (says 6 []))
first_of_its_lane = (lit< tt, (says 10 (9 ∷ []) ∷ [], refl))

second_of_its_lane : IsEnabled system (each [] [] ahead) lanes_of_two 0 (Received 2 Request (says 10 (9 ∷ []))) → ⊥
second_of_its_lane h =
    let q : 6 ≡ 10 = ap (λ (ms : List Sent). (get_or ms 0 (says 6 [])).header.hdr_data) h.1.1 in absurd (omega (arith, q))

of_a_fourth_rank : IsEnabled system (each [] [] ahead) (λ s d lane. says 6 [] ∷ []) 0 (Received 3 Request (says 6 [])) → ⊥
of_a_fourth_rank h = absurd (omega (arith, h.0))

a_second_start : IsEnabled system (each [] [] ahead) lanes_of_two 2 Started → ⊥
a_second_start h = absurd (omega (arith, h))

not_yet_ready : IsEnabled system (each [] [] ahead) lanes_of_two 2 (Fired 8) → ⊥
unfolding target request answered started fired append call_made cell_started bring
not_yet_ready h = let q : false ≡ true = h in cc

-- ---- moments to which steps lead
abbrev none : Histories
none r = []

abbrev no_messages : Lanes
no_messages s d lane = []

-- a start or a firing of rank r; what it sends goes to the ends of lanes
stepped : {w : Histories} {held : Lanes} → IsReached system w held → (r : ℕ) (e : Local) → r < 3 → IsEnabled system w held r e
    → ((s : ℕ) (lane : Lane) → got (e ∷ []) s lane ≡ [])
    → IsReached system (with_step r e w) (λ s d lane. held s d lane ++ sent_more system w r e s d lane)
stepped {w = w} {held = held} h r e below enabled asks = Stepped h (record {
  r = r;
  e = e;
  in_range = below;
  enabled = enabled;
  rank = rw (eq-eqb r r refl) refl;
  others = λ q n. rw (ne_eqb r q (λ i. n (sym i))) refl;
  rest = held;
  taken = λ s d lane. either (d == r) (got (e ∷ []) s lane) (held s d lane) (asks s lane);
  left = λ s d lane. refl;
})
  where
    either : (b : Bool) (ms rest : List Sent) → ms ≡ [] → rest ≡ (if b then ms else []) ++ rest
    either true ms rest e = rw e refl
    either false ms rest e = refl

-- rank 2 starts, and its third firing sends along link 6
abbrev Sends : Type 0
Sends = (w : Histories) × (held : Lanes) × IsReached system w held × (held 2 0 Request ≡ says 6 [] ∷ []) × (held 0 2 Request ≡ [])

sent_by_steps : Sends
unfolding target request answered started fired append call_made cell_started bring
sent_by_steps =
    let a = stepped Begun 2 Started (lit< tt) refl (λ s lane. refl) in
    let b = stepped a 2 (Fired 0) (lit< tt) refl (λ s lane. refl) in
    let c = stepped b 2 (Fired 1) (lit< tt) refl (λ s lane. refl) in
    let d = stepped c 2 (Fired 2) (lit< tt) refl (λ s lane. refl) in
    (_, _, d, refl, refl)

-- a longer history isn't the same
longer : (w : List Local) (e : Local) → w ≡ w ++ e ∷ [] → ⊥
longer w e h = let q : length w ≡ length w + 1 = ap length h ∙ length-append w (e ∷ []) in absurd (omega (arith, q))

-- no step is made by a fourth rank, and none without a step
no_fourth_rank : {w : Histories} {held : Lanes} → IsReached system w held → w 3 ≡ Started ∷ [] → ⊥
no_fourth_rank Begun e = let q : [] ≡ Started ∷ [] = e in cc
no_fourth_rank (Stepped h step) e =
    let below = step.in_range in
    no_fourth_rank h (sym (step.others 3 (λ i. absurd (omega (arith, below, i)))) ∙ e)

nothing_without_steps : {w : Histories} {held : Lanes} → IsReached system w held → ((r : ℕ) → w r ≡ [])
    → held 2 0 Request ≡ says 6 [] ∷ [] → ⊥
nothing_without_steps Begun empty e = let q : [] ≡ says 6 [] ∷ [] = e in cc
nothing_without_steps (Stepped {w = w} h step) empty e =
    let q : 0 ≡ length (w step.r) + 1 = ap length (sym (empty step.r) ∙ step.rank) ∙ length-append (w step.r) (step.e ∷ []) in
    absurd (omega (arith, q))

all_stand_still : IsLocalStep system whole no_messages whole no_messages → ⊥
all_stand_still step = longer (whole step.r) step.e step.rank

two_at_once : IsLocalStep system none no_messages (each (Started ∷ []) [] (Started ∷ [])) no_messages → ⊥
two_at_once step =
    let other : (0 ≡ step.r) → ⊥ = λ i. (let q : Started ∷ [] ≡ [] = step.others 2 (λ j. absurd (omega (arith, i, j))) in cc) in
    let q : Started ∷ [] ≡ [] = step.others 0 other in cc

-- no start in a history of which nothing is listed
unstarted : (es : List Local) → map listed es ≡ [] → 0 < count_by is_start es → ⊥
unstarted [] e n = absurd (omega (arith, n))
unstarted (x ∷ xs) e n = let q : listed x ∷ map listed xs ≡ [] = e in cc

ends_without_starts : EndsSo system (λ r. []) → ⊥
ends_without_starts h = unstarted (h.world 2) (h.spelled 2 (lit< tt)) (h.still.started 2 (lit< tt))

-- ---- taking: what may be taken, and what is taken of lists
abbrev lists : List LocalStep → List LocalStep → List LocalStep → Lists
lists a b c r = if r == 0 then a else (if r == 1 then b else c)

abbrev moved : ℕ → Local → Move
moved r e = record { rank = r; step = e }

-- two steps of rank 2, the newest first
abbrev two_moves : List Move
two_moves = moved 2 (Fired 0) ∷ moved 2 Started ∷ []

next_on_its_lane : MayTake system (each [] [] ahead) 0 (Received 2 Request (says 6 []))
unfolding target request answered started fired append call_made cell_started bring
next_on_its_lane = (says 10 (9 ∷ []) ∷ [], refl)

past_the_next : MayTake system (each [] [] ahead) 0 (Received 2 Request (says 10 (9 ∷ []))) → ⊥
unfolding target request answered started fired append call_made cell_started bring
past_the_next h =
    let q : 10 ≡ 6 = ap (λ (ms : List Sent). (get_or ms 0 (says 6 [])).header.hdr_data) h.1 in absurd (omega (arith, q))

taken_twice : MayTake system (each (Received 2 Request (says 6 []) ∷ []) [] ahead) 0 (Received 2 Request (says 6 [])) → ⊥
unfolding target request answered started fired append call_made cell_started bring
taken_twice h =
    let q : 6 ≡ 10 = ap (λ (ms : List Sent). (get_or ms 1 (says 6 [])).header.hdr_data) h.1 in absurd (omega (arith, q))

interleaved : IsInterleaving system two_moves
unfolding target request answered started fired append call_made cell_started bring
interleaved = ((tt, lit< tt, refl), lit< tt, refl)

fired_before_the_start : IsInterleaving system (moved 2 (Fired 0) ∷ []) → ⊥
unfolding target request answered started fired append call_made cell_started bring
fired_before_the_start h = let q : false ≡ true = h.2 in cc

moves_of_a_fourth : IsInterleaving system (moved 3 Started ∷ []) → ⊥
moves_of_a_fourth h = let q = h.1 in absurd (omega (arith, q))

-- the number of the firing that comes first
abbrev number_in : List LocalStep → ℕ
number_in (Fires t ∷ es) = t
number_in _ = 0

-- as far as rank 2's list goes; rank 0's next step isn't enabled
abbrev some_lists : Lists
some_lists = lists (Fires 0 ∷ []) [] (Starts ∷ Fires 0 ∷ [])

taken : IsTaken system some_lists two_moves
unfolding target request answered started fired append call_made cell_started bring
taken = record {
  made = interleaved;
  listed = ((tt, (Fires 0 ∷ [], refl)), ([], refl));
  stuck = below3 (λ r. IsStuckAt system some_lists (histories two_moves) r) stuck0 (λ e n m. stuck1 e n) (λ e n m. stuck2 e n);
}
  where
    stuck0 : IsStuckAt system some_lists (histories two_moves) 0
    stuck0 Started n m = let q : Starts ∷ n.0 ≡ Fires 0 ∷ [] = n.1 in cc
    stuck0 (Received s lane x) n m = let q : Receives s lane ∷ n.0 ≡ Fires 0 ∷ [] = n.1 in cc
    stuck0 (Fired t) n m =
        let z : t ≡ 0 = ap (λ (es : List LocalStep). number_in es) n.1 in
        let q : false ≡ true = subst (λ t. MayTake system (histories two_moves) 0 (Fired t)) z m in cc

    stuck1 : (e : Local) → IsNext some_lists (histories two_moves) 1 (listed e) → ⊥
    stuck1 e n = let q : listed e ∷ n.0 ≡ [] = n.1 in cc

    stuck2 : (e : Local) → IsNext some_lists (histories two_moves) 2 (listed e) → ⊥
    stuck2 e n = let q : suc (suc (suc (length n.0))) ≡ 2 = ap length n.1 in absurd (omega (arith, q))

-- a step that may be taken is taken
not_stuck : IsTaken system some_lists (moved 2 Started ∷ []) → ⊥
unfolding target request answered started fired append call_made cell_started bring
not_stuck h = h.stuck 2 (lit< tt) (Fired 0) ([], refl) refl

not_listed : IsTaken system some_lists (moved 1 Started ∷ []) → ⊥
not_listed h = let q : Starts ∷ h.listed.1.0 ≡ [] = h.listed.1.1 in cc

left_of_the_lists : untaken some_lists (histories two_moves) 3 ≡ 1
left_of_the_lists = refl

-- ---- verdicts: rank 0 is the lowest whose list isn't taken, and its first step isn't ready
abbrev Said : Verdict → Type 0
Said = Says system some_lists (histories two_moves)

says_not_ready : Said (Fails 0 1 NotReady)
says_not_ready = (lit< tt, refl, inl (Fires 0, record { lower = λ q h. absurd (omega arith); next = ([], refl) }, refl))

its_verdict : IsVerdict system some_lists (Fails 0 1 NotReady)
its_verdict = record { moves = two_moves; taken = taken; says = says_not_ready }

places_count_from_1 : Said (Fails 0 0 NotReady) → ⊥
places_count_from_1 h = let q = h.1 in absurd (omega (arith, q))

no_fourth_rank_fails : Said (Fails 3 1 NotReady) → ⊥
no_fourth_rank_fails h = let q = h.0 in absurd (omega (arith, q))

not_the_lowest : Said (Fails 2 3 NotReady) → ⊥
not_the_lowest h = elim h.2 [
  | inl x ↦ let q : [] ≡ Fires 0 ∷ [] = x.1.lower 0 (lit< tt) in cc
  | inr y ↦ let q : [] ≡ Fires 0 ∷ [] = y.0.whole 0 (lit< tt) in cc
]

-- rank 0's next step
next_of_rank_0 : (e : LocalStep) → IsNext some_lists (histories two_moves) 0 e → cause_of e ≡ NotReady
next_of_rank_0 Starts n = let q : Starts ∷ n.0 ≡ Fires 0 ∷ [] = n.1 in cc
next_of_rank_0 (Receives s lane) n = let q : Receives s lane ∷ n.0 ≡ Fires 0 ∷ [] = n.1 in cc
next_of_rank_0 (Fires t) n = refl

sent_or_not : Said (Fails 0 1 NotSent) → ⊥
sent_or_not h = elim h.2 [ inl x ↦ let q : NotSent ≡ NotReady = x.2 ∙ next_of_rank_0 x.0 x.1.next in cc | inr y ↦ let q = y.1 in cc ]

not_for_want_of_rest : Said (Fails 0 1 NotAtRest) → ⊥
not_for_want_of_rest h = elim h.2 [
  | inl x ↦ let q : NotAtRest ≡ NotReady = x.2 ∙ next_of_rank_0 x.0 x.1.next in cc
  | inr y ↦ let q : [] ≡ Fires 0 ∷ [] = y.0.whole 0 (lit< tt) in cc
]

does_not_hold : Said Holds → ⊥
does_not_hold h = let q : [] ≡ Fires 0 ∷ [] = (h 0 (lit< tt)).0 in cc

causes : (cause_of Starts ≡ StartedTwice) × (cause_of (Receives 0 Answer) ≡ NotSent) × (cause_of (Fires 0) ≡ NotReady)
causes = (refl, refl, refl)

-- ---- all lists are taken: rank 2's last operation is left; and without it all is at rest
abbrev alone : List Local
alone = Started ∷ Fired 0 ∷ Fired 1 ∷ Fired 2 ∷ []

abbrev unfinished : Histories
unfinished = each order0 alone short

abbrev finished : Histories
finished = each order0 alone order2

-- as they were made
abbrev as_made : Histories → Lists
as_made w r = map listed (w r)

-- what a rank received is what was sent to it, lane by lane
abbrev Same : Histories → ℕ → ℕ → Lane → Type 0
Same w r s lane = got (w r) s lane ≡ sent_by system w s r lane

lanes_of : (w : Histories) (r : ℕ) → Same w r 0 Request → Same w r 1 Request → Same w r 2 Request
    → Same w r 0 Answer → Same w r 1 Answer → Same w r 2 Answer → (s : ℕ) (lane : Lane) → s < 3 → Same w r s lane
lanes_of w r a b c d e f s Request h = below3 (λ s. Same w r s Request) a b c s h
lanes_of w r a b c d e f s Answer h = below3 (λ s. Same w r s Answer) d e f s h

rank_1_rests : Rests system unfinished 1
unfolding target request answered started fired append call_made cell_started bring
rank_1_rests = record { started = lit< tt; idle = λ t. refl; empty = lanes_of unfinished 1 refl refl refl refl refl refl }

one_is_left : Says system (as_made unfinished) unfinished (Fails 2 13 NotAtRest)
unfolding target request answered started fired append call_made cell_started bring
one_is_left = (
  lit< tt,
  refl,
  inr (
    record {
      whole = λ q h. refl;
      lower = λ q h. lower q h;
      restless = λ rests. (let q : true ≡ false = rests.idle 8 in cc);
    },
    refl,
  ),
)
  where
    lower : (q : ℕ) → q < 2 → Rests system unfinished q
    lower zero h = record { started = lit< tt; idle = λ t. refl; empty = lanes_of unfinished 0 refl refl refl refl refl refl }
    lower (suc zero) h = rank_1_rests
    lower (suc (suc q)) h = absurd (omega arith)

-- what rests isn't what fails
not_one_that_rests : Says system (as_made unfinished) unfinished (Fails 1 5 NotAtRest) → ⊥
not_one_that_rests h = elim h.2 [ inl x ↦ no_cause x.0 x.2 | inr y ↦ y.0.restless rank_1_rests ]
  where
    no_cause : (e : LocalStep) → NotAtRest ≡ cause_of e → ⊥
    no_cause Starts q = cc
    no_cause (Receives s lane) q = cc
    no_cause (Fires t) q = cc

all_hold : Says system (as_made finished) finished Holds
unfolding target request answered started fired append call_made cell_started bring
all_hold = below3 (λ r. IsWhole (as_made finished) finished r × Rests system finished r)
    (refl, record { started = lit< tt; idle = λ t. refl; empty = lanes_of finished 0 refl refl refl refl refl refl })
    (refl, record { started = lit< tt; idle = λ t. refl; empty = lanes_of finished 1 refl refl refl refl refl refl })
    (refl, record { started = lit< tt; idle = λ t. refl; empty = lanes_of finished 2 refl refl refl refl refl refl })

-- rank 2 doesn't rest while the acknowledgement that rank 0 sent it hasn't come, nor before its start
abbrev unreceived : List Local
unreceived = ahead ++ Received 0 Request (says 8 []) ∷ Received 0 Answer (ack 6) ∷ Fired 5 ∷ Fired 6 ∷ Fired 7 ∷ Fired 8 ∷ []

one_may_come : Rests system (each order0 alone unreceived) 2 → ⊥
unfolding target request answered started fired append call_made cell_started bring
one_may_come h = let q : 1 ≡ 2 = ap length (h.empty 0 Answer (lit< tt)) in absurd (omega (arith, q))

not_started_yet : Rests system (each order0 alone []) 2 → ⊥
not_started_yet h = let q = h.started in absurd (omega (arith, q))

nothing_holds_of_nothing : IsVerdict system (λ r. []) Holds → ⊥
nothing_holds_of_nothing h = unstarted (histories h.moves 2) (h.says 2 (lit< tt)).0 (h.says 2 (lit< tt)).1.started

-- ---- chosen runs: a word names one of the possible steps, modulo their number
abbrev of_one : System
of_one = system_of one_rank [] (λ r. slots)

-- of the two firings behind the start the second comes first
abbrev words : ℕ → ℕ
words i = if i == 1 then 7 else 4

second_first : IsChosen of_one words (λ r. Started ∷ Fired 1 ∷ Fired 0 ∷ Fired 2 ∷ [])
unfolding target request answered started fired append call_made cell_started bring
second_first = record { steps = 4; ended = refl; world = below1 (λ r. _ ≡ (chosen of_one words 4).world r) refl }

-- three steps of three ranks, by the words 5, 4 and 3: of Start 0, Start 1 and Start 2 the third
abbrev falling : ℕ → ℕ
falling i = 5 - i

third_of_three : (chosen system falling 1).world 2 ≡ Started ∷ []
unfolding target request answered started fired append call_made cell_started bring
third_of_three = refl

-- of Start 0, Start 1, Fire 2 0 and Fire 2 5 the first
first_of_four : (chosen system falling 2).world 0 ≡ Started ∷ []
unfolding target request answered started fired append call_made cell_started bring
first_of_four = refl

-- of Start 1, Fire 0 0, Fire 0 5, Fire 2 0 and Fire 2 5 the fourth
fourth_of_five : (chosen system falling 3).world 2 ≡ Started ∷ Fired 0 ∷ []
unfolding target request answered started fired append call_made cell_started bring
fourth_of_five = refl

-- nothing is no chosen run: of each rank a start is left
nothing_is_chosen : IsChosen of_one words none → ⊥
nothing_is_chosen h =
    let z = chosen of_one words h.steps in
    let q : start_at z 0 ++ [] ≡ [] = (nothing-before _ _ h.ended) in
    let e : [] ≡ z.world 0 = h.world 0 (lit< tt) in
    let r : 1 ≡ 0 = ap (λ (es : List Local). length ((if nat_lt 0 (count_by is_start es) then [] else Start 0 ∷ [])
    ++ [])) e ∙ ap length q in
    absurd (omega (arith, r))
  where
    nothing-before : (xs ys : List Step) → xs ++ ys ≡ [] → xs ≡ []
    nothing-before [] ys e = refl
    nothing-before (x ∷ xs) ys e = cc

-- One event further.
use Rattle.std.proofs.Common.{ℕ, true, false, cond, ◌≡◌, ◌<◌, ◌≤◌, ◌^◌, ◌+◌, List, length, get_or, max, arith}
use Rattle.std.proofs.Common.{refl, sym, ◌∙◌, ap, subst}
use Rattle.plan_core.specs.Plan.{Plan, link}
use Rattle.plan_tables.specs.Tables.{from_rank, to_rank}
use Rattle.plan_costs.specs.declared.events.Event.{Event}
use Rattle.plan_costs.specs.declared.numbers.LogGp.{LogGp}
use Rattle.plan_costs.specs.declared.state.Stage.{Stage}
use Rattle.plan_costs.specs.declared.state.Stage.TheVariants.{Waiting, Sent, Counted}
use Rattle.plan_costs.specs.Times.{alone, handling, receiving, sending, stays}
use Rattle.plan_costs.specs.Events.{Pushed}
use Rattle.plan_costs.specs.State.{StateOf, CanPass, Further, IsDue, MayTake, Settled, after_count, after_receive, after_send, after_stay}
use Rattle.plan_costs.specs.State.{awaited_of, events_by, events_left, is_counted, rest, rest_by, stage_of}
use Rattle.plan_costs.proofs.Sums.{changed_sum, term_within}
use Rattle.plan_costs.proofs.Counting.{clash, unsent}
use Rattle.plan_costs.proofs.Sending.{Receipt, Sends, sent_pass, stage_else, stage_there}
use Rattle.plan_costs.proofs.Taking.{Receives, Stays, counts, r-counts, received_pass, stayed_pass, still_awaited}

fewer_events : (p : Plan) (s s' : StateOf) (l : ℕ) → l < length p.links → ((m : ℕ) → (m ≡ l → ⊥) → stage_of s' m ≡ stage_of s m)
    → events_by (stage_of s' l) < events_by (stage_of s l) → events_left p s' < events_left p s
fewer_events p s s' l h else less =
    let a = changed_sum (λ m. events_by (stage_of s m)) (λ m. events_by (stage_of s' m)) 0 (length p.links) l (omega arith)
    (omega (arith, h)) (λ j _ ne. ap events_by (else j ne)) in
    omega (arith, a, less)

some_event : (st : Stage) → is_counted st ≡ false → 1 ≤ events_by st
some_event Waiting e = omega arith
some_event Sent e = omega arith
some_event Counted e = absurd (clash _ refl e)

no_event : (st : Stage) → is_counted st ≡ true → events_by st ≡ 0
no_event Waiting e = absurd (clash _ e refl)
no_event Sent e = absurd (clash _ e refl)
no_event Counted e = refl

-- ---- what an event that has come first tells
pub may_due : (n : LogGp) (p : Plan) (s : StateOf) (x : Event) (q : List Event) → MayTake n p s x q → IsDue n p s x
may_due n p s x q may = may.pass.flow.due x may.popped.had

pub may_wait : (n : LogGp) (p : Plan) (s : StateOf) (x : Event) (q : List Event) → MayTake n p s x q → stays p x.link ≡ true
    → stage_of s x.link ≡ Waiting
may_wait n p s x q may home =
    let d = may_due n p s x q may in
    unsent (stage_of s x.link) (λ t. clash (is_counted (stage_of s x.link)) (may.pass.flow.stay x.link d.known home t).0 d.open_still)

pub may_target : (n : LogGp) (p : Plan) (s : StateOf) (x : Event) (q : List Event) → CanPass n p → MayTake n p s x q
    → (link p x.link).target < length p.cells
may_target n p s x q can may = can.timed.tabled.targets x.link (may_due n p s x q may).known

pub may_await : (n : LogGp) (p : Plan) (s : StateOf) (x : Event) (q : List Event) → CanPass n p → MayTake n p s x q
    → 1 ≤ awaited_of s (link p x.link).target
may_await n p s x q can may =
    let d = may_due n p s x q may in
    still_awaited n p s may.before may.pass x.link d.known (may_target n p s x q can may) d.open_still

-- what is left of the link itself is part of what is left
rest_within : (n : LogGp) (p : Plan) (s : StateOf) (l : ℕ) → l < length p.links → rest_by n p l (stage_of s l) ≤ rest n p s
rest_within n p s l h = term_within (λ m. rest_by n p m (stage_of s m)) 0 (length p.links) l (omega arith) (omega (arith, h))

pub alone_fits : (n : LogGp) (p : Plan) (l : ℕ) → CanPass n p → l < length p.links → alone n p l < 2 ^ 64
alone_fits n p l can h =
    let a = term_within (alone n p) 0 (length p.links) l (omega arith) (omega (arith, h)) in
    let b = can.small in
    omega (arith, a, b)

pub sending_fits : (n : LogGp) (p : Plan) (s : StateOf) (x : Event) (q : List Event) → CanPass n p → MayTake n p s x q
    → stays p x.link ≡ false → stage_of s x.link ≡ Waiting
    → max x.time (get_or s.senders (from_rank p x.link) 0) + (sending n p x.link + n.latency) < 2 ^ 64
sending_fits n p s x q can may away waiting =
    let d = may_due n p s x q may in
    let a = rest_within n p s x.link d.known in
    let b : rest_by n p x.link (stage_of s x.link) ≡ sending n p x.link + n.latency + receiving n p x.link =
    ap (rest_by n p x.link) waiting
    ∙ ap (λ v. cond v 0 (sending n p x.link + n.latency + receiving n p x.link)) away in
    let e = may.pass.room.queue x may.popped.had in
    let f = may.pass.room.senders (from_rank p x.link) in
    let g = can.small in
    omega (arith, a, b, e, f, g)

pub receiving_fits : (n : LogGp) (p : Plan) (s : StateOf) (x : Event) (q : List Event) → CanPass n p → MayTake n p s x q
    → stage_of s x.link ≡ Sent → max x.time (get_or s.receivers (to_rank p x.link) 0) + receiving n p x.link < 2 ^ 64
receiving_fits n p s x q can may sent =
    let d = may_due n p s x q may in
    let a = rest_within n p s x.link d.known in
    let b : rest_by n p x.link (stage_of s x.link) ≡ receiving n p x.link = ap (rest_by n p x.link) sent in
    let e = may.pass.room.queue x may.popped.had in
    let f = may.pass.room.receivers (to_rank p x.link) in
    let g = can.small in
    omega (arith, a, b, e, f, g)

-- ---- the three kinds
pub further_home : (n : LogGp) (p : Plan) (s s' : StateOf) (x : Event) (q' q'' : List Event) (target : ℕ) → CanPass n p
    → MayTake n p s x q' → stays p x.link ≡ true → target ≡ (link p x.link).target
    → s' ≡ after_count (after_stay s x.link x.time) target x.time → Settled p s' target q' q'' → Further n p s s' q''
further_home n p s s' x q' q'' target can may home e f settled =
    let d = may_due n p s x q' may in
    let T : StateOf = after_count (after_stay s x.link x.time) (link p x.link).target x.time in
    let same : s' ≡ T = f ∙ ap (λ t. after_count (after_stay s x.link x.time) t x.time) e in
    let P : ℕ → Type 0 = λ t. Settled p s' t q' q'' in
    let R : StateOf → Type 0 = λ t. Settled p t (link p x.link).target q' q'' in
    let k : Stays n p s x may.before q' q'' = record {
      timed = can.timed;
      pass = may.pass;
      popped = may.popped;
      settled = subst R same (subst P e settled);
      home = home;
      waiting = may_wait n p s x q' may home;
    } in
    let w = counts n p s x may.before q' q'' k in
    let z = no_event (stage_of T x.link) w.is in
    let y = some_event (stage_of s x.link) d.open_still in
    let F : StateOf → Type 0 = λ t. Further n p s t q'' in
    subst F (sym same) (record {
      pass = stayed_pass n p s x may.before q' q'' k;
      fewer = fewer_events p s T x.link d.known w.stages (omega (arith, y, z));
    })

pub further_receipt : (n : LogGp) (p : Plan) (s s' : StateOf) (x : Event) (at : ℕ) (q' q'' : List Event) (target rank busy done : ℕ)
    → CanPass n p → MayTake n p s x q' → stays p x.link ≡ false → stage_of s x.link ≡ Sent → target ≡ (link p x.link).target
    → rank ≡ to_rank p x.link → rank < p.ranks → busy ≡ receiving n p x.link → done ≡ at + handling n p x.link
    → at ≡ max x.time (get_or s.receivers rank 0)
    → s' ≡ after_count (after_receive s x.link rank at busy) target done → Settled p s' target q' q'' → Further n p s s' q''
further_receipt n p s s' x at q' q'' target rank busy done can may away sent e er lt eb ed ea f settled =
    let d = may_due n p s x q' may in
    let T : StateOf = after_count (after_receive s x.link (to_rank p x.link) at (receiving n p x.link)) (link p x.link).target
    (at + handling n p x.link) in
    let same : s' ≡ T = f ∙ ap (λ t. after_count (after_receive s x.link rank at busy) t done) e
    ∙ ap (λ t. after_count (after_receive s x.link t at busy) (link p x.link).target done) er
    ∙ ap (λ t. after_count (after_receive s x.link (to_rank p x.link) at t) (link p x.link).target done) eb
    ∙ ap (λ t. after_count (after_receive s x.link (to_rank p x.link) at (receiving n p x.link)) (link p x.link).target t) ed in
    let P : ℕ → Type 0 = λ t. Settled p s' t q' q'' in
    let R : StateOf → Type 0 = λ t. Settled p t (link p x.link).target q' q'' in
    let k : Receives n p s x at may.before q' q'' = record {
      timed = can.timed;
      some = can.some;
      pass = may.pass;
      popped = may.popped;
      settled = subst R same (subst P e settled);
      away = away;
      was_sent = sent;
      begins = ea ∙ ap (λ t. max x.time (get_or s.receivers t 0)) er;
      rank = omega (arith, er, lt);
    } in
    let w = r-counts n p s x at may.before q' q'' k in
    let z = no_event (stage_of T x.link) w.is in
    let y = some_event (stage_of s x.link) d.open_still in
    let F : StateOf → Type 0 = λ t. Further n p s t q'' in
    subst F (sym same) (record {
      pass = received_pass n p s x at may.before q' q'' k;
      fewer = fewer_events p s T x.link d.known w.stages (omega (arith, y, z));
    })

pub further_sending : (n : LogGp) (p : Plan) (s s' : StateOf) (x r : Event) (at : ℕ) (q' q'' : List Event) (rank busy : ℕ)
    → CanPass n p → MayTake n p s x q' → stays p x.link ≡ false → stage_of s x.link ≡ Waiting
    → rank ≡ from_rank p x.link → rank < p.ranks → busy ≡ sending n p x.link → at ≡ max x.time (get_or s.senders rank 0)
    → s' ≡ after_send s x.link rank at busy → r ≡ Receipt n p s x at → Pushed q' r q'' → Further n p s s' q''
further_sending n p s s' x r at q' q'' rank busy can may away waiting er lt eb ea f ev pushed =
    let d = may_due n p s x q' may in
    let T : StateOf = after_send s x.link (from_rank p x.link) at (sending n p x.link) in
    let same : s' ≡ T = f ∙ ap (λ t. after_send s x.link t at busy) er ∙ ap (λ t. after_send s x.link (from_rank p x.link) at t) eb in
    let P : Event → Type 0 = λ v. Pushed q' v q'' in
    let k : Sends n p s x at may.before q' q'' = record {
      timed = can.timed;
      some = can.some;
      pass = may.pass;
      popped = may.popped;
      pushed = subst P ev pushed;
      waiting = waiting;
      away = away;
      begins = ea ∙ ap (λ t. max x.time (get_or s.senders t 0)) er;
      rank = omega (arith, er, lt);
    } in
    let z : events_by (stage_of T x.link) ≡ 1 = ap events_by (stage_there n p s x at may.before q' q'' k) in
    let y : events_by (stage_of s x.link) ≡ 2 = ap events_by waiting in
    let F : StateOf → Type 0 = λ t. Further n p s t q'' in
    subst F (sym same) (record {
      pass = sent_pass n p s x at may.before q' q'' k;
      fewer = fewer_events p s T x.link d.known (stage_else n p s x at may.before q' q'' k) (omega (arith, y, z));
    })

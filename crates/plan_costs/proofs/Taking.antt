-- What a pass keeps as a message is received, and as a link that stays on its rank is counted.
use Rattle.std.proofs.Common.{ℕ, true, false, cond, not, ◌≡◌, ◌<◌, ◌≤◌, ◌+◌, ◌-◌, ◌⊎◌, inl, inr, List, length, get_or, max, arith}
use Rattle.std.proofs.Common.{refl, sym, ◌∙◌, ap, subst}
use Rattle.std.proofs.lemmas.List.{get_or-set_same, get_or-set_other, length-set}
use Rattle.plan_core.specs.Plan.{Plan, link}
use Rattle.plan_tables.specs.Tables.{to_rank}
use Rattle.plan_costs.specs.declared.events.Event.{Event}
use Rattle.plan_costs.specs.declared.numbers.LogGp.{LogGp}
use Rattle.plan_costs.specs.declared.state.Stage.TheVariants.{Waiting, Sent, Counted}
use Rattle.plan_costs.specs.Times.{IsTimed, arrival, handling, in_turn, ready, receiving, received_at, sending, sent_at, stays}
use Rattle.plan_costs.specs.Events.{Popped}
use Rattle.plan_costs.specs.State.{StateOf, IsDue, IsPass, Settled, after_count, after_receive, after_stay, awaited_of, awaits, cell_time}
use Rattle.plan_costs.specs.State.{due_time, is_counted, is_sent, rest, rest_by, stage_of}
use Rattle.plan_costs.proofs.Ports.{same_or_not}
use Rattle.plan_costs.proofs.Sums.{changed_sum, term_within}
use Rattle.plan_costs.proofs.Counting.{Counts, awaits_one, clash, flow_on, ordered_on, receipts_kept, receipts_more, room_on, sends_on}
use Rattle.plan_costs.proofs.Counting.{ready_kept}

-- a link that isn't counted is awaited
pub still_awaited : (n : LogGp) (p : Plan) (s : StateOf) (q : List Event) → IsPass n p s q → (l : ℕ) → l < length p.links
    → (link p l).target < length p.cells → is_counted (stage_of s l) ≡ false → 1 ≤ awaited_of s (link p l).target
still_awaited n p s q pass l h t was =
    let a = pass.flow.awaited (link p l).target t in
    let b = awaits_one p s (link p l).target l refl was in
    let c = term_within (awaits p s (link p l).target) 0 (length p.links) l (omega arith) (omega (arith, h)) in
    omega (arith, a, b, c)

-- ---- a link that stays
module _ (n : LogGp) (p : Plan) (s : StateOf) (x : Event) where
  abbrev pub Stayed : StateOf
  Stayed = after_count (after_stay s x.link x.time) (link p x.link).target x.time

  pub record Stays (q q' q'' : List Event) : Type 0 where
    pub timed : IsTimed p
    pub pass : IsPass n p s q
    pub popped : Popped q x q'
    pub settled : Settled p Stayed (link p x.link).target q' q''
    pub home : stays p x.link ≡ true
    pub waiting : stage_of s x.link ≡ Waiting

  module _ (q q' q'' : List Event) (k : Stays q q' q'') where
    d : IsDue n p s x
    d = k.pass.flow.due x k.popped.had

    was_ready : x.time ≡ ready p s.times x.link
    was_ready = d.time ∙ ap (due_time n p s x.link) k.waiting

    target : (link p x.link).target < length p.cells
    target = k.timed.tabled.targets x.link d.known

    stage_there : stage_of Stayed x.link ≡ Counted
    stage_there = let a = k.pass.sizes.stages in let h = d.known in
        let lt : x.link < length s.stages = omega (arith, a, h) in get_or-set_same s.stages x.link Counted Waiting lt

    sent_there : sent_at Stayed.times x.link ≡ x.time
    sent_there = let a = k.pass.sizes.sent in let h = d.known in
        let lt : x.link < length s.times.sent = omega (arith, a, h) in get_or-set_same s.times.sent x.link x.time 0 lt

    received_there : received_at Stayed.times x.link ≡ x.time
    received_there = let a = k.pass.sizes.received in let h = d.known in
        let lt : x.link < length s.times.received = omega (arith, a, h) in get_or-set_same s.times.received x.link x.time 0 lt

    pub counts : Counts n p s Stayed x.link x.time
    counts = record {
      known = d.known;
      was = d.open_still;
      is = ap is_counted stage_there;
      was_sent = inr k.home;
      source = d.reached;
      stages = λ m ne. get_or-set_other s.stages x.link m Counted Waiting ne;
      sent = λ m ne. get_or-set_other s.times.sent x.link m x.time 0 ne;
      sent_here = λ z. absurd (clash (stays p x.link) k.home z);
      received = λ m ne. get_or-set_other s.times.received x.link m x.time 0 ne;
      time = ap (λ b. cond b (received_at Stayed.times x.link) (received_at Stayed.times x.link + handling n p x.link)) k.home ∙
          received_there;
      cell_there = (let a = k.pass.sizes.cells in let h = target in
          let lt : (link p x.link).target < length s.times.cells = omega (arith, a, h) in
          get_or-set_same s.times.cells (link p x.link).target (max (cell_time s (link p x.link).target) x.time) 0 lt);
      cells = λ c ne. get_or-set_other s.times.cells (link p x.link).target c (max (cell_time s (link p x.link).target) x.time) 0 ne;
      awaited_there = (let a = k.pass.sizes.awaited in let h = target in
          let lt : (link p x.link).target < length s.awaited = omega (arith, a, h) in
          let b = get_or-set_same s.awaited (link p x.link).target (awaited_of s (link p x.link).target - 1) 0 lt in
          let w = still_awaited n p s q k.pass x.link d.known target d.open_still in
          omega (arith, b, w));
      awaited = λ c ne. get_or-set_other s.awaited (link p x.link).target c (awaited_of s (link p x.link).target - 1) 0 ne;
      senders = λ r. refl;
    }

    ready_now : ready p Stayed.times x.link ≡ x.time
    ready_now = ready_kept n p s Stayed x x.time counts x.link d.reached ∙ sym was_ready

    rest_same : rest n p Stayed + 0 ≡ rest n p s
    rest_same =
        let a = changed_sum (λ l. rest_by n p l (stage_of s l)) (λ l. rest_by n p l (stage_of Stayed l)) 0 (length p.links) x.link
        (omega arith) (let h = d.known in omega (arith, h)) (λ j _ ne. ap (rest_by n p j) (counts.stages j ne)) in
        let b : rest_by n p x.link (stage_of s x.link) ≡ 0 = ap (rest_by n p x.link) k.waiting
        ∙ ap (λ v. cond v 0 (sending n p x.link + n.latency + receiving n p x.link)) k.home in
        let c : rest_by n p x.link (stage_of Stayed x.link) ≡ 0 = ap (rest_by n p x.link) stage_there in
        omega (arith, a, b, c)

    at_home : x.between ≡ false
    at_home = d.between ∙ ap not k.home

    pub stayed_pass : IsPass n p Stayed q''
    stayed_pass = record {
      sizes = record {
        cells = length-set s.times.cells (link p x.link).target (max (cell_time s (link p x.link).target) x.time) ∙ k.pass.sizes.cells;
        awaited = length-set s.awaited (link p x.link).target (awaited_of s (link p x.link).target - 1) ∙ k.pass.sizes.awaited;
        sent = length-set s.times.sent x.link x.time ∙ k.pass.sizes.sent;
        received = length-set s.times.received x.link x.time ∙ k.pass.sizes.received;
        stages = length-set s.stages x.link Counted ∙ k.pass.sizes.stages;
        senders = k.pass.sizes.senders;
        receivers = k.pass.sizes.receivers;
      };
      flow = flow_on n p s Stayed x x.time counts k.timed q q' q'' k.pass.flow k.popped k.settled
          (λ _. (sent_there ∙ sym ready_now, received_there ∙ sym ready_now));
      ordered = ordered_on n p s Stayed x x.time counts q q' q'' k.pass.flow k.pass.ordered k.popped k.settled
          (λ m h. (k.pass.ordered.sent m h x k.popped.had).strict refl at_home)
          (λ m h. (k.pass.ordered.received m h x k.popped.had).strict refl at_home)
          (λ z. absurd (clash (stays p x.link) k.home z)) d;
      sends = sends_on n p s Stayed x x.time counts q k.pass.flow k.pass.sends;
      receipts = receipts_kept n p s Stayed x x.time counts k.home (λ r. refl) k.pass.receipts;
      room = room_on n p s Stayed x x.time counts q q' q'' 0 k.pass.room k.popped k.settled rest_same
          (let a = k.pass.room.queue x k.popped.had in let b = rest_same in omega (arith, a, b))
          (λ r. let a = k.pass.room.receivers r in let b = rest_same in omega (arith, a, b));
    }

-- ---- a message
module _ (n : LogGp) (p : Plan) (s : StateOf) (x : Event) (at : ℕ) where
  abbrev pub Done : ℕ
  Done = at + handling n p x.link

  abbrev pub Received : StateOf
  Received = after_count (after_receive s x.link (to_rank p x.link) at (receiving n p x.link)) (link p x.link).target Done

  pub record Receives (q q' q'' : List Event) : Type 0 where
    pub timed : IsTimed p
    pub some : 1 ≤ n.overhead
    pub pass : IsPass n p s q
    pub popped : Popped q x q'
    pub settled : Settled p Received (link p x.link).target q' q''
    pub away : stays p x.link ≡ false
    pub was_sent : stage_of s x.link ≡ Sent
    pub begins : at ≡ max x.time (get_or s.receivers (to_rank p x.link) 0)
    pub rank : to_rank p x.link < p.ranks

  module _ (q q' q'' : List Event) (k : Receives q q' q'') where
    r-d : IsDue n p s x
    r-d = k.pass.flow.due x k.popped.had

    arrived : x.time ≡ arrival n p s.times x.link
    arrived = r-d.time ∙ ap (due_time n p s x.link) k.was_sent

    r-target : (link p x.link).target < length p.cells
    r-target = k.timed.tabled.targets x.link r-d.known

    r-stage_there : stage_of Received x.link ≡ Counted
    r-stage_there = let a = k.pass.sizes.stages in let h = r-d.known in
        let lt : x.link < length s.stages = omega (arith, a, h) in get_or-set_same s.stages x.link Counted Waiting lt

    r-received_there : received_at Received.times x.link ≡ at
    r-received_there = let a = k.pass.sizes.received in let h = r-d.known in
        let lt : x.link < length s.times.received = omega (arith, a, h) in get_or-set_same s.times.received x.link at 0 lt

    pub r-counts : Counts n p s Received x.link Done
    r-counts = record {
      known = r-d.known;
      was = r-d.open_still;
      is = ap is_counted r-stage_there;
      was_sent = inl (ap is_sent k.was_sent);
      source = r-d.reached;
      stages = λ m ne. get_or-set_other s.stages x.link m Counted Waiting ne;
      sent = λ m ne. refl;
      sent_here = λ z. refl;
      received = λ m ne. get_or-set_other s.times.received x.link m at 0 ne;
      time = ap (λ b. cond b (received_at Received.times x.link) (received_at Received.times x.link + handling n p x.link)) k.away
          ∙ ap (λ v. v + handling n p x.link) r-received_there;
      cell_there = (let a = k.pass.sizes.cells in let h = r-target in
          let lt : (link p x.link).target < length s.times.cells = omega (arith, a, h) in
          get_or-set_same s.times.cells (link p x.link).target (max (cell_time s (link p x.link).target) Done) 0 lt);
      cells = λ c ne. get_or-set_other s.times.cells (link p x.link).target c (max (cell_time s (link p x.link).target) Done) 0 ne;
      awaited_there = (let a = k.pass.sizes.awaited in let h = r-target in
          let lt : (link p x.link).target < length s.awaited = omega (arith, a, h) in
          let b = get_or-set_same s.awaited (link p x.link).target (awaited_of s (link p x.link).target - 1) 0 lt in
          let w = still_awaited n p s q k.pass x.link r-d.known r-target r-d.open_still in
          omega (arith, b, w));
      awaited = λ c ne. get_or-set_other s.awaited (link p x.link).target c (awaited_of s (link p x.link).target - 1) 0 ne;
      senders = λ r. refl;
    }

    receivers_there : get_or Received.receivers (to_rank p x.link) 0 ≡ at + receiving n p x.link
    receivers_there = let a = k.pass.sizes.receivers in let h = k.rank in
        let lt : to_rank p x.link < length s.receivers = omega (arith, a, h) in
        get_or-set_same s.receivers (to_rank p x.link) (at + receiving n p x.link) 0 lt

    receivers_else : (r : ℕ) → (r ≡ to_rank p x.link → ⊥) → get_or Received.receivers r 0 ≡ get_or s.receivers r 0
    receivers_else r ne = get_or-set_other s.receivers (to_rank p x.link) r (at + receiving n p x.link) 0 ne

    rest_less : rest n p Received + receiving n p x.link ≡ rest n p s
    rest_less =
        let a = changed_sum (λ l. rest_by n p l (stage_of s l)) (λ l. rest_by n p l (stage_of Received l)) 0 (length p.links) x.link
        (omega arith) (let h = r-d.known in omega (arith, h)) (λ j _ ne. ap (rest_by n p j) (r-counts.stages j ne)) in
        let b : rest_by n p x.link (stage_of s x.link) ≡ receiving n p x.link = ap (rest_by n p x.link) k.was_sent in
        let c : rest_by n p x.link (stage_of Received x.link) ≡ 0 = ap (rest_by n p x.link) r-stage_there in
        omega (arith, a, b, c)

    -- the receiving port is free for it in time
    in_time : at + rest n p s ≤ in_turn n p
    in_time = let a = k.pass.room.queue x k.popped.had in let b = k.pass.room.receivers (to_rank p x.link) in
        let g = k.begins in omega (arith, a, b, g)

    later : x.time < Done
    later = let g = k.begins in let b = k.some in omega (arith, g, b)

    pub received_pass : IsPass n p Received q''
    received_pass = record {
      sizes = record {
        cells = length-set s.times.cells (link p x.link).target (max (cell_time s (link p x.link).target) Done) ∙ k.pass.sizes.cells;
        awaited = length-set s.awaited (link p x.link).target (awaited_of s (link p x.link).target - 1) ∙ k.pass.sizes.awaited;
        sent = k.pass.sizes.sent;
        received = length-set s.times.received x.link at ∙ k.pass.sizes.received;
        stages = length-set s.stages x.link Counted ∙ k.pass.sizes.stages;
        senders = k.pass.sizes.senders;
        receivers = length-set s.receivers (to_rank p x.link) (at + receiving n p x.link) ∙ k.pass.sizes.receivers;
      };
      flow = flow_on n p s Received x Done r-counts k.timed q q' q'' k.pass.flow k.popped k.settled
          (λ z. absurd (clash (stays p x.link) z k.away));
      ordered = ordered_on n p s Received x Done r-counts q q' q'' k.pass.flow k.pass.ordered k.popped k.settled
          (λ m h. let a = (k.pass.ordered.sent m h x k.popped.had).not_after in let b = later in omega (arith, a, b))
          (λ m h. let a = (k.pass.ordered.received m h x k.popped.had).not_after in let b = later in omega (arith, a, b))
          (λ z. (later, arrived)) r-d;
      sends = sends_on n p s Received x Done r-counts q k.pass.flow k.pass.sends;
      receipts = receipts_more n p s Received x Done r-counts k.away q k.pass.ordered k.popped.had r-d arrived
          (r-received_there ∙ k.begins)
          (receivers_there ∙ ap (λ v. v + receiving n p x.link) (sym r-received_there)) receivers_else k.pass.receipts;
      room = room_on n p s Received x Done r-counts q q' q'' (receiving n p x.link) k.pass.room k.popped k.settled rest_less
          (let a = in_time in let b = rest_less in omega (arith, a, b))
          (λ r. receivers r (same_or_not r (to_rank p x.link)));
    }
      where
        receivers : (r : ℕ) → (r ≡ to_rank p x.link) ⊎ (r ≡ to_rank p x.link → ⊥) → get_or Received.receivers r 0 + rest n p Received ≤
            in_turn n p
        receivers r (inl e) =
            let P : ℕ → Type 0 = λ y. get_or Received.receivers y 0 + rest n p Received ≤ in_turn n p in
            let a = in_time in let b = rest_less in let f = receivers_there in
            subst P (sym e) (omega (arith, a, b, f))
        receivers r (inr ne) = let a = k.pass.room.receivers r in let b = rest_less in let f = receivers_else r ne in omega (arith, a, b, f)

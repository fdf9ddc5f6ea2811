-- What a pass keeps as a message is sent.
use Rattle.std.proofs.Common.{ℕ, Bool, true, false, cond, not, ◌&&◌, ◌==◌, ◌≡◌, ◌<◌, ◌≤◌, ◌+◌, ◌⊎◌, inl, inr, List, length, get_or, max}
use Rattle.std.proofs.Common.{arith}
use Rattle.std.proofs.Common.{refl, sym, ◌∙◌, ap, subst}
use Rattle.std.proofs.lemmas.List.{get_or-set_same, get_or-set_other, length-set}
use Rattle.plan_core.specs.Plan.{Plan, link}
use Rattle.plan_tables.specs.Tables.{from_rank, to_rank}
use Rattle.plan_costs.specs.declared.events.Event.{Event}
use Rattle.plan_costs.specs.declared.numbers.LogGp.{LogGp}
use Rattle.plan_costs.specs.declared.state.Stage.TheVariants.{Waiting, Sent}
use Rattle.plan_costs.specs.Soonest.{Before}
use Rattle.plan_costs.specs.Times.{IsTimed, arrival, counted, in_turn, ready, receiving, received_at, received_through, sending, sent_at}
use Rattle.plan_costs.specs.Times.{sent_through, stays, travel}
use Rattle.plan_costs.specs.Events.{Comes, Has, Popped, Pushed}
use Rattle.plan_costs.specs.State.{StateOf, HasRoom, IsCounted, IsDue, IsFlow, IsOrdered, IsPass, IsReceived, IsSent, after_send, awaits}
use Rattle.plan_costs.specs.State.{cell_time, due_time, is_counted, is_sent, receipt_of, rest, rest_by, sending_of, stage_of}
use Rattle.plan_costs.proofs.Order.{comes_sooner, same_event}
use Rattle.plan_costs.proofs.Ports.{port_more, port_same, same_or_not, soonest_same}
use Rattle.plan_costs.proofs.Sums.{changed_sum, same_sum}
use Rattle.plan_costs.proofs.Counting.{clash, comes_in_order, due_once, due_same}

module _ (n : LogGp) (p : Plan) (s : StateOf) (x : Event) (at : ℕ) where
  abbrev pub After : StateOf
  After = after_send s x.link (from_rank p x.link) at (sending n p x.link)

  -- the message's receipt, which comes later
  abbrev pub Receipt : Event
  Receipt = record { time = at + travel n p x.link; between = true; link = x.link }

  pub record Sends (q q' q'' : List Event) : Type 0 where
    pub timed : IsTimed p
    pub some : 1 ≤ n.overhead
    pub pass : IsPass n p s q
    pub popped : Popped q x q'
    pub pushed : Pushed q' Receipt q''
    pub waiting : stage_of s x.link ≡ Waiting
    pub away : stays p x.link ≡ false
    pub begins : at ≡ max x.time (get_or s.senders (from_rank p x.link) 0)
    pub rank : from_rank p x.link < p.ranks

  module _ (q q' q'' : List Event) (k : Sends q q' q'') where
    d : IsDue n p s x
    d = k.pass.flow.due x k.popped.had

    was_ready : x.time ≡ ready p s.times x.link
    was_ready = d.time ∙ ap (due_time n p s x.link) k.waiting

    is_away : x.between ≡ true
    is_away = d.between ∙ ap not k.away

    pub stage_there : stage_of After x.link ≡ Sent
    stage_there = let a = k.pass.sizes.stages in let h = d.known in
        let lt : x.link < length s.stages = omega (arith, a, h) in get_or-set_same s.stages x.link Sent Waiting lt

    pub stage_else : (m : ℕ) → (m ≡ x.link → ⊥) → stage_of After m ≡ stage_of s m
    stage_else m ne = get_or-set_other s.stages x.link m Sent Waiting ne

    sent_there : sent_at After.times x.link ≡ at
    sent_there = let a = k.pass.sizes.sent in let h = d.known in
        let lt : x.link < length s.times.sent = omega (arith, a, h) in get_or-set_same s.times.sent x.link at 0 lt

    sent_else : (m : ℕ) → (m ≡ x.link → ⊥) → sent_at After.times m ≡ sent_at s.times m
    sent_else m ne = get_or-set_other s.times.sent x.link m at 0 ne

    counted_stage : (m : ℕ) → is_counted (stage_of After m) ≡ is_counted (stage_of s m)
    counted_stage m = at' (same_or_not m x.link)
      where
        at' : (m ≡ x.link) ⊎ (m ≡ x.link → ⊥) → is_counted (stage_of After m) ≡ is_counted (stage_of s m)
        at' (inl e) = ap (λ y. is_counted (stage_of After y)) e ∙ ap is_counted stage_there ∙ sym (ap is_counted k.waiting)
            ∙ ap (λ y. is_counted (stage_of s y)) (sym e)
        at' (inr ne) = ap is_counted (stage_else m ne)

    -- what is counted isn't this message
    counted_else : (m : ℕ) → is_counted (stage_of s m) ≡ true → m ≡ x.link → ⊥
    counted_else m h e = clash (is_counted (stage_of s m)) h (ap (λ y. is_counted (stage_of s y)) e ∙ ap is_counted k.waiting)

    other : (e : Event) → Has q' e → e.link ≡ x.link → ⊥
    other e h = due_once n p s x e d (k.pass.flow.due e (k.popped.kept e h)) (k.popped.first e h)

    due_kept : (e : Event) → IsDue n p s e → (e.link ≡ x.link → ⊥) → IsDue n p After e
    due_kept e g ne = record {
      known = g.known;
      reached = g.reached;
      open_still = counted_stage e.link ∙ g.open_still;
      time = g.time ∙ sym (due_same n p s After e.link (stage_of s e.link) refl (sent_else e.link ne))
          ∙ ap (due_time n p After e.link) (sym (stage_else e.link ne));
      between = g.between;
    }

    due_before : (e : Event) → IsDue n p After e → (e.link ≡ x.link → ⊥) → IsDue n p s e
    due_before e g ne = record {
      known = g.known;
      reached = g.reached;
      open_still = sym (counted_stage e.link) ∙ g.open_still;
      time = g.time ∙ ap (due_time n p After e.link) (stage_else e.link ne)
          ∙ due_same n p s After e.link (stage_of s e.link) refl (sent_else e.link ne);
      between = g.between;
    }

    due_receipt : IsDue n p After Receipt
    due_receipt = record {
      known = d.known;
      reached = d.reached;
      open_still = ap is_counted stage_there;
      time = ap (λ v. v + travel n p x.link) (sym sent_there) ∙ ap (due_time n p After x.link) (sym stage_there);
      between = sym (ap not k.away);
    }

    only_receipt : (e : Event) → IsDue n p After e → e.link ≡ x.link → e ≡ Receipt
    only_receipt e g z =
        let T : ℕ → ℕ = λ y. due_time n p After y (stage_of After y) in
        let B : ℕ → Bool = λ y. not (stays p y) in
        same_event e Receipt
        (g.time ∙ ap T z ∙ ap (due_time n p After x.link) stage_there ∙ ap (λ v. v + travel n p x.link) sent_there)
        (g.between ∙ ap B z ∙ ap not k.away) z

    flow : IsFlow n p After q''
    flow = record {
      due = λ e h. elim (k.pushed.only e h) [
        | inl z ↦ (let P : Event → Type 0 = λ y. IsDue n p After y in subst P (sym z) due_receipt)
        | inr o ↦ due_kept e (k.pass.flow.due e (k.popped.kept e o)) (other e o)
      ];
      queued = λ e g. queued e g (same_or_not e.link x.link);
      awaited = λ c h. k.pass.flow.awaited c h ∙ sym (same_sum (awaits p s c) (awaits p After c) 0 (length p.links)
          (λ j _ _. ap (λ v. cond (((link p j).target == c) && not v) 1 0) (counted_stage j)));
      cells = λ c h. soonest_same 0 0 (IsCounted p s c) (IsCounted p After c) (counted n p s.times) (counted n p After.times)
          (cell_time s c) (cell_time After c) (k.pass.flow.cells c h) refl refl
          (λ m w. record { known = w.known; there = w.there; counted = counted_stage m ∙ w.counted })
          (λ m w. record { known = w.known; there = w.there; counted = sym (counted_stage m) ∙ w.counted })
          (λ m w. refl);
      reached = λ m h t. reached m h t (same_or_not m x.link);
      stay = λ m h w t. stay m h w t (same_or_not m x.link);
    }
      where
        queued : (e : Event) → IsDue n p After e → (e.link ≡ x.link) ⊎ (e.link ≡ x.link → ⊥) → Has q'' e
        queued e g (inl z) = let P : Event → Type 0 = λ y. Has q'' y in subst P (sym (only_receipt e g z)) k.pushed.has
        queued e g (inr ne) = elim (k.popped.rest e (k.pass.flow.queued e (due_before e g ne))) [
          | inl z ↦ absurd (ne (ap (λ (y : Event). y.link) (sym z)))
          | inr h ↦ k.pushed.keeps e h
        ]

        reached : (m : ℕ) → m < length p.links → is_sent (stage_of After m) ≡ true → (m ≡ x.link) ⊎ (m ≡ x.link → ⊥)
            → get_or s.awaited (link p m).source 0 ≡ 0
        reached m h t (inl e) = let P : ℕ → Type 0 = λ y. get_or s.awaited (link p y).source 0 ≡ 0 in subst P (sym e) d.reached
        reached m h t (inr ne) = k.pass.flow.reached m h (sym (ap is_sent (stage_else m ne)) ∙ t)

        stay : (m : ℕ) → m < length p.links → stays p m ≡ true → is_sent (stage_of After m) ≡ true
            → (m ≡ x.link) ⊎ (m ≡ x.link → ⊥)
            → (is_counted (stage_of After m) ≡ true) × (sent_at After.times m ≡ ready p After.times m)
            × (received_at After.times m ≡ ready p After.times m)
        stay m h w t (inl e) = absurd (clash (stays p m) w (ap (stays p) e ∙ k.away))
        stay m h w t (inr ne) =
            let f = k.pass.flow.stay m h w (sym (ap is_sent (stage_else m ne)) ∙ t) in
            (counted_stage m ∙ f.0, sent_else m ne ∙ f.1, f.2)

    -- ---- messages
    sent_on : (m : ℕ) → IsSent p s m → (m ≡ x.link → ⊥) × IsSent p After m
    sent_on m h =
        let ne : m ≡ x.link → ⊥ = λ e. clash (is_sent (stage_of s m)) h.sent (ap (λ y. is_sent (stage_of s y)) e ∙ ap is_sent k.waiting) in
        (ne, record { known = h.known; between = h.between; sent = ap is_sent (stage_else m ne) ∙ h.sent })

    sent_back : (m : ℕ) → IsSent p After m → (m ≡ x.link) ⊎ IsSent p s m
    sent_back m h = at' (same_or_not m x.link)
      where
        at' : (m ≡ x.link) ⊎ (m ≡ x.link → ⊥) → (m ≡ x.link) ⊎ IsSent p s m
        at' (inl e) = inl e
        at' (inr ne) = inr (record { known = h.known; between = h.between; sent = sym (ap is_sent (stage_else m ne)) ∙ h.sent })

    received_on : (m : ℕ) → IsReceived p s m → (m ≡ x.link → ⊥) × IsReceived p After m
    received_on m h = (counted_else m h.counted, record { known = h.known; between = h.between; counted = counted_stage m ∙ h.counted })

    received_back : (m : ℕ) → IsReceived p After m → IsReceived p s m
    received_back m h = record { known = h.known; between = h.between; counted = sym (counted_stage m) ∙ h.counted }

    arrival_same : (m : ℕ) → IsReceived p s m → arrival n p After.times m ≡ arrival n p s.times m
    arrival_same m h = ap (λ v. v + travel n p m) (sent_else m (received_on m h).0)

    -- the receipt is later than the sending
    receipt_later : x.time < Receipt.time
    receipt_later = let a = k.begins in let b = k.some in omega (arith, a, b)

    ordered : IsOrdered n p After q''
    ordered = record {
      sent = λ m h e w. elim (sent_back m h) [ inl z ↦ itself m z e w | inr o ↦ sent m o e w ];
      received = λ m h e w. received m (received_back m h) e w;
    }
      where
        later : (a : Event) → (e : Event) → e ≡ Receipt → a.time ≤ x.time → Comes a e
        later a e z h = let P : Event → Type 0 = λ y. Comes a y in
            subst P (sym z) (comes_sooner a Receipt (let b = receipt_later in omega (arith, b, h)))

        sent : (m : ℕ) → IsSent p s m → (e : Event) → Has q'' e → Comes (sending_of p After m) e
        sent m h e w = elim (k.pushed.only e w) [
          | inl z ↦ later (sending_of p s m) e z (k.pass.ordered.sent m h x k.popped.had).not_after
          | inr o ↦ k.pass.ordered.sent m h e (k.popped.kept e o)
        ]

        itself : (m : ℕ) → m ≡ x.link → (e : Event) → Has q'' e → Comes (sending_of p After m) e
        itself m y e w =
            let same : sending_of p After m ≡ x = same_event (sending_of p After m) x (ap (ready p s.times) y ∙ sym was_ready) (sym
            is_away) y in
            let P : Event → Type 0 = λ a. Comes a e in
            subst P (sym same) (elim (k.pushed.only e w) [
              | inl z ↦ later x e z (omega arith)
              | inr o ↦ k.popped.first e o
            ])

        received : (m : ℕ) → IsReceived p s m → (e : Event) → Has q'' e → Comes (receipt_of n p After m) e
        received m h e w =
            let P : ℕ → Type 0 = λ t. Comes (record { time = t; between = true; link = m }) e in
            subst P (sym (arrival_same m h)) (elim (k.pushed.only e w) [
              | inl z ↦ later (receipt_of n p s m) e z (k.pass.ordered.received m h x k.popped.had).not_after
              | inr o ↦ k.pass.ordered.received m h e (k.popped.kept e o)
            ])

    senders_there : get_or After.senders (from_rank p x.link) 0 ≡ at + sending n p x.link
    senders_there = let a = k.pass.sizes.senders in let h = k.rank in
        let lt : from_rank p x.link < length s.senders = omega (arith, a, h) in
        get_or-set_same s.senders (from_rank p x.link) (at + sending n p x.link) 0 lt

    senders_else : (r : ℕ) → (r ≡ from_rank p x.link → ⊥) → get_or After.senders r 0 ≡ get_or s.senders r 0
    senders_else r ne = get_or-set_other s.senders (from_rank p x.link) r (at + sending n p x.link) 0 ne

    rest_less : rest n p After + (sending n p x.link + n.latency) ≡ rest n p s
    rest_less =
        let a = changed_sum (λ l. rest_by n p l (stage_of s l)) (λ l. rest_by n p l (stage_of After l)) 0 (length p.links) x.link
        (omega arith) (let h = d.known in omega (arith, h)) (λ j _ ne. ap (rest_by n p j) (stage_else j ne)) in
        let b : rest_by n p x.link (stage_of s x.link) ≡ sending n p x.link + n.latency + receiving n p x.link =
        ap (rest_by n p x.link) k.waiting ∙ ap (λ v. cond v 0 (sending n p x.link + n.latency + receiving n p x.link)) k.away in
        let c : rest_by n p x.link (stage_of After x.link) ≡ receiving n p x.link = ap (rest_by n p x.link) stage_there in
        omega (arith, a, b, c)

    room : HasRoom n p After q''
    room = record {
      cells = λ c. let a = k.pass.room.cells c in let l = rest_less in omega (arith, a, l);
      senders = λ r. senders r (same_or_not r (from_rank p x.link));
      receivers = λ r. let a = k.pass.room.receivers r in let l = rest_less in omega (arith, a, l);
      queue = λ e w. elim (k.pushed.only e w) [
        | inl z ↦ (let P : Event → Type 0 = λ y. y.time + rest n p After ≤ in_turn n p in
            let a = k.pass.room.queue x k.popped.had in let b = k.pass.room.senders (from_rank p x.link) in
            let l = rest_less in let g = k.begins in
            subst P (sym z) (omega (arith, a, b, l, g)))
        | inr o ↦ (let a = k.pass.room.queue e (k.popped.kept e o) in let l = rest_less in omega (arith, a, l))
      ];
    }
      where
        senders : (r : ℕ) → (r ≡ from_rank p x.link) ⊎ (r ≡ from_rank p x.link → ⊥) → get_or After.senders r 0 + rest n p After ≤ in_turn n
            p
        senders r (inl e) =
            let P : ℕ → Type 0 = λ y. get_or After.senders y 0 + rest n p After ≤ in_turn n p in
            let a = k.pass.room.queue x k.popped.had in let b = k.pass.room.senders (from_rank p x.link) in
            let l = rest_less in let g = k.begins in let f = senders_there in
            subst P (sym e) (omega (arith, a, b, l, g, f))
        senders r (inr ne) = let a = k.pass.room.senders r in let l = rest_less in let f = senders_else r ne in omega (arith, a, l, f)

    pub sent_pass : IsPass n p After q''
    sent_pass = record {
      sizes = record {
        cells = k.pass.sizes.cells;
        awaited = k.pass.sizes.awaited;
        sent = length-set s.times.sent x.link at ∙ k.pass.sizes.sent;
        received = k.pass.sizes.received;
        stages = length-set s.stages x.link Sent ∙ k.pass.sizes.stages;
        senders = length-set s.senders (from_rank p x.link) (at + sending n p x.link) ∙ k.pass.sizes.senders;
        receivers = k.pass.sizes.receivers;
      };
      flow = flow;
      ordered = ordered;
      sends = port_more (from_rank p) (IsSent p s) (IsSent p After) (ready p s.times) (ready p After.times) (sent_at s.times)
          (sent_at After.times) (sent_through n p s.times) (sent_through n p After.times) (λ r. get_or s.senders r 0)
          (λ r. get_or After.senders r 0) x.link
          (record {
            grows = λ m h. (sent_on m h).1;
            here = record { known = d.known; between = k.away; sent = ap is_sent stage_there };
            only = sent_back;
            come_same = λ m h. refl;
            start_same = λ m h. sent_else m (sent_on m h).0;
            through_same = λ m h. ap (λ v. v + sending n p m) (sent_else m (sent_on m h).0);
            last = λ m h. (let b = comes_in_order (sending_of p s m) x (k.pass.ordered.sent m h x k.popped.had) (sym is_away) in
                let Q : ℕ → Type 0 = λ a. Before (ready p s.times m) m a x.link in subst Q was_ready b);
            begins = sent_there ∙ k.begins ∙ ap (λ v. max v (get_or s.senders (from_rank p x.link) 0)) was_ready;
            ends = omega arith;
            free_there = senders_there ∙ ap (λ v. v + sending n p x.link) (sym sent_there);
            free_same = senders_else;
          }) k.pass.sends;
      receipts = port_same (to_rank p) (IsReceived p s) (IsReceived p After) (arrival n p s.times) (arrival n p After.times)
          (received_at s.times) (received_at After.times) (received_through n p s.times) (received_through n p After.times)
          (λ r. get_or s.receivers r 0) (λ r. get_or After.receivers r 0) k.pass.receipts (λ m h. (received_on m h).1) received_back
          arrival_same (λ m h. refl) (λ m h. refl) (λ r. refl);
      room = room;
    }

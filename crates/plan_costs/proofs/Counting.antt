-- What a pass keeps as a link is counted.
use Rattle.std.proofs.Common.{ℕ, Bool, true, false, cond, not, ◌&&◌, ◌==◌, ◌≡◌, ◌<◌, ◌≤◌, ◌+◌, ◌⊎◌, inl, inr, List, length, get_or, max}
use Rattle.std.proofs.Common.{arith}
use Rattle.std.proofs.Common.{refl, sym, ◌∙◌, ap, ap₂, subst, eq-eqb}
use Rattle.std.proofs.lemmas.Bool.{ne_eqb}
use Rattle.plan_core.specs.Plan.{Plan, link}
use Rattle.plan_tables.specs.Tables.{from_rank, to_rank}
use Rattle.plan_costs.specs.declared.events.Event.{Event}
use Rattle.plan_costs.specs.declared.numbers.LogGp.{LogGp}
use Rattle.plan_costs.specs.declared.state.Stage.{Stage}
use Rattle.plan_costs.specs.declared.state.Stage.TheVariants.{Waiting, Sent, Counted}
use Rattle.plan_costs.specs.Soonest.{Before, IsSoonest}
use Rattle.plan_costs.specs.Times.{IsTimed, arrival, counted, handling, in_turn, ready, receiving, received_at, received_through, sending}
use Rattle.plan_costs.specs.Times.{sent_at, sent_through, stays, travel}
use Rattle.plan_costs.specs.Events.{Comes, Has, Popped}
use Rattle.plan_costs.specs.State.{StateOf, HasRoom, IsCounted, IsDue, IsFlow, IsOrdered, IsReceived, IsSent, Opens, Port, Settled}
use Rattle.plan_costs.specs.State.{awaited_of, awaits, cell_time, due_time, is_counted, is_sent, left_for, receipt_of, rest, sending_of}
use Rattle.plan_costs.specs.State.{stage_of}
use Rattle.plan_costs.proofs.Order.{comes_sooner}
use Rattle.plan_costs.proofs.Ports.{port_more, port_same, same_or_not, soonest_more, soonest_same}
use Rattle.plan_costs.proofs.Sums.{changed_sum, same_sum}

-- what two states have in common between which a link is counted at its target
pub record Counts (n : LogGp) (p : Plan) (s s' : StateOf) (l at : ℕ) : Type 0 where
  pub known : l < length p.links
  pub was : is_counted (stage_of s l) ≡ false
  pub is : is_counted (stage_of s' l) ≡ true
  pub was_sent : (is_sent (stage_of s l) ≡ true) ⊎ (stays p l ≡ true)
  pub source : awaited_of s (link p l).source ≡ 0
  pub stages : (m : ℕ) → (m ≡ l → ⊥) → stage_of s' m ≡ stage_of s m
  pub sent : (m : ℕ) → (m ≡ l → ⊥) → sent_at s'.times m ≡ sent_at s.times m
  pub sent_here : stays p l ≡ false → sent_at s'.times l ≡ sent_at s.times l
  pub received : (m : ℕ) → (m ≡ l → ⊥) → received_at s'.times m ≡ received_at s.times m
  pub time : counted n p s'.times l ≡ at
  pub cell_there : cell_time s' (link p l).target ≡ max (cell_time s (link p l).target) at
  pub cells : (c : ℕ) → (c ≡ (link p l).target → ⊥) → cell_time s' c ≡ cell_time s c
  pub awaited_there : awaited_of s' (link p l).target + 1 ≡ awaited_of s (link p l).target
  pub awaited : (c : ℕ) → (c ≡ (link p l).target → ⊥) → awaited_of s' c ≡ awaited_of s c
  pub senders : (r : ℕ) → get_or s'.senders r 0 ≡ get_or s.senders r 0

pub clash : (v : Bool) → v ≡ true → v ≡ false → ⊥
clash v e f = cc

pub counted_sent : (st : Stage) → is_counted st ≡ true → is_sent st ≡ true
counted_sent Waiting e = absurd (clash _ e refl)
counted_sent Sent e = refl
counted_sent Counted e = refl

pub unsent : (st : Stage) → (is_sent st ≡ true → ⊥) → st ≡ Waiting
unsent Waiting e = refl
unsent Sent e = absurd (e refl)
unsent Counted e = absurd (e refl)

pub due_same : (n : LogGp) (p : Plan) (s s' : StateOf) (m : ℕ) (st : Stage) → ready p s'.times m ≡ ready p s.times m
    → sent_at s'.times m ≡ sent_at s.times m → due_time n p s' m st ≡ due_time n p s m st
due_same n p s s' m Waiting e f = e
due_same n p s s' m Sent e f = ap (λ v. v + travel n p m) f
due_same n p s s' m Counted e f = ap (λ v. v + travel n p m) f

-- ---- what a cell awaits
none_of : (b : Bool) → cond {A = ℕ} (b && false) 1 0 ≡ 0
none_of true = refl
none_of false = refl

pub awaits_one : (p : Plan) (s : StateOf) (c l : ℕ) → (link p l).target ≡ c → is_counted (stage_of s l) ≡ false → awaits p s c l ≡ 1
awaits_one p s c l e h = ap₂ (λ u v. cond (u && not v) 1 0) (eq-eqb (link p l).target c e) h

pub awaits_none : (p : Plan) (s : StateOf) (c l : ℕ) → is_counted (stage_of s l) ≡ true → awaits p s c l ≡ 0
awaits_none p s c l h = ap (λ v. cond (((link p l).target == c) && not v) 1 0) h ∙ none_of ((link p l).target == c)

pub awaits_else : (p : Plan) (s : StateOf) (c l : ℕ) → ((link p l).target ≡ c → ⊥) → awaits p s c l ≡ 0
awaits_else p s c l h = ap (λ u. cond (u && not (is_counted (stage_of s l))) 1 0) (ne_eqb (link p l).target c h)

pub awaits_same : (p : Plan) (s s' : StateOf) (c l : ℕ) → stage_of s' l ≡ stage_of s l → awaits p s' c l ≡ awaits p s c l
awaits_same p s s' c l e = ap (λ v. cond (((link p l).target == c) && not (is_counted v)) 1 0) e

-- ---- one order of two events
pub comes_in_order : (a b : Event) → Comes a b → a.between ≡ b.between → Before a.time a.link b.time b.link
comes_in_order a b h e = at (same_or_not a.time b.time)
  where
    at : (a.time ≡ b.time) ⊎ (a.time ≡ b.time → ⊥) → Before a.time a.link b.time b.link
    at (inl f) = inr (f, h.by_number e f)
    at (inr f) = let k = h.not_after in inl (omega (arith, k, f))

-- two events that are due for one link are one
pub due_once : (n : LogGp) (p : Plan) (s : StateOf) (x e : Event) → IsDue n p s x → IsDue n p s e → Comes x e → e.link ≡ x.link → ⊥
due_once n p s x e dx de h k =
    let T : ℕ → ℕ = λ m. due_time n p s m (stage_of s m) in
    let B : ℕ → Bool = λ m. not (stays p m) in
    let r = h.by_number (dx.between ∙ ap B (sym k) ∙ sym de.between) (dx.time ∙ ap T (sym k) ∙ sym de.time) in
    omega (arith, r, k)

module _ (n : LogGp) (p : Plan) (s s' : StateOf) (x : Event) (at : ℕ) where
  abbrev There : ℕ
  There = (link p x.link).target

  abbrev Step : Type 0
  Step = Counts n p s s' x.link at

  -- what is reached isn't the target, which still awaited this link
  elsewhere : Step → (c : ℕ) → awaited_of s c ≡ 0 → c ≡ There → ⊥
  elsewhere k c h e =
      let a = k.awaited_there in
      let P : ℕ → Type 0 = λ z. awaited_of s z ≡ 0 in
      let b = subst P e h in
      omega (arith, a, b)

  reached_still : Step → (c : ℕ) → awaited_of s c ≡ 0 → awaited_of s' c ≡ 0
  reached_still k c h = k.awaited c (elsewhere k c h) ∙ h

  pub ready_kept : Step → (m : ℕ) → awaited_of s (link p m).source ≡ 0 → ready p s'.times m ≡ ready p s.times m
  ready_kept k m h = k.cells (link p m).source (elsewhere k (link p m).source h)

  due_kept : Step → (e : Event) → IsDue n p s e → (e.link ≡ x.link → ⊥) → IsDue n p s' e
  due_kept k e d ne = record {
    known = d.known;
    reached = reached_still k (link p e.link).source d.reached;
    open_still = ap is_counted (k.stages e.link ne) ∙ d.open_still;
    time = d.time ∙ sym (due_same n p s s' e.link (stage_of s e.link) (ready_kept k e.link d.reached) (k.sent e.link ne))
        ∙ ap (due_time n p s' e.link) (sym (k.stages e.link ne));
    between = d.between;
  }

  due_before : Step → (e : Event) → IsDue n p s' e → (e.link ≡ x.link → ⊥) → ((link p e.link).source ≡ There → ⊥) → IsDue n p s e
  due_before k e d ne off_it = record {
    known = d.known;
    reached = sym (k.awaited (link p e.link).source off_it) ∙ d.reached;
    open_still = sym (ap is_counted (k.stages e.link ne)) ∙ d.open_still;
    time = d.time ∙ ap (due_time n p s' e.link) (k.stages e.link ne)
        ∙ due_same n p s s' e.link (stage_of s e.link) (k.cells (link p e.link).source off_it) (k.sent e.link ne);
    between = d.between;
  }

  -- no link from the target is sent
  held : Step → IsTimed p → (q : List Event) → IsFlow n p s q → (m : ℕ) → m < length p.links → (link p m).source ≡ There
      → ((m ≡ x.link → ⊥) × (stage_of s' m ≡ Waiting))
  held k timed q flow m h e = (ne, k.stages m ne ∙ unsent (stage_of s m) (λ t. elsewhere k (link p m).source (flow.reached m h t) e))
    where
      ne : m ≡ x.link → ⊥
      ne z = let r = timed.rising m h in
          let P : ℕ → Type 0 = λ y. (link p m).source ≡ (link p y).target in
          let w = subst P (sym z) e in
          omega (arith, r, w)

  opened : Step → IsTimed p → (q : List Event) → IsFlow n p s q → (e : Event) → Opens p s' There e → IsDue n p s' e
  opened k timed q flow e o =
      let h = held k timed q flow e.link o.known o.source in
      record {
        known = o.known;
        reached = (let P : ℕ → Type 0 = λ z. awaited_of s' z ≡ 0 in subst P (sym o.source) o.reached);
        open_still = ap is_counted h.1;
        time = o.time ∙ ap (cell_time s') (sym o.source) ∙ ap (due_time n p s' e.link) (sym h.1);
        between = o.between;
      }

  to_open : Step → IsTimed p → (q : List Event) → IsFlow n p s q → (e : Event) → IsDue n p s' e → (link p e.link).source ≡ There
      → Opens p s' There e
  to_open k timed q flow e d o =
      let h = held k timed q flow e.link d.known o in
      record {
        known = d.known;
        source = o;
        reached = (let P : ℕ → Type 0 = λ z. awaited_of s' z ≡ 0 in subst P o d.reached);
        time = d.time ∙ ap (due_time n p s' e.link) h.1 ∙ ap (cell_time s') o;
        between = d.between;
      }

  left_there : Step → left_for p s' There + 1 ≡ left_for p s There
  left_there k =
      let a = changed_sum (awaits p s There) (awaits p s' There) 0 (length p.links) x.link (omega arith)
      (let h = k.known in omega (arith, h)) (λ j _ ne. awaits_same p s s' There j (k.stages j ne)) in
      let b = awaits_one p s There x.link refl k.was in
      let c = awaits_none p s' There x.link k.is in
      omega (arith, a, b, c)

  left_else : Step → (c : ℕ) → (c ≡ There → ⊥) → left_for p s' c ≡ left_for p s c
  left_else k c ne = same_sum (awaits p s c) (awaits p s' c) 0 (length p.links) (λ j _ _. each j (same_or_not j x.link))
    where
      each : (j : ℕ) → (j ≡ x.link) ⊎ (j ≡ x.link → ⊥) → awaits p s' c j ≡ awaits p s c j
      each j (inl e) =
          let off_it : (link p j).target ≡ c → ⊥ = λ z. ne (sym z ∙ ap (λ y. (link p y).target) e) in
          awaits_else p s' c j off_it ∙ sym (awaits_else p s c j off_it)
      each j (inr off_it) = awaits_same p s s' c j (k.stages j off_it)

  counted_on : Step → (c m : ℕ) → IsCounted p s c m → (m ≡ x.link → ⊥) × IsCounted p s' c m
  counted_on k c m h =
      let ne : m ≡ x.link → ⊥ = λ e. clash (is_counted (stage_of s m)) h.counted (ap (λ y. is_counted (stage_of s y)) e ∙ k.was) in
      (ne, record { known = h.known; there = h.there; counted = ap is_counted (k.stages m ne) ∙ h.counted })

  counted_back : Step → (c m : ℕ) → IsCounted p s' c m → (m ≡ x.link) ⊎ IsCounted p s c m
  counted_back k c m h = at' (same_or_not m x.link)
    where
      at' : (m ≡ x.link) ⊎ (m ≡ x.link → ⊥) → (m ≡ x.link) ⊎ IsCounted p s c m
      at' (inl e) = inl e
      at' (inr ne) = inr (record { known = h.known; there = h.there; counted = sym (ap is_counted (k.stages m ne)) ∙ h.counted })

  counted_same : Step → (m : ℕ) → (m ≡ x.link → ⊥) → counted n p s'.times m ≡ counted n p s.times m
  counted_same k m ne = ap (λ v. cond (stays p m) v (v + handling n p m)) (k.received m ne)

  flow_cells : Step → (q : List Event) → IsFlow n p s q → (c : ℕ) → c < length p.cells
      → IsSoonest 0 (IsCounted p s' c) (counted n p s'.times) (cell_time s' c)
  flow_cells k q flow c h = at' (same_or_not c There)
    where
      at' : (c ≡ There) ⊎ (c ≡ There → ⊥) → IsSoonest 0 (IsCounted p s' c) (counted n p s'.times) (cell_time s' c)
      at' (inl e) = soonest_more 0 (IsCounted p s c) (IsCounted p s' c) (counted n p s.times) (counted n p s'.times) (cell_time s c)
          (cell_time s' c) x.link (flow.cells c h) (λ m w. (counted_on k c m w).1) (λ m w. counted_same k m (counted_on k c m w).0)
          (record { known = k.known; there = sym e; counted = k.is }) (counted_back k c)
          (ap (cell_time s') e ∙ k.cell_there ∙ ap₂ max (ap (cell_time s) (sym e)) (sym k.time))
      at' (inr ne) = soonest_same 0 0 (IsCounted p s c) (IsCounted p s' c) (counted n p s.times) (counted n p s'.times) (cell_time s c)
          (cell_time s' c) (flow.cells c h) refl (k.cells c ne) (λ m w. (counted_on k c m w).1)
          (λ m w. elim (counted_back k c m w) [
            | inl e ↦ absurd (ne (sym w.there ∙ ap (λ y. (link p y).target) e))
            | inr v ↦ v
          ])
          (λ m w. counted_same k m (counted_on k c m w).0)

  flow_awaited : Step → (q : List Event) → IsFlow n p s q → (c : ℕ) → c < length p.cells → awaited_of s' c ≡ left_for p s' c
  flow_awaited k q flow c h = at' (same_or_not c There)
    where
      at' : (c ≡ There) ⊎ (c ≡ There → ⊥) → awaited_of s' c ≡ left_for p s' c
      at' (inl e) =
          let P : ℕ → Type 0 = λ z. awaited_of s' z ≡ left_for p s' z in
          let a = k.awaited_there in let b = left_there k in
          let P' : ℕ → Type 0 = λ z. awaited_of s z ≡ left_for p s z in
          let f = subst P' e (flow.awaited c h) in
          subst P (sym e) (omega (arith, a, b, f))
      at' (inr ne) = k.awaited c ne ∙ flow.awaited c h ∙ sym (left_else k c ne)

  pub flow_on : Step → IsTimed p → (q q' q'' : List Event) → IsFlow n p s q → Popped q x q' → Settled p s' There q' q''
      → (stays p x.link ≡ true → (sent_at s'.times x.link ≡ ready p s'.times x.link) × (received_at s'.times x.link ≡ ready p s'.times
      x.link))
      → IsFlow n p s' q''
  flow_on k timed q q' q'' flow popped settled home = record {
    due = due;
    queued = queued;
    awaited = flow_awaited k q flow;
    cells = flow_cells k q flow;
    reached = reached;
    stay = stay;
  }
    where
      other : (e : Event) → Has q' e → e.link ≡ x.link → ⊥
      other e h = due_once n p s x e (flow.due x popped.had) (flow.due e (popped.kept e h)) (popped.first e h)

      due : (e : Event) → Has q'' e → IsDue n p s' e
      due e h = elim (settled.only e h) [
        | inl o ↦ due_kept k e (flow.due e (popped.kept e o)) (other e o)
        | inr o ↦ opened k timed q flow e o
      ]

      queued : (e : Event) → IsDue n p s' e → Has q'' e
      queued e d = at' (same_or_not (link p e.link).source There)
        where
          ne : e.link ≡ x.link → ⊥
          ne z = clash (is_counted (stage_of s' e.link)) (ap (λ y. is_counted (stage_of s' y)) z ∙ k.is) d.open_still

          at' : ((link p e.link).source ≡ There) ⊎ ((link p e.link).source ≡ There → ⊥) → Has q'' e
          at' (inl o) = settled.has e (to_open k timed q flow e d o)
          at' (inr off_it) = elim (popped.rest e (flow.queued e (due_before k e d ne off_it))) [
            | inl z ↦ absurd (ne (ap (λ (y : Event). y.link) (sym z)))
            | inr h ↦ settled.keeps e h
          ]

      reached : (m : ℕ) → m < length p.links → is_sent (stage_of s' m) ≡ true → awaited_of s' (link p m).source ≡ 0
      reached m h t = at' (same_or_not m x.link)
        where
          at' : (m ≡ x.link) ⊎ (m ≡ x.link → ⊥) → awaited_of s' (link p m).source ≡ 0
          at' (inl e) = let P : ℕ → Type 0 = λ y. awaited_of s' (link p y).source ≡ 0 in
              subst P (sym e) (reached_still k (link p x.link).source k.source)
          at' (inr ne) = reached_still k (link p m).source (flow.reached m h (sym (ap is_sent (k.stages m ne)) ∙ t))

      stay : (m : ℕ) → m < length p.links → stays p m ≡ true → is_sent (stage_of s' m) ≡ true
          → (is_counted (stage_of s' m) ≡ true) × (sent_at s'.times m ≡ ready p s'.times m) × (received_at s'.times m ≡ ready p s'.times m)
      stay m h w t = at' (same_or_not m x.link)
        where
          at' : (m ≡ x.link) ⊎ (m ≡ x.link → ⊥) → (is_counted (stage_of s' m) ≡ true) × (sent_at s'.times m ≡ ready p s'.times m)
              × (received_at s'.times m ≡ ready p s'.times m)
          at' (inl e) =
              let P : ℕ → Type 0 = λ y. (is_counted (stage_of s' y) ≡ true) × (sent_at s'.times y ≡ ready p s'.times y)
              × (received_at s'.times y ≡ ready p s'.times y) in
              let f = home (ap (stays p) (sym e) ∙ w) in
              subst P (sym e) (k.is, f.0, f.1)
          at' (inr ne) =
              let u = sym (ap is_sent (k.stages m ne)) ∙ t in
              let f = flow.stay m h w u in
              let r = ready_kept k m (flow.reached m h u) in
              (ap is_counted (k.stages m ne) ∙ f.0, k.sent m ne ∙ f.1 ∙ sym r, k.received m ne ∙ f.2 ∙ sym r)

  -- ---- messages that are sent, and that are received
  pub sent_on : Step → (m : ℕ) → IsSent p s m → IsSent p s' m
  sent_on k m h = at' (same_or_not m x.link)
    where
      at' : (m ≡ x.link) ⊎ (m ≡ x.link → ⊥) → IsSent p s' m
      at' (inl e) = record {
        known = h.known;
        between = h.between;
        sent = counted_sent (stage_of s' m) (ap (λ y. is_counted (stage_of s' y)) e ∙ k.is);
      }
      at' (inr ne) = record { known = h.known; between = h.between; sent = ap is_sent (k.stages m ne) ∙ h.sent }

  pub sent_back : Step → (m : ℕ) → IsSent p s' m → IsSent p s m
  sent_back k m h = at' (same_or_not m x.link)
    where
      at' : (m ≡ x.link) ⊎ (m ≡ x.link → ⊥) → IsSent p s m
      at' (inl e) = elim k.was_sent [
        | inl t ↦ record { known = h.known; between = h.between; sent = ap (λ y. is_sent (stage_of s y)) e ∙ t }
        | inr z ↦ absurd (clash (stays p m) (ap (stays p) e ∙ z) h.between)
      ]
      at' (inr ne) = record { known = h.known; between = h.between; sent = sym (ap is_sent (k.stages m ne)) ∙ h.sent }

  sent_same : Step → (m : ℕ) → IsSent p s m → sent_at s'.times m ≡ sent_at s.times m
  sent_same k m h = at' (same_or_not m x.link)
    where
      at' : (m ≡ x.link) ⊎ (m ≡ x.link → ⊥) → sent_at s'.times m ≡ sent_at s.times m
      at' (inl e) = let P : ℕ → Type 0 = λ y. sent_at s'.times y ≡ sent_at s.times y in
          subst P (sym e) (k.sent_here (ap (stays p) (sym e) ∙ h.between))
      at' (inr ne) = k.sent m ne

  pub received_on : Step → (m : ℕ) → IsReceived p s m → (m ≡ x.link → ⊥) × IsReceived p s' m
  received_on k m h =
      let ne : m ≡ x.link → ⊥ = λ e. clash (is_counted (stage_of s m)) h.counted (ap (λ y. is_counted (stage_of s y)) e ∙ k.was) in
      (ne, record { known = h.known; between = h.between; counted = ap is_counted (k.stages m ne) ∙ h.counted })

  pub received_back : Step → (m : ℕ) → IsReceived p s' m → (m ≡ x.link) ⊎ IsReceived p s m
  received_back k m h = at' (same_or_not m x.link)
    where
      at' : (m ≡ x.link) ⊎ (m ≡ x.link → ⊥) → (m ≡ x.link) ⊎ IsReceived p s m
      at' (inl e) = inl e
      at' (inr ne) = inr (record { known = h.known; between = h.between; counted = sym (ap is_counted (k.stages m ne)) ∙ h.counted })

  pub sends_on : Step → (q : List Event) → IsFlow n p s q
      → Port (from_rank p) (IsSent p s) (ready p s.times) (sent_at s.times) (sent_through n p s.times) (λ r. get_or s.senders r 0)
      → Port (from_rank p) (IsSent p s') (ready p s'.times) (sent_at s'.times) (sent_through n p s'.times) (λ r. get_or s'.senders r 0)
  sends_on k q flow old = port_same (from_rank p) (IsSent p s) (IsSent p s') (ready p s.times) (ready p s'.times) (sent_at s.times)
      (sent_at s'.times) (sent_through n p s.times) (sent_through n p s'.times) (λ r. get_or s.senders r 0) (λ r. get_or s'.senders r 0) old
      (sent_on k) (sent_back k) (λ m h. ready_kept k m (flow.reached m h.known h.sent)) (sent_same k)
      (λ m h. ap (λ v. v + sending n p m) (sent_same k m h)) k.senders

  -- a link that stays on its rank passes no port
  pub receipts_kept : Step → stays p x.link ≡ true → ((r : ℕ) → get_or s'.receivers r 0 ≡ get_or s.receivers r 0)
      → Port (to_rank p) (IsReceived p s) (arrival n p s.times) (received_at s.times) (received_through n p s.times)
      (λ r. get_or s.receivers r 0)
      → Port (to_rank p) (IsReceived p s') (arrival n p s'.times) (received_at s'.times) (received_through n p s'.times)
      (λ r. get_or s'.receivers r 0)
  receipts_kept k home free old = port_same (to_rank p) (IsReceived p s) (IsReceived p s') (arrival n p s.times) (arrival n p s'.times)
      (received_at s.times) (received_at s'.times) (received_through n p s.times) (received_through n p s'.times)
      (λ r. get_or s.receivers r 0) (λ r. get_or s'.receivers r 0) old (λ m h. (received_on k m h).1)
      (λ m h. elim (received_back k m h) [
        | inl e ↦ absurd (clash (stays p m) (ap (stays p) e ∙ home) h.between)
        | inr o ↦ o
      ])
      (λ m h. ap (λ v. v + travel n p m) (k.sent m (received_on k m h).0)) (λ m h. k.received m (received_on k m h).0)
      (λ m h. ap (λ v. v + receiving n p m) (k.received m (received_on k m h).0)) free

  pub receipts_more : Step → stays p x.link ≡ false → (q : List Event) → IsOrdered n p s q → Has q x → IsDue n p s x
      → x.time ≡ arrival n p s.times x.link
      → received_at s'.times x.link ≡ max x.time (get_or s.receivers (to_rank p x.link) 0)
      → get_or s'.receivers (to_rank p x.link) 0 ≡ received_at s'.times x.link + receiving n p x.link
      → ((r : ℕ) → (r ≡ to_rank p x.link → ⊥) → get_or s'.receivers r 0 ≡ get_or s.receivers r 0)
      → Port (to_rank p) (IsReceived p s) (arrival n p s.times) (received_at s.times) (received_through n p s.times)
      (λ r. get_or s.receivers r 0)
      → Port (to_rank p) (IsReceived p s') (arrival n p s'.times) (received_at s'.times) (received_through n p s'.times)
      (λ r. get_or s'.receivers r 0)
  receipts_more k away q ordered had d time begins there same old =
      port_more (to_rank p) (IsReceived p s) (IsReceived p s') (arrival n p s.times) (arrival n p s'.times)
      (received_at s.times) (received_at s'.times) (received_through n p s.times) (received_through n p s'.times)
      (λ r. get_or s.receivers r 0) (λ r. get_or s'.receivers r 0) x.link
      (record {
        grows = λ m h. (received_on k m h).1;
        here = record { known = k.known; between = away; counted = k.is };
        only = received_back k;
        come_same = come;
        start_same = λ m h. k.received m (received_on k m h).0;
        through_same = λ m h. ap (λ v. v + receiving n p m) (k.received m (received_on k m h).0);
        last = last;
        begins = begins ∙ ap (λ v. max v (get_or s.receivers (to_rank p x.link) 0)) arrived;
        ends = omega arith;
        free_there = there;
        free_same = same;
      }) old
    where
      come : (m : ℕ) → IsReceived p s m → arrival n p s'.times m ≡ arrival n p s.times m
      come m h = ap (λ v. v + travel n p m) (k.sent m (received_on k m h).0)

      arrived : x.time ≡ arrival n p s'.times x.link
      arrived = time ∙ ap (λ v. v + travel n p x.link) (sym (k.sent_here away))

      last : (m : ℕ) → IsReceived p s m → Before (arrival n p s'.times m) m (arrival n p s'.times x.link) x.link
      last m h =
          let b = comes_in_order (receipt_of n p s m) x (ordered.received m h x had) (sym (d.between ∙ ap not away)) in
          let P : ℕ → Type 0 = λ a. Before a m (arrival n p s'.times x.link) x.link in
          let Q : ℕ → Type 0 = λ a. Before (arrival n p s.times m) m a x.link in
          subst P (sym (come m h)) (subst Q arrived b)

  -- ---- in the order of time
  pub ordered_on : Step → (q q' q'' : List Event) → IsFlow n p s q → IsOrdered n p s q → Popped q x q' → Settled p s' There q' q''
      → ((m : ℕ) → IsSent p s m → ready p s.times m < at) → ((m : ℕ) → IsReceived p s m → arrival n p s.times m < at)
      → (stays p x.link ≡ false → (x.time < at) × (x.time ≡ arrival n p s.times x.link)) → IsDue n p s x
      → IsOrdered n p s' q''
  ordered_on k q q' q'' flow ordered popped settled sooner arrived away d = record {
    sent = λ m h. sent m (sent_back k m h);
    received = λ m h. elim (received_back k m h) [ inl e ↦ itself m e h | inr o ↦ received m o ];
  }
    where
      -- what opens is at the time of counting or later
      later : (e : Event) → Opens p s' There e → at ≤ e.time
      later e o = let a = o.time in let b = k.cell_there in omega (arith, a, b)

      sent : (m : ℕ) → IsSent p s m → (e : Event) → Has q'' e → Comes (sending_of p s' m) e
      sent m h e w =
          let same = ready_kept k m (flow.reached m h.known h.sent) in
          elim (settled.only e w) [
            | inl o ↦ (let P : ℕ → Type 0 = λ t. Comes (record { time = t; between = true; link = m }) e in
                subst P (sym same) (ordered.sent m h e (popped.kept e o)))
            | inr o ↦ comes_sooner (sending_of p s' m) e (let a = sooner m h in let b = later e o in omega (arith, a, b, same))
          ]

      received : (m : ℕ) → IsReceived p s m → (e : Event) → Has q'' e → Comes (receipt_of n p s' m) e
      received m h e w =
          let same : arrival n p s'.times m ≡ arrival n p s.times m = ap (λ v. v + travel n p m) (k.sent m (received_on k m h).0) in
          elim (settled.only e w) [
            | inl o ↦ (let P : ℕ → Type 0 = λ t. Comes (record { time = t; between = true; link = m }) e in
                subst P (sym same) (ordered.received m h e (popped.kept e o)))
            | inr o ↦ comes_sooner (receipt_of n p s' m) e (let a = arrived m h in let b = later e o in omega (arith, a, b, same))
          ]

      itself : (m : ℕ) → m ≡ x.link → IsReceived p s' m → (e : Event) → Has q'' e → Comes (receipt_of n p s' m) e
      itself m z h e w =
          let off : stays p x.link ≡ false = ap (stays p) (sym z) ∙ h.between in
          let f = away off in
          let same : arrival n p s'.times m ≡ x.time =
          ap (λ y. arrival n p s'.times y) z ∙ ap (λ v. v + travel n p x.link) (k.sent_here off) ∙ sym f.1 in
          elim (settled.only e w) [
            | inl o ↦ (let P : ℕ → Bool → ℕ → Type 0 = λ t v y. Comes (record { time = t; between = v; link = y }) e in
                let B : Bool → Type 0 = λ v. P (arrival n p s'.times m) v m in
                let T : ℕ → Type 0 = λ t. P t x.between m in
                let Y : ℕ → Type 0 = λ y. P x.time x.between y in
                subst B (d.between ∙ ap not off) (subst T (sym same) (subst Y (sym z) (popped.first e o))))
            | inr o ↦ comes_sooner (receipt_of n p s' m) e (let a = f.0 in let b = later e o in omega (arith, a, b, same))
          ]

  -- ---- no sum is past the whole
  pub room_on : Step → (q q' q'' : List Event) → (sum : ℕ) → HasRoom n p s q → Popped q x q' → Settled p s' There q' q''
      → rest n p s' + sum ≡ rest n p s → at + rest n p s' ≤ in_turn n p
      → ((r : ℕ) → get_or s'.receivers r 0 + rest n p s' ≤ in_turn n p) → HasRoom n p s' q''
  room_on k q q' q'' sum room popped settled less fits receivers = record {
    cells = cells;
    senders = λ r. let a = room.senders r in let b = k.senders r in omega (arith, a, b, less);
    receivers = receivers;
    queue = λ e w. elim (settled.only e w) [
      | inl o ↦ (let a = room.queue e (popped.kept e o) in omega (arith, a, less))
      | inr o ↦ (let a = o.time in let b = cells There in omega (arith, a, b))
    ];
  }
    where
      cells : (c : ℕ) → cell_time s' c + rest n p s' ≤ in_turn n p
      cells c = at' (same_or_not c There)
        where
          at' : (c ≡ There) ⊎ (c ≡ There → ⊥) → cell_time s' c + rest n p s' ≤ in_turn n p
          at' (inl e) =
              let P : ℕ → Type 0 = λ z. cell_time s' z + rest n p s' ≤ in_turn n p in
              let a = k.cell_there in let b = room.cells There in
              subst P (sym e) (omega (arith, a, b, less, fits))
          at' (inr ne) = let a = k.cells c ne in let b = room.cells c in omega (arith, a, b, less)

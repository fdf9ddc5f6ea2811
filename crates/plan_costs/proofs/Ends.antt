-- The pass before anything is sent, and once nothing is due.
use Rattle.std.proofs.Common.{ℕ, zero, suc, Bool, true, false, cond, not, ◌&&◌, ◌==◌, nat_lt, ◌≡◌, ◌<◌, ◌+◌, ◌⊎◌, inl, inr, List, [], ◌∷◌}
use Rattle.std.proofs.Common.{length, get_or, filter, replicate, sum_by, arith}
use Rattle.std.proofs.Common.{refl, sym, ◌∙◌, ap}
use Rattle.std.proofs.lemmas.Bool.{ltb-true, ltb-false}
use Rattle.std.proofs.lemmas.List.{length-replicate}
use Rattle.std.proofs.lemmas.List.Sums.{sum_by-cons}
use Rattle.plan_core.specs.Plan.{Plan, all_links, cell, link}
use Rattle.plan_core.proofs.Drawing.{length-row}
use Rattle.plan_tables.specs.Tables.{from_rank, to_rank}
use Rattle.plan_tables.proofs.Passes.{get-row}
use Rattle.plan_costs.specs.declared.events.Event.{Event}
use Rattle.plan_costs.specs.declared.numbers.LogGp.{LogGp}
use Rattle.plan_costs.specs.declared.state.Stage.TheVariants.{Waiting}
use Rattle.plan_costs.specs.Soonest.{Before, IsSoonest}
use Rattle.plan_costs.specs.Times.{AreTimes, ComesTo, IsTimed, Precedes, alone, arrival, counted, in_turn, ready, received_at}
use Rattle.plan_costs.specs.Times.{received_through, sent_at, sent_through, stays}
use Rattle.plan_costs.specs.State.{StateOf, Filled, IsCounted, IsDue, IsPass, IsReceived, IsSent, Opens, Port, awaited_first, awaited_of}
use Rattle.plan_costs.specs.State.{awaits, cell_time, due_time, first, is_counted, is_sent, left_for, rest, rest_by, stage_of}
use Rattle.plan_costs.proofs.Ports.{same_or_not, soonest_same}
use Rattle.plan_costs.proofs.Sums.{no_sum, same_sum}
use Rattle.plan_costs.proofs.Counting.{awaits_else, awaits_none, clash, counted_sent}

-- ---- the beginning
pub zero_at : (n i : ℕ) → get_or {A = ℕ} (replicate n 0) i 0 ≡ 0
zero_at zero i = refl
zero_at (suc n) zero = refl
zero_at (suc n) (suc i) = zero_at n i

waiting_at : (n i : ℕ) → get_or (replicate n Waiting) i Waiting ≡ Waiting
waiting_at zero i = refl
waiting_at (suc n) zero = refl
waiting_at (suc n) (suc i) = waiting_at n i

count_filter : (t : ℕ → Bool) (xs : List ℕ) → sum_by (λ x. cond (t x) 1 0) xs ≡ length (filter t xs)
count_filter t [] = refl
count_filter t (x ∷ xs) = sum_by-cons (λ y. cond {A = ℕ} (t y) 1 0) x xs ∙ at (t x) (count_filter t xs)
  where
    at : (b : Bool) → sum_by (λ y. cond (t y) 1 0) xs ≡ length (filter t xs)
        → cond b 1 0 + sum_by (λ y. cond (t y) 1 0) xs ≡ length (cond b (x ∷ filter t xs) (filter t xs))
    at true e = omega (arith, e)
    at false e = omega (arith, e)

module _ (n : LogGp) (p : Plan) where
  waits : (l : ℕ) → stage_of (first p) l ≡ Waiting
  waits l = waiting_at (length p.links) l

  uncounted : (l : ℕ) → is_counted (stage_of (first p) l) ≡ true → ⊥
  uncounted l h = clash _ h (ap is_counted (waits l))

  not_sent : (l : ℕ) → is_sent (stage_of (first p) l) ≡ true → ⊥
  not_sent l h = clash _ h (ap is_sent (waits l))

  first_left : IsTimed p → (c : ℕ) → c < length p.cells → awaited_of (first p) c ≡ left_for p (first p) c
  first_left timed c h = get-row (awaited_first p) (length p.cells) c 0 h ∙ at (nat_lt c p.ranks) refl
    where
      at : (b : Bool) → nat_lt c p.ranks ≡ b → cond b 0 (cell p c).needs ≡ left_for p (first p) c
      at true e = sym (no_sum (awaits p (first p) c) 0 (length p.links) (λ j _ k. awaits_else p (first p) c j
          (λ z. let a = timed.go j (omega (arith, k)) in let b = ltb-true c p.ranks e in omega (arith, a, b, z))))
      at false e =
          timed.needs c h (ltb-false c p.ranks e)
          ∙ sym (count_filter (λ l. (link p l).target == c) (all_links p))
          ∙ sym (same_sum (λ l. cond ((link p l).target == c) 1 0) (awaits p (first p) c) 0 (length p.links)
          (λ j _ _. ap (λ v. cond (((link p j).target == c) && not (is_counted v)) 1 0) (waits j) ∙ whole ((link p j).target == c)))
        where
          whole : (b : Bool) → cond {A = ℕ} (b && true) 1 0 ≡ cond b 1 0
          whole true = refl
          whole false = refl

  none : (Q : ℕ → Type 0) (f : ℕ → ℕ) (t : ℕ) → ((m : ℕ) → Q m → ⊥) → t ≡ 0 → IsSoonest 0 Q f t
  none Q f t h e = record { from_then = omega arith; after = λ m q. absurd (h m q); prompt = inl e }

  no_port : (port : ℕ → ℕ) (P : ℕ → Type 0) (come start through free : ℕ → ℕ) → ((m : ℕ) → P m → ⊥) → ((r : ℕ) → free r ≡ 0)
      → Port port P come start through free
  no_port port P come start through free h e = record {
    starts = λ l q. absurd (h l q);
    frees = λ r. none (λ m. P m × (port m ≡ r)) through (free r) (λ m q. h m q.0) (e r);
  }

  rest_first : rest n p (first p) ≡ in_turn n p
  rest_first = same_sum (alone n p) (λ l. rest_by n p l (stage_of (first p) l)) 0 (length p.links) (λ j _ _. ap (rest_by n p j) (waits j))

  pub first_pass : IsTimed p → (q : List Event) → Filled p (first p) (length p.cells) q → IsPass n p (first p) q
  first_pass timed q filled = record {
    sizes = record {
      cells = length-replicate (length p.cells) 0;
      awaited = length-row (awaited_first p) 0 (length p.cells);
      sent = length-replicate (length p.links) 0;
      received = length-replicate (length p.links) 0;
      stages = length-replicate (length p.links) Waiting;
      senders = length-replicate p.ranks 0;
      receivers = length-replicate p.ranks 0;
    };
    flow = record {
      due = λ e h. due e (filled.due e h).1;
      queued = λ e d. filled.queued e (record {
        known = d.known;
        source = refl;
        reached = d.reached;
        time = d.time ∙ ap (due_time n p (first p) e.link) (waits e.link);
        between = d.between;
      }) (timed.tabled.sources e.link d.known);
      awaited = first_left timed;
      cells = λ c h. none (IsCounted p (first p) c) (counted n p (first p).times) (cell_time (first p) c)
          (λ m k. uncounted m k.counted) (zero_at (length p.cells) c);
      reached = λ l h k. absurd (not_sent l k);
      stay = λ l h w k. absurd (not_sent l k);
    };
    ordered = record {
      sent = λ m k. absurd (not_sent m k.sent);
      received = λ m k. absurd (uncounted m k.counted);
    };
    sends = no_port (from_rank p) (IsSent p (first p)) (ready p (first p).times) (sent_at (first p).times) (sent_through n p (first
        p).times)
        (λ r. get_or (first p).senders r 0) (λ m k. not_sent m k.sent) (zero_at p.ranks);
    receipts = no_port (to_rank p) (IsReceived p (first p)) (arrival n p (first p).times) (received_at (first p).times)
        (received_through n p (first p).times) (λ r. get_or (first p).receivers r 0) (λ m k. uncounted m k.counted) (zero_at p.ranks);
    room = record {
      cells = λ c. let a = zero_at (length p.cells) c in let r = rest_first in omega (arith, a, r);
      senders = λ i. let a = zero_at p.ranks i in let r = rest_first in omega (arith, a, r);
      receivers = λ i. let a = zero_at p.ranks i in let r = rest_first in omega (arith, a, r);
      queue = λ e h. let a = (filled.due e h).1.time in let z = zero_at (length p.cells) (link p e.link).source in let r = rest_first in
          omega (arith, a, z, r);
    };
  }
    where
      due : (e : Event) → Opens p (first p) (link p e.link).source e → IsDue n p (first p) e
      due e o = record {
        known = o.known;
        reached = o.reached;
        open_still = ap is_counted (waits e.link);
        time = o.time ∙ ap (due_time n p (first p) e.link) (sym (waits e.link));
        between = o.between;
      }

-- ---- the end
module _ (n : LogGp) (p : Plan) (s : StateOf) (timed : IsTimed p) (pass : IsPass n p s []) where
  -- nothing is due, so what is reached has sent all
  through_all : (l : ℕ) → l < length p.links → awaited_of s (link p l).source ≡ 0 → is_counted (stage_of s l) ≡ true
  through_all l h r = at (is_counted (stage_of s l)) refl
    where
      at : (b : Bool) → is_counted (stage_of s l) ≡ b → b ≡ true
      at true e = refl
      at false e = absurd (pass.flow.queued (record { time = due_time n p s l (stage_of s l); between = not (stays p l); link = l })
          (record { known = h; reached = r; open_still = e; time = refl; between = refl }))

  all_reached : (k c : ℕ) → c < k → c < length p.cells → awaited_of s c ≡ 0
  all_reached zero c h w = absurd (omega (arith, h))
  all_reached (suc k) c h w = pass.flow.awaited c w ∙ no_sum (awaits p s c) 0 (length p.links)
      (λ j _ u. each j (omega (arith, u)) (same_or_not (link p j).target c)
      (λ e. all_reached k (link p j).source (let r = timed.rising j (omega (arith, u)) in omega (arith, r, h, e))
      (timed.tabled.sources j (omega (arith, u)))))
    where
      each : (j : ℕ) → j < length p.links → ((link p j).target ≡ c) ⊎ ((link p j).target ≡ c → ⊥)
          → ((link p j).target ≡ c → awaited_of s (link p j).source ≡ 0) → awaits p s c j ≡ 0
      each j u (inl e) r = awaits_none p s c j (through_all j u (r e))
      each j u (inr ne) r = awaits_else p s c j ne

  all_counted : (l : ℕ) → l < length p.links → is_counted (stage_of s l) ≡ true
  all_counted l h = through_all l h (all_reached (length p.cells) (link p l).source (timed.tabled.sources l h) (timed.tabled.sources l h))

  is_all_sent : (l : ℕ) → l < length p.links → is_sent (stage_of s l) ≡ true
  is_all_sent l h = counted_sent (stage_of s l) (all_counted l h)

  pub pass_ends : AreTimes n p s.times
  pass_ends = record {
    cell_count = pass.sizes.cells;
    sent_count = pass.sizes.sent;
    received_count = pass.sizes.received;
    cells = λ c h. soonest_same 0 0 (IsCounted p s c) (ComesTo p c) (counted n p s.times) (counted n p s.times) (cell_time s c)
        (cell_time s c) (pass.flow.cells c h) refl refl (λ m k. record { known = k.known; there = k.there })
        (λ m k. record { known = k.known; there = k.there; counted = all_counted m k.known }) (λ m k. refl);
    at_once = λ l h w. let f = pass.flow.stay l h w (is_all_sent l h) in (f.1, f.2);
    sends = λ l h w. soonest_same (ready p s.times l) (ready p s.times l)
        (λ m. IsSent p s m × (from_rank p m ≡ from_rank p l) × Before (ready p s.times m) m (ready p s.times l) l)
        (λ m. Precedes p (from_rank p) (ready p s.times) m l) (sent_through n p s.times) (sent_through n p s.times) (sent_at s.times l)
        (sent_at s.times l) (pass.sends.starts l (record { known = h; between = w; sent = is_all_sent l h })) refl refl
        (λ m k. record { known = k.0.known; between = k.0.between; same = k.1; before = k.2 })
        (λ m k. (record { known = k.known; between = k.between; sent = is_all_sent m k.known }, k.same, k.before))
        (λ m k. refl);
    receipts = λ l h w. soonest_same (arrival n p s.times l) (arrival n p s.times l)
        (λ m. IsReceived p s m × (to_rank p m ≡ to_rank p l) × Before (arrival n p s.times m) m (arrival n p s.times l) l)
        (λ m. Precedes p (to_rank p) (arrival n p s.times) m l) (received_through n p s.times) (received_through n p s.times)
        (received_at s.times l) (received_at s.times l)
        (pass.receipts.starts l (record { known = h; between = w; counted = all_counted l h })) refl refl
        (λ m k. record { known = k.0.known; between = k.0.between; same = k.1; before = k.2 })
        (λ m k. (record { known = k.known; between = k.between; counted = all_counted m k.known }, k.same, k.before))
        (λ m k. refl);
  }

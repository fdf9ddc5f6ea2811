-- What a link takes, from the equations of its times.
use Rattle.std.proofs.Common.{ℕ, Bool, true, false, cond, ◌≡◌, ◌<◌, ◌≤◌, ◌+◌, ◌-◌, ◌^◌, length, get_or, max, arith, refl, ap, sym, ◌∙◌}
use Rattle.std.proofs.Common.{subst}
use Rattle.plan_core.specs.Plan.{Plan, link}
use Rattle.plan_costs.specs.declared.numbers.LogGp.{LogGp}
use Rattle.plan_costs.specs.Path.{IsCosted, nothing, spent_between, spent_by, whole}
use Rattle.plan_costs.specs.Times.{TimesOf, alone, counted, handling, ready, received_at, receiving, sending, sent_at, stays}
use Rattle.plan_costs.specs.Times.{wire_time}
use Rattle.plan_costs.proofs.Sums.{term_within}

pub link_fits : (n : LogGp) (p : Plan) (t : TimesOf) (l : ℕ) → IsCosted n p t → l < length p.links → alone n p l < 2 ^ 64
link_fits n p t l costed h =
    let a = term_within (alone n p) 0 (length p.links) l (omega arith) (omega (arith, h)) in
    let b = costed.small in
    omega (arith, a, b)

-- a link is counted no later than its target is reached
pub counted_within : (n : LogGp) (p : Plan) (t : TimesOf) (l : ℕ) → IsCosted n p t → l < length p.links
    → counted n p t l ≤ get_or t.cells (link p l).target 0
counted_within n p t l costed h =
    (costed.times.cells (link p l).target (costed.timed.tabled.targets l h)).after l (record { known = h; there = refl })

pub counted_between : (n : LogGp) (p : Plan) (t : TimesOf) (l : ℕ) → stays p l ≡ false
    → counted n p t l ≡ received_at t l + handling n p l
counted_between n p t l e = ap (λ (b : Bool). cond b (received_at t l) (received_at t l + handling n p l)) e

pub counted_home : (n : LogGp) (p : Plan) (t : TimesOf) (l : ℕ) → stays p l ≡ true → counted n p t l ≡ received_at t l
counted_home n p t l e = ap (λ (b : Bool). cond b (received_at t l) (received_at t l + handling n p l)) e

two_within : (o g w latency h m : ℕ) → o ≤ h → max o g + w + latency + max h (g + w) < m → o + o < m
two_within o g w latency h m a b = omega (arith, a, b)

-- both ends of a message
pub ends_fit : (n : LogGp) (p : Plan) (t : TimesOf) (l : ℕ) → IsCosted n p t → l < length p.links → stays p l ≡ false
    → n.overhead + n.overhead < 2 ^ 64
ends_fit n p t l costed h e =
    let a : cond false 0 (sending n p l + n.latency + receiving n p l) < 2 ^ 64 =
    subst (λ (b : Bool). cond b 0 (sending n p l + n.latency + receiving n p l) < 2 ^ 64) e (link_fits n p t l costed h) in
    two_within n.overhead n.gap (wire_time n p l) n.latency (handling n p l) (2 ^ 64) (omega arith) a

spans : (ready sent o w latency received h : ℕ) → ready ≤ sent → sent + (o + w + latency) ≤ received → o ≤ h
    → sent - ready + (o + o) + w + latency + (received - (sent + (o + w + latency))) + (h - o) + ready ≡ received + h
spans ready sent o w latency received h a b c = omega (arith, a, b, c)

whole_between : (n : LogGp) (p : Plan) (t : TimesOf) (l : ℕ) → IsCosted n p t → l < length p.links → stays p l ≡ false
    → whole (spent_between n p t l) + ready p t l ≡ counted n p t l
whole_between n p t l costed h e =
    spans (ready p t l) (sent_at t l) n.overhead (wire_time n p l) n.latency (received_at t l) (handling n p l)
    (costed.times.sends l h e).from_then (costed.times.receipts l h e).from_then (omega arith)
    ∙ sym (counted_between n p t l e)

whole_home : (n : LogGp) (p : Plan) (t : TimesOf) (l : ℕ) → IsCosted n p t → l < length p.links → stays p l ≡ true
    → whole nothing + ready p t l ≡ counted n p t l
whole_home n p t l costed h e =
    let a = (costed.times.at_once l h e).1 in
    let b = counted_home n p t l e in
    omega (arith, a, b)

-- it is all the time from the source to the count
pub whole_by : (n : LogGp) (p : Plan) (t : TimesOf) (l : ℕ) → IsCosted n p t → l < length p.links
    → whole (spent_by n p t l) + ready p t l ≡ counted n p t l
whole_by n p t l costed h = at (stays p l) refl
  where
    at : (b : Bool) → stays p l ≡ b → whole (cond b nothing (spent_between n p t l)) + ready p t l ≡ counted n p t l
    at true e = whole_home n p t l costed h e
    at false e = whole_between n p t l costed h e

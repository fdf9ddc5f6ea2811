-- The equations of a plan's times have one solution: by time, since each time is later than those that it rests on, or rests on a lower
-- cell's.
use Rattle.std.proofs.Common.{ℕ, zero, suc, Bool, true, false, ◌≡◌, ◌<◌, ◌≤◌, ◌+◌, ◌⊎◌, inl, inr, List, length, get_or, arith, refl, sym}
use Rattle.std.proofs.Common.{ap, ◌∙◌, [], ◌∷◌, ap₂, nat_lt, reverse, subst}
use Rattle.std.proofs.lemmas.Bool.{ltb-false, ltb-true}
use Rattle.std.proofs.lemmas.List.{ext_get_or, reverse-reverse}
use Rattle.plan_core.specs.Plan.{Plan, link}
use Rattle.plan_tables.specs.Tables.{from_rank, to_rank}
use Rattle.plan_costs.specs.declared.numbers.LogGp.{LogGp}
use Rattle.plan_costs.specs.declared.spent.Spent.{Spent}
use Rattle.plan_costs.specs.Path.{IsCritical, IsLastTo, IsLatest, LeadTo, PathOf, spent_on}
use Rattle.plan_costs.specs.Ranks.{AreRankTimes, IsOwn}
use Rattle.plan_costs.specs.Soonest.{Before, IsSoonest}
use Rattle.plan_costs.specs.Times.{AreTimes, ComesTo, IsTimed, Precedes, TimesOf, arrival, counted, handling, ready, received_at, receiving}
use Rattle.plan_costs.specs.Times.{received_through, sending, sent_at, sent_through, stays, travel}
use Rattle.plan_costs.proofs.Ports.{same_or_not}
use Rattle.plan_costs.proofs.Spending.{counted_between, counted_home}

-- ---- as soon as it may is one time

pub soonest_within : (from from' : ℕ) (A B : ℕ → Type 0) (f g : ℕ → ℕ) (x y : ℕ) → IsSoonest from A f x → IsSoonest from' B g y
    → from ≡ from' → ((m : ℕ) → A m → B m) → ((m : ℕ) → A m → g m ≡ f m) → x ≤ y
soonest_within from from' A B f g x y s t ef into same = at s.prompt
  where
    at : (x ≡ from) ⊎ ((m : ℕ) × A m × (f m ≡ x)) → x ≤ y
    at (inl e) = let a = t.from_then in omega (arith, a, e, ef)
    at (inr w) =
        let a = t.after w.0 (into w.0 w.1) in
        let b = same w.0 w.1 in
        let e = w.2 in
        omega (arith, a, b, e)

pub soonest_once : (from from' : ℕ) (A B : ℕ → Type 0) (f g : ℕ → ℕ) (x y : ℕ) → IsSoonest from A f x → IsSoonest from' B g y
    → from ≡ from' → ((m : ℕ) → A m → B m) → ((m : ℕ) → B m → A m) → ((m : ℕ) → A m → g m ≡ f m) → y ≡ x
soonest_once from from' A B f g x y s t ef into back same =
    let a = soonest_within from from' A B f g x y s t ef into same in
    let b = soonest_within from' from B A g f y x t s (sym ef) back (λ m h. sym (same m (back m h))) in
    omega (arith, a, b)

-- ---- how far one solution follows another

-- what comes about before this time in t comes about at the same time in u
record Follows (p : Plan) (t u : TimesOf) (time : ℕ) : Type 0 where
  cells : (c : ℕ) → c < length p.cells → get_or t.cells c 0 < time → get_or u.cells c 0 ≡ get_or t.cells c 0
  sent : (l : ℕ) → l < length p.links → stays p l ≡ false → sent_at t l < time → sent_at u l ≡ sent_at t l
  received : (l : ℕ) → l < length p.links → stays p l ≡ false → received_at t l < time → received_at u l ≡ received_at t l

record Can (n : LogGp) (p : Plan) (t u : TimesOf) : Type 0 where
  timed : IsTimed p
  some : 1 ≤ n.overhead
  one : AreTimes n p t
  other : AreTimes n p u

swapped : (n : LogGp) (p : Plan) (t u : TimesOf) → Can n p t u → Can n p u t
swapped n p t u can = record { timed = can.timed; some = can.some; one = can.other; other = can.one }

-- each span has some length
handles : (n : LogGp) (p : Plan) (l : ℕ) → n.overhead ≤ handling n p l
handles n p l = omega arith

-- ---- cells at this time, from the lowest on

-- a link to a cell that is reached by then
same_count : (n : LogGp) (p : Plan) (t u : TimesOf) (time k c m : ℕ) → Can n p t u → Follows p t u time
    → ((d : ℕ) → d < k → d < length p.cells → get_or t.cells d 0 < time + 1 → get_or u.cells d 0 ≡ get_or t.cells d 0) → c < k + 1
    → c < length p.cells → get_or t.cells c 0 < time + 1 → ComesTo p c m → counted n p u m ≡ counted n p t m
same_count n p t u time k c m can follows lower ck h early come = at (stays p m) refl
  where
    within : counted n p t m ≤ get_or t.cells c 0
    within = (can.one.cells c h).after m come

    at : (b : Bool) → stays p m ≡ b → counted n p u m ≡ counted n p t m
    at true e =
        let a = (can.one.at_once m come.known e).1 in
        let b = (can.other.at_once m come.known e).1 in
        let d = counted_home n p t m e in
        let f = counted_home n p u m e in
        let r = can.timed.rising m come.known in
        let w = come.there in
        let low : (link p m).source < k = omega (arith, r, w, ck) in
        let v = within in
        let soon : get_or t.cells (link p m).source 0 < time + 1 = omega (arith, a, d, v, early) in
        let same = lower (link p m).source low (can.timed.tabled.sources m come.known) soon in
        omega (arith, a, b, d, f, same)
    at false e =
        let d = counted_between n p t m e in
        let f = counted_between n p u m e in
        let v = within in
        let o = handles n p m in
        let one = can.some in
        let soon : received_at t m < time = omega (arith, d, v, early, o, one) in
        let same = follows.received m come.known e soon in
        omega (arith, d, f, same)

same_cells : (n : LogGp) (p : Plan) (t u : TimesOf) (time k : ℕ) → Can n p t u → Follows p t u time → (c : ℕ) → c < k
    → c < length p.cells → get_or t.cells c 0 < time + 1 → get_or u.cells c 0 ≡ get_or t.cells c 0
same_cells n p t u time zero can follows c ck h early = absurd (omega (arith, ck))
same_cells n p t u time (suc k) can follows c ck h early =
    soonest_once 0 0 (ComesTo p c) (ComesTo p c) (counted n p t) (counted n p u) (get_or t.cells c 0) (get_or u.cells c 0)
    (can.one.cells c h) (can.other.cells c h) refl (λ m come. come) (λ m come. come)
    (λ m come. same_count n p t u time k c m can follows (λ d dk. same_cells n p t u time k can follows d dk) (omega (arith, ck)) h early
    come)

-- ---- messages at this time

-- those that have a port first are the same
carried : (p : Plan) (port f g : ℕ → ℕ) (m l : ℕ) → Precedes p port f m l → g m ≡ f m → g l ≡ f l → Precedes p port g m l
carried p port f g m l first em el = record {
  known = first.known;
  between = first.between;
  same = first.same;
  before = elim first.before [ inl a ↦ inl (omega (arith, a, em, el)) | inr a ↦ (let e = a.0 in inr (omega (arith, e, em, el), a.1)) ];
}

no_later : (a m b l : ℕ) → Before a m b l → a ≤ b
no_later a m b l before = elim before [ inl x ↦ omega (arith, x) | inr x ↦ (let e = x.0 in omega (arith, e)) ]

same_sent : (n : LogGp) (p : Plan) (t u : TimesOf) (time l : ℕ) → Can n p t u → Follows p t u time → Follows p u t time
    → l < length p.links → stays p l ≡ false → sent_at t l < time + 1 → sent_at u l ≡ sent_at t l
same_sent n p t u time l can follows back h e early =
    soonest_once (ready p t l) (ready p u l) (λ m. Precedes p (from_rank p) (ready p t) m l) (λ m. Precedes p (from_rank p) (ready p u) m l)
    (sent_through n p t) (sent_through n p u) (sent_at t l) (sent_at u l) (can.one.sends l h e) (can.other.sends l h e) (sym same_l)
    (λ m first. carried p (from_rank p) (ready p t) (ready p u) m l first (into m first) same_l)
    (λ m first. carried p (from_rank p) (ready p u) (ready p t) m l first (out m first) (sym same_l))
    through
  where
    cells : (m : ℕ) → m < length p.links → ready p t m < time + 1 → ready p u m ≡ ready p t m
    cells m known soon = same_cells n p t u time (length p.cells) can follows (link p m).source (can.timed.tabled.sources m known)
        (can.timed.tabled.sources m known) soon

    cells_back : (m : ℕ) → m < length p.links → ready p u m < time + 1 → ready p t m ≡ ready p u m
    cells_back m known soon = same_cells n p u t time (length p.cells) (swapped n p t u can) back (link p m).source
        (can.timed.tabled.sources m known) (can.timed.tabled.sources m known) soon

    same_l : ready p u l ≡ ready p t l
    same_l = cells l h (let a = (can.one.sends l h e).from_then in omega (arith, a, early))

    into : (m : ℕ) → Precedes p (from_rank p) (ready p t) m l → ready p u m ≡ ready p t m
    into m first =
        let a = no_later (ready p t m) m (ready p t l) l first.before in
        let b = (can.one.sends l h e).from_then in
        cells m first.known (omega (arith, a, b, early))

    out : (m : ℕ) → Precedes p (from_rank p) (ready p u) m l → ready p t m ≡ ready p u m
    out m first =
        let a = no_later (ready p u m) m (ready p u l) l first.before in
        let b = (can.one.sends l h e).from_then in
        let d = same_l in
        cells_back m first.known (omega (arith, a, b, d, early))

    spans : (m : ℕ) → n.overhead ≤ sending n p m
    spans m = omega arith

    through : (m : ℕ) → Precedes p (from_rank p) (ready p t) m l → sent_through n p u m ≡ sent_through n p t m
    through m first =
        let a = (can.one.sends l h e).after m first in
        let o = spans m in
        let one = can.some in
        let soon : sent_at t m < time = omega (arith, a, o, one, early) in
        ap (λ (v : ℕ). v + sending n p m) (follows.sent m first.known first.between soon)

same_received : (n : LogGp) (p : Plan) (t u : TimesOf) (time l : ℕ) → Can n p t u → Follows p t u time → Follows p u t time
    → l < length p.links → stays p l ≡ false → received_at t l < time + 1 → received_at u l ≡ received_at t l
same_received n p t u time l can follows back h e early =
    soonest_once (arrival n p t l) (arrival n p u l) (λ m. Precedes p (to_rank p) (arrival n p t) m l)
    (λ m. Precedes p (to_rank p) (arrival n p u) m l) (received_through n p t) (received_through n p u) (received_at t l) (received_at u l)
    (can.one.receipts l h e) (can.other.receipts l h e) (sym same_l)
    (λ m first. carried p (to_rank p) (arrival n p t) (arrival n p u) m l first (into m first) same_l)
    (λ m first. carried p (to_rank p) (arrival n p u) (arrival n p t) m l first (out m first) (sym same_l))
    through
  where
    travels : (m : ℕ) → n.overhead ≤ travel n p m
    travels m = omega arith

    arrives : (m : ℕ) → m < length p.links → stays p m ≡ false → arrival n p t m < time + 1 → arrival n p u m ≡ arrival n p t m
    arrives m known away soon =
        let o = travels m in
        let one = can.some in
        ap (λ (v : ℕ). v + travel n p m) (follows.sent m known away (omega (arith, o, one, soon)))

    arrives_back : (m : ℕ) → m < length p.links → stays p m ≡ false → arrival n p u m < time + 1 → arrival n p t m ≡ arrival n p u m
    arrives_back m known away soon =
        let o = travels m in
        let one = can.some in
        ap (λ (v : ℕ). v + travel n p m) (back.sent m known away (omega (arith, o, one, soon)))

    same_l : arrival n p u l ≡ arrival n p t l
    same_l = arrives l h e (let a = (can.one.receipts l h e).from_then in omega (arith, a, early))

    into : (m : ℕ) → Precedes p (to_rank p) (arrival n p t) m l → arrival n p u m ≡ arrival n p t m
    into m first =
        let a = no_later (arrival n p t m) m (arrival n p t l) l first.before in
        let b = (can.one.receipts l h e).from_then in
        arrives m first.known first.between (omega (arith, a, b, early))

    out : (m : ℕ) → Precedes p (to_rank p) (arrival n p u) m l → arrival n p t m ≡ arrival n p u m
    out m first =
        let a = no_later (arrival n p u m) m (arrival n p u l) l first.before in
        let b = (can.one.receipts l h e).from_then in
        let d = same_l in
        arrives_back m first.known first.between (omega (arith, a, b, d, early))

    through : (m : ℕ) → Precedes p (to_rank p) (arrival n p t) m l → received_through n p u m ≡ received_through n p t m
    through m first =
        let a = (can.one.receipts l h e).after m first in
        let o = handles n p m in
        let w : handling n p m ≤ receiving n p m = omega arith in
        let one = can.some in
        let soon : received_at t m < time = omega (arith, a, o, w, one, early) in
        ap (λ (v : ℕ). v + receiving n p m) (follows.received m first.known first.between soon)

-- ---- all times

further : (n : LogGp) (p : Plan) (t u : TimesOf) (time : ℕ) → Can n p t u → Follows p t u time → Follows p u t time
    → Follows p t u (time + 1)
further n p t u time can follows back = record {
  cells = λ c h early. same_cells n p t u time (length p.cells) can follows c h h early;
  sent = λ l h e early. same_sent n p t u time l can follows back h e early;
  received = λ l h e early. same_received n p t u time l can follows back h e early;
}

nothing_yet : (p : Plan) (t u : TimesOf) → Follows p t u 0
nothing_yet p t u = record {
  cells = λ c h early. absurd (omega (arith, early));
  sent = λ l h e early. absurd (omega (arith, early));
  received = λ l h e early. absurd (omega (arith, early));
}

together : (n : LogGp) (p : Plan) (t u : TimesOf) (time : ℕ) → Can n p t u → Follows p t u time × Follows p u t time
together n p t u zero can = (nothing_yet p t u, nothing_yet p u t)
together n p t u (suc time) can = at (together n p t u time can)
  where
    is : time + 1 ≡ suc time
    is = omega arith

    at : Follows p t u time × Follows p u t time → Follows p t u (suc time) × Follows p u t (suc time)
    at both = (
      subst (λ (v : ℕ). Follows p t u v) is (further n p t u time can both.0 both.1),
      subst (λ (v : ℕ). Follows p u t v) is (further n p u t time (swapped n p t u can) both.1 both.0),
    )

once_cell : (n : LogGp) (p : Plan) (t u : TimesOf) → Can n p t u → (c : ℕ) → c < length p.cells → get_or u.cells c 0 ≡ get_or t.cells c 0
once_cell n p t u can c h = (together n p t u (get_or t.cells c 0 + 1) can).0.cells c h (omega arith)

once_sent : (n : LogGp) (p : Plan) (t u : TimesOf) → Can n p t u → (l : ℕ) → l < length p.links → sent_at u l ≡ sent_at t l
once_sent n p t u can l h = at (stays p l) refl
  where
    at : (b : Bool) → stays p l ≡ b → sent_at u l ≡ sent_at t l
    at true e =
        (can.other.at_once l h e).0 ∙ once_cell n p t u can (link p l).source (can.timed.tabled.sources l h) ∙ sym (can.one.at_once l h e).0
    at false e = (together n p t u (sent_at t l + 1) can).0.sent l h e (omega arith)

once_received : (n : LogGp) (p : Plan) (t u : TimesOf) → Can n p t u → (l : ℕ) → l < length p.links → received_at u l ≡ received_at t l
once_received n p t u can l h = at (stays p l) refl
  where
    at : (b : Bool) → stays p l ≡ b → received_at u l ≡ received_at t l
    at true e =
        (can.other.at_once l h e).1 ∙ once_cell n p t u can (link p l).source (can.timed.tabled.sources l h) ∙ sym (can.one.at_once l h e).1
    at false e = (together n p t u (received_at t l + 1) can).0.received l h e (omega arith)

abbrev times_with : List ℕ → List ℕ → List ℕ → TimesOf
times_with cells sent received = record { cells = cells; sent = sent; received = received }

record_same : (t u : TimesOf) → u.cells ≡ t.cells → u.sent ≡ t.sent → u.received ≡ t.received → u ≡ t
record_same t u a b d =
    ap₂ (λ (c s : List ℕ). times_with c s u.received) a b ∙ ap (λ (r : List ℕ). times_with t.cells t.sent r) d

pub times_once : (n : LogGp) (p : Plan) (t u : TimesOf) → IsTimed p → 1 ≤ n.overhead → AreTimes n p t → AreTimes n p u → u ≡ t
times_once n p t u timed some one other =
    record_same t u
    (ext_get_or 0 u.cells t.cells (other.cell_count ∙ sym one.cell_count)
    (λ c h. once_cell n p t u can c (let a = other.cell_count in omega (arith, a, h))))
    (ext_get_or 0 u.sent t.sent (other.sent_count ∙ sym one.sent_count)
    (λ l h. once_sent n p t u can l (let a = other.sent_count in omega (arith, a, h))))
    (ext_get_or 0 u.received t.received (other.received_count ∙ sym one.received_count)
    (λ l h. once_received n p t u can l (let a = other.received_count in omega (arith, a, h))))
  where
    can : Can n p t u
    can = record { timed = timed; some = some; one = one; other = other }

-- ---- what rests on them

pub ranks_once : (p : Plan) (t : TimesOf) (k : ℕ) (xs ys : List ℕ) → AreRankTimes p t k xs → AreRankTimes p t k ys → ys ≡ xs
ranks_once p t k xs ys a b =
    ext_get_or 0 ys xs (b.count ∙ sym a.count)
    (λ r h. soonest_once 0 0 (IsOwn p k r) (IsOwn p k r) (λ c. get_or t.cells c 0) (λ c. get_or t.cells c 0) (get_or xs r 0) (get_or ys r 0)
    (a.times r) (b.times r) refl (λ m own. own) (λ m own. own) (λ m own. refl))

latest_once : (p : Plan) (t : TimesOf) (c d : ℕ) → IsLatest p t c → IsLatest p t d → d ≡ c
latest_once p t c d a b = elim (same_or_not d c) [ inl e ↦ e | inr ne ↦ absurd (apart ne) ]
  where
    apart : (d ≡ c → ⊥) → ⊥
    apart ne = by (nat_lt c d) refl
      where
        by : (v : Bool) → nat_lt c d ≡ v → ⊥
        by true lt =
            let x = b.first c (ltb-true c d lt) in
            let y = a.last d b.known in
            omega (arith, x, y)
        by false ge =
            let le = ltb-false c d ge in
            let x = a.first d (omega (arith, le, ne)) in
            let y = b.last c a.known in
            omega (arith, x, y)

last_once : (n : LogGp) (p : Plan) (t : TimesOf) (c l m : ℕ) → IsLastTo n p t c l → IsLastTo n p t c m → m ≡ l
last_once n p t c l m a b = elim (same_or_not m l) [ inl e ↦ e | inr ne ↦ absurd (apart ne) ]
  where
    apart : (m ≡ l → ⊥) → ⊥
    apart ne = by (nat_lt l m) refl
      where
        by : (v : Bool) → nat_lt l m ≡ v → ⊥
        by true lt =
            let x = b.first l a.comes (ltb-true l m lt) in
            let y = a.last m b.comes b.below in
            omega (arith, x, y)
        by false ge =
            let le = ltb-false l m ge in
            let x = a.first m b.comes (omega (arith, le, ne)) in
            let y = b.last l a.comes a.below in
            omega (arith, x, y)

lead_once : (n : LogGp) (p : Plan) (t : TimesOf) (c : ℕ) (ls ms : List ℕ) → LeadTo n p t c ls → LeadTo n p t c ms → ms ≡ ls
unfolding LeadTo
lead_once n p t c [] [] a b = refl
lead_once n p t c [] (m ∷ ms) a b = absurd (a m b.0.comes)
lead_once n p t c (l ∷ ls) [] a b = absurd (b l a.0.comes)
lead_once n p t c (l ∷ ls) (m ∷ ms) a b =
    let e = last_once n p t c l m a.0 b.0 in
    let r = lead_once n p t (link p l).source ls ms a.1 (subst (λ (v : ℕ). LeadTo n p t (link p v).source ms) e b.1) in
    ap₂ (λ (x : ℕ) (xs : List ℕ). x ∷ xs) e r

abbrev path_with : ℕ → List ℕ → Spent → PathOf
path_with end links spent = record { end = end; links = links; spent = spent }

same_path : (a b : PathOf) → b.end ≡ a.end → b.links ≡ a.links → b.spent ≡ a.spent → b ≡ a
same_path a b x y z =
    ap₂ (λ (e : ℕ) (ls : List ℕ). path_with e ls b.spent) x y ∙ ap (λ (v : Spent). path_with a.end a.links v) z

pub path_once : (n : LogGp) (p : Plan) (t : TimesOf) (a b : PathOf) → IsCritical n p t a → IsCritical n p t b → b ≡ a
path_once n p t a b x y = same_path a b ends links (y.spent ∙ ap (spent_on n p t) links ∙ sym x.spent)
  where
    ends : b.end ≡ a.end
    ends = latest_once p t a.end b.end x.latest y.latest

    turned : reverse b.links ≡ reverse a.links
    turned = lead_once n p t a.end (reverse a.links) (reverse b.links) x.links
        (subst (λ (v : ℕ). LeadTo n p t v (reverse b.links)) ends y.links)

    links : b.links ≡ a.links
    links = sym (reverse-reverse b.links) ∙ ap reverse turned ∙ reverse-reverse a.links

-- What comes last, link by link, and the walk back along it.
use Rattle.std.proofs.Common.{ℕ, zero, suc, Bool, true, false, cond, nat_lt, ◌≡◌, ◌<◌, ◌≤◌, ◌+◌, ◌-◌, ◌^◌, ◌⊎◌, inl, inr, List, [], ◌∷◌}
use Rattle.std.proofs.Common.{◌++◌, Option, Some, None}
use Rattle.std.proofs.Common.{length, get_or, set, replicate, reverse, append_assoc, arith, refl, ap, sym, ◌∙◌, subst}
use Rattle.std.proofs.lemmas.Bool.{ltb-false, ltb-true}
use Rattle.std.proofs.lemmas.List.{get_or-set_same, get_or-set_other, length-set, length-replicate, reverse-append, reverse-reverse}
use Rattle.std.proofs.lemmas.List.{append-nil, length-reverse, get_or-reverse}
use Rattle.std.proofs.lemmas.Grind.{common_steps}
use Rattle.plan_core.specs.Plan.{Plan, link}
use Rattle.plan_costs.specs.declared.numbers.LogGp.{LogGp}
use Rattle.plan_costs.specs.declared.spent.Spent.{Spent}
use Rattle.plan_costs.specs.Lasts.{AreLast, IsLastBelow, IsLatestBelow, later_link}
use Rattle.plan_costs.specs.Path.{IsCosted, IsCritical, LeadTo, nothing, plus, spent_by, spent_on, whole}
use Rattle.std.specs.Prelude.{IfSome}
use Rattle.plan_costs.specs.Soonest.{IsSoonest}
use Rattle.plan_costs.specs.Times.{ComesTo, TimesOf, counted}
use Rattle.plan_costs.proofs.Ports.{same_or_not}
use Rattle.plan_costs.proofs.Spending.{whole_by}

-- ---- cells

pub latest_more : (p : Plan) (t : TimesOf) (k c new : ℕ) → IsLatestBelow p t k c → k < length p.cells
    → new ≡ cond (nat_lt (get_or t.cells c 0) (get_or t.cells k 0)) k c → IsLatestBelow p t (k + 1) new
latest_more p t k c new so_far h e = at (nat_lt (get_or t.cells c 0) (get_or t.cells k 0)) refl
  where
    time : ℕ → ℕ
    time d = get_or t.cells d 0

    at : (b : Bool) → nat_lt (time c) (time k) ≡ b → IsLatestBelow p t (k + 1) new
    at true lt =
        let l : time c < time k = ltb-true (time c) (time k) lt in
        let is : new ≡ k = e ∙ ap (λ (b : Bool). cond b k c) lt in
        subst (λ (d : ℕ). IsLatestBelow p t (k + 1) d) (sym is) (record {
          known = h;
          last = λ d u. elim (same_or_not d k) [
            | inl z ↦ let q = ap time z in omega (arith, q)
            | inr ne ↦ let a = so_far.last d (omega (arith, u, ne)) in omega (arith, a, l)
          ];
          first = λ d u. let a = so_far.last d u in omega (arith, a, l);
        })
    at false ge =
        let l : time k ≤ time c = ltb-false (time c) (time k) ge in
        let is : new ≡ c = e ∙ ap (λ (b : Bool). cond b k c) ge in
        subst (λ (d : ℕ). IsLatestBelow p t (k + 1) d) (sym is) (record {
          known = so_far.known;
          last = λ d u. elim (same_or_not d k) [
            | inl z ↦ let q = ap time z in omega (arith, q, l)
            | inr ne ↦ so_far.last d (omega (arith, u, ne))
          ];
          first = so_far.first;
        })

-- ---- links

pub no_links : (n : LogGp) (p : Plan) (t : TimesOf) (last : List (Option ℕ)) → last ≡ replicate (length p.cells) None → AreLast n p t 0 last
no_links n p t last e = record {
  count = ap length e ∙ length-replicate (length p.cells) None;
  links = λ c lt. subst (λ (o : Option ℕ). IsLastBelow n p t 0 c o)
      (sym (ap (λ (v : List (Option ℕ)). get_or v c None) e ∙ none_at (length p.cells) c))
      (λ l comes below. absurd (omega (arith, below)));
}
  where
    none_at : (k i : ℕ) → get_or {A = Option ℕ} (replicate k None) i None ≡ None
    none_at zero i = refl
    none_at (suc k) zero = refl
    none_at (suc k) (suc i) = none_at k i

pub last_more : (n : LogGp) (p : Plan) (t : TimesOf) (k : ℕ) (old new : List (Option ℕ)) → AreLast n p t k old → k < length p.links
    → (link p k).target < length p.cells
    → new ≡ set old (link p k).target (later_link n p t k (get_or old (link p k).target None)) → AreLast n p t (k + 1) new
last_more n p t k old new so_far h within e = record {
  count = ap length e ∙ length-set old goal_ (later_link n p t k (get_or old goal_ None)) ∙ so_far.count;
  links = λ c lt. at c lt (same_or_not c goal_);
}
  where
    goal_ : ℕ
    goal_ = (link p k).target

    comes : ComesTo p goal_ k
    comes = record { known = h; there = refl }

    here : (o : Option ℕ) → IsLastBelow n p t k goal_ o → IsLastBelow n p t (k + 1) goal_ (later_link n p t k o)
    here None none = record { comes = comes; below = omega arith; last = of; first = λ m come lt. absurd (none m come lt) }
      where
        of : (m : ℕ) → ComesTo p goal_ m → m < k + 1 → counted n p t m ≤ counted n p t k
        of m come lt = elim (same_or_not m k) [
          | inl z ↦ let q = ap (counted n p t) z in omega (arith, q)
          | inr ne ↦ absurd (none m come (omega (arith, lt, ne)))
        ]
    here (Some m) known = by (nat_lt (counted n p t m) (counted n p t k)) refl
      where
        by : (b : Bool) → nat_lt (counted n p t m) (counted n p t k) ≡ b → IsLastBelow n p t (k + 1) goal_ (cond b (Some k) (Some m))
        by true is = record {
          comes = comes;
          below = omega arith;
          last = most;
          first = λ j come lt. let a = known.last j come lt in omega (arith, a, l);
        }
          where
            l : counted n p t m < counted n p t k
            l = ltb-true (counted n p t m) (counted n p t k) is

            most : (j : ℕ) → ComesTo p goal_ j → j < k + 1 → counted n p t j ≤ counted n p t k
            most j come lt = elim (same_or_not j k) [
              | inl z ↦ let q = ap (counted n p t) z in omega (arith, q)
              | inr ne ↦ let a = known.last j come (omega (arith, lt, ne)) in omega (arith, a, l)
            ]
        by false is = record {
          comes = known.comes;
          below = (let a = known.below in omega (arith, a));
          last = most;
          first = known.first;
        }
          where
            l : counted n p t k ≤ counted n p t m
            l = ltb-false (counted n p t m) (counted n p t k) is

            most : (j : ℕ) → ComesTo p goal_ j → j < k + 1 → counted n p t j ≤ counted n p t m
            most j come lt = elim (same_or_not j k) [
              | inl z ↦ let q = ap (counted n p t) z in omega (arith, q, l)
              | inr ne ↦ known.last j come (omega (arith, lt, ne))
            ]

    other : (c : ℕ) (o : Option ℕ) → (c ≡ goal_ → ⊥) → IsLastBelow n p t k c o → IsLastBelow n p t (k + 1) c o
    other c None ne none = λ l come lt. elim (same_or_not l k) [
      | inl z ↦ absurd (ne (sym come.there ∙ ap (λ (v : ℕ). (link p v).target) z))
      | inr apart ↦ none l come (omega (arith, lt, apart))
    ]
    other c (Some m) ne known = record {
      comes = known.comes;
      below = (let a = known.below in omega (arith, a));
      last = most;
      first = known.first;
    }
      where
        most : (j : ℕ) → ComesTo p c j → j < k + 1 → counted n p t j ≤ counted n p t m
        most j come lt = elim (same_or_not j k) [
          | inl z ↦ absurd (ne (sym come.there ∙ ap (λ (v : ℕ). (link p v).target) z))
          | inr apart ↦ known.last j come (omega (arith, lt, apart))
        ]

    at : (c : ℕ) → c < length p.cells → (c ≡ goal_) ⊎ (c ≡ goal_ → ⊥) → IsLastBelow n p t (k + 1) c (get_or new c None)
    at c lt (inl z) =
        let P : ℕ → Type 0 = λ y. IsLastBelow n p t (k + 1) y (get_or new y None) in
        let room : goal_ < length old = let q = so_far.count in omega (arith, q, within) in
        let is : get_or new goal_ None ≡ later_link n p t k (get_or old goal_ None) =
        ap (λ (v : List (Option ℕ)). get_or v goal_ None) e ∙ get_or-set_same old goal_ _ None room in
        subst P (sym z) (subst (λ (o : Option ℕ). IsLastBelow n p t (k + 1) goal_ o) (sym is)
        (here (get_or old goal_ None) (so_far.links goal_ within)))
    at c lt (inr ne) =
        let is : get_or new c None ≡ get_or old c None =
        ap (λ (v : List (Option ℕ)). get_or v c None) e ∙ get_or-set_other old goal_ c _ None ne in
        subst (λ (o : Option ℕ). IsLastBelow n p t (k + 1) c o) (sym is) (other c (get_or old c None) ne (so_far.links c lt))

-- the one before is a link
pub last_known : (n : LogGp) (p : Plan) (t : TimesOf) (k c : ℕ) (o : Option ℕ) → k ≤ length p.links → IsLastBelow n p t k c o
    → IfSome o (λ m. m < length p.links)
last_known n p t k c None few none = tt
last_known n p t k c (Some m) few known = known.comes.known

-- ---- the walk back

-- links walked so far, from cell `end` back to cell c, and what they take
pub record Walking (n : LogGp) (p : Plan) (t : TimesOf) (end c : ℕ) (links : List ℕ) (spent : Spent) : Type 0 where
  pub known : c < length p.cells
  pub each : (i : ℕ) → i < length links → get_or links i 0 < length p.links
  pub lead : (rest : List ℕ) → LeadTo n p t c rest → LeadTo n p t end (links ++ rest)
  pub sum : spent ≡ spent_on n p t (reverse links)
  pub time : whole spent + get_or t.cells c 0 ≡ get_or t.cells end 0

walk_begun : (n : LogGp) (p : Plan) (t : TimesOf) (end : ℕ) → end < length p.cells → Walking n p t end end [] nothing
unfolding spent_on
walk_begun n p t end h = record {
  known = h;
  each = λ i below. absurd (omega (arith, below));
  lead = λ rest leads. leads;
  sum = refl;
  time = omega arith;
}

pub walk_first : (n : LogGp) (p : Plan) (t : TimesOf) (end : ℕ) (links : List ℕ) (spent : Spent) → end < length p.cells → links ≡ []
    → spent ≡ nothing → Walking n p t end end links spent
walk_first n p t end links spent h el es =
    subst (λ (ls : List ℕ). Walking n p t end end ls spent) (sym el)
    (subst (λ (s : Spent). Walking n p t end end [] s) (sym es) (walk_begun n p t end h))

-- the last link is counted as its cell is reached
last_time : (n : LogGp) (p : Plan) (t : TimesOf) (c l : ℕ) → IsCosted n p t → c < length p.cells
    → IsLastBelow n p t (length p.links) c (Some l) → counted n p t l ≡ get_or t.cells c 0
last_time n p t c l costed h known = at s.prompt
  where
    s : IsSoonest 0 (ComesTo p c) (counted n p t) (get_or t.cells c 0)
    s = costed.times.cells c h

    at : (get_or t.cells c 0 ≡ 0) ⊎ ((m : ℕ) × ComesTo p c m × (counted n p t m ≡ get_or t.cells c 0))
        → counted n p t l ≡ get_or t.cells c 0
    at (inl e) = let a = s.after l known.comes in omega (arith, a, e)
    at (inr m) =
        let a = s.after l known.comes in
        let b = known.last m.0 m.1 m.1.known in
        let e = m.2 in
        omega (arith, a, b, e)

-- what the next link takes has room
pub walk_fits : (n : LogGp) (p : Plan) (t : TimesOf) (end c l : ℕ) (links : List ℕ) (spent : Spent) → IsCosted n p t
    → get_or t.cells end 0 < 2 ^ 64 → Walking n p t end c links spent → IsLastBelow n p t (length p.links) c (Some l)
    → whole (spent_by n p t l) + whole spent < 2 ^ 64
walk_fits n p t end c l links spent costed small w known =
    let a = whole_by n p t l costed known.comes.known in
    let b = last_time n p t c l costed w.known known in
    let d = w.time in
    sums (whole (spent_by n p t l)) (get_or t.cells (link p l).source 0) (counted n p t l) (get_or t.cells c 0) (whole spent)
    (get_or t.cells end 0) (2 ^ 64) a b d small
  where
    sums : (x r k c s e m : ℕ) → x + r ≡ k → k ≡ c → s + c ≡ e → e < m → x + s < m
    sums x r k c s e m p q r' lt = omega (arith, p, q, r', lt)

plus_whole : (a b : Spent) → whole (plus a b) ≡ whole a + whole b
plus_whole a b = omega arith

each_more : (p : Plan) (links : List ℕ) (l : ℕ) → ((i : ℕ) → i < length links → get_or links i 0 < length p.links)
    → l < length p.links → (i : ℕ) → i < length (links ++ l ∷ []) → get_or (links ++ l ∷ []) i 0 < length p.links
each_more p links l each h i below = grind (arith, common_steps)

each_turned : (p : Plan) (links : List ℕ) → ((i : ℕ) → i < length links → get_or links i 0 < length p.links)
    → (i : ℕ) → i < length (reverse links) → get_or (reverse links) i 0 < length p.links
each_turned p links each i below =
    let n = length-reverse links in
    let e = get_or-reverse links i 0 (omega (arith, n, below)) in
    let a = each (length links - 1 - i) (omega (arith, n, below)) in
    omega (arith, e, a)

pub walk_more : (n : LogGp) (p : Plan) (t : TimesOf) (end c l : ℕ) (links : List ℕ) (spent : Spent) → IsCosted n p t
    → Walking n p t end c links spent → IsLastBelow n p t (length p.links) c (Some l)
    → Walking n p t end (link p l).source (links ++ l ∷ []) (plus (spent_by n p t l) spent)
unfolding LeadTo spent_on
walk_more n p t end c l links spent costed w known = record {
  known = costed.timed.tabled.sources l known.comes.known;
  each = each_more p links l w.each known.comes.known;
  lead = λ rest leads. subst (λ (v : List ℕ). LeadTo n p t end v) (sym (append_assoc links (l ∷ []) rest))
      (w.lead (l ∷ rest) (known, leads));
  sum = ap (plus (spent_by n p t l)) w.sum ∙ ap (spent_on n p t) (sym (reverse-append links (l ∷ [])));
  time =
      let a = whole_by n p t l costed known.comes.known in
      let b = last_time n p t c l costed w.known known in
      let d = w.time in
      let e = plus_whole (spent_by n p t l) spent in
      sums (whole (plus (spent_by n p t l) spent)) (whole (spent_by n p t l)) (get_or t.cells (link p l).source 0) (counted n p t l)
      (get_or t.cells c 0) (whole spent) (get_or t.cells end 0) e a b d;
}
  where
    sums : (w x r k c s e : ℕ) → w ≡ x + s → x + r ≡ k → k ≡ c → s + c ≡ e → w + r ≡ e
    sums w x r k c s e a b d f = omega (arith, a, b, d, f)

-- the same, where what is known of the next link is told by the link that is counted last
pub walk_step : (n : LogGp) (p : Plan) (t : TimesOf) (end c l source : ℕ) (links new : List ℕ) (spent took sum : Spent) (o : Option ℕ)
    → IsCosted n p t → Walking n p t end c links spent → IsLastBelow n p t (length p.links) c o → o ≡ Some l → new ≡ links ++ l ∷ []
    → took ≡ spent_by n p t l → sum ≡ plus took spent → source ≡ (link p l).source → Walking n p t end source new sum
walk_step n p t end c l source links new spent took sum o costed w known eo en et es ec =
    subst (λ (v : ℕ). Walking n p t end v new sum) (sym ec)
    (subst (λ (v : List ℕ). Walking n p t end (link p l).source v sum) (sym en)
    (subst (λ (v : Spent). Walking n p t end (link p l).source (links ++ l ∷ []) v) (sym (es ∙ ap (λ (v : Spent). plus v spent) et))
    (walk_more n p t end c l links spent costed w (subst (λ (v : Option ℕ). IsLastBelow n p t (length p.links) c v) eo known))))

-- a cell to which nothing comes is reached at 0
first_time : (n : LogGp) (p : Plan) (t : TimesOf) (c : ℕ) → IsCosted n p t → c < length p.cells
    → ((l : ℕ) → ComesTo p c l → l < length p.links → ⊥) → get_or t.cells c 0 ≡ 0
first_time n p t c costed h none = at (costed.times.cells c h).prompt
  where
    at : (get_or t.cells c 0 ≡ 0) ⊎ ((m : ℕ) × ComesTo p c m × (counted n p t m ≡ get_or t.cells c 0)) → get_or t.cells c 0 ≡ 0
    at (inl e) = e
    at (inr m) = absurd (none m.0 m.1 m.1.known)

walked : (n : LogGp) (p : Plan) (t : TimesOf) (end c : ℕ) (links : List ℕ) (spent : Spent) → IsCosted n p t
    → IsLatestBelow p t (length p.cells) end → Walking n p t end c links spent → IsLastBelow n p t (length p.links) c None
    → IsCritical n p t (record { end = end; links = reverse links; spent = spent })
unfolding LeadTo
walked n p t end c links spent costed latest w none = record {
  latest = latest;
  links = subst (λ (v : List ℕ). LeadTo n p t end v) (append-nil links ∙ sym (reverse-reverse links))
      (w.lead [] (λ l come. none l come come.known));
  known = each_turned p links w.each;
  spent = w.sum;
  whole_time =
      let a = w.time in
      let b = first_time n p t c costed w.known none in
      sums (whole spent) (get_or t.cells c 0) (get_or t.cells end 0) a b;
}
  where
    sums : (s c e : ℕ) → s + c ≡ e → c ≡ 0 → s ≡ e
    sums s c e a b = omega (arith, a, b)

no_more : (o : Option ℕ) → ((l : ℕ) → o ≡ Some l → ⊥) → o ≡ None
no_more None none = refl
no_more (Some l) none = absurd (none l refl)

-- the same, where no link is counted last
pub walk_ends : (n : LogGp) (p : Plan) (t : TimesOf) (end c : ℕ) (links new : List ℕ) (spent : Spent) (o : Option ℕ) → IsCosted n p t
    → IsLatestBelow p t (length p.cells) end → Walking n p t end c links spent → IsLastBelow n p t (length p.links) c o
    → ((l : ℕ) → o ≡ Some l → ⊥) → new ≡ reverse links → IsCritical n p t (record { end = end; links = new; spent = spent })
walk_ends n p t end c links new spent o costed latest w known none en =
    subst (λ (v : List ℕ). IsCritical n p t (record { end = end; links = v; spent = spent })) (sym en)
    (walked n p t end c links spent costed latest w
    (subst (λ (v : Option ℕ). IsLastBelow n p t (length p.links) c v) (no_more o none) known))

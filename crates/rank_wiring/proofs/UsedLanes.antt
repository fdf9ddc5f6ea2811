-- The lanes of a plan, gathered one after the other.
use Rattle.std.proofs.Common.{ℕ, ◌+◌, ◌*◌, ◌<◌, ◌≤◌, ◌^◌, ◌≡◌, ◌==◌, ◌∙◌, ⊎_elim, Bool, true, false, List, [], ◌∷◌, ◌++◌, length, nat_lt}
use Rattle.std.proofs.Common.{sym, refl, ap, subst, arith, inl, append-nil, length-append, eqb-true, if◌then◌else◌}
use Rattle.std.proofs.lemmas.Bool.{cases_eq, ltb-true}
use mathlib.Core.Option.{some, some-ne-none}
use lib.ListN.{get_elem?}
use Rattle.ptl_types.specs.declared.headers.Lane.{Lane}
use Rattle.ptl_types.specs.declared.headers.Lane.TheVariants.{Request, Answer}
use Rattle.pair_wires.specs.declared.bounds.Bounds.{Bounds}
use Rattle.plan_core.specs.Members.{In}
use Rattle.plan_core.specs.Plan.{Plan, all_links, cell, link}
use Rattle.plan_core.specs.Sound.{SoundPlan}
use Rattle.plan_core.proofs.Links.{from_to-In}
use Rattle.plan_core.proofs.Lists.{In-filter_cases}
use Rattle.plan_core.specs.calls.Lanes.{goes_along, is_used_lane, lane_links, lane_messages}
use Rattle.plan_core.specs.calls.RankOps.{is_message}
use Rattle.cuts.specs.windows.Places.{lane_place}
use Rattle.worlds.proofs.parts.Placed.{lane_apart, lane_in}
use Rattle.worlds.proofs.opening.Rooms.{at_most-on_lane}
use Rattle.rank_slots.specs.Lists.{Each}
use Rattle.rank_slots.specs.Lanes.{AreLanes, HasLane, IsLane, bounds_if_used, bounds_on}
use Rattle.rank_slots.proofs.Gates.{both-true}
use Rattle.rank_slots.proofs.Snocs.{each_snoc, front_some, last_at, snoc_at}

-- ---- a lane that is used leads between ranks, and few messages go on it
some_of : (xs : List ℕ) → nat_lt 0 (length xs) ≡ true → (x : ℕ) × In x xs
some_of [] e = cc
some_of (x ∷ xs) e = (x, inl refl)

along-within : (p : Plan) (n : ℕ) → SoundPlan p n → (s d l : ℕ) → In l (lane_links p s d) → (s < p.ranks) × (d < p.ranks)
along-within p n sound s d l i =
    let f = In-filter_cases (goes_along p s d) l (all_links p) i in
    let k = from_to-In 0 (length p.links) l f.0 in
    let g = both-true (is_message p l) _ f.1 in
    let h = both-true ((cell p (link p l).source).rank == s) _ g.1 in
    let a = sound.links_sound l (let z = k.1 in omega (arith, z)) in
    let b = sound.ranks_known (link p l).source (let u = a.rising in let v = a.cells in omega (arith, u, v)) in
    let c = sound.ranks_known (link p l).target a.cells in
    (subst (λ r. r < p.ranks) (eqb-true _ _ h.0) b, subst (λ r. r < p.ranks) (eqb-true _ _ h.1) c)

pub used-within : (p : Plan) (n : ℕ) → SoundPlan p n → (s d : ℕ) (lane : Lane) → is_used_lane p s d lane ≡ true → (s < p.ranks) ×
    (d < p.ranks)
used-within p n sound s d Request e = let x = some_of (lane_links p s d) e in along-within p n sound s d x.0 x.1
used-within p n sound s d Answer e = at p.remote e
  where
    at : (b : Bool) → nat_lt 0 (if b then length (lane_links p d s) else 0) ≡ true → (s < p.ranks) × (d < p.ranks)
    at true e = let x = some_of (lane_links p d s) e in let y = along-within p n sound d s x.0 x.1 in (y.1, y.0)
    at false e = cc

pub at_most-messages : (p : Plan) (n : ℕ) → SoundPlan p n → (s d : ℕ) (lane : Lane) → lane_messages p s d lane < 2 ^ 32
at_most-messages p n sound s d lane = let a = at_most-on_lane p s d lane in let b = sound.few_together in omega (arith, a, b)

-- messages go on each lane of the plan that is used
pub lane-sends : (p : Plan) (b : Bounds) → IsLane p b → 0 < b.messages
lane-sends p b is =
    let sends = ltb-true 0 (lane_messages p b.source b.target b.lane) is.used in
    let same = ap (λ (c : Bounds). c.messages) is.bounds in
    omega (arith, sends, same)

-- ---- the lanes below a place
pub record AreBelow (p : Plan) (n : ℕ) (lanes : List Bounds) : Type 0 where
  pub each : Each (IsLane p) lanes
  pub at_most : length lanes ≤ n
  pub below : Each (λ (b : Bounds). lane_place p.ranks b.source b.target b.lane < n) lanes
  pub once : (i k : ℕ) (b c : Bounds) → get_elem? lanes i ≡ some b → get_elem? lanes k ≡ some c → b.source ≡ c.source →
      b.target ≡ c.target → b.lane ≡ c.lane → i ≡ k
  pub all : (s d : ℕ) (lane : Lane) → s < p.ranks → d < p.ranks → lane_place p.ranks s d lane < n → is_used_lane p s d lane ≡ true →
      HasLane lanes s d lane

pub none-below : (p : Plan) → AreBelow p 0 []
none-below p = record {
  each = λ i b e. absurd (some-ne-none b (sym e));
  at_most = omega arith;
  below = λ i b e. absurd (some-ne-none b (sym e));
  once = λ i k b c e. absurd (some-ne-none b (sym e));
  all = λ s d lane hs hd h. absurd (omega (arith, h));
}

two : {b : Bool} → b ≡ true → b ≡ false → ⊥
two e f = cc

module _ (p : Plan) (n : ℕ) (lanes : List Bounds) (h : AreBelow p n lanes) (s d : ℕ) (lane : Lane) (hs : s < p.ranks) (hd : d < p.ranks)
    (place : lane_place p.ranks s d lane ≡ n) where
  abbrev b : Bounds
  b = bounds_on p s d lane

  -- none of those is of this place
  apart : (i : ℕ) (c : Bounds) → get_elem? lanes i ≡ some c → c.source ≡ s → c.target ≡ d → c.lane ≡ lane → ⊥
  apart i c at es ed el =
      let low = h.below i c at in
      let same : lane_place p.ranks c.source c.target c.lane ≡ lane_place p.ranks s d lane =
      (λ j. lane_place p.ranks (es j) (ed j) (el j)) in
      omega (arith, low, same, place)

  has-more : (m : List Bounds) (t e : ℕ) (way : Lane) → HasLane lanes t e way → HasLane (lanes ++ m) t e way
  has-more m t e way x = record {
    at = x.at;
    bounds = x.bounds;
    there = front_some lanes m x.at x.bounds x.there;
    source =
        x.source;
    target = x.target;
    lane_is = x.lane_is;
  }

  more-used : is_used_lane p s d lane ≡ true → AreBelow p (n + 1) (lanes ++ b ∷ [])
  more-used used = record {
    each = each_snoc (IsLane p) lanes b h.each (record { source = hs; target = hd; used = used; bounds = refl });
    at_most = (let k = length-append lanes (b ∷ []) in let m = h.at_most in omega (arith, k, m));
    below = each_snoc (λ (c : Bounds). lane_place p.ranks c.source c.target c.lane < n + 1) lanes b (λ i c at. let k = h.below i c at in
        omega (arith, k)) (omega (arith, place));
    once = λ i k x y ax ay es ed el. ⊎_elim
        (λ (ox : get_elem? lanes i ≡ some x). ⊎_elim
        (λ (oy : get_elem? lanes k ≡ some y). h.once i k x y ox oy es ed el)
        (λ (ny : (k ≡ length lanes) × (b ≡ y)). absurd (apart i x ox (es ∙ sym (ap (λ (c : Bounds). c.source) ny.1))
        (ed ∙ sym (ap (λ (c : Bounds). c.target) ny.1)) (el ∙ sym (ap (λ (c : Bounds). c.lane) ny.1))))
        (snoc_at lanes b k y ay))
        (λ (nx : (i ≡ length lanes) × (b ≡ x)). ⊎_elim
        (λ (oy : get_elem? lanes k ≡ some y). absurd (apart k y oy (sym (ap (λ (c : Bounds). c.source) nx.1 ∙ es))
        (sym (ap (λ (c : Bounds). c.target) nx.1 ∙ ed)) (sym (ap (λ (c : Bounds). c.lane) nx.1 ∙ el))))
        (λ (ny : (k ≡ length lanes) × (b ≡ y)). nx.0 ∙ sym ny.0)
        (snoc_at lanes b k y ay))
        (snoc_at lanes b i x ax);
    all = λ t e way ht he low u. ⊎_elim
        (λ (is : lane_place p.ranks t e way ≡ n).
        let o = lane_apart p.ranks s d lane t e way hd he (place ∙ sym is) in
        record { at = length lanes; bounds = b; there = last_at lanes b; source = o.source; target = o.destination; lane_is = o.kind })
        (λ (not : lane_place p.ranks t e way ≡ n → ⊥). has-more (b ∷ []) t e way (h.all t e way ht he (omega (arith, low, not)) u))
        (cases_eq (lane_place p.ranks t e way) n);
  }

  more-unused : is_used_lane p s d lane ≡ false → AreBelow p (n + 1) (lanes ++ [])
  more-unused unused = record {
    each = subst (Each (IsLane p)) (sym (append-nil lanes)) h.each;
    at_most = (let k = ap (λ (l : List Bounds). length l) (append-nil lanes) in let m = h.at_most in omega (arith, k, m));
    below = subst (Each (λ (c : Bounds). lane_place p.ranks c.source c.target c.lane < n + 1)) (sym (append-nil lanes))
        (λ i c at. let k = h.below i c at in omega (arith, k));
    once = λ i k x y ax ay. h.once i k x y (ap (λ (l : List Bounds). get_elem? l i) (sym (append-nil lanes)) ∙ ax)
        (ap (λ (l : List Bounds). get_elem? l k) (sym (append-nil lanes)) ∙ ay);
    all = λ t e way ht he low u. ⊎_elim
        (λ (is : lane_place p.ranks t e way ≡ n).
        let o = lane_apart p.ranks t e way s d lane he hd (is ∙ sym place) in
        absurd (two (sym (λ j. is_used_lane p (o.source j) (o.destination j) (o.kind j)) ∙ u) unused))
        (λ (not : lane_place p.ranks t e way ≡ n → ⊥). has-more [] t e way (h.all t e way ht he (omega (arith, low, not)) u))
        (cases_eq (lane_place p.ranks t e way) n);
  }

  pub more-below : AreBelow p (n + 1) (lanes ++ bounds_if_used p s d lane)
  more-below = at (is_used_lane p s d lane) refl
    where
      at : (c : Bool) → is_used_lane p s d lane ≡ c → AreBelow p (n + 1) (lanes ++ (if c then b ∷ [] else []))
      at true e = more-used e
      at false e = more-unused e

-- both lanes of a pair
pub pair-below : (p : Plan) (n : ℕ) (lanes : List Bounds) → AreBelow p (2 * n) lanes → (s d : ℕ) → s < p.ranks → d < p.ranks →
    s * p.ranks + d ≡ n
    → AreBelow p (2 * (n + 1)) ((lanes ++ bounds_if_used p s d Request) ++ bounds_if_used p s d Answer)
pair-below p n lanes h s d hs hd is =
    let first = more-below p (2 * n) lanes h s d Request hs hd (omega (arith, is)) in
    let second = more-below p (2 * n + 1) (lanes ++ bounds_if_used p s d Request) first s d Answer hs hd (omega (arith, is)) in
    subst (λ m. AreBelow p m ((lanes ++ bounds_if_used p s d Request) ++ bounds_if_used p s d Answer)) (omega arith) second

-- all of them
pub all-lanes : (p : Plan) (inputs n : ℕ) (lanes : List Bounds) → SoundPlan p inputs → n ≡ p.ranks * p.ranks → AreBelow p (2 * n) lanes →
    AreLanes p lanes
all-lanes p inputs n lanes sound is h = record {
  each = h.each;
  once = h.once;
  all = λ s d lane used. let w = used-within p inputs sound s d lane used in
      h.all s d lane w.0 w.1 (let low = lane_in p.ranks s d lane w.0 w.1 in subst (λ m. lane_place p.ranks s d lane < 2 * m) (sym is) low)
      used;
}

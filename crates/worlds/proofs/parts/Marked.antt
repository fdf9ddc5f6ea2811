-- The counts of deliveries, when lanes changed and the counts that look at them were made anew.
use Rattle.std.proofs.Common.{ℕ, ◌&&◌, ◌*◌, ◌<◌, ◌≡◌, ◌∙◌, List, get_or, length, nat_lt, if◌then◌else◌, refl, sym, ap, ap₂, arith}
use Rattle.std.proofs.Math.ListN.{length-set}
use Rattle.ptl_types.specs.declared.headers.Lane.{Lane}
use Rattle.ptl_types.specs.declared.headers.Lane.TheVariants.{Request, Answer}
use Rattle.pair_wires.specs.Lanes.{Plain}
use Rattle.cuts.specs.windows.Places.{lane_place}
use Rattle.worlds.specs.parts.Layout.{lane_at}
use Rattle.worlds.specs.parts.Marks.{delivery_count, delivery_mark, lane_back, lane_may}
use Rattle.worlds.proofs.parts.Placed.{OneLane, back_back, lane_apart, lane_in, lanes_apart}
use Rattle.worlds.proofs.parts.Sets.{at_set}

module _ (n : ℕ) (lanes_after : List Plain) (window : ℕ) where
  abbrev mark : ℕ → ℕ → Lane → List ℕ → List ℕ
  mark a b lane xs = delivery_mark lanes_after n window a b lane xs

  pub mark_size : (a b : ℕ) (lane : Lane) (xs : List ℕ) → length (mark a b lane xs) ≡ length xs
  mark_size a b lane xs = length-set xs (lane_place n a b lane) (delivery_count lanes_after n window a b lane)

  pub marked_size : (s d : ℕ) (xs : List ℕ)
      → length (mark d s Answer (mark d s Request (mark s d Answer (mark s d Request xs)))) ≡ length xs
  marked_size s d xs =
      mark_size d s Answer (mark d s Request (mark s d Answer (mark s d Request xs)))
      ∙ mark_size d s Request (mark s d Answer (mark s d Request xs))
      ∙ mark_size s d Answer (mark s d Request xs)
      ∙ mark_size s d Request xs

  mark_right : (a b : ℕ) (lane : Lane) (xs : List ℕ) (q u : ℕ) (l : Lane) → a < n → b < n → u < n → length xs ≡ 2 * (n * n)
      → ((OneLane q u l a b lane → ⊥) → get_or xs (lane_place n q u l) 0 ≡ delivery_count lanes_after n window q u l)
      → get_or (mark a b lane xs) (lane_place n q u l) 0 ≡ delivery_count lanes_after n window q u l
  mark_right a b lane xs q u l ha hb hu size rest =
      let p = lane_in n a b lane ha hb in
      at_set (λ x. x ≡ delivery_count lanes_after n window q u l) xs (lane_place n a b lane) (lane_place n q u l)
      (delivery_count lanes_after n window a b lane) 0 (omega arith)
      (λ e. let o = lane_apart n q u l a b lane hu hb e in
      ap₂ (λ x y. delivery_count lanes_after n window x y lane) (sym o.source) (sym o.destination)
      ∙ ap (delivery_count lanes_after n window q u) (sym o.kind))
      (λ x. rest (λ o. x (ap₂ (λ i j. lane_place n i j l) o.source o.destination ∙ ap (lane_place n a b) o.kind)))

module _ (n : ℕ) (lanes : List Plain) (deliveries : List ℕ) (window : ℕ) (lanes_after : List Plain) (s d : ℕ) (hs : s < n) (hd : d < n)
    (wide : length deliveries ≡ 2 * (n * n))
    (right : (q u : ℕ) (l : Lane) → q < n → u < n → get_or deliveries (lane_place n q u l) 0 ≡ delivery_count lanes n window q u l)
    (apart : (a b : ℕ) (lane : Lane) → a < n → b < n → ((a ≡ s) × (b ≡ d) → ⊥) → ((a ≡ d) × (b ≡ s) → ⊥)
    → lane_at lanes_after (lane_place n a b lane) ≡ lane_at lanes (lane_place n a b lane)) where
  may_same : (q u : ℕ) (l : Lane) → q < n → u < n → ((q ≡ s) × (u ≡ d) → ⊥) → ((q ≡ d) × (u ≡ s) → ⊥)
      → lane_may lanes_after n window q u l ≡ lane_may lanes n window q u l
  may_same q u Answer hq hu x y = ap (λ (z : Plain). nat_lt 0 (length z.messages)) (apart q u Answer hq hu x y)
  may_same q u Request hq hu x y =
      ap₂ (λ (z w : Plain). nat_lt 0 (length z.messages) && nat_lt (length w.messages) window) (apart q u Request hq hu x y)
      (apart u q Answer hu hq (λ e. y (e.1, e.0)) (λ e. x (e.1, e.0)))

  pub deliveries_marked : (q u : ℕ) (l : Lane) → q < n → u < n
      → get_or (mark n lanes_after window d s Answer (mark n lanes_after window d s Request (mark n lanes_after window s d Answer
      (mark n lanes_after window s d Request deliveries)))) (lane_place n q u l) 0 ≡ delivery_count lanes_after n window q u l
  deliveries_marked q u l hq hu =
      let e1 = mark_size n lanes_after window s d Request deliveries ∙ wide in
      let e2 = mark_size n lanes_after window s d Answer (mark n lanes_after window s d Request deliveries) ∙ e1 in
      let e3 = mark_size n lanes_after window d s Request (mark n lanes_after window s d Answer (mark n lanes_after window s d Request
      deliveries)) ∙ e2 in
      mark_right n lanes_after window d s Answer (mark n lanes_after window d s Request (mark n lanes_after window s d Answer
      (mark n lanes_after window s d Request deliveries))) q u l hd hs hu e3
      (λ a. mark_right n lanes_after window d s Request (mark n lanes_after window s d Answer (mark n lanes_after window s d Request
      deliveries)) q u l hd
      hs hu e2
      (λ b. mark_right n lanes_after window s d Answer (mark n lanes_after window s d Request deliveries) q u l hs hd hu e1
      (λ c. mark_right n lanes_after window s d Request deliveries q u l hs hd hu wide
      (λ g. right q u l hq hu ∙ ap (λ t. if t then 1 else 0) (sym (may_same q u l hq hu (either s d l g c) (either d s l b a)))))))
    where
      either : (x y : ℕ) (l : Lane) → (OneLane q u l x y Request → ⊥) → (OneLane q u l x y Answer → ⊥) → (q ≡ x) × (u ≡ y) → ⊥
      either x y Request a b e = a (record { source = e.0; destination = e.1; kind = refl })
      either x y Answer a b e = b (record { source = e.0; destination = e.1; kind = refl })

module _ (n : ℕ) (lanes : List Plain) (deliveries : List ℕ) (window : ℕ) (lanes_after : List Plain) (s d : ℕ) (hs : s < n) (hd : d < n)
    (wide : length deliveries ≡ 2 * (n * n))
    (right : (q u : ℕ) (l : Lane) → q < n → u < n → get_or deliveries (lane_place n q u l) 0 ≡ delivery_count lanes n window q u l) where
  -- one request lane changed: no delivery but its own looks at it
  pub request_marked : ((a b : ℕ) (l : Lane) → a < n → b < n → (OneLane a b l s d Request → ⊥)
      → lane_at lanes_after (lane_place n a b l) ≡ lane_at lanes (lane_place n a b l))
      → (q u : ℕ) (l : Lane) → q < n → u < n
      → get_or (mark n lanes_after window s d Request deliveries) (lane_place n q u l) 0 ≡ delivery_count lanes_after n window q u l
  request_marked apart q u l hq hu =
      mark_right n lanes_after window s d Request deliveries q u l hs hd hu wide
      (λ x. right q u l hq hu ∙ ap (λ t. if t then 1 else 0) (sym (same l x)))
    where
      same : (l : Lane) → (OneLane q u l s d Request → ⊥) → lane_may lanes_after n window q u l ≡ lane_may lanes n window q u l
      same Answer x = ap (λ (z : Plain). nat_lt 0 (length z.messages)) (apart q u Answer hq hu x)
      same Request x =
          ap₂ (λ (z w : Plain). nat_lt 0 (length z.messages) && nat_lt (length w.messages) window) (apart q u Request hq hu x)
          (apart u q Answer hu hq (λ o. lanes_apart o.kind))

  -- a lane and the lane back changed: no deliveries but theirs look at them
  pub lane_marked : (lane : Lane)
      → ((a b : ℕ) (l : Lane) → a < n → b < n → (OneLane a b l s d lane → ⊥) → (OneLane a b l d s (lane_back lane) → ⊥)
      → lane_at lanes_after (lane_place n a b l) ≡ lane_at lanes (lane_place n a b l))
      → (q u : ℕ) (l : Lane) → q < n → u < n
      → get_or (mark n lanes_after window d s (lane_back lane) (mark n lanes_after window s d lane deliveries)) (lane_place n q u l) 0
      ≡ delivery_count lanes_after n window q u l
  lane_marked lane apart q u l hq hu =
      mark_right n lanes_after window d s (lane_back lane) (mark n lanes_after window s d lane deliveries) q u l hd hs hu
      (mark_size n lanes_after window s d lane deliveries ∙ wide)
      (λ y. mark_right n lanes_after window s d lane deliveries q u l hs hd hu wide
      (λ x. right q u l hq hu ∙ ap (λ t. if t then 1 else 0) (sym (same l x y))))
    where
      same : (l : Lane) → (OneLane q u l s d lane → ⊥) → (OneLane q u l d s (lane_back lane) → ⊥)
          → lane_may lanes_after n window q u l ≡ lane_may lanes n window q u l
      same Answer x y = ap (λ (z : Plain). nat_lt 0 (length z.messages)) (apart q u Answer hq hu x y)
      same Request x y =
          ap₂ (λ (z w : Plain). nat_lt 0 (length z.messages) && nat_lt (length w.messages) window) (apart q u Request hq hu x y)
          (apart u q Answer hu hq
          (λ o. y (record { source = o.destination; destination = o.source; kind = ap lane_back o.kind }))
          (λ o. x (record { source = o.destination; destination = o.source; kind = ap lane_back o.kind ∙ back_back lane })))

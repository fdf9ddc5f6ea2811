-- Which steps are possible, by the parts of a world.
use Rattle.std.proofs.Common.{ℕ, Bool, true, false, ◌&&◌, ◌<◌, ◌≡◌, ◌∙◌, List, [], ◌∷◌, refl, sym, ap, ap₂, subst, inl, inr, arith}
use Rattle.std.proofs.Common.{count_by, length, filter, flat_map, map, nat_lt, if◌then◌else◌, lt-ltb}
use Rattle.std.proofs.lemmas.Bool.{and_parts, ltb-false, ltb-true}
use Rattle.ptl_types.specs.Messages.{Sent}
use Rattle.ptl_types.specs.declared.headers.Lane.{Lane}
use Rattle.ptl_types.specs.declared.headers.Lane.TheVariants.{Request, Answer}
use Rattle.ni_model.specs.Ready.{is_ready, ready_numbers, target_at}
use Rattle.ni_model.specs.State.{Posted, State}
use Rattle.pair_wires.specs.Lanes.{Plain}
use Rattle.plan_core.proofs.Lists.{In-append_cases, In-filter, In-filter_cases, In-map, In-map_cases}
use Rattle.plan_core.specs.Members.{In}
use Rattle.plan_core.specs.Plan.{Plan, from_to}
use Rattle.plan_core.specs.Values.{Inputs}
use Rattle.cuts.specs.view.Slots.{Slots}
use Rattle.cuts.specs.histories.History.{is_start}
use Rattle.cuts.specs.histories.History.Local.{Start as Started, Receive as Received, Fire as Fired}
use Rattle.cuts.specs.histories.Moment.{IsPossible}
use Rattle.cuts.specs.histories.Plans.{system_of}
use Rattle.cuts.specs.histories.System.{System, state_at}
use Rattle.worlds.proofs.parts.Delivers.{rank-state}
use Rattle.cuts.proofs.orders.Choosing.{In-flat_cases, below}
use Rattle.cuts.specs.orders.Chosen.{Scene, deliveries_between, enabled_steps, firings_at, first_of, start_at}
use Rattle.cuts.specs.declared.orders.Step.{Step}
use Rattle.cuts.specs.declared.orders.Step.TheVariants.{Deliver, Fire, Start}
use Rattle.cuts.proofs.windows.Listed.{enabled_listed, possible_listed}
use Rattle.cuts.specs.windows.Possible.{is_possible, possible_steps}
use Rattle.rank_node.specs.Gates.{goes_out, may_go, open_numbers}
use Rattle.rank_node.specs.Node.{NodeState}
use Rattle.worlds.specs.parts.Keeps.{AgreeAll, IsWorld}
use Rattle.worlds.specs.declared.parts.traffic.Traffic.{Traffic}
use Rattle.worlds.specs.parts.Layout.{held_in, node_at, scene_of}
use Rattle.worlds.specs.parts.Marks.{lane_has, lane_may}
use Rattle.worlds.proofs.parts.Held.{held_here}
use Rattle.worlds.specs.Allowed.{Allows}
use Rattle.worlds.proofs.Places.{fires_are, may_be, rank_is}

-- what an enabled step is made of
abbrev pub IsOffered : System → Scene → Step → Type 0
IsOffered k z (Start r) = (r < k.count) × (count_by is_start (z.world r) ≡ 0)
IsOffered k z (Deliver s d lane) = (s < k.count) × (d < k.count) × (0 < length (z.held s d lane))
IsOffered k z (Fire r t) = (r < k.count) × In t (ready_numbers (state_at k z.world r))

module _ (k : System) (z : Scene) where
  start_offered : (r : ℕ) (x : Step) → r < k.count → In x (start_at z r) → IsOffered k z x
  start_offered r x h i = at (nat_lt 0 (count_by is_start (z.world r))) refl i
    where
      at : (b : Bool) → nat_lt 0 (count_by is_start (z.world r)) ≡ b → In x (if b then [] else Start r ∷ []) → IsOffered k z x
      at true e i = absurd i
      at false e (inl q) = let n = ltb-false 0 (count_by is_start (z.world r)) e in subst (IsOffered k z) q
          (let o : IsOffered k z (Start r) = (h, omega (arith, n)) in o)
      at false e (inr q) = absurd q

  delivery_offered : (s d : ℕ) (lane : Lane) (x : Step) → s < k.count → d < k.count → In x (first_of s d lane (z.held s d lane))
      → IsOffered k z x
  delivery_offered s d lane x hs hd i = at (z.held s d lane) refl i
    where
      at : (ms : List Sent) → z.held s d lane ≡ ms → In x (first_of s d lane ms) → IsOffered k z x
      at [] e i = absurd i
      at (m ∷ later) e (inl q) = let n = ap length e in subst (IsOffered k z) q
          (let o : IsOffered k z (Deliver s d lane) = (hs, hd, omega (arith, n)) in o)
      at (m ∷ later) e (inr q) = absurd q

  pub offered : (x : Step) → In x (enabled_steps k z) → IsOffered k z x
  offered x i = elim (In-append_cases x (flat_map (start_at z) (from_to 0 k.count)) _ i) [
    | inl j ↦ (let q = In-flat_cases (start_at z) (from_to 0 k.count) x j in start_offered q.0 x (below k.count q.0 q.1) q.2)
    | inr j ↦ elim (In-append_cases x (flat_map (λ s. flat_map (deliveries_between z s) (from_to 0 k.count)) (from_to 0 k.count))
        (flat_map (firings_at k z) (from_to 0 k.count)) j) [
          | inl l ↦ (let q = In-flat_cases (λ s. flat_map (deliveries_between z s) (from_to 0 k.count)) (from_to 0 k.count) x l in
              let u = In-flat_cases (deliveries_between z q.0) (from_to 0 k.count) x q.2 in
              elim (In-append_cases x (first_of q.0 u.0 Request (z.held q.0 u.0 Request)) (first_of q.0 u.0 Answer (z.held q.0 u.0 Answer))
              u.2) [
                | inl y ↦ delivery_offered q.0 u.0 Request x (below k.count q.0 q.1) (below k.count u.0 u.1) y
                | inr y ↦ delivery_offered q.0 u.0 Answer x (below k.count q.0 q.1) (below k.count u.0 u.1) y
              ])
          | inr l ↦ (let q = In-flat_cases (firings_at k z) (from_to 0 k.count) x l in
              let u = In-map_cases (Fire q.0) x (ready_numbers (state_at k z.world q.0)) q.2 in
              subst (IsOffered k z) u.2 (below k.count q.0 q.1, u.1))
        ]
  ]

fire_number : Step → ℕ
fire_number (Fire r t) = t
fire_number _ = 0

same_number : (r t u : ℕ) → Fire r u ≡ Fire r t → u ≡ t
unfolding fire_number
same_number r t u e = ap fire_number e

-- what is ready is so
pub ready_is : (s : State) (t : ℕ) → In t (ready_numbers s) → is_ready s t ≡ true
ready_is s t i = (In-filter_cases (is_ready s) t (map (λ (p : Posted). p.number) s.pending.waiting) i).1

module _ (p : Plan) (inputs : Inputs) (nodes : List NodeState) (traffic : Traffic)
    (world : IsWorld p inputs nodes traffic) (slots : ℕ → Slots)
    (agree : AgreeAll traffic.setting.ranks slots nodes) where
  abbrev n : ℕ
  n = traffic.setting.ranks

  abbrev lanes : List Plain
  lanes = traffic.lanes

  abbrev starts : List ℕ
  starts = traffic.starts

  abbrev deliveries : List ℕ
  deliveries = traffic.deliveries

  abbrev firings : List ℕ
  firings = traffic.firings

  abbrev window : ℕ
  window = traffic.setting.window

  abbrev ranks : System
  ranks = system_of p inputs slots

  abbrev z : Scene
  z = scene_of n nodes lanes

  abbrev steps : List Step
  steps = possible_steps ranks window z

  parts_of : (x : Step) → In x steps → IsOffered ranks z x × (is_possible ranks window z x ≡ true)
  parts_of x i = let q = In-filter_cases (is_possible ranks window z) x (enabled_steps ranks z) i in (offered ranks z x q.0, q.1)

  -- ---- starts
  pub start_waits : (r : ℕ) → In (Start r) steps → (r < n) × (count_by is_start (node_at nodes r).diary.locals ≡ 0)
  start_waits r i = let q = (parts_of (Start r) i).0 in let c = world.parts.count in (omega (arith, q.0, c), q.1)

  pub start_may : (r : ℕ) → r < n → count_by is_start (node_at nodes r).diary.locals ≡ 0 → In (Start r) steps
  start_may r h e = let c = world.parts.count in possible_listed ranks z window r Started (omega (arith, h, c)) e tt

  -- ---- deliveries
  pub lane_waits : (s d : ℕ) (lane : Lane) → In (Deliver s d lane) steps → (s < n) × (d < n) × (lane_may lanes n window s d lane ≡ true)
  lane_waits s d lane i =
      let q = parts_of (Deliver s d lane) i in
      let c = world.parts.count in
      let hs : s < n = omega (arith, q.0.0, c) in
      let hd : d < n = omega (arith, q.0.1, c) in (
        hs,
        hd,
        sym (may_be p inputs nodes traffic world slots agree s d lane hs hd)
            ∙ ap₂ (λ a b. a && b) (lt-ltb 0 (length (held_in n lanes s d lane)) q.0.2) q.1,
      )

  back_has : (s d : ℕ) (lane : Lane) (m : Sent) → s < n → d < n → lane_may lanes n window s d lane ≡ true
      → IsPossible ranks z.world z.held window d (Received s lane m)
  back_has s d Answer m hs hd e = tt
  back_has s d Request m hs hd e =
      subst (λ ms. length ms < window) (sym (held_here n lanes d s Answer hd hs))
      (ltb-true _ window (and_parts _ (lane_has lanes n window d s Answer) e).1)

  pub lane_goes : (s d : ℕ) (lane : Lane) → s < n → d < n → lane_may lanes n window s d lane ≡ true → In (Deliver s d lane) steps
  lane_goes s d lane hs hd e = at (held_in n lanes s d lane) refl
    where
      some : 0 < length (held_in n lanes s d lane)
      some = ltb-true 0 (length (held_in n lanes s d lane))
          (and_parts _ (is_possible ranks window z (Deliver s d lane))
          (may_be p inputs nodes traffic world slots agree s d lane hs hd ∙ e)).0

      at : (ms : List Sent) → held_in n lanes s d lane ≡ ms → In (Deliver s d lane) steps
      at [] q = let a = some in let b = ap length q in absurd (omega (arith, a, b))
      at (m ∷ later) q =
          let c = world.parts.count in
          possible_listed ranks z window d (Received s lane m) (omega (arith, hd, c)) (omega (arith, hs, c), (later, q))
          (back_has s d lane m hs hd e)

  -- ---- firings
  state_is : (r : ℕ) → r < n → (node_at nodes r).nic ≡ state_at ranks z.world r
  state_is r h = rank-state p inputs slots z r (node_at nodes r)
      (rank_is p inputs nodes traffic world slots agree r h)

  fires : (r : ℕ) → r < n → filter (is_possible ranks window z) (firings_at ranks z r) ≡ map (Fire r)
      (open_numbers (node_at nodes r).closed (node_at nodes r).nic)
  fires r h = fires_are p inputs nodes traffic world slots agree r h

  abbrev goes : ℕ → ℕ → Bool
  goes r t = goes_out (node_at nodes r).closed (target_at (node_at nodes r).nic t)

  pub fire_waits : (r t : ℕ) → In (Fire r t) steps → (r < n) × (may_go (node_at nodes r).closed (node_at nodes r).nic t ≡ true)
  fire_waits r t i =
      let q = parts_of (Fire r t) i in
      let c = world.parts.count in
      let h : r < n = omega (arith, q.0.0, c) in
      let among = subst (λ xs. In (Fire r t) xs) (fires r h)
      (In-filter (is_possible ranks window z) (Fire r t) (firings_at ranks z r)
      (In-map (Fire r) t (ready_numbers (state_at ranks z.world r)) q.0.1) q.1) in
      let u = In-map_cases (Fire r) (Fire r t) (open_numbers (node_at nodes r).closed (node_at nodes r).nic) among in
      let v = In-filter_cases (goes r) u.0 (ready_numbers (node_at nodes r).nic) u.1 in (
        h,
        subst (λ a. may_go (node_at nodes r).closed (node_at nodes r).nic a ≡ true) (same_number r t u.0 u.2)
            (ap₂ (λ a b. a && b) (ready_is (node_at nodes r).nic u.0 v.0) v.1),
      )

  pub fire_goes : (r t : ℕ) → r < n → may_go (node_at nodes r).closed (node_at nodes r).nic t ≡ true → In (Fire r t) steps
  fire_goes r t h e =
      let c = world.parts.count in
      let both = and_parts (is_ready (node_at nodes r).nic t) (goes r t) e in
      let on = enabled_listed ranks z r (Fired t) (omega (arith, h, c)) (subst (λ s. is_ready s t ≡ true) (state_is r h) both.0) in
      let ready : In t (ready_numbers (node_at nodes r).nic) = subst (λ s. In t (ready_numbers s)) (sym (state_is r h))
      (offered ranks z (Fire r t) on).1 in
      let listed = In-map (Fire r) t (open_numbers (node_at nodes r).closed (node_at nodes r).nic)
      (In-filter (goes r) t (ready_numbers (node_at nodes r).nic) ready both.1) in
      let may = (In-filter_cases (is_possible ranks window z) (Fire r t) (firings_at ranks z r)
      (subst (λ xs. In (Fire r t) xs) (sym (fires r h)) listed)).1 in
      In-filter (is_possible ranks window z) (Fire r t) (enabled_steps ranks z) on may

  -- ---- any step
  pub allowed : (x : Step) → In x steps → Allows nodes traffic x
  allowed (Start r) i = start_waits r i
  allowed (Deliver s d lane) i = lane_waits s d lane i
  allowed (Fire r t) i = fire_waits r t i

  pub listed_by : (x : Step) → Allows nodes traffic x → In x steps
  listed_by (Start r) a = start_may r a.0 a.1
  listed_by (Deliver s d lane) a = lane_goes s d lane a.0 a.1 a.2
  listed_by (Fire r t) a = fire_goes r t a.0 a.1

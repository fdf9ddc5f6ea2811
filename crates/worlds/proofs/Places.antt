-- The counts of a world's parts are the numbers of its possible steps, place by place.
use Rattle.std.proofs.Common.{ℕ, Bool, true, false, not, ◌&&◌, ◌*◌, ◌<◌, ◌≤◌, ◌≡◌, ◌∙◌, List, [], ◌∷◌, refl, sym, ap, ap₂, arith, count_by}
use Rattle.std.proofs.Common.{length, filter, map, get_or, nat_lt, if◌then◌else◌, lt-ltb}
use Rattle.std.proofs.lemmas.Bool.{le-ltb}
use Rattle.std.proofs.lemmas.List.{get_or_default, length-map}
use Rattle.ptl_types.specs.Messages.{Sent}
use Rattle.ptl_types.specs.declared.headers.Lane.{Lane}
use Rattle.ptl_types.specs.declared.headers.Lane.TheVariants.{Request, Answer}
use Rattle.pair_wires.specs.Lanes.{Plain}
use Rattle.plan_core.specs.Plan.{Plan}
use Rattle.plan_core.specs.Values.{Inputs}
use Rattle.cuts.specs.view.Slots.{Slots}
use Rattle.cuts.specs.histories.History.{is_start}
use Rattle.cuts.specs.histories.Plans.{system_of}
use Rattle.cuts.specs.histories.System.{Histories, System}
use Rattle.worlds.proofs.parts.Delivers.{open-possible, rank-state}
use Rattle.cuts.specs.orders.Chosen.{Scene, first_of, start_at}
use Rattle.cuts.specs.declared.orders.Step.{Step}
use Rattle.cuts.specs.declared.orders.Step.TheVariants.{Deliver, Fire, Start}
use Rattle.cuts.proofs.windows.Counted.{counts_by}
use Rattle.cuts.specs.windows.Places.{counts, delivery_at, delivery_on, fires_at, destination_at, kind_at, lane_place, source_at}
use Rattle.cuts.specs.windows.Possible.{is_possible}
use Rattle.rank_node.specs.Gates.{open_numbers}
use Rattle.rank_node.specs.Node.{NodeState}
use Rattle.worlds.specs.parts.Keeps.{AgreeAll, AreGates, IsRank, IsWorld}
use Rattle.worlds.specs.declared.parts.traffic.Traffic.{Traffic}
use Rattle.worlds.specs.parts.Layout.{held_in, lane_at, node_at, scene_of}
use Rattle.worlds.specs.parts.Marks.{lane_may}
use Rattle.worlds.proofs.parts.Held.{held_here}
use Rattle.worlds.proofs.parts.Placed.{place_told, ranks_told}

-- past the last rank nothing lies in a lane
pub held_past : (n : ℕ) (lanes : List Plain) (s d : ℕ) (lane : Lane) → n ≤ d → held_in n lanes s d lane ≡ []
held_past n lanes s d lane le = at (nat_lt s n) (nat_lt d n) (le-ltb d n le)
  where
    at : (a b : Bool) → b ≡ false → (if a && b then (lane_at lanes (lane_place n s d lane)).messages else []) ≡ []
    at true b e = ap (λ x. if x then (lane_at lanes (lane_place n s d lane)).messages else []) e
    at false b e = refl

-- one start, where there is one
pub one_start : (x : Step) (b : Bool) → (if b then 0 else 1) ≡ length (if b then [] else x ∷ [])
one_start x true = refl
one_start x false = refl

-- one delivery, where there is a message and it may be made
pub one_delivery : (p : Step → Bool) (s d : ℕ) (lane : Lane) (ms : List Sent)
    → (if nat_lt 0 (length ms) && p (Deliver s d lane) then 1 else 0) ≡ length (filter p (first_of s d lane ms))
one_delivery p s d lane [] = refl
one_delivery p s d lane (m ∷ later) =
    ap (λ b. if b && p (Deliver s d lane) then 1 else 0) (lt-ltb 0 (length (m ∷ later)) (omega arith)) ∙ at (p (Deliver s d lane))
  where
    at : (b : Bool) → (if b then 1 else 0) ≡ length (if b then Deliver s d lane ∷ [] else [])
    at true = refl
    at false = refl

and-true : (b : Bool) → (b && true) ≡ b
and-true true = refl
and-true false = refl

-- whether a lane's first message may be delivered, by the lane and the one back
pub lane_may_be : (k : System) (w : Histories) (n : ℕ) (lanes : List Plain) (window s d : ℕ) (lane : Lane) → s < n → d < n
    → (nat_lt 0 (length (held_in n lanes s d lane))
    && is_possible k window (let x : Scene = record { world = w; held = held_in n lanes } in x) (Deliver s d lane))
    ≡ lane_may lanes n window s d lane
lane_may_be k w n lanes window s d Answer hs hd = and-true (nat_lt 0 (length (held_in n lanes s d Answer)))
    ∙ ap (λ ms. nat_lt 0 (length ms)) (held_here n lanes s d Answer hs hd)
lane_may_be k w n lanes window s d Request hs hd =
    ap₂ (λ a b. nat_lt 0 (length a) && nat_lt (length b) window) (held_here n lanes s d Request hs hd)
    (held_here n lanes d s Answer hd hs)

module _ (p : Plan) (inputs : Inputs) (nodes : List NodeState) (traffic : Traffic)
    (world : IsWorld p inputs nodes traffic) (slots : ℕ → Slots)
    (agree : AgreeAll traffic.setting.ranks slots nodes) where
  abbrev n : ℕ
  n = traffic.setting.ranks

  abbrev lanes : List Plain
  lanes = traffic.lanes

  abbrev starts : List ℕ
  starts = traffic.starts

  abbrev deliveries : List ℕ
  deliveries = traffic.deliveries

  abbrev firings : List ℕ
  firings = traffic.firings

  abbrev window : ℕ
  window = traffic.setting.window

  abbrev ranks : System
  ranks = system_of p inputs slots

  abbrev z : Scene
  z = scene_of n nodes lanes

  pub rank_is : (r : ℕ) → r < n → IsRank p inputs slots z r (node_at nodes r)
  rank_is r h = record { compiled = world.parts.compiled r h; node = world.parts.node r h; agrees = agree r h; history = refl }

  gates_wide : (r : ℕ) → r < n → length (node_at nodes r).closed ≡ n
  gates_wide r h = (world.parts.node r h).gates ∙ (world.parts.compiled r h).ranks ∙ world.parts.count

  -- a node's gates are those of the moment
  pub gates_are : (r : ℕ) → r < n → AreGates z window r (node_at nodes r).closed
  gates_are r h = record {
    full = λ d lt.
        let wide = gates_wide r h in
        get_or_default (node_at nodes r).closed d true false lt
        ∙ world.counted.gates r d h (omega (arith, wide, lt))
        ∙ ap (λ ms. not (nat_lt (length ms) window)) (sym (held_here n lanes r d Request h (omega (arith, wide, lt))));
    past = λ d le. let wide = gates_wide r h in held_past n lanes r d Request (omega (arith, wide, le));
  }

  -- the possible firings at a rank are those that its node counts
  pub fires_are : (r : ℕ) → r < n → fires_at ranks window z r ≡ map (Fire r) (open_numbers (node_at nodes r).closed (node_at nodes r).nic)
  fires_are r h = open-possible z window r world.parts.some (node_at nodes r).closed (gates_are r h) ranks (node_at nodes r).nic
      (rank-state p inputs slots z r (node_at nodes r) (rank_is r h))

  -- whether a lane's first message may be delivered
  pub may_be : (s d : ℕ) (lane : Lane) → s < n → d < n
      → (nat_lt 0 (length (held_in n lanes s d lane)) && is_possible ranks window z (Deliver s d lane)) ≡ lane_may lanes n window s d lane
  may_be = lane_may_be ranks z.world n lanes window

  starts_right : (i : ℕ) → i < n → get_or starts i 0 ≡ length (start_at z i)
  starts_right i h = world.counted.of_starts i h ∙ one_start (Start i) (nat_lt 0 (count_by is_start (node_at nodes i).diary.locals))

  firings_right : (i : ℕ) → i < n → get_or firings i 0 ≡ length (fires_at ranks window z i)
  firings_right i h =
      world.counted.of_firings i h
      ∙ sym (length-map (open_numbers (node_at nodes i).closed (node_at nodes i).nic) (Fire i))
      ∙ ap length (sym (fires_are i h))

  deliveries_right : (i : ℕ) → i < 2 * (n * n) → get_or deliveries i 0 ≡ length
      (delivery_on ranks window z (source_at n i) (destination_at n i) (kind_at i))
  deliveries_right i h =
      let q = ranks_told n i h in
      let s = source_at n i in
      let d = destination_at n i in
      let lane = kind_at i in
      ap (λ j. get_or deliveries j 0) (sym (place_told n i))
      ∙ world.counted.of_deliveries s d lane q.0 q.1
      ∙ ap (λ b. if b then 1 else 0) (sym (may_be s d lane q.0 q.1))
      ∙ one_delivery (is_possible ranks window z) s d lane (held_in n lanes s d lane)

  abbrev by_place : ℕ → List Step
  by_place i = delivery_on ranks window z (source_at n i) (destination_at n i) (kind_at i)

  -- the counts are those of the places
  pub starts_are : starts ≡ counts (start_at z) ranks.count
  starts_are = counts_by (start_at z) n starts world.counted.wide_starts starts_right ∙ ap (counts (start_at z)) (sym world.parts.count)

  pub firings_are : firings ≡ counts (fires_at ranks window z) ranks.count
  firings_are = counts_by (fires_at ranks window z) n firings world.counted.wide_firings firings_right
      ∙ ap (counts (fires_at ranks window z)) (sym world.parts.count)

  pub deliveries_are : deliveries ≡ counts (delivery_at ranks window z) (2 * (ranks.count * ranks.count))
  deliveries_are =
      counts_by by_place (2 * (n * n)) deliveries world.counted.wide_deliveries deliveries_right
      ∙ ap (λ m. counts (λ i. delivery_on ranks window z (source_at m i) (destination_at m i) (kind_at i)) (2 * (m * m)))
      (sym world.parts.count)

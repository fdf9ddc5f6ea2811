-- Parts of which nothing was done are a world.
use Rattle.std.proofs.Common.{ℕ, zero, suc, true, false, not, ◌&&◌, ◌+◌, ◌*◌, ◌<◌, ◌≤◌, ◌≡◌, ◌∙◌, List, [], get_or, length, count_by, map}
use Rattle.std.proofs.Common.{sum_by, nat_lt, replicate, if◌then◌else◌, refl, ap, sym, subst, inl, inr, arith, lt-ltb, ltb-true}
use Rattle.std.proofs.lemmas.Bool.{and_parts, cases_Bool, cases_lt}
use Rattle.std.proofs.lemmas.List.{get_or-map, get_or-replicate, get_or_past, length-map, length-replicate}
use Rattle.std.proofs.lemmas.List.Sums.{sum_by-cons}
use Rattle.ptl_types.specs.declared.headers.Lane.{Lane}
use Rattle.ptl_types.specs.declared.headers.Lane.TheVariants.{Request, Answer}
use Rattle.ptl_types.specs.Messages.{Sent}
use Rattle.pair_wires.specs.Lanes.{Plain}
use Rattle.plan_core.specs.Members.{In}
use Rattle.plan_core.specs.Plan.{Plan, from_to}
use Rattle.plan_core.specs.Sound.{SoundPlan, AreInputsOf}
use Rattle.plan_core.specs.Values.{Inputs}
use Rattle.cuts.specs.view.Slots.{Slots}
use Rattle.cuts.specs.histories.Cut.{is_received_stray, is_stray, owned}
use Rattle.cuts.specs.histories.Moment.{IsMoment}
use Rattle.cuts.specs.histories.Plans.{system_of}
use Rattle.cuts.specs.orders.Chosen.{Scene, first_scene}
use Rattle.cuts.proofs.rest.Moments.{first_moment}
use Rattle.cuts.specs.windows.Places.{lane_place}
use Rattle.rank_node.specs.Node.{NodeState}
use Rattle.worlds.specs.declared.parts.traffic.Traffic.{Traffic}
use Rattle.worlds.specs.parts.Keeps.{AreParts, AreShort, AreStrays, IsWorld, strays_for}
use Rattle.worlds.specs.parts.Layout.{held_in, lane_at, no_node, node_at, scene_of}
use Rattle.worlds.specs.parts.Marks.{delivery_count, firing_count, lane_has, start_count}
use Rattle.worlds.proofs.parts.Gated.{scene_by}
use Rattle.worlds.proofs.parts.Placed.{lane_in}
use Rattle.worlds.specs.opening.Fresh.{IsFresh, fresh_lane}

-- what is counted of the nodes is counted of each
pub counted_at : (f : NodeState → ℕ) (nodes : List NodeState) (xs : List ℕ) → xs ≡ map f nodes → (r : ℕ) → r < length nodes
    → get_or xs r 0 ≡ f (node_at nodes r)
counted_at f nodes xs e r h = ap (λ ys. get_or ys r 0) e ∙ get_or-map f nodes r no_node 0 h

-- a window that has room at all has room on a lane without messages
has-room : (window : ℕ) (ms : List Sent) → 0 < window → ms ≡ [] → nat_lt (length ms) window ≡ true
has-room window ms some none = ap (λ xs. nat_lt (length xs) window) none ∙ lt-ltb 0 window some

pub none-due : (k : ℕ) (f : ℕ → ℕ) (n : ℕ) → ((s : ℕ) → k ≤ s → s < k + n → f s ≡ 0) → sum_by f (from_to k n) ≡ 0
none-due k f zero each = refl
none-due k f (suc n) each =
    let a = sum_by-cons f k (from_to (suc k) n) in
    let b = each k (omega arith) (omega arith) in
    let c = none-due (suc k) f n (λ s low high. each s (omega arith) (omega arith)) in
    omega (arith, a, b, c)

-- lanes without a message hold nothing, between any ranks
pub none-held : (n : ℕ) (lanes : List Plain)
    → ((s d : ℕ) (lane : Lane) → s < n → d < n → (lane_at lanes (lane_place n s d lane)).messages ≡ [])
    → (s d : ℕ) (lane : Lane) → held_in n lanes s d lane ≡ []
none-held n lanes empty s d lane = elim (cases_Bool (nat_lt s n && nat_lt d n)) [
  | inl e ↦ (let both = and_parts (nat_lt s n) (nat_lt d n) e in
      ap (λ b. if b then (lane_at lanes (lane_place n s d lane)).messages else []) e
      ∙ empty s d lane (ltb-true s n both.0) (ltb-true d n both.1))
  | inr e ↦ ap (λ b. if b then (lane_at lanes (lane_place n s d lane)).messages else []) e
]

-- nodes without a step, and lanes without a message, are the first scene
module _ (n : ℕ) (nodes : List NodeState) (lanes : List Plain) (size : length nodes ≡ n) (bare : (r : ℕ) → r < n →
    (node_at nodes r).diary.locals ≡ [])
    (empty : (s d : ℕ) (lane : Lane) → s < n → d < n → (lane_at lanes (lane_place n s d lane)).messages ≡ []) where
  -- at any rank, and on any lane
  pub none-done : (r : ℕ) → (node_at nodes r).diary.locals ≡ []
  none-done r = elim (cases_lt r n) [
    | inl lt ↦ bare r lt
    | inr le ↦ ap (λ (k : NodeState). k.diary.locals) (get_or_past nodes r no_node (omega (arith, size, le)))
  ]

  pub first-by : scene_of n nodes lanes ≡ first_scene
  first-by = scene_by (λ r. (node_at nodes r).diary.locals) (λ r. []) (held_in n lanes) (λ s d lane. []) none-done (none-held n lanes empty)

module _ (p : Plan) (inputs : Inputs) (n : ℕ) (nodes : List NodeState) (lanes : List Plain) (window strays : ℕ)
    (at_most : n ≤ 256) (count : p.ranks ≡ n) (sound : SoundPlan p (length inputs)) (fit : AreInputsOf p inputs) (some : 0 < window)
    (size : length nodes ≡ n) (wide : length lanes ≡ 2 * (n * n))
    (fresh : (r : ℕ) → r < n → IsFresh p inputs n strays r (node_at nodes r))
    (laid : (s d : ℕ) (lane : Lane) → s < n → d < n → lane_at lanes (lane_place n s d lane) ≡ fresh_lane p strays s d lane) where
  empty : (s d : ℕ) (lane : Lane) → s < n → d < n → (lane_at lanes (lane_place n s d lane)).messages ≡ []
  empty s d lane hs hd = ap (λ (l : Plain). l.messages) (laid s d lane hs hd)

  done-before : (r : ℕ) → (node_at nodes r).diary.locals ≡ []
  done-before = none-done n nodes lanes size (λ r h. (fresh r h).locals) empty

  -- so the scene is the first
  pub is-first : scene_of n nodes lanes ≡ first_scene
  is-first = first-by n nodes lanes size (λ r h. (fresh r h).locals) empty

  is-moment : (k : ℕ → Slots) → IsMoment (system_of p inputs k) (scene_of n nodes lanes).world (scene_of n nodes lanes).held
  is-moment k = subst (λ (z : Scene). IsMoment (system_of p inputs k) z.world z.held) (sym is-first) (first_moment p inputs k)

  are-parts : AreParts p inputs n nodes lanes window strays
  are-parts = record {
    at_most = at_most;
    count = count;
    sound = sound;
    fit = fit;
    some = some;
    size = size;
    wide = wide;
    compiled = λ r h. (fresh r h).compiled;
    node = λ r h. (fresh r h).kept;
    moment = λ k agree. is-moment k;
    room = λ s d lane hs hd. let q = ap (λ (l : Plain). l.capacity) (laid s d lane hs hd) in omega (arith, q);
    within = λ s d lane hs hd. let q = ap (λ ms. length (owned ms)) (empty s d lane hs hd) in omega (arith, q);
  }

  none-for : (d : ℕ) → d < n → strays_for n nodes lanes d ≡ 0
  none-for d hd =
      let a = ap (count_by is_received_stray) (done-before d) in
      let b = none-due 0 (λ s. count_by is_stray (lane_at lanes (lane_place n s d Request)).messages) n
      (λ s low high. ap (count_by is_stray) (empty s d Request (omega (arith, high)) hd)) in
      omega (arith, a, b)

  are-strays : AreStrays n nodes lanes strays strays
  are-strays = record {
    room = λ r h. (fresh r h).strays;
    at_most = λ d h. let q = none-for d h in omega (arith, q);
    received = λ r h. subst AreShort (sym (done-before r)) tt;
    held = λ s d lane m hs hd lies stray. absurd (subst (In m) (empty s d lane hs hd) lies);
  }

  none-may : (s d : ℕ) (lane : Lane) → s < n → d < n → delivery_count lanes n window s d lane ≡ 0
  none-may s d Request hs hd = ap (λ (ms : List Sent). if nat_lt 0 (length ms) && lane_has lanes n window d s Answer then 1 else 0)
      (empty s d Request hs hd)
  none-may s d Answer hs hd = ap (λ (ms : List Sent). if nat_lt 0 (length ms) then 1 else 0) (empty s d Answer hs hd)

  -- with so many ranks, such lanes and counts
  abbrev begun : ℕ → List Plain → List ℕ → List ℕ → List ℕ → Traffic
  begun m ls starts deliveries firings = record {
    setting = record { ranks = m; window = window; strays = strays; spare = strays };
    lanes = ls;
    starts = starts;
    deliveries = deliveries;
    firings = firings;
  }

  pub is-world : (m : ℕ) → m ≡ n → (ls : List Plain) → ls ≡ lanes → (starts deliveries firings : List ℕ)
      → starts ≡ map start_count nodes → deliveries ≡ replicate (2 * (n * n)) 0 → firings ≡ map firing_count nodes
      → IsWorld p inputs nodes (begun m ls starts deliveries firings)
  is-world m many ls table starts deliveries firings are_starts none are_firings =
      subst (λ k. IsWorld p inputs nodes (begun k ls starts deliveries firings)) (sym many)
      (subst (λ t. IsWorld p inputs nodes (begun n t starts deliveries firings)) (sym table) is)
    where
      is : IsWorld p inputs nodes (begun n lanes starts deliveries firings)
      is = record {
        parts = are-parts;
        counted = record {
          wide_starts = ap length are_starts ∙ length-map nodes start_count ∙ size;
          wide_deliveries = ap length none ∙ length-replicate (2 * (n * n)) 0;
          wide_firings = ap length are_firings ∙ length-map nodes firing_count ∙ size;
          of_starts = λ r h. counted_at start_count nodes starts are_starts r (omega (arith, h, size));
          of_firings = λ r h. counted_at firing_count nodes firings are_firings r (omega (arith, h, size));
          of_deliveries = λ s d lane hs hd.
              ap (λ xs. get_or xs (lane_place n s d lane) 0) none
              ∙ get_or-replicate (2 * (n * n)) (lane_place n s d lane) 0 0 (lane_in n s d lane hs hd)
              ∙ sym (none-may s d lane hs hd);
          gates = λ r d hr hd.
              ap (λ closed. get_or closed d false) (fresh r hr).gates
              ∙ get_or-replicate n d false false hd
              ∙ ap not (sym (has-room window (lane_at lanes (lane_place n r d Request)).messages some (empty r d Request hr hd)));
        };
        stray = are-strays;
      }

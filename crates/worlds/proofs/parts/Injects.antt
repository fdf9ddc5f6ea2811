-- A stray goes into its lane, over the parts of a world.
use Rattle.std.proofs.Common.{ℕ, true, ◌+◌, ◌-◌, ◌<◌, ◌≤◌, ◌≡◌, ◌∙◌, List, [], ◌∷◌, ◌++◌, length, count_by, nat_lt, if◌then◌else◌, refl}
use Rattle.std.proofs.Common.{sym, ap, ap₂, subst, inl, inr, arith, append-nil}
use Rattle.std.proofs.lemmas.Bool.{cases_Bool, cases_eq}
use Rattle.std.proofs.lemmas.List.{set-get_or}
use Rattle.ptl_types.specs.Messages.{Sent}
use Rattle.ptl_types.specs.declared.headers.Lane.{Lane}
use Rattle.ptl_types.specs.declared.headers.Lane.TheVariants.{Request}
use Rattle.ni_model.specs.Conditions.{IsKept}
use Rattle.pair_wires.specs.Lanes.{Plain, plain}
use Rattle.plan_core.specs.calls.Lanes.{is_used_lane}
use Rattle.plan_core.specs.Members.{In}
use Rattle.plan_core.specs.Plan.{Plan}
use Rattle.plan_core.specs.Values.{Inputs}
use Rattle.plan_core.proofs.Lists.{In-append_cases}
use Rattle.cuts.specs.histories.Cut.{is_stray, owned}
use Rattle.cuts.specs.histories.Moment.{IsMoment, IsStrayStep, is_request_lane}
use Rattle.cuts.specs.histories.Plans.{system_of}
use Rattle.cuts.specs.histories.System.{System}
use Rattle.cuts.specs.orders.Chosen.{Scene}
use Rattle.cuts.proofs.rest.Moments.{next_stray}
use Rattle.cuts.specs.windows.Places.{lane_place}
use Rattle.rank_node.specs.Node.{NodeState, stray_bytes}
use Rattle.worlds.specs.parts.Keeps.{AreCounted, AreParts, AreStrays, IsWorld, strays_for}
use Rattle.worlds.specs.declared.parts.lanes.Setting.{Setting}
use Rattle.worlds.specs.declared.parts.traffic.Traffic.{Traffic}
use Rattle.worlds.specs.parts.Layout.{held_in, lane_at, no_node, node_at, scene_of}
use Rattle.worlds.specs.parts.Steps.{IsInjected, injected}
use Rattle.worlds.proofs.parts.Counted.{sent_counted}
use Rattle.worlds.proofs.parts.Gated.{scene_by}
use Rattle.worlds.proofs.parts.Held.{held_here, held_set, inside, set_capacity, set_here, set_lane, set_other, set_size}
use Rattle.worlds.proofs.parts.Marked.{mark_size, request_marked}
use Rattle.worlds.proofs.parts.Moving.{agree_now, few_held, slots_now}
use Rattle.worlds.proofs.parts.Placed.{OneLane, is_lane_of, one_lane}
use Rattle.worlds.proofs.parts.Renewed.{IsRenewed, agree_next, as_told, left, renewed, renewed_by, scene_next}
use Rattle.worlds.proofs.parts.Sets.{at_set, part_le, sum_le, sum_moves}
use Rattle.worlds.proofs.parts.Steps.{wide_gates}
use Rattle.worlds.proofs.parts.Strays.{owned_and_strays, owned_same, stray_more}
use Rattle.worlds.specs.parts.Marks.{delivery_mark, firing_mark, gated}

-- what the code leaves after a stray from s to d
pub record IsJoined (n window s d : ℕ) (news : List NodeState) (lanes_after : List Plain) (deliveries firings : List ℕ)
    (nodes_after : List NodeState) (b c : List ℕ) : Type 0 where
  pub gates : nodes_after ≡ gated lanes_after n window s d news
  pub of_deliveries : b ≡ delivery_mark lanes_after n window s d Request deliveries
  pub of_firings : c ≡ firing_mark nodes_after s firings

-- the injection of a stray on a used lane is a step of the plan's ranks and strays
pub stray_step : (ranks : System) (z : Scene) (s d : ℕ) (m : Sent) → s < ranks.count → d < ranks.count → ranks.used s d Request ≡ true
    → is_stray m ≡ true → m.header.source ≡ s → m.header.target ≡ d → IsKept m → IsStrayStep ranks z.world z.held (injected s d m z).world
    (injected s d m z).held
stray_step ranks z s d m hs hd used stray source target kept = record {
  s = s;
  d = d;
  m = m;
  from = hs;
  to = hd;
  used = used;
  stray = record { stray = stray; asks = refl; source = source; target = target; kept = kept };
  same = λ q. refl;
  put = λ q u lane. refl;
}

module _ (p : Plan) (inputs : Inputs) (nodes : List NodeState) (traffic : Traffic)
    (k : IsWorld p inputs nodes traffic)
    (s d : ℕ) (m : Sent) (some : 0 < traffic.setting.strays) (hs : s < traffic.setting.ranks) (hd : d < traffic.setting.ranks)
    (stray : is_stray m ≡ true) where
  abbrev n : ℕ
  n = traffic.setting.ranks

  abbrev lanes : List Plain
  lanes = traffic.lanes

  abbrev starts : List ℕ
  starts = traffic.starts

  abbrev deliveries : List ℕ
  deliveries = traffic.deliveries

  abbrev firings : List ℕ
  firings = traffic.firings

  abbrev window : ℕ
  window = traffic.setting.window

  abbrev strays : ℕ
  strays = traffic.setting.strays

  abbrev spare : ℕ
  spare = traffic.setting.spare

  abbrev full : List Sent
  full = (lane_at lanes (lane_place n s d Request)).messages ++ m ∷ []

  abbrev lanes_after : List Plain
  lanes_after = set_lane n lanes k.parts.wide s d Request hs hd full

  -- one fewer may still be injected
  abbrev fewer : Setting
  fewer = record traffic.setting { strays = traffic.setting.strays - 1 }

  -- there is room for it
  pub inject_room : length (lane_at lanes (lane_place n s d Request)).messages < (lane_at lanes (lane_place n s d Request)).capacity
  inject_room =
      let a = few_held p inputs n nodes lanes window strays spare k.parts k.stray
      (slots_now p inputs n nodes lanes window strays spare k.parts k.stray) (scene_of n nodes lanes)
      (k.parts.moment (slots_now p inputs n nodes lanes window strays spare k.parts k.stray)
      (agree_now p inputs n nodes lanes window strays spare k.parts k.stray)) s d Request hs hd in
      let b = ap (λ xs. length (owned xs)) (held_here n lanes s d Request hs hd) in
      let e = k.stray.at_most d hd in
      let f = part_le (λ q. count_by is_stray (lane_at lanes (lane_place n q d Request)).messages) s 0 n (omega arith) (omega arith) in
      let g = k.parts.room s d Request hs hd in
      let w = k.parts.within s d Request hs hd in
      let o = owned_and_strays (lane_at lanes (lane_place n s d Request)).messages in
      omega (arith, a, b, e, f, g, w, o, some)

  is_injected : scene_of n nodes lanes_after ≡ injected s d m (scene_of n nodes lanes)
  is_injected = scene_by (scene_of n nodes lanes).world (scene_of n nodes lanes).world (held_in n lanes_after)
      (λ q u l. held_in n lanes q u l ++ (if is_request_lane s d q u l then m ∷ [] else [])) (λ q. refl) held
    where
      by_lane : (q u : ℕ) (l : Lane) → (if is_lane_of s d Request q u l then full else held_in n lanes q u l) ≡ held_in n lanes q u l ++
          (if is_lane_of s d Request q u l then m ∷ [] else [])
      by_lane q u l = elim (cases_Bool (is_lane_of s d Request q u l)) [
        | inl e ↦
            let o = one_lane s d Request q u l e in
            ap (λ t. if t then full else held_in n lanes q u l) e
            ∙ ap (λ ms. ms ++ m ∷ []) (sym (ap₂ (λ x y. held_in n lanes x y l) o.source o.destination ∙ ap (held_in n lanes s d) o.kind
            ∙ held_here n lanes s d Request hs hd))
            ∙ ap (λ t. held_in n lanes q u l ++ (if t then m ∷ [] else [])) (sym e)
        | inr e ↦
            ap (λ t. if t then full else held_in n lanes q u l) e ∙ sym (append-nil (held_in n lanes q u l))
            ∙ ap (λ t. held_in n lanes q u l ++ (if t then m ∷ [] else [])) (sym e)
      ]

      held : (q u : ℕ) (l : Lane) → held_in n lanes_after q u l ≡ held_in n lanes q u l ++ (if is_request_lane s d q u l then m ∷ [] else
          [])
      held q u l =
          held_set n lanes k.parts.wide s d Request hs hd full q u l
          ∙ by_lane q u l

  -- no other lane changed
  inject_apart : (a b : ℕ) (l : Lane) → a < n → b < n → (OneLane a b l s d Request → ⊥) →
      lane_at lanes_after (lane_place n a b l) ≡ lane_at lanes (lane_place n a b l)
  inject_apart a b l ha hb x = set_other n lanes k.parts.wide s d Request hs hd full a b l hb x

  abbrev told : List NodeState
  told = gated lanes_after n window s d nodes

  abbrev marked : List ℕ
  marked = delivery_mark lanes_after n window s d Request deliveries

  inject_counted : AreCounted n told lanes_after starts marked (firing_mark told s firings) window
  inject_counted =
      subst (λ v. AreCounted n (gated lanes_after n window s d v) lanes_after starts marked (firing_mark (gated lanes_after n window s d
      v) s firings)
      window) (set-get_or nodes s no_node)
      (sent_counted n nodes lanes starts deliveries firings window k.counted k.parts.size s hs (node_at nodes s) refl refl
      (wide_gates p inputs n nodes lanes window spare k.parts) lanes_after s d hs hd
      (λ a b ha hb x. ap (λ (z : Plain). nat_lt (length z.messages) window)
      (inject_apart a b Request ha hb (λ i. x (i.source, i.destination))))
      marked (mark_size n lanes_after window s d Request deliveries ∙ k.counted.wide_deliveries)
      (request_marked n lanes deliveries window lanes_after s d hs hd k.counted.wide_deliveries k.counted.of_deliveries inject_apart)
      refl)

  inject_renewed : IsRenewed n window nodes lanes_after told starts marked (firing_mark told s firings)
  inject_renewed = let size = k.parts.size in as_told n window nodes lanes_after s d (omega (arith, size, hs)) starts marked
      (firing_mark told s firings) inject_counted

  -- ---- strays
  more_there : (q u : ℕ) → u < n → ((q ≡ s) × (u ≡ d) → ⊥) → count_by is_stray (lane_at lanes_after (lane_place n q u Request)).messages
      ≤ count_by is_stray (lane_at lanes (lane_place n q u Request)).messages
  more_there q u hu x = let a = ap (λ (l : Plain). count_by is_stray l.messages)
      (set_other n lanes k.parts.wide s d Request hs hd full q u Request hu (λ o. x (o.source, o.destination))) in
      omega (arith, a)

  more_here : count_by is_stray (lane_at lanes_after (lane_place n s d Request)).messages ≤ count_by is_stray
      (lane_at lanes (lane_place n s d Request)).messages + 1
  more_here =
      let a = ap (count_by is_stray) (set_here n lanes k.parts.wide s d Request hs hd full) in
      let b = stray_more (lane_at lanes (lane_place n s d Request)).messages m stray in
      omega (arith, a, b)

  few_injected : (u : ℕ) → u < n → strays_for n nodes lanes_after u + (strays - 1) ≤ spare
  few_injected u hu = elim (cases_eq u d) [
    | inl i ↦
        let a = sum_moves (λ q. count_by is_stray (lane_at lanes (lane_place n q d Request)).messages)
        (λ q. count_by is_stray (lane_at lanes_after (lane_place n q d Request)).messages) s 0 1 0 n (omega arith) (omega arith)
        (λ q x low high. more_there q d hd (λ y. x y.0)) (let h = more_here in omega (arith, h)) in
        let b = k.stray.at_most d hd in
        let c = ap (strays_for n nodes lanes_after) i in
        omega (arith, a, b, c)
    | inr x ↦
        let a = sum_le (λ q. count_by is_stray (lane_at lanes (lane_place n q u Request)).messages)
        (λ q. count_by is_stray (lane_at lanes_after (lane_place n q u Request)).messages) 0 n
        (λ q low high. more_there q u hu (λ y. x y.1)) in
        let b = k.stray.at_most u hu in
        omega (arith, a, b)
  ]

  strays_injected : length m.bytes ≤ stray_bytes → AreStrays n nodes lanes_after (strays - 1) spare
  strays_injected short = record {
    room = k.stray.room;
    at_most = few_injected;
    received = k.stray.received;
    held = λ q u lane x hq hu i e. at_set (λ (l : Plain). In x l.messages → length x.bytes ≤ stray_bytes) lanes (lane_place n s d Request)
        (lane_place n q u lane) (plain full (lane_at lanes (lane_place n s d Request)).capacity) (plain [] 0)
        (inside n lanes k.parts.wide s d Request hs hd)
        (λ j h. elim (In-append_cases x (lane_at lanes (lane_place n s d Request)).messages (m ∷ []) h) [
          | inl y ↦ k.stray.held s d Request x hs hd y e
          | inr (inl f) ↦ subst (λ (y : Sent). length y.bytes ≤ stray_bytes) f short
          | inr (inr f) ↦ absurd f
        ])
        (λ j h. k.stray.held q u lane x hq hu h e) i;
  }

  module _ (nodes_after : List NodeState) (b c : List ℕ) (is : IsJoined n window s d nodes lanes_after deliveries firings nodes_after b c)
    where
      told_again : IsRenewed n window nodes lanes_after nodes_after starts b c
      told_again = renewed_by n window nodes lanes_after told starts marked (λ v. firing_mark v s firings) inject_renewed nodes_after b c
          is.gates
          is.of_deliveries is.of_firings

      pub inject_step : IsInjected s d m nodes traffic nodes_after (left fewer lanes_after starts b c)
      inject_step = record {
        setting = refl;
        scene = scene_next fewer nodes lanes_after nodes_after starts b c told_again ∙ is_injected;
        slots = agree_next fewer nodes lanes_after nodes_after starts b c told_again;
      }

      -- on a used lane a world is left
      module _ (source : m.header.source ≡ s) (target : m.header.target ≡ d) (kept : IsKept m) (short : length m.bytes ≤ stray_bytes)
          (used : is_used_lane p s d Request ≡ true) where
        parts_injected : AreParts p inputs n nodes lanes_after window spare
        parts_injected = record {
          at_most = k.parts.at_most;
          count = k.parts.count;
          sound = k.parts.sound;
          fit = k.parts.fit;
          some = k.parts.some;
          size = k.parts.size;
          wide = set_size n lanes k.parts.wide s d Request hs hd full;
          compiled = k.parts.compiled;
          node = k.parts.node;
          moment = λ slots g.
              let count = k.parts.count in
              let z = scene_of n nodes lanes in
              subst (λ (v : Scene). IsMoment (system_of p inputs slots) v.world v.held) (sym is_injected)
              (next_stray p inputs slots z.world z.held (k.parts.moment slots g) (injected s d m z).world (injected s d m z).held
              (stray_step (system_of p inputs slots) z s d m (omega (arith, count)) (omega (arith, count)) used stray source target kept));
          room = λ q u lane hq hu. let e = k.parts.room q u lane hq hu in let f = set_capacity n lanes k.parts.wide s d Request hs hd full
              (lane_place n q u lane) in omega (arith, e, f);
          within = λ q u lane hq hu. at_set (λ (l : Plain). length (owned l.messages) ≤ window) lanes (lane_place n s d Request)
              (lane_place n q u lane) (plain full (lane_at lanes (lane_place n s d Request)).capacity) (plain [] 0)
              (inside n lanes k.parts.wide s d Request hs hd)
              (λ j. let e = owned_same (lane_at lanes (lane_place n s d Request)).messages m stray in let f =
              k.parts.within s d Request hs hd
              in omega (arith, e, f))
              (λ j. k.parts.within q u lane hq
              hu);
        }

        pub inject_world : IsWorld p inputs nodes_after (left fewer lanes_after starts b c)
        inject_world = renewed fewer nodes lanes_after nodes_after starts b c told_again p inputs parts_injected (strays_injected short)

  -- ---- as the code has it
  module _ (last : List Plain) (put : last ≡ lanes_after) (nodes_after : List NodeState) (b c : List ℕ)
      (is : IsJoined n window s d nodes last deliveries firings nodes_after b c) where
    joined : IsJoined n window s d nodes lanes_after deliveries firings nodes_after b c
    joined = subst (λ l. IsJoined n window s d nodes l deliveries firings nodes_after b c) put is

    pub inject_step_as : IsInjected s d m nodes traffic nodes_after (left fewer last starts b c)
    inject_step_as = subst (λ l. IsInjected s d m nodes traffic nodes_after (left fewer l starts b c)) (sym put) (inject_step nodes_after
        b c joined)

    pub inject_world_as : m.header.source ≡ s → m.header.target ≡ d → IsKept m → length m.bytes ≤ stray_bytes →
        is_used_lane p s d Request ≡ true → IsWorld p inputs nodes_after (left fewer last starts b c)
    inject_world_as source target kept short used = subst (λ l. IsWorld p inputs nodes_after (left fewer l starts b c)) (sym put)
        (inject_world nodes_after b c joined source target kept short used)

-- The kinds of step over the parts of a world.
use Rattle.std.proofs.Common.{ℕ, Bool, true, false, not, cond, ◌<◌, ◌≡◌, ◌∙◌, List, [], ◌∷◌, ◌++◌, Option, Some, None, is_some, length}
use Rattle.std.proofs.Common.{count_by, nat_lt, if◌then◌else◌, refl, sym, ap, subst, arith}
use Rattle.std.proofs.Math.ListN.{set, length-set}
use Rattle.std.proofs.lemmas.Bool.{and_parts, ltb-true}
use Rattle.ptl_types.specs.Kinds.{lane_of}
use Rattle.ptl_types.specs.Messages.{Sent}
use Rattle.ptl_types.specs.declared.headers.Lane.{Lane}
use Rattle.ptl_types.specs.declared.headers.Lane.TheVariants.{Request, Answer}
use Rattle.ni_model.specs.Ready.{fired, is_ready, target_at}
use Rattle.ni_model.specs.State.{State}
use Rattle.pair_wires.specs.Lanes.{Plain}
use Rattle.plan_core.specs.Plan.{Plan}
use Rattle.plan_core.specs.Values.{Inputs}
use Rattle.plan_core.proofs.Lists.{count-append, count-cons}
use Rattle.cuts.specs.view.Calls.{prepare}
use Rattle.cuts.specs.view.Slots.{Slots}
use Rattle.cuts.specs.histories.History.{Beginning, Local, after, is_start, made, state}
use Rattle.cuts.specs.histories.History.Local.{Start as Started, Fire as Fired}
use Rattle.cuts.specs.histories.Moment.{IsEnabled, sent_more}
use Rattle.cuts.specs.histories.Plans.{start_of, system_of}
use Rattle.cuts.specs.histories.System.{state_at}
use Rattle.cuts.proofs.histories.FromCut.{prepared_of}
use Rattle.cuts.proofs.histories.Origin.{IsOf, after_of, fired_link, from_link-request}
use Rattle.cuts.specs.orders.Chosen.{Scene, step_made}
use Rattle.cuts.specs.orders.Taking.{with_step}
use Rattle.cuts.specs.declared.orders.Step.{Step}
use Rattle.cuts.specs.declared.orders.Step.TheVariants.{Start, Fire}
use Rattle.cuts.proofs.rest.Moments.{target_known}
use Rattle.cuts.specs.windows.Places.{lane_place}
use Rattle.rank_node.proofs.Nodes.{fire-node}
use Rattle.rank_node.proofs.Sending.{fired-target, rank_of}
use Rattle.rank_node.specs.Copies.{Diary}
use Rattle.rank_node.specs.Gates.{may_go, goes_out}
use Rattle.rank_node.specs.Node.{IsNode, IsStarted, NodeState, fired_node}
use Rattle.worlds.specs.parts.Keeps.{AgreeAll, AreCounted, AreParts, AreStrays, IsWorld}
use Rattle.worlds.specs.declared.parts.traffic.Traffic.{Traffic}
use Rattle.worlds.specs.parts.Layout.{held_in, lane_at, no_node, node_at, scene_of}
use Rattle.worlds.specs.parts.Marks.{HasPlace, delivery_mark, firing_mark, gated, lane_has, out_with, receiver, sent_out, start_count}
use Rattle.worlds.specs.parts.Marks.{start_mark}
use Rattle.worlds.specs.parts.Steps.{IsStepped}
use Rattle.worlds.proofs.parts.Counted.{sent_counted, silent_counted, start_counted}
use Rattle.worlds.proofs.parts.Held.{set_other}
use Rattle.worlds.proofs.parts.Marked.{mark_size, request_marked}
use Rattle.worlds.proofs.parts.Moving.{Moved, agree_back, agree_now, may_go_out, nic_is, none_taken, parts_news, scene_news, slots_now}
use Rattle.worlds.proofs.parts.Moving.{strays_news}
use Rattle.worlds.proofs.parts.Placed.{OneLane}
use Rattle.worlds.proofs.parts.Renewed.{IsRenewed, agree_next, as_is, as_told, left, renewed, renewed_by, scene_next}
use Rattle.worlds.proofs.parts.Sets.{at_set}

-- what the code leaves after a firing of rank r, which sends to rank d or nowhere
pub record IsFired (n window r d : ℕ) (sends : Bool) (news : List NodeState) (lanes_after : List Plain) (deliveries firings : List ℕ)
    (nodes_after : List NodeState) (b c : List ℕ) : Type 0 where
  pub gates : nodes_after ≡ (if sends then gated lanes_after n window r d news else news)
  pub of_deliveries : b ≡ (if sends then delivery_mark lanes_after n window r d Request deliveries else deliveries)
  pub of_firings : c ≡ firing_mark nodes_after r firings

-- a step was made
pub record IsDone (p : Plan) (inputs : Inputs) (x : Step) (nodes : List NodeState) (traffic : Traffic) (nodes_after : List NodeState)
    (after : Traffic) : Type 0 where
  pub step : IsStepped p inputs x nodes traffic nodes_after after
  pub world : IsWorld p inputs nodes_after after

-- the interface of a rank of the plan stays that
pub stays_of : (p : Plan) (slots : Slots) (r : ℕ) (go : Beginning) (es : List Local) (v : State) → IsOf p slots r v →
    IsOf p slots r (state go v es)
stays_of p slots r go [] v h = h
stays_of p slots r go (x ∷ es) v h = stays_of p slots r go es (after go v x) (after_of p slots r go v x h)

-- the nodes know how many ranks there are
pub wide_gates : (p : Plan) (inputs : Inputs) (n : ℕ) (nodes : List NodeState) (lanes : List Plain) (window spare : ℕ) →
    AreParts p inputs n nodes lanes window spare → (r : ℕ) → r < n → length (node_at nodes r).closed ≡ n
wide_gates p inputs n nodes lanes window spare parts r h = (parts.node r h).gates ∙ (parts.compiled r h).ranks ∙ parts.count

-- one that has as many as before changes nothing of that
pub wide_news : (p : Plan) (inputs : Inputs) (n : ℕ) (nodes : List NodeState) (lanes : List Plain) (window spare : ℕ) →
    AreParts p inputs n nodes lanes window spare → (r : ℕ) → r < n → (new : NodeState) → new.closed ≡ (node_at nodes r).closed → (q : ℕ) →
    q < n → length (node_at (set nodes r new) q).closed ≡ n
wide_news p inputs n nodes lanes window spare parts r hr new same q hq =
    let size = parts.size in
    at_set (λ (v : NodeState). length v.closed ≡ n) nodes r q new no_node (omega (arith, size))
    (λ i. ap length same ∙ wide_gates p inputs n nodes lanes window spare parts r hr)
    (λ x. wide_gates p inputs n nodes lanes window spare parts q hq)

-- a step that is no start leaves how often a rank started
pub no_start : (locals : List Local) (e : Local) → is_start e ≡ false
    → ◌≡◌ {A = ℕ} (if nat_lt 0 (count_by is_start (locals ++ e ∷ [])) then 0 else 1) (if nat_lt 0 (count_by is_start locals) then 0 else 1)
no_start locals e none =
    let a = count-append is_start locals (e ∷ []) in
    let b = count-cons is_start e [] in
    let i = ap (λ x. cond {A = ℕ} x 1 0) none in
    let same : count_by is_start (locals ++ e ∷ []) ≡ count_by is_start locals = omega (arith, a, b, i) in
    ap (λ x. if nat_lt 0 x then 0 else 1) same

not-not : (b : Bool) → not (not b) ≡ b
not-not true = refl
not-not false = refl

module _ (p : Plan) (inputs : Inputs) (nodes : List NodeState) (traffic : Traffic)
    (k : IsWorld p inputs nodes traffic) where
  abbrev n : ℕ
  n = traffic.setting.ranks

  abbrev lanes : List Plain
  lanes = traffic.lanes

  abbrev starts : List ℕ
  starts = traffic.starts

  abbrev deliveries : List ℕ
  deliveries = traffic.deliveries

  abbrev firings : List ℕ
  firings = traffic.firings

  abbrev window : ℕ
  window = traffic.setting.window

  abbrev strays : ℕ
  strays = traffic.setting.strays

  abbrev spare : ℕ
  spare = traffic.setting.spare

  -- whatever the step is
  pub finish : (x : Step) (news : List NodeState) (lanes_after : List Plain) → AreParts p inputs n news lanes_after window spare →
      AreStrays n news lanes_after strays spare
      → ((slots : ℕ → Slots) → AgreeAll n slots news → scene_of n news lanes_after ≡ step_made (system_of p inputs slots) x
      (scene_of n nodes lanes))
      → ((slots : ℕ → Slots) → AgreeAll n slots news → AgreeAll n slots nodes)
      → (nodes_after : List NodeState) (a b c : List ℕ) → IsRenewed n window news lanes_after nodes_after a b c
      → IsDone p inputs x nodes traffic nodes_after (left traffic.setting lanes_after a b c)
  finish x news lanes_after parts room scene back nodes_after a b c is = record {
    step = record {
      setting = refl;
      scene = λ slots g. scene_next traffic.setting news lanes_after nodes_after a b c is
          ∙ scene slots (agree_next traffic.setting news lanes_after nodes_after a b c is slots g);
      slots = λ slots g. back slots (agree_next traffic.setting news lanes_after nodes_after a b c is slots g);
    };
    world = renewed traffic.setting news lanes_after nodes_after a b c is p inputs parts room;
  }

  -- ---- a firing
  module _ (r : ℕ) (hr : r < n) (t : ℕ) (may : may_go (node_at nodes r).closed (node_at nodes r).nic t ≡ true) where
    pub fire_ready : is_ready (node_at nodes r).nic t ≡ true
    fire_ready = (and_parts _ _ may).0

    fire_enabled : (slots : ℕ → Slots) → AgreeAll n slots nodes → IsEnabled (system_of p inputs slots) (scene_of n nodes lanes).world
        (scene_of n nodes lanes).held r (Fired t)
    fire_enabled slots a = subst (λ v. is_ready v t ≡ true) (nic_is p inputs n nodes lanes window strays spare k.parts k.stray slots a r
        hr) fire_ready

    fire_is : (slots : ℕ → Slots) → AgreeAll n slots nodes → step_made (system_of p inputs slots) (Fire r t) (scene_of n nodes lanes)
        ≡ (let z : Scene = record {
          world = with_step r (Fired t) (scene_of n nodes lanes).world;
          held =
              λ q u l. held_in n lanes q u l ++ sent_more (system_of p inputs slots) (scene_of n nodes lanes).world r (Fired t) q u l;
        }
        in z)
    fire_is slots a = refl

    fire_moved : Moved (node_at nodes r) (fired_node t (node_at nodes r)) (Fired t)
    fire_moved = record {
      task = refl;
      strays = refl;
      locals = refl;
      slots = λ q a. a;
      node =
          fire-node (node_at nodes r) t fire_ready (k.parts.node r hr);
    }

    module _ (o : Option Sent) (makes : o ≡ (fired (node_at nodes r).nic t).message) where
      fire_to : (m : Sent) → o ≡ Some m → m.header.target < n
      fire_to m q =
          let c = k.parts.count in
          let e : (fired (state_at (system_of p inputs (slots_now p inputs n nodes lanes window strays spare k.parts k.stray))
          (scene_of n nodes lanes).world r) t).message ≡ Some m =
          ap (λ v. (fired v t).message) (sym (nic_is p inputs n nodes lanes window strays spare k.parts k.stray
          (slots_now p inputs n nodes lanes window strays spare k.parts k.stray)
          (agree_now p inputs n nodes lanes window strays spare k.parts k.stray) r hr)) ∙ sym makes ∙ q in
          let a = target_known p inputs k.parts.sound (slots_now p inputs n nodes lanes window strays spare k.parts k.stray)
          (scene_of n nodes lanes).world r t m e in
          omega (arith, c, a)

      -- it is a request
      fire_asks : (m : Sent) → o ≡ Some m → lane_of m.header.kind ≡ Request
      fire_asks m q =
          let f = slots_now p inputs n nodes lanes window strays spare k.parts k.stray in
          ap (λ b. if b then Answer else Request) (from_link-request p (f r) r m
          (fired_link p (f r) r t (node_at nodes r).nic m (subst (IsOf p (f r) r) (sym nic_of_history) (of f)) (sym makes ∙ q)))
        where
          nic_of_history : (node_at nodes r).nic ≡ state_at (system_of p inputs
              (slots_now p inputs n nodes lanes window strays spare k.parts k.stray)) (scene_of n nodes lanes).world r
          nic_of_history = nic_is p inputs n nodes lanes window strays spare k.parts k.stray
              (slots_now p inputs n nodes lanes window strays spare k.parts k.stray)
              (agree_now p inputs n nodes lanes window strays spare k.parts k.stray) r hr

          of : (f : ℕ → Slots) → IsOf p (f r) r (state_at (system_of p inputs f) (scene_of n nodes lanes).world r)
          of f = stays_of p (f r) r (start_of p (f r) r) ((scene_of n nodes lanes).world r) (prepare p inputs (f r) r)
              (prepared_of p inputs k.parts.sound (f r) r)

      -- whose lane is open
      fire_open : (m : Sent) → o ≡ Some m → length (lane_at lanes (lane_place n r m.header.target (lane_of m.header.kind))).messages
          < window
      fire_open m q = subst (λ l. length (lane_at lanes (lane_place n r m.header.target l)).messages < window) (sym (fire_asks m q))
          (ltb-true (length (lane_at lanes (lane_place n r m.header.target Request)).messages) window opened)
        where
          goal : target_at (node_at nodes r).nic t ≡ Some m.header.target
          goal = sym (fired-target (node_at nodes r).nic t) ∙ ap rank_of (sym makes ∙ q)

          opened : lane_has lanes n window r m.header.target Request ≡ true
          opened =
              sym (not-not (lane_has lanes n window r m.header.target Request))
              ∙ ap not (sym (k.counted.gates r m.header.target hr (fire_to m q)))
              ∙ ap (goes_out (node_at nodes r).closed) (sym goal)
              ∙ (and_parts (is_ready (node_at nodes r).nic t) (goes_out (node_at nodes r).closed (target_at (node_at nodes r).nic t)) may).1

      pub fire_goes : HasPlace n r lanes o
      fire_goes = may_go_out p inputs n nodes lanes window strays spare k.parts k.stray r hr (Fired t) lanes (none_taken lanes)
          fire_enabled fire_is o makes fire_to fire_open

      abbrev fire_news : List NodeState
      fire_news = set nodes r (fired_node t (node_at nodes r))

      -- a firing is no start
      fire_count : start_count (fired_node t (node_at nodes r)) ≡ start_count (node_at nodes r)
      fire_count = no_start (node_at nodes r).diary.locals (Fired t) refl

      -- no other lane changed
      fire_apart : (m : Sent) → o ≡ Some m → (a b : ℕ) (l : Lane) → a < n → b < n → (OneLane a b l r m.header.target Request → ⊥)
          → lane_at (sent_out n r m lanes) (lane_place n a b l) ≡ lane_at lanes (lane_place n a b l)
      fire_apart m q a b l ha hb x =
          set_other n lanes k.parts.wide r m.header.target (lane_of m.header.kind) hr (fire_to m q)
          ((lane_at lanes (lane_place n r m.header.target (lane_of m.header.kind))).messages ++ m ∷ []) a b l hb
          (λ i. x (record { source = i.source; destination = i.destination; kind = i.kind ∙ fire_asks m q }))

      fire_renewed : (x : Option Sent) → o ≡ x → IsRenewed n window fire_news (out_with n r x lanes)
          (if is_some x then gated (out_with n r x lanes) n window r (receiver r x) fire_news else fire_news) starts
          (if is_some x then delivery_mark (out_with n r x lanes) n window r (receiver r x) Request deliveries else deliveries)
          (firing_mark (if is_some x then gated (out_with n r x lanes) n window r (receiver r x) fire_news else fire_news) r firings)
      fire_renewed None q =
          as_is n window fire_news lanes starts deliveries (firing_mark fire_news r firings)
          (silent_counted n nodes lanes starts deliveries firings window k.counted k.parts.size r hr (fired_node t (node_at nodes r)) refl
          fire_count)
      fire_renewed (Some m) q =
          let size = k.parts.size in
          let length_news = length-set nodes r (fired_node t (node_at nodes r)) in
          as_told n window fire_news (sent_out n r m lanes) r m.header.target (omega (arith, size, length_news, hr)) starts
          (delivery_mark (sent_out n r m lanes) n window r m.header.target Request deliveries)
          (firing_mark (gated (sent_out n r m lanes) n window r m.header.target fire_news) r firings)
          (sent_counted n nodes lanes starts deliveries firings window k.counted k.parts.size r hr (fired_node t (node_at nodes r)) refl
          fire_count
          (wide_gates p inputs n nodes lanes window spare k.parts) (sent_out n r m lanes) r m.header.target hr (fire_to m q)
          (λ a b ha hb x. ap (λ (z : Plain). nat_lt (length z.messages) window)
          (fire_apart m q a b Request ha hb (λ i. x (i.source, i.destination))))
          (delivery_mark (sent_out n r m lanes) n window r m.header.target Request deliveries)
          (mark_size n (sent_out n r m lanes) window r m.header.target Request deliveries ∙ k.counted.wide_deliveries)
          (request_marked n lanes deliveries window (sent_out n r m lanes) r m.header.target hr (fire_to m q) k.counted.wide_deliveries
          k.counted.of_deliveries (fire_apart m q))
          refl)

      pub fire_done : (nodes_after : List NodeState) (b c : List ℕ) → IsFired n window r (receiver r o) (is_some o) fire_news
          (out_with n r o lanes) deliveries firings nodes_after b c
          → IsDone p inputs (Fire r t) nodes traffic nodes_after (left traffic.setting (out_with n r o lanes) starts b c)
      fire_done nodes_after b c is = finish (Fire r t) fire_news (out_with n r o lanes)
          (parts_news p inputs n nodes lanes window strays spare k.parts k.stray r hr (Fired t) lanes (none_taken lanes) fire_enabled
          fire_is o makes fire_to fire_open (fired_node t (node_at nodes r)) fire_moved)
          (strays_news p inputs n nodes lanes window strays spare k.parts k.stray r hr (Fired t) lanes (none_taken lanes) fire_enabled
          fire_is o makes fire_to fire_open (fired_node t (node_at nodes r)) fire_moved tt (omega arith))
          (scene_news p inputs n nodes lanes window strays spare k.parts k.stray r hr (Fired t) lanes (none_taken lanes) fire_enabled
          fire_is o makes fire_to fire_open (fired_node t (node_at nodes r)) fire_moved)
          (agree_back p inputs n nodes lanes window strays spare k.parts k.stray r hr (Fired t) lanes (none_taken lanes) fire_enabled
          fire_is o makes fire_to fire_open (fired_node t (node_at nodes r)) fire_moved)
          nodes_after starts b c
          (renewed_by n window fire_news (out_with n r o lanes)
          (if is_some o then gated (out_with n r o lanes) n window r (receiver r o) fire_news else fire_news) starts
          (if is_some o then delivery_mark (out_with n r o lanes) n window r (receiver r o) Request deliveries else deliveries)
          (λ v. firing_mark v r firings) (fire_renewed o refl) nodes_after b c is.gates is.of_deliveries is.of_firings)

      -- as the code has it
      pub fire_as : (sends : Bool) → sends ≡ is_some o → (d : ℕ) → d ≡ receiver r o → (lanes_after : List Plain) →
          lanes_after ≡ out_with n r o lanes → (news : List NodeState) → news ≡ set nodes r (fired_node t (node_at nodes r))
          → (nodes_after : List NodeState) (b c : List ℕ) → IsFired n window r d sends news lanes_after deliveries firings nodes_after b c →
          IsDone p inputs (Fire r t) nodes traffic nodes_after (left traffic.setting lanes_after starts b c)
      fire_as sends some d whom lanes_after out news made nodes_after b c is =
          subst (λ l. IsDone p inputs (Fire r t) nodes traffic nodes_after (left traffic.setting l starts b c)) (sym out)
          (fire_done nodes_after b c
          (subst (λ x. IsFired n window r (receiver r o) x fire_news (out_with n r o lanes) deliveries firings nodes_after b c) some
          (subst (λ l. IsFired n window r (receiver r o) sends fire_news l deliveries firings nodes_after b c) out
          (subst (λ v. IsFired n window r (receiver r o) sends v lanes_after deliveries firings nodes_after b c) made
          (subst (λ u. IsFired n window r u sends news lanes_after deliveries firings nodes_after b c) whom is)))))

  -- ---- a start
  module _ (r : ℕ) (hr : r < n) (waits : count_by is_start (node_at nodes r).diary.locals ≡ 0) (new : NodeState)
      (st : IsStarted (node_at nodes r) new) (keeps : IsNode new) where
    start_moved : Moved (node_at nodes r) new Started
    start_moved = record {
      task = st.task;
      strays = st.strays;
      locals = ap (λ (d : Diary). d.locals) st.diary;
      slots = st.slots;
      node =
          keeps;
    }

    start_enabled : (slots : ℕ → Slots) → AgreeAll n slots nodes → IsEnabled (system_of p inputs slots) (scene_of n nodes lanes).world
        (scene_of n nodes lanes).held r Started
    start_enabled slots a = waits

    start_is : (slots : ℕ → Slots) → AgreeAll n slots nodes → step_made (system_of p inputs slots) (Start r) (scene_of n nodes lanes)
        ≡ (let z : Scene = record {
          world = with_step r Started (scene_of n nodes lanes).world;
          held =
              λ q u l. held_in n lanes q u l ++ sent_more (system_of p inputs slots) (scene_of n nodes lanes).world r Started q u l;
        }
        in z)
    start_is slots a = refl

    none_to : (m : Sent) → None ≡ Some m → m.header.target < n
    none_to m q = absurd cc

    none_open : (m : Sent) → None ≡ Some m → length (lane_at lanes (lane_place n r m.header.target (lane_of m.header.kind))).messages
        < window
    none_open m q = absurd cc

    pub start_done : (a c : List ℕ) → a ≡ start_mark (set nodes r new) r starts → c ≡ firing_mark (set nodes r new) r firings
        → IsDone p inputs (Start r) nodes traffic (set nodes r new) (left traffic.setting lanes a deliveries c)
    start_done a c of_starts of_firings = finish (Start r) (set nodes r new) lanes
        (parts_news p inputs n nodes lanes window strays spare k.parts k.stray r hr Started lanes (none_taken lanes) start_enabled
        start_is None refl none_to none_open new start_moved)
        (strays_news p inputs n nodes lanes window strays spare k.parts k.stray r hr Started lanes (none_taken lanes) start_enabled
        start_is None refl none_to none_open new start_moved tt (omega arith))
        (scene_news p inputs n nodes lanes window strays spare k.parts k.stray r hr Started lanes (none_taken lanes) start_enabled
        start_is None refl none_to none_open new start_moved)
        (agree_back p inputs n nodes lanes window strays spare k.parts k.stray r hr Started lanes (none_taken lanes) start_enabled
        start_is None refl none_to none_open new start_moved)
        (set nodes r new) a deliveries c
        (as_is n window (set nodes r new) lanes a deliveries c
        (subst (λ u. AreCounted n (set nodes r new) lanes u deliveries c window) (sym of_starts)
        (subst (λ u. AreCounted n (set nodes r new) lanes (start_mark (set nodes r new) r starts) deliveries u window) (sym of_firings)
        (start_counted n nodes lanes starts deliveries firings window k.counted k.parts.size r hr new st.closed))))

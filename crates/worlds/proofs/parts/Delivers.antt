-- A delivery over the parts of a world.
use Rattle.std.proofs.Common.{ℕ, Bool, true, false, not, cond, ◌&&◌, ◌+◌, ◌<◌, ◌≤◌, ◌*◌, ◌≡◌, ◌==◌, ◌∙◌, List, [], ◌∷◌, ◌++◌, Option, Some}
use Rattle.std.proofs.Common.{None, drop, length, count_by, sum_by, filter, nat_lt, if◌then◌else◌, refl, sym, ap, ap₂, subst, inl, inr}
use Rattle.std.proofs.Common.{arith, eq-eqb, eqb-true}
use Rattle.std.proofs.Math.ListN.{set, length-set}
use Rattle.std.proofs.lemmas.Bool.{and_parts, ltb-true}
use Rattle.op_laws.proofs.OpLaws.{op_laws}
use Rattle.op_laws.proofs.Starts.{combined-starts}
use Rattle.op_laws.proofs.Swaps.{combined-swaps}
use Rattle.ptl_types.specs.Kinds.{is_answer, lane_of}
use Rattle.ptl_types.specs.Messages.{Sent}
use Rattle.ptl_types.specs.declared.headers.Lane.{Lane}
use Rattle.ptl_types.specs.declared.headers.Lane.TheVariants.{Request, Answer}
use Rattle.ni_model.specs.State.{State, target}
use Rattle.pair_wires.specs.Lanes.{Plain, plain}
use Rattle.plan_core.specs.Members.{In}
use Rattle.plan_core.specs.Plan.{Plan, from_to}
use Rattle.plan_core.specs.Values.{Inputs}
use Rattle.plan_core.proofs.Lists.{count-append, count-cons}
use Rattle.cuts.specs.view.Calls.{prepare}
use Rattle.cuts.specs.view.Slots.{Slots}
use Rattle.cuts.specs.histories.Cut.{is_received_stray, is_stray, owned}
use Rattle.cuts.specs.histories.History.{Local, May, and_then, got, is_for, is_lane, made, same_lane}
use Rattle.cuts.specs.histories.History.Local.{Receive as Received}
use Rattle.cuts.specs.histories.Moment.{IsEnabled, sent_more}
use Rattle.cuts.specs.histories.Plans.{start_of, system_of}
use Rattle.cuts.specs.histories.System.{state_at}
use Rattle.cuts.proofs.histories.FromCut.{prepared_of}
use Rattle.cuts.proofs.histories.LaneAnswers.{few_answers}
use Rattle.cuts.proofs.histories.Origin.{IsOf, answer_kind, target_answers}
pub use Rattle.rank_node.proofs.of_plan.Firing.{open-possible}
pub use Rattle.rank_node.proofs.of_plan.Receiving.{finds_room, rank-state}
use Rattle.rank_node.specs.of_plan.Ranks.{AreShort, HasStrayRoom, IsRank, MayReceive}
use Rattle.cuts.specs.orders.Chosen.{Scene, delivered, step_made, with_lane}
use Rattle.cuts.specs.orders.Taking.{with_step}
use Rattle.cuts.specs.declared.orders.Step.TheVariants.{Deliver}
use Rattle.cuts.proofs.rest.Next.{next_held}
use Rattle.cuts.specs.windows.Places.{lane_place}
use Rattle.rank_node.proofs.Nodes.{receipt-node}
use Rattle.rank_node.specs.Node.{NodeState, received_node}
use Rattle.worlds.specs.parts.Keeps.{AgreeAll, IsWorld}
use Rattle.worlds.specs.declared.parts.traffic.Traffic.{Traffic}
use Rattle.worlds.specs.parts.Layout.{held_in, lane_at, node_at, scene_of}
use Rattle.worlds.specs.parts.Marks.{HasPlace, delivery_mark, firing_mark, gated, lane_back, lane_has, lane_may, out_with, popped}
use Rattle.worlds.specs.parts.Marks.{start_count}
use Rattle.worlds.proofs.parts.Counted.{delivered_counted}
use Rattle.worlds.proofs.parts.Gated.{scene_by}
use Rattle.worlds.proofs.parts.Held.{held_here, held_set, inside, set_capacity, set_here, set_other, set_size}
use Rattle.worlds.proofs.parts.Marked.{lane_marked, mark_size}
use Rattle.worlds.proofs.parts.Moving.{clash, Moved, Taken, agree_back, agree_now, may_go_out, nic_is, parts_news, scene_news, slots_now}
use Rattle.worlds.proofs.parts.Moving.{strays_news}
use Rattle.worlds.proofs.parts.Placed.{OneLane, lanes_apart}
use Rattle.worlds.proofs.parts.Renewed.{IsRenewed, as_told, left, renewed_by}
use Rattle.worlds.proofs.parts.Sets.{at_set, sum_moves}
use Rattle.worlds.proofs.parts.Steps.{IsDone, finish, no_start, stays_of, wide_gates}
use Rattle.worlds.proofs.parts.Strays.{short_more}

-- what the code leaves after a delivery from s to d
pub record IsDelivered (n window s d : ℕ) (lane : Lane) (news : List NodeState) (lanes_after : List Plain) (deliveries firings : List ℕ)
    (nodes_after : List NodeState) (b c : List ℕ) : Type 0 where
  pub gates : nodes_after ≡ gated lanes_after n window s d news
  pub of_deliveries : b ≡ delivery_mark lanes_after n window d s (lane_back lane) (delivery_mark lanes_after n window s d lane deliveries)
  pub of_firings : c ≡ firing_mark nodes_after s (firing_mark news d firings)

-- an answer goes back to the source of the request
goes_back : (p : Plan) (slots : Slots) (r : ℕ) (v : State) (s : ℕ) (lane : Lane) (m x : Sent) → IsOf p slots r v →
    May false v (Received s lane m) → (target v m).delivered.answer ≡ Some x → x.header.target ≡ s
goes_back p slots r v s lane m x is may q = at ((s == x.header.target) && same_lane lane Request) refl at_most
  where
    kind : is_answer x.header.kind ≡ true
    kind = let a = (target_answers v m x q).1 in answer_kind a.ok a.length a.bytes m.header x a.is

    one : length (filter (is_for x.header.target Answer) (made (start_of p slots r) v (Received s lane m ∷ []))) ≡ 1
    one =
        ap (λ o. length (filter (is_for x.header.target Answer) (and_then o []))) q
        ∙ ap (λ b. length (if b then x ∷ [] else [])) (ap₂ (λ a b. a && b) (eq-eqb x.header.target x.header.target refl) kind)

    at_most : length (filter (is_for x.header.target Answer) (made (start_of p slots r) v (Received s lane m ∷ []))) ≤ length
        (got (Received s lane m ∷ []) x.header.target Request)
    at_most = few_answers p slots r (start_of p slots r) (Received s lane m ∷ []) false v is (may, tt) x.header.target

    at : (b : Bool) → ((s == x.header.target) && same_lane lane Request) ≡ b →
        length (filter (is_for x.header.target Answer) (made (start_of p slots r) v (Received s lane m ∷ []))) ≤ length
        (got (Received s lane m ∷ []) x.header.target Request) → x.header.target ≡ s
    at true e h = sym (eqb-true s x.header.target (and_parts (s == x.header.target) (same_lane lane Request) e).0)
    at false e h = let none = ap (λ b. length (cond b (m ∷ []) [])) e in absurd (omega (arith, none, one, h))

-- without its first message a list has no more of the plan's
owned_front : (m : Sent) (ms : List Sent) → length (owned ms) ≤ length (owned (m ∷ ms))
owned_front m ms = at (not (is_stray m))
  where
    at : (b : Bool) → length (owned ms) ≤ length (cond b (m ∷ owned ms) (owned ms))
    at true = omega arith
    at false = omega arith

module _ (p : Plan) (inputs : Inputs) (nodes : List NodeState) (traffic : Traffic)
    (k : IsWorld p inputs nodes traffic)
    (s d : ℕ) (lane : Lane) (hs : s < traffic.setting.ranks) (hd : d < traffic.setting.ranks)
    (may : lane_may traffic.lanes traffic.setting.ranks traffic.setting.window s d lane ≡ true) where
  abbrev n : ℕ
  n = traffic.setting.ranks

  abbrev lanes : List Plain
  lanes = traffic.lanes

  abbrev starts : List ℕ
  starts = traffic.starts

  abbrev deliveries : List ℕ
  deliveries = traffic.deliveries

  abbrev firings : List ℕ
  firings = traffic.firings

  abbrev window : ℕ
  window = traffic.setting.window

  abbrev strays : ℕ
  strays = traffic.setting.strays

  abbrev spare : ℕ
  spare = traffic.setting.spare

  abbrev ms : List Sent
  ms = (lane_at lanes (lane_place n s d lane)).messages

  some_there : (l : Lane) → lane_may lanes n window s d l ≡ true → nat_lt 0 (length (lane_at lanes (lane_place n s d l)).messages) ≡ true
  some_there Request e = (and_parts _ _ e).0
  some_there Answer e = e

  -- there is a first message
  pub deliver_some : 0 < length (lane_at lanes (lane_place n s d lane)).messages
  deliver_some = ltb-true 0 (length (lane_at lanes (lane_place n s d lane)).messages) (some_there lane may)

  module _ (m : Sent) (front : (lane_at lanes (lane_place n s d lane)).messages ≡ m ∷ drop 1
      (lane_at lanes (lane_place n s d lane)).messages) where
    abbrev rest : List Sent
    rest = drop 1 (lane_at lanes (lane_place n s d lane)).messages

    abbrev mid : List Plain
    mid = popped n s d lane lanes

    abbrev e : Local
    e = Received s lane m

    abbrev z : Scene
    z = scene_of n nodes lanes

    slots : ℕ → Slots
    slots = slots_now p inputs n nodes lanes window strays spare k.parts k.stray

    agree : AgreeAll n slots nodes
    unfolding slots
    agree = agree_now p inputs n nodes lanes window strays spare k.parts k.stray

    front_held : held_in n lanes s d lane ≡ m ∷ rest
    front_held = held_here n lanes s d lane hs hd ∙ front

    first_in : In m (lane_at lanes (lane_place n s d lane)).messages
    first_in = subst (λ xs. In m xs) (sym front) (inl refl)

    count_front : count_by is_stray (lane_at lanes (lane_place n s d lane)).messages ≡ cond (is_stray m) 1 0 + count_by is_stray rest
    count_front = ap (count_by is_stray) front ∙ count-cons is_stray m rest

    deliver_taken : Taken lanes mid
    deliver_taken = record {
      size = set_size n lanes k.parts.wide s d lane hs hd rest ∙ sym k.parts.wide;
      capacity = set_capacity n lanes k.parts.wide s d lane hs hd rest;
      members = λ i x. at_set (λ (l : Plain). In x l.messages → In x (lane_at lanes i).messages) lanes (lane_place n s d lane) i
          (plain rest (lane_at lanes (lane_place n s d lane)).capacity) (plain [] 0) (inside n lanes k.parts.wide s d lane hs hd)
          (λ j h. subst (λ t. In x (lane_at lanes t).messages) (sym j) (subst (λ xs. In x xs) (sym front) (inr h)))
          (λ j h. h);
      strays = λ i. at_set (λ (l : Plain). count_by is_stray l.messages ≤ count_by is_stray (lane_at lanes i).messages) lanes
          (lane_place n s d lane) i (plain rest (lane_at lanes (lane_place n s d lane)).capacity) (plain [] 0)
          (inside n lanes k.parts.wide s d lane hs hd)
          (λ j. let a = ap (λ t. count_by is_stray (lane_at lanes t).messages) j in let b = count_front in omega (arith, a, b))
          (λ j. omega arith);
      own = λ i. at_set (λ (l : Plain). length (owned l.messages) ≤ length (owned (lane_at lanes i).messages)) lanes
          (lane_place n s d lane) i (plain rest (lane_at lanes (lane_place n s d lane)).capacity) (plain [] 0)
          (inside n lanes k.parts.wide s d lane hs hd)
          (λ j. let a = ap (λ t. length (owned (lane_at lanes t).messages)) j in let b = ap (λ xs. length (owned xs)) front in let c =
          owned_front m rest in omega (arith, a, b, c))
          (λ j. omega arith);
    }

    deliver_enabled : (slots : ℕ → Slots) → AgreeAll n slots nodes → IsEnabled (system_of p inputs slots) z.world z.held d e
    deliver_enabled slots a = let c = k.parts.count in (omega (arith, c), (rest, front_held))

    deliver_is : (slots : ℕ → Slots) → AgreeAll n slots nodes → step_made (system_of p inputs slots) (Deliver s d lane) z
        ≡ (let y : Scene = record {
          world = with_step d e z.world;
          held =
              λ q u l. held_in n mid q u l ++ sent_more (system_of p inputs slots) z.world d e q u l;
        } in y)
    deliver_is slots a =
        ap (λ xs. delivered (system_of p inputs slots) s d lane xs z) front_held
        ∙ scene_by (with_step d e z.world) (with_step d e z.world)
        (λ q u l. (with_lane s d lane rest z).held q u l ++ sent_more (system_of p inputs slots) z.world d e q u l)
        (λ q u l. held_in n mid q u l ++ sent_more (system_of p inputs slots) z.world d e q u l)
        (λ q. refl) (λ q u l. ap (λ xs. xs ++ sent_more (system_of p inputs slots) z.world d e q u l)
        (sym (held_set n lanes k.parts.wide s d lane hs hd rest q u l)))

    nic_here : (node_at nodes d).nic ≡ state_at (system_of p inputs slots) z.world d
    nic_here = nic_is p inputs n nodes lanes window strays spare k.parts k.stray slots agree d hd

    may_here : May false (node_at nodes d).nic e
    may_here =
        let c = k.parts.count in
        subst (λ v. May false v e) (sym nic_here)
        (next_held combined-starts p inputs k.parts.sound k.parts.fit (combined-swaps op_laws) slots z.world z.held
        (k.parts.moment slots agree) false d s lane m rest (omega (arith, c)) (omega (arith, c)) front_held)

    -- ---- strays
    short_here : AreShort (e ∷ [])
    short_here = (λ y. k.stray.held s d lane m hs hd first_in y, tt)

    one_count : count_by is_received_stray (e ∷ []) ≡ cond (is_stray m) 1 0
    one_count = let a = count-cons is_received_stray e [] in omega (arith, a)

    fewer : sum_by (λ q. count_by is_stray (lane_at mid (lane_place n q d Request)).messages) (from_to 0 n) + count_by is_received_stray
        (e ∷ []) ≤ sum_by (λ q. count_by is_stray (lane_at lanes (lane_place n q d Request)).messages) (from_to 0 n)
    fewer =
        let a = sum_moves (λ q. count_by is_stray (lane_at lanes (lane_place n q d Request)).messages)
        (λ q. count_by is_stray (lane_at mid (lane_place n q d Request)).messages) s (count_by is_received_stray (e ∷ [])) 0 0 n
        (omega arith) (omega arith)
        (λ q x low high. deliver_taken.strays (lane_place n q d Request)) (at_lane (is_stray m) refl) in
        omega (arith, a)
      where
        asks : is_stray m ≡ true → lane ≡ Request
        asks y = let c = k.parts.count in ((k.parts.moment slots agree).strays s d lane m (omega (arith, c)) (omega (arith, c))
            (subst (λ xs. In m xs) (sym (held_here n lanes s d lane hs hd)) first_in) y).asks

        at_lane : (b : Bool) → is_stray m ≡ b → count_by is_stray (lane_at mid (lane_place n s d Request)).messages + count_by
            is_received_stray (e ∷ []) ≤ count_by is_stray (lane_at lanes (lane_place n s d Request)).messages + 0
        at_lane false y = let a = one_count in let b = ap (λ t. cond {A = ℕ} t 1 0) y in let c =
            deliver_taken.strays
            (lane_place n s d Request) in
            omega (arith, a, b, c)
        at_lane true y =
            let a = one_count in
            let b = count_front in
            let c = ap (λ t. count_by is_stray (lane_at lanes (lane_place n s d t)).messages) (asks y) in
            let f = ap (λ t. count_by is_stray (lane_at mid (lane_place n s d t)).messages) (asks y) in
            let g = ap (count_by is_stray) (set_here n lanes k.parts.wide s d lane hs hd rest) in
            omega (arith, a, b, c, f, g)

    stray_room : HasStrayRoom (node_at nodes d) e
    stray_room = record {
      at_most =
          let a = count-append is_received_stray (node_at nodes d).diary.locals (e ∷ []) in
          let b = k.stray.at_most d hd in
          let c = k.stray.room d hd in
          let f = fewer in
          omega (arith, a, b, c, f);
      short = short_more (node_at nodes d).diary.locals e (k.stray.received d hd) short_here;
    }

    -- the node has room for it
    pub deliver_room : MayReceive (node_at nodes d) s lane m
    deliver_room =
        let c = k.parts.count in
        let is : IsRank p inputs slots z d (node_at nodes d) =
        record { compiled = k.parts.compiled d hd; node = k.parts.node d hd; agrees = agree d hd; history = refl } in
        finds_room p inputs k.parts.sound k.parts.fit slots z (k.parts.moment slots agree) d s lane m rest (omega (arith, c))
        (omega (arith, c)) front_held (node_at nodes d) is stray_room

    deliver_moved : Moved (node_at nodes d) (received_node s lane m (node_at nodes d)) e
    deliver_moved = record {
      task = refl;
      strays = refl;
      locals = refl;
      slots = λ q a. a;
      node = receipt-node (node_at nodes d) s lane m may_here deliver_room.receipts deliver_room.bytes (k.parts.node d hd);
    }

    module _ (o : Option Sent) (makes : o ≡ (target (node_at nodes d).nic m).delivered.answer) where
      back_to : (x : Sent) → o ≡ Some x → x.header.target ≡ s
      back_to x q =
          goes_back p (slots d) d (node_at nodes d).nic s lane m x
          (subst (IsOf p (slots d) d) (sym nic_here) (stays_of p (slots d) d (start_of p (slots d) d) (z.world d)
          (prepare p inputs (slots d) d) (prepared_of p inputs k.parts.sound (slots d) d)))
          may_here (sym makes ∙ q)

      deliver_to : (x : Sent) → o ≡ Some x → x.header.target < n
      deliver_to x q = subst (λ t. t < n) (sym (back_to x q)) hs

      -- it is an answer to a request
      came : (x : Sent) → o ≡ Some x → (is_answer m.header.kind ≡ false) × (is_answer x.header.kind ≡ true)
      came x q = let a = target_answers (node_at nodes d).nic m x (sym makes ∙ q) in
          (a.0, answer_kind a.1.ok a.1.length a.1.bytes m.header x a.1.is)

      request : (x : Sent) → o ≡ Some x → lane ≡ Request
      request x q = asked lane may_here.2
        where
          asked : (l : Lane) → is_lane l m.header.kind ≡ true → l ≡ Request
          asked Request y = refl
          asked Answer y = absurd (clash (came x q).0 y)

      answers : (x : Sent) → o ≡ Some x → lane_of x.header.kind ≡ Answer
      answers x q = ap (λ b. if b then Answer else Request) (came x q).1

      -- whose lane is open
      deliver_open : (x : Sent) → o ≡ Some x → length (lane_at mid (lane_place n d x.header.target (lane_of x.header.kind))).messages
          < window
      deliver_open x q = subst (λ i. length (lane_at mid i).messages < window) (sym place)
          (subst (λ (l : Plain). length l.messages < window) (sym same)
          (ltb-true (length (lane_at lanes (lane_place n d s Answer)).messages) window opened))
        where
          place : lane_place n d x.header.target (lane_of x.header.kind) ≡ lane_place n d s Answer
          place = ap₂ (λ i l. lane_place n d i l) (back_to x q) (answers x q)

          same : lane_at mid (lane_place n d s Answer) ≡ lane_at lanes (lane_place n d s Answer)
          same = set_other n lanes k.parts.wide s d lane hs hd rest d s Answer hs (λ i. lanes_apart (i.kind ∙ request x q))

          opened : lane_has lanes n window d s Answer ≡ true
          opened = (and_parts (nat_lt 0 (length (lane_at lanes (lane_place n s d Request)).messages)) (lane_has lanes n window d s Answer)
              (subst (λ l. lane_may lanes n window s d l ≡ true) (request x q) may)).1

      pub deliver_goes : HasPlace n d mid o
      deliver_goes = may_go_out p inputs n nodes lanes window strays spare k.parts k.stray d hd e mid deliver_taken deliver_enabled
          deliver_is o makes deliver_to deliver_open

      abbrev received : List NodeState
      received = set nodes d (received_node s lane m (node_at nodes d))

      abbrev answered : List Plain
      answered = out_with n d o mid

      -- a receipt is no start
      deliver_count : start_count (received_node s lane m (node_at nodes d)) ≡ start_count (node_at nodes d)
      deliver_count = no_start (node_at nodes d).diary.locals (Received s lane m) refl

      mid_size : length mid ≡ 2 * (n * n)
      mid_size = deliver_taken.size ∙ k.parts.wide

      -- no lanes changed but the one and the one back
      deliver_apart : (y : Option Sent) → o ≡ y → (a b : ℕ) (l : Lane) → a < n → b < n → (OneLane a b l s d lane → ⊥) →
          (OneLane a b l d s (lane_back lane) → ⊥)
          → lane_at (out_with n d y mid) (lane_place n a b l) ≡ lane_at lanes (lane_place n a b l)
      deliver_apart None q a b l ha hb there back = set_other n lanes k.parts.wide s d lane hs hd rest a b l hb there
      deliver_apart (Some x) q a b l ha hb there back =
          set_other n mid mid_size d x.header.target (lane_of x.header.kind) hd (deliver_to x q)
          ((lane_at mid (lane_place n d x.header.target (lane_of x.header.kind))).messages ++ x ∷ []) a b l hb
          (λ i. back (record {
            source = i.source;
            destination = i.destination ∙ back_to x q;
            kind = i.kind ∙ answers x q
                ∙ sym (ap lane_back (request x q));
          }))
          ∙ set_other n lanes k.parts.wide s d lane hs hd rest a b l hb there

      -- no other request lane
      deliver_rooms : (y : Option Sent) → o ≡ y → (a b : ℕ) → a < n → b < n → ((a ≡ s) × (b ≡ d) → ⊥) →
          lane_has (out_with n d y mid) n window a b Request ≡ lane_has lanes n window a b Request
      deliver_rooms None q a b ha hb there =
          ap (λ (z : Plain). nat_lt (length z.messages) window)
          (set_other n lanes k.parts.wide s d lane hs hd rest a b Request hb (λ i. there (i.source, i.destination)))
      deliver_rooms (Some x) q a b ha hb there =
          ap (λ (z : Plain). nat_lt (length z.messages) window)
          (set_other n mid mid_size d x.header.target (lane_of x.header.kind) hd (deliver_to x q)
          ((lane_at mid (lane_place n d x.header.target (lane_of x.header.kind))).messages ++ x ∷ []) a b Request hb
          (λ i. lanes_apart (sym (i.kind ∙ answers x q)))
          ∙ set_other n lanes k.parts.wide s d lane hs hd rest a b Request hb (λ i. there (i.source, i.destination)))

      deliver_renewed : IsRenewed n window received answered (gated answered n window s d received) starts
          (delivery_mark answered n window d s (lane_back lane) (delivery_mark answered n window s d lane deliveries))
          (firing_mark (gated answered n window s d received) s (firing_mark received d firings))
      deliver_renewed =
          let size = k.parts.size in
          let length_received = length-set nodes d (received_node s lane m (node_at nodes d)) in
          as_told n window received answered s d (omega (arith, size, length_received, hs)) starts
          (delivery_mark answered n window d s (lane_back lane) (delivery_mark answered n window s d lane deliveries))
          (firing_mark (gated answered n window s d received) s (firing_mark received d firings))
          (delivered_counted n nodes lanes starts deliveries firings window k.counted k.parts.size d hd
          (received_node s lane m (node_at nodes d)) refl deliver_count
          (wide_gates p inputs n nodes lanes window spare k.parts) answered s d hs hd (deliver_rooms o refl)
          (delivery_mark answered n window d s (lane_back lane) (delivery_mark answered n window s d lane deliveries))
          (mark_size n answered window d s (lane_back lane) (delivery_mark answered n window s d lane deliveries)
          ∙ mark_size n answered window s d lane deliveries ∙ k.counted.wide_deliveries)
          (lane_marked n lanes deliveries window answered s d hs hd k.counted.wide_deliveries k.counted.of_deliveries lane
          (deliver_apart o refl)))

      pub deliver_done : (nodes_after : List NodeState) (b c : List ℕ) →
          IsDelivered n window s d lane (set nodes d (received_node s lane m (node_at nodes d))) (out_with n d o mid) deliveries firings
          nodes_after b c
          → IsDone p inputs (Deliver s d lane) nodes traffic nodes_after (left traffic.setting (out_with n d o mid) starts b c)
      deliver_done nodes_after b c is = finish p inputs nodes traffic k (Deliver s d lane)
          (set nodes d (received_node s lane m (node_at nodes d))) (out_with n d o mid)
          (parts_news p inputs n nodes lanes window strays spare k.parts k.stray d hd e mid deliver_taken deliver_enabled deliver_is o
          makes deliver_to deliver_open (received_node s lane m (node_at nodes d)) deliver_moved)
          (strays_news p inputs n nodes lanes window strays spare k.parts k.stray d hd e mid deliver_taken deliver_enabled deliver_is o
          makes deliver_to deliver_open (received_node s lane m (node_at nodes d)) deliver_moved short_here fewer)
          (scene_news p inputs n nodes lanes window strays spare k.parts k.stray d hd e mid deliver_taken deliver_enabled deliver_is o
          makes deliver_to deliver_open (received_node s lane m (node_at nodes d)) deliver_moved)
          (agree_back p inputs n nodes lanes window strays spare k.parts k.stray d hd e mid deliver_taken deliver_enabled deliver_is o
          makes deliver_to deliver_open (received_node s lane m (node_at nodes d)) deliver_moved)
          nodes_after starts b c
          (renewed_by n window received answered (gated answered n window s d received) starts
          (delivery_mark answered n window d s (lane_back lane) (delivery_mark answered n window s d lane deliveries))
          (λ v. firing_mark v s (firing_mark received d firings)) deliver_renewed nodes_after b c is.gates is.of_deliveries is.of_firings)

      -- as the code has it
      pub deliver_as : (lanes_after : List Plain) → lanes_after ≡ out_with n d o mid → (news : List NodeState) →
          news ≡ set nodes d (received_node s lane m (node_at nodes d))
          → (nodes_after : List NodeState) (b c : List ℕ) → IsDelivered n window s d lane news lanes_after deliveries firings nodes_after
          b c →
          IsDone p inputs (Deliver s d lane) nodes traffic nodes_after (left traffic.setting lanes_after starts b c)
      deliver_as lanes_after out news made nodes_after b c is =
          subst (λ l. IsDone p inputs (Deliver s d lane) nodes traffic nodes_after (left traffic.setting l starts b c)) (sym out)
          (deliver_done nodes_after b c
          (subst (λ l. IsDelivered n window s d lane (set nodes d (received_node s lane m (node_at nodes d))) l deliveries firings
          nodes_after b
          c) out
          (subst (λ v. IsDelivered n window s d lane v lanes_after deliveries firings nodes_after b c) made is)))

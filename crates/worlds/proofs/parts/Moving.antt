-- One rank's part of a step over the parts of a world: its node has a step more, and what that makes goes to the end of a lane.
use Rattle.std.proofs.Common.{ℕ, Bool, true, false, cond, ◌+◌, ◌*◌, ◌<◌, ◌≤◌, ◌≡◌, ◌⊎◌, ◌==◌, ◌∙◌, List, [], ◌∷◌, ◌++◌, Option, Some, None}
use Rattle.std.proofs.Common.{length, count_by, sum_by, filter, if◌then◌else◌, refl, sym, ap, subst, inl, inr, arith, eq-eqb, length-append}
use Rattle.std.proofs.Math.ListN.{set, length-set}
use Rattle.std.proofs.lemmas.Bool.{cases_Bool, cases_eq, ne_eqb}
use Rattle.std.proofs.lemmas.List.{get_or-set_same, get_or-set_other}
use Rattle.op_laws.proofs.OpLaws.{op_laws}
use Rattle.op_laws.proofs.Starts.{combined-starts}
use Rattle.op_laws.proofs.Swaps.{combined-swaps}
use Rattle.ptl_types.specs.Kinds.{lane_of}
use Rattle.ptl_types.specs.Messages.{Sent}
use Rattle.ptl_types.specs.declared.headers.Lane.{Lane}
use Rattle.ptl_types.specs.declared.headers.Lane.TheVariants.{Request, Answer}
use Rattle.pair_wires.specs.Lanes.{Plain, plain}
use Rattle.plan_core.specs.calls.Lanes.{lane_messages}
use Rattle.plan_core.specs.Members.{In}
use Rattle.plan_core.specs.Plan.{Plan, from_to}
use Rattle.plan_core.specs.Values.{Inputs}
use Rattle.plan_core.proofs.Lists.{In-append_cases, In-append_right, count-append}
use Rattle.cuts.specs.view.Calls.{prepare}
use Rattle.cuts.specs.view.Slots.{Slots}
use Rattle.cuts.specs.histories.Cut.{is_received_stray, is_stray, owned}
use Rattle.cuts.specs.histories.History.{Local, and_then, is_for, made, made_by, state}
use Rattle.cuts.specs.histories.Moment.{IsEnabled, IsMoment, sent_more}
use Rattle.cuts.specs.histories.Plans.{start_of, system_of}
use Rattle.cuts.specs.histories.System.{state_at}
use Rattle.cuts.proofs.histories.Clean.{made-clean}
use Rattle.cuts.proofs.histories.Fronts.{made-append}
use Rattle.rank_node.specs.of_plan.Ranks.{AreShort}
use Rattle.cuts.proofs.orders.Choosing.{listed_made}
use Rattle.cuts.specs.orders.Chosen.{Scene, step_made}
use Rattle.cuts.specs.orders.Taking.{with_step}
use Rattle.cuts.proofs.rest.LaneCuts.{lane_few}
use Rattle.cuts.proofs.rest.Moments.{next_local}
use Rattle.cuts.proofs.windows.Lanes.{held_few}
use Rattle.cuts.proofs.windows.Listed.{enabled_listed}
use Rattle.cuts.specs.windows.Named.{named}
use Rattle.cuts.specs.windows.Places.{lane_place}
use Rattle.rank_node.proofs.Nodes.{agrees}
use Rattle.rank_node.proofs.Plans.{run-state}
use Rattle.rank_node.specs.Handles.{Agrees, slots_of}
use Rattle.rank_node.specs.Node.{IsNode, NodeState}
use Rattle.rank_node.specs.Plans.{IsCompiledFor}
use Rattle.worlds.specs.parts.Keeps.{AgreeAll, AreParts, AreStrays, spare_on, strays_for}
use Rattle.worlds.specs.parts.Layout.{held_in, lane_at, no_node, node_at, scene_of}
use Rattle.worlds.specs.parts.Marks.{HasPlace, out_with, sent_out}
use Rattle.worlds.proofs.parts.Gated.{scene_by}
use Rattle.worlds.proofs.parts.Held.{held_here, held_out, inside, set_capacity, set_here, set_size}
use Rattle.worlds.proofs.parts.Placed.{lanes_apart}
use Rattle.worlds.proofs.parts.Sets.{at_set, part_le, sum_le}
use Rattle.worlds.proofs.parts.Strays.{clean_more, none_count, owned_and_strays, owned_more, short_more}

-- a node after a step of its rank
pub record Moved (old new : NodeState) (e : Local) : Type 0 where
  pub task : new.task ≡ old.task
  pub strays : new.strays ≡ old.strays
  pub locals : new.diary.locals ≡ old.diary.locals ++ e ∷ []
  pub slots : (k : Slots) → Agrees k new.kept → Agrees k old.kept
  pub node : IsNode new

-- lanes of which messages were taken
pub record Taken (lanes mid : List Plain) : Type 0 where
  pub size : length mid ≡ length lanes
  pub capacity : (i : ℕ) → (lane_at mid i).capacity ≡ (lane_at lanes i).capacity
  pub members : (i : ℕ) (m : Sent) → In m (lane_at mid i).messages → In m (lane_at lanes i).messages
  pub strays : (i : ℕ) → count_by is_stray (lane_at mid i).messages ≤ count_by is_stray (lane_at lanes i).messages
  pub own : (i : ℕ) → length (owned (lane_at mid i).messages) ≤ length (owned (lane_at lanes i).messages)

pub none_taken : (lanes : List Plain) → Taken lanes lanes
none_taken lanes = record { size = refl; capacity = λ i. refl; members = λ i m h. h; strays = λ i. omega arith; own = λ i. omega arith }

pub clash : {b : Bool} → b ≡ false → b ≡ true → ⊥
clash e i = cc

-- ---- the parts as they were
module _ (p : Plan) (inputs : Inputs) (n : ℕ) (nodes : List NodeState) (lanes : List Plain) (window strays spare : ℕ)
    (parts : AreParts p inputs n nodes lanes window spare) (room : AreStrays n nodes lanes strays spare) where
  -- there are slots that agree
  pub slots_now : ℕ → Slots
  slots_now r = slots_of (node_at nodes r).kept

  pub agree_now : AgreeAll n slots_now nodes
  unfolding slots_now
  agree_now r h = agrees (node_at nodes r).kept (parts.node r h).descriptors

  pub nic_is : (slots : ℕ → Slots) → AgreeAll n slots nodes → (r : ℕ) → r < n →
      (node_at nodes r).nic ≡ state_at (system_of p inputs slots) (scene_of n nodes lanes).world r
  nic_is slots a r h = run-state p inputs slots (scene_of n nodes lanes).world r (node_at nodes r) (parts.compiled r h) (parts.node r h)
      (a r h) refl

  -- strays lie in request lanes alone, and are few
  pub few_on : (s d : ℕ) (lane : Lane) → s < n → d < n → count_by is_stray (lane_at lanes (lane_place n s d lane)).messages ≤ spare_on
      lane spare
  few_on s d Request hs hd =
      let a = room.at_most d hd in
      let b = part_le (λ q. count_by is_stray (lane_at lanes (lane_place n q d Request)).messages) s 0 n (omega arith) (omega arith) in
      omega (arith, a, b)
  few_on s d Answer hs hd =
      let e = none_count (lane_at lanes (lane_place n s d Answer)).messages (λ m i. elim (cases_Bool (is_stray m)) [
        | inr isnt ↦ isnt
        | inl strange ↦
            let c = parts.count in
            let j : In m (held_in n lanes s d Answer) = subst (λ ms. In m ms) (sym (held_here n lanes s d Answer hs hd)) i in
            let x = ((parts.moment slots_now agree_now).strays s d Answer m (omega (arith, c)) (omega (arith, c)) j strange).asks in
            absurd (lanes_apart x)
      ]) in
      omega (arith, e)

  -- at a moment a lane holds, strays left out, at most the plan's messages
  pub few_held : (slots : ℕ → Slots) (z : Scene) → IsMoment (system_of p inputs slots) z.world z.held → (s d : ℕ) (lane : Lane) → s < n →
      d < n → length (owned (z.held s d lane)) ≤ lane_messages p s d lane
  few_held slots z moment s d lane hs hd =
      let c = parts.count in
      held_few (system_of p inputs slots) z s d lane (lane_messages p s d lane) moment (omega arith) (omega arith)
      (lane_few combined-starts p inputs parts.sound parts.fit slots z.world moment.cut s d lane (omega arith) (omega arith))

  -- ---- rank r makes step e, when the lanes are these
  module _ (r : ℕ) (hr : r < n) (e : Local) (mid : List Plain) (taken : Taken lanes mid)
      (enabled : (slots : ℕ → Slots) → AgreeAll n slots nodes → IsEnabled (system_of p inputs slots) (scene_of n nodes lanes).world
      (scene_of n nodes lanes).held r e) where
    -- the moment after it
    abbrev behind : (ℕ → Slots) → Scene
    behind slots = record {
      world = with_step r e (scene_of n nodes lanes).world;
      held = λ q u l. held_in n mid q u l ++ sent_more (system_of p inputs slots) (scene_of n nodes lanes).world r e q u l;
    }

    module _ (is : (slots : ℕ → Slots) → AgreeAll n slots nodes → step_made (system_of p inputs slots) (named r e)
        (scene_of n nodes lanes) ≡ behind slots) where
      moment_behind : (slots : ℕ → Slots) → AgreeAll n slots nodes → IsMoment (system_of p inputs slots) (behind slots).world
          (behind slots).held
      moment_behind slots a =
          let k = system_of p inputs slots in
          let c = parts.count in
          let z = scene_of n nodes lanes in
          let step = listed_made k z (named r e) (enabled_listed k z r e (omega arith) (enabled slots a)) in
          subst (λ (v : Scene). IsMoment (system_of p inputs slots) v.world v.held) (is slots a)
          (next_local combined-starts p inputs parts.sound parts.fit (combined-swaps op_laws) slots z.world z.held (parts.moment slots a)
          (step_made k (named r e) z).world (step_made k (named r e) z).held step)

      -- what it makes
      module _ (o : Option Sent) (makes : o ≡ made_by (node_at nodes r).nic e) (goes : (m : Sent) → o ≡ Some m → m.header.target < n)
          (open_lane : (m : Sent) → o ≡ Some m → length (lane_at mid (lane_place n r m.header.target (lane_of m.header.kind))).messages
          < window) where
        makes_at : (slots : ℕ → Slots) → AgreeAll n slots nodes →
            made_by (state_at (system_of p inputs slots) (scene_of n nodes lanes).world r) e ≡ o
        makes_at slots a = sym (makes ∙ ap (λ v. made_by v e) (nic_is slots a r hr))

        -- no stray
        clean : (m : Sent) → o ≡ Some m → is_stray m ≡ false
        clean m q =
            let w = (scene_of n nodes lanes).world in
            let first = prepare p inputs (slots_now r) r in
            let go = start_of p (slots_now r) r in
            made-clean p inputs parts.sound (slots_now r) r (w r ++ e ∷ []) m
            (subst (λ ms. In m ms) (sym (made-append go first (w r) (e ∷ [])))
            (In-append_right m (made go first (w r)) (made go (state go first (w r)) (e ∷ []))
            (subst (λ x. In m (and_then x [])) (sym (makes_at slots_now agree_now ∙ q)) (inl refl))))

        mid_size : length mid ≡ 2 * (n * n)
        mid_size = taken.size ∙ parts.wide

        abbrev lanes_after : List Plain
        lanes_after = out_with n r o mid

        held_later : (slots : ℕ → Slots) → AgreeAll n slots nodes → (q u : ℕ) (l : Lane) → held_in n lanes_after q u l ≡ (behind
            slots).held q u l
        held_later slots a q u l =
            held_out n mid mid_size r hr o goes q u l
            ∙ ap (λ x. held_in n mid q u l ++ (if q == r then filter (is_for u l) (and_then x []) else [])) (sym (makes_at slots a))

        -- there is room for it
        pub may_go_out : HasPlace n r mid o
        may_go_out = at o refl
          where
            at : (x : Option Sent) → o ≡ x → HasPlace n r mid x
            at None q = tt
            at (Some m) q =
                let d = m.header.target in
                let lane = lane_of m.header.kind in
                let hd : m.header.target < n = goes m q in
                let i = lane_place n r m.header.target (lane_of m.header.kind) in
                let full : (behind slots_now).held r m.header.target (lane_of m.header.kind)
                ≡ (lane_at mid (lane_place n r m.header.target (lane_of m.header.kind))).messages ++ m ∷ [] = holds m q hd in
                let at_most = few_on r d lane hr hd in
                let less = taken.strays i in
                let more = clean_more (lane_at mid i).messages m (clean m q) in
                let count = ap (count_by is_stray) full in
                let size = ap length full in
                let one = length-append (lane_at mid i).messages (m ∷ []) in
                let cap = taken.capacity i in
                let most = few_held slots_now (behind slots_now) (moment_behind slots_now agree_now) r d lane hr hd in
                let enough = parts.room r d lane hr hd in
                let split = owned_and_strays ((behind slots_now).held r d lane) in
                let under = owned_more (lane_at mid i).messages m in
                let own = ap (λ xs. length (owned xs)) full in
                let wide = open_lane m q in
                (hd, omega (arith, at_most, less, more, count, size, one, cap, most, enough, split, under, own, wide))
              where
                holds : (m : Sent) → o ≡ Some m → m.header.target < n → (behind slots_now).held r m.header.target (lane_of m.header.kind)
                    ≡ (lane_at mid (lane_place n r m.header.target (lane_of m.header.kind))).messages ++ m ∷ []
                holds m q hd =
                    sym (held_later slots_now agree_now r m.header.target (lane_of m.header.kind))
                    ∙ ap (λ x. held_in n (out_with n r x mid) r m.header.target (lane_of m.header.kind)) q
                    ∙ held_here n (sent_out n r m mid) r m.header.target (lane_of m.header.kind) hr hd
                    ∙ set_here n mid mid_size r m.header.target (lane_of m.header.kind) hr hd
                    ((lane_at mid (lane_place n r m.header.target (lane_of m.header.kind))).messages ++ m ∷ [])

        -- ---- the lanes after it
        later_size : length lanes_after ≡ 2 * (n * n)
        later_size = at o refl
          where
            at : (x : Option Sent) → o ≡ x → length (out_with n r x mid) ≡ 2 * (n * n)
            at None q = mid_size
            at (Some m) q = set_size n mid mid_size r m.header.target (lane_of m.header.kind) hr (goes m q)
                ((lane_at mid (lane_place n r m.header.target (lane_of m.header.kind))).messages ++ m ∷ [])

        later_capacity : (i : ℕ) → (lane_at lanes_after i).capacity ≡ (lane_at lanes i).capacity
        later_capacity i = at o refl
          where
            at : (x : Option Sent) → o ≡ x → (lane_at (out_with n r x mid) i).capacity ≡ (lane_at lanes i).capacity
            at None q = taken.capacity i
            at (Some m) q = set_capacity n mid mid_size r m.header.target (lane_of m.header.kind) hr (goes m q)
                ((lane_at mid (lane_place n r m.header.target (lane_of m.header.kind))).messages ++ m ∷ []) i ∙ taken.capacity i

        -- what is in a lane was there, or is what was made
        later_members : (i : ℕ) (x : Sent) → In x (lane_at lanes_after i).messages → In x (lane_at lanes i).messages ⊎ (o ≡ Some x)
        later_members i x = at o refl
          where
            at : (y : Option Sent) → o ≡ y → In x (lane_at (out_with n r y mid) i).messages → In x (lane_at lanes i).messages ⊎ (o ≡ Some x)
            at None q = λ h. inl (taken.members i x h)
            at (Some m) q =
                at_set (λ (l : Plain). In x l.messages → In x (lane_at lanes i).messages ⊎ (o ≡ Some x)) mid
                (lane_place n r m.header.target (lane_of m.header.kind)) i
                (plain ((lane_at mid (lane_place n r m.header.target (lane_of m.header.kind))).messages ++ m ∷ [])
                (lane_at mid (lane_place n r m.header.target (lane_of m.header.kind))).capacity) (plain [] 0)
                (inside n mid mid_size r m.header.target (lane_of m.header.kind) hr (goes m q))
                (λ j h. elim (In-append_cases x (lane_at mid (lane_place n r m.header.target (lane_of m.header.kind))).messages (m ∷ [])
                h) [
                  | inl k ↦ inl (taken.members i x (subst (λ t. In x (lane_at mid t).messages) (sym j) k))
                  | inr (inl e) ↦ inr (q ∙ ap Some e)
                  | inr (inr e) ↦ absurd e
                ])
                (λ j h. inl (taken.members i x h))

        later_strays : (i : ℕ) → count_by is_stray (lane_at lanes_after i).messages ≤ count_by is_stray (lane_at mid i).messages
        later_strays i = at o refl
          where
            at : (y : Option Sent) → o ≡ y → count_by is_stray (lane_at (out_with n r y mid) i).messages ≤ count_by is_stray
                (lane_at mid i).messages
            at None q = omega arith
            at (Some m) q =
                at_set (λ (l : Plain). count_by is_stray l.messages ≤ count_by is_stray (lane_at mid i).messages) mid
                (lane_place n r m.header.target (lane_of m.header.kind)) i
                (plain ((lane_at mid (lane_place n r m.header.target (lane_of m.header.kind))).messages ++ m ∷ [])
                (lane_at mid (lane_place n r m.header.target (lane_of m.header.kind))).capacity) (plain [] 0)
                (inside n mid mid_size r m.header.target (lane_of m.header.kind) hr (goes m q))
                (λ j. let a = clean_more (lane_at mid (lane_place n r m.header.target (lane_of m.header.kind))).messages m (clean m q) in
                let b = ap (λ t. count_by is_stray (lane_at mid t).messages) j in omega (arith, a, b))
                (λ j. omega arith)

        later_within : (s d : ℕ) (lane : Lane) → s < n → d < n → length (owned (lane_at lanes_after (lane_place n s d lane)).messages) ≤
            window
        later_within s d lane hs hd = at o refl
          where
            mid_within : length (owned (lane_at mid (lane_place n s d lane)).messages) ≤ window
            mid_within = let a = taken.own (lane_place n s d lane) in let b = parts.within s d lane hs hd in omega (arith, a, b)

            at : (y : Option Sent) → o ≡ y → length (owned (lane_at (out_with n r y mid) (lane_place n s d lane)).messages) ≤ window
            at None q = mid_within
            at (Some m) q =
                at_set (λ (l : Plain). length (owned l.messages) ≤ window) mid (lane_place n r m.header.target (lane_of m.header.kind))
                (lane_place n s d lane)
                (plain ((lane_at mid (lane_place n r m.header.target (lane_of m.header.kind))).messages ++ m ∷ [])
                (lane_at mid (lane_place n r m.header.target (lane_of m.header.kind))).capacity) (plain [] 0)
                (inside n mid mid_size r m.header.target (lane_of m.header.kind) hr (goes m q))
                (λ j. let a = owned_more (lane_at mid (lane_place n r m.header.target (lane_of m.header.kind))).messages m in let b =
                open_lane m q in omega (arith, a, b))
                (λ j. mid_within)

        -- ---- the nodes after it
        module _ (new : NodeState) (moved : Moved (node_at nodes r) new e) where
          abbrev news : List NodeState
          news = set nodes r new

          inside_nodes : r < length nodes
          inside_nodes = let a = parts.size in omega arith

          news_size : length news ≡ n
          news_size = length-set nodes r new ∙ parts.size

          new_here : node_at news r ≡ new
          new_here = get_or-set_same nodes r new no_node inside_nodes

          news_other : (q : ℕ) → (q ≡ r → ⊥) → node_at news q ≡ node_at nodes q
          news_other q x = get_or-set_other nodes r q new no_node x

          pub agree_back : (slots : ℕ → Slots) → AgreeAll n slots news → AgreeAll n slots nodes
          agree_back slots a q h = elim (cases_eq q r) [
            | inl i ↦ subst (λ t. Agrees (slots q) (node_at nodes t).kept) (sym i)
                (moved.slots (slots q) (subst (λ (v : NodeState). Agrees (slots q) v.kept) (ap (node_at news) i ∙ new_here) (a q h)))
            | inr x ↦ subst (λ (v : NodeState). Agrees (slots q) v.kept) (news_other q x) (a q h)
          ]

          world_news : (q : ℕ) → (node_at news q).diary.locals ≡ with_step r e (scene_of n nodes lanes).world q
          world_news q = at_set (λ (v : NodeState). v.diary.locals ≡ with_step r e (scene_of n nodes lanes).world q) nodes r q new no_node
              inside_nodes
              (λ i. moved.locals ∙ ap (λ t. (node_at nodes t).diary.locals ++ e ∷ []) (sym i)
              ∙ sym (ap (λ b. cond b ((node_at nodes q).diary.locals ++ e ∷ []) (node_at nodes q).diary.locals) (eq-eqb r q (sym i))))
              (λ x. sym (ap (λ b. cond b ((node_at nodes q).diary.locals ++ e ∷ []) (node_at nodes q).diary.locals)
              (ne_eqb r q (λ h. x (sym h)))))

          pub scene_news : (slots : ℕ → Slots) → AgreeAll n slots news → scene_of n news lanes_after ≡ step_made (system_of p inputs slots)
              (named r e) (scene_of n nodes lanes)
          scene_news slots a =
              scene_by (λ q. (node_at news q).diary.locals) (behind slots).world (held_in n lanes_after) (behind slots).held world_news
              (held_later slots (agree_back slots a))
              ∙ sym (is slots (agree_back slots a))

          pub parts_news : AreParts p inputs n news lanes_after window spare
          parts_news = record {
            at_most = parts.at_most;
            count = parts.count;
            sound = parts.sound;
            fit = parts.fit;
            some = parts.some;
            size = news_size;
            wide = later_size;
            compiled = λ q h. at_set (λ (v : NodeState). IsCompiledFor p inputs q v.task) nodes r q new no_node inside_nodes
                (λ i. subst (IsCompiledFor p inputs q) (sym (moved.task ∙ ap (λ t. (node_at nodes t).task) (sym i))) (parts.compiled q h))
                (λ x. parts.compiled q h);
            node = λ q h. at_set IsNode nodes r q new no_node inside_nodes (λ i. moved.node) (λ x. parts.node q h);
            moment = λ slots a. subst (λ (v : Scene). IsMoment (system_of p inputs slots) v.world v.held)
                (sym (is slots (agree_back slots a)) ∙ sym (scene_news slots a)) (moment_behind slots (agree_back slots a));
            room = λ s d lane hs hd. let a = parts.room s d lane hs hd in let b = later_capacity (lane_place n s d lane) in
                omega (arith, a, b);
            within = later_within;
          }

          -- no more strays than before
          module _ (short : AreShort (e ∷ [])) (fewer : sum_by (λ s. count_by is_stray (lane_at mid (lane_place n s r Request)).messages)
              (from_to 0 n) + count_by is_received_stray (e ∷ []) ≤ sum_by
              (λ s. count_by is_stray (lane_at lanes (lane_place n s r Request)).messages) (from_to 0 n)) where
            few_news : (d : ℕ) → d < n → strays_for n news lanes_after d ≤ strays_for n nodes lanes d
            few_news d hd =
                let out = sum_le (λ s. count_by is_stray (lane_at mid (lane_place n s d Request)).messages)
                (λ s. count_by is_stray (lane_at lanes_after (lane_place n s d Request)).messages) 0 n
                (λ s low high. later_strays (lane_place n s d Request)) in
                elim (cases_eq d r) [
                  | inl i ↦
                      let got = ap (count_by is_received_stray) (ap (λ t. (node_at news t).diary.locals) i
                      ∙ ap (λ (v : NodeState). v.diary.locals) new_here ∙ moved.locals)
                      ∙ count-append is_received_stray (node_at nodes r).diary.locals (e ∷ []) in
                      let had = ap (λ t. count_by is_received_stray (node_at nodes t).diary.locals) i in
                      let less : sum_by (λ s. count_by is_stray (lane_at mid (lane_place n s d Request)).messages) (from_to 0 n)
                      + count_by is_received_stray (e ∷ []) ≤ sum_by
                      (λ s. count_by is_stray (lane_at lanes (lane_place n s d Request)).messages) (from_to 0 n) =
                      subst (λ t. sum_by (λ s. count_by is_stray (lane_at mid (lane_place n s t Request)).messages) (from_to 0 n)
                      + count_by is_received_stray (e ∷ []) ≤ sum_by
                      (λ s. count_by is_stray (lane_at lanes (lane_place n s t Request)).messages) (from_to 0 n)) (sym i) fewer in
                      omega (arith, out, got, had, less)
                  | inr x ↦
                      let got = ap (λ (v : NodeState). count_by is_received_stray v.diary.locals) (news_other d x) in
                      let less = sum_le (λ s. count_by is_stray (lane_at lanes (lane_place n s d Request)).messages)
                      (λ s. count_by is_stray (lane_at mid (lane_place n s d Request)).messages) 0 n
                      (λ s low high. taken.strays (lane_place n s d Request)) in
                      omega (arith, out, got, less)
                ]

            pub strays_news : AreStrays n news lanes_after strays spare
            strays_news = record {
              room = λ q h. at_set (λ (v : NodeState). v.strays ≡ spare) nodes r q new no_node inside_nodes
                  (λ i. moved.strays ∙ room.room r hr) (λ x. room.room q h);
              at_most = λ d h. let a = few_news d h in let b = room.at_most d h in omega (arith, a, b);
              received = λ q h. at_set (λ (v : NodeState). AreShort v.diary.locals) nodes r q new no_node inside_nodes
                  (λ i. subst AreShort (sym moved.locals) (short_more (node_at nodes r).diary.locals e (room.received r hr) short))
                  (λ x. room.received q h);
              held = λ s d lane m hs hd i stray. elim (later_members (lane_place n s d lane) m i) [
                | inl j ↦ room.held s d lane m hs hd j stray
                | inr q ↦ absurd (clash (clean m q) stray)
              ];
            }

-- A choice world after a local step of one rank: its seat has a step more, and what that makes goes to the end of a lane.
use Rattle.std.proofs.Common.{ℕ, ◌+◌, ◌*◌, ◌<◌, ◌≤◌, ◌≡◌, ◌==◌, ◌∙◌, List, [], ◌∷◌, ◌++◌, Option, Some, None, cond, get_or, length, filter}
use Rattle.std.proofs.Common.{if◌then◌else◌, refl, sym, ap, ap₂, subst, inl, inr, arith, eq-eqb, length-append}
use Rattle.std.proofs.Math.ListN.{set, length-set}
use Rattle.std.proofs.Math.Path.{fun_ext}
use Rattle.std.proofs.lemmas.Bool.{cases_eq, ne_eqb}
use Rattle.std.proofs.lemmas.List.{get_or-set_same, get_or-set_other}
use Rattle.ptl_types.specs.declared.handles.Handle.{Handle}
use Rattle.ptl_types.specs.declared.headers.Lane.{Lane}
use Rattle.ptl_types.specs.Kinds.{lane_of}
use Rattle.ptl_types.specs.Messages.{Sent}
use Rattle.ni_model.specs.Tables.{handle}
use Rattle.pair_wires.specs.Lanes.{Plain}
use Rattle.plan_core.specs.Members.{In}
use Rattle.cuts.specs.histories.Cut.{IsPrefixOf}
use Rattle.cuts.specs.histories.History.{Local, after, and_then, is_for, made_by, state}
use Rattle.cuts.specs.histories.Moment.{sent_more}
use Rattle.cuts.specs.histories.System.{System, state_at}
use Rattle.cuts.proofs.histories.Fronts.{state-append}
use Rattle.cuts.specs.orders.Chosen.{Scene, step_made}
use Rattle.cuts.specs.orders.Reached.{IsReached}
use Rattle.cuts.specs.orders.Reached.IsReached.{Stepped}
use Rattle.cuts.specs.orders.Taking.{with_step}
use Rattle.cuts.proofs.orders.Choosing.{listed_made}
use Rattle.cuts.proofs.windows.Lanes.{begins}
use Rattle.cuts.specs.windows.Named.{named}
use Rattle.cuts.specs.windows.Places.{lane_place}
use Rattle.rank_node.specs.Handles.{Handles}
use Rattle.worlds.specs.parts.Layout.{held_in, lane_at}
use Rattle.worlds.specs.parts.Marks.{HasPlace, out_with, sent_out}
use Rattle.worlds.proofs.parts.Gated.{scene_by}
use Rattle.worlds.proofs.parts.Held.{held_here, held_out, set_capacity, set_here, set_size}
use Rattle.worlds.proofs.parts.Sets.{at_set}
use Rattle.plan_choice.specs.texts.machine.Counted.{steps_due}
use Rattle.plan_choice.specs.texts.view.Install.{Slots, ct_of}
use Rattle.plan_choice.specs.texts.view.Install.Counter.{Go}
use Rattle.plan_choice.specs.texts.laws.Decided.{choice_system, count_from}
use Rattle.plan_choice.specs.texts.laws.Traffic.{IsMade as IsSent}
use Rattle.plan_choice.proofs.texts.laws.Agreement.{Agrees}
use Rattle.plan_choice.proofs.texts.laws.Ends.{history_le, lane_few}
use Rattle.plan_choice.proofs.texts.laws.Resting.{agrees_reached}
use Rattle.plan_choice.specs.ranks.Seats.{ChoiceRankState, slots_in}
use Rattle.plan_choice.proofs.ranks.Installed.{slots_by}
use Rattle.plan_choice.specs.Acts.{made_at, no_seated, seat_at}
use Rattle.plan_choice.specs.World.{ChoiceState, HasGo, HasRoom, IsLater, IsStanding, histories_in, nic_in, ranks_in, scene_in, steps_in}

-- lanes of which messages were taken
pub record SameRoom (lanes mid : List Plain) : Type 0 where
  pub size : length mid ≡ length lanes
  pub capacity : (i : ℕ) → (lane_at mid i).capacity ≡ (lane_at lanes i).capacity

pub same_lanes : (lanes : List Plain) → SameRoom lanes lanes
same_lanes lanes = record { size = refl; capacity = λ i. refl }

-- a seat after a step of its rank, of which this is the go counter
pub record Moved (go : Handle) (old new : ChoiceRankState) (e : Local) : Type 0 where
  pub kept : new.kept ≡ old.kept
  pub locals : new.diary.locals ≡ old.diary.locals ++ e ∷ []
  pub nic : new.nic ≡ after (count_from go) old.nic e
  pub room : old.diary.room ≤ new.diary.room + 1
  pub receipts : old.diary.receipts ≤ new.diary.receipts + 1
  pub bytes : old.diary.bytes ≤ new.diary.bytes + 8

-- the go counter of a rank
abbrev pub go_in : ChoiceState → ℕ → Handle
go_in w r = ct_of (slots_in (seat_at w.seats r)) w.kinds Go

-- the slots of each rank
abbrev pub slots_at : ChoiceState → ℕ → Slots
slots_at w r = slots_in (seat_at w.seats r)

-- the machine's moment that a moment agrees with
pub moment_in : (w : ChoiceState) → IsStanding w → Agrees w.ranks w.kinds (slots_at w) (histories_in w) (scene_in w).held
moment_in w is = agrees_reached w.ranks w.kinds (slots_at w) is.in_range (histories_in w) (scene_in w).held is.reached

module _ (w : ChoiceState) (is : IsStanding w) (enough : HasRoom w) (gone : HasGo w) (r : ℕ) (hr : r < w.ranks) (e : Local)
    (mid : List Plain) (left : SameRoom w.lanes mid) (listed : In (named r e) (steps_in w)) where
  abbrev k : System
  k = ranks_in w

  abbrev z : Scene
  z = scene_in w

  abbrev n : ℕ
  n = w.ranks

  -- what it makes
  abbrev o : Option Sent
  o = made_at w.seats r e

  -- the scene after it
  abbrev pub behind : Scene
  behind = record {
    world = with_step r e z.world;
    held = λ q u l. held_in n mid q u l ++ sent_more k z.world r e q u l;
  }

  module _ (so : step_made k (named r e) z ≡ behind) (goes : (m : Sent) → o ≡ Some m → IsSent n r m) where
    reached_behind : IsReached k behind.world behind.held
    reached_behind = subst (λ (v : Scene). IsReached k v.world v.held) so (Stepped is.reached (listed_made k z (named r e) listed))

    agrees_behind : Agrees n w.kinds (slots_at w) behind.world behind.held
    agrees_behind = agrees_reached n w.kinds (slots_at w) is.in_range behind.world behind.held reached_behind

    makes_at : made_by (state_at k z.world r) e ≡ o
    makes_at = ap (λ v. made_by v e) (sym (is.nic r hr))

    goes_to : (m : Sent) → o ≡ Some m → m.header.target < n
    goes_to m q = (goes m q).in_range

    mid_size : length mid ≡ 2 * (n * n)
    mid_size = left.size ∙ enough.wide

    world_here : behind.world r ≡ z.world r ++ e ∷ []
    world_here = ap (λ b. cond b (z.world r ++ e ∷ []) (z.world r)) (eq-eqb r r refl)

    world_there : (q : ℕ) → (q ≡ r → ⊥) → behind.world q ≡ z.world q
    world_there q x = ap (λ b. cond b (z.world q ++ e ∷ []) (z.world q)) (ne_eqb r q (λ h. x (sym h)))

    -- the step is due
    pub one_due : length (z.world r) + 1 ≤ steps_due n w.kinds r
    one_due =
        let a = history_le n w.kinds (slots_at w) is.in_range behind.world behind.held agrees_behind r hr in
        let b = ap length world_here in
        let c = length-append (z.world r) (e ∷ []) in
        omega (arith, a, b, c)

    -- ---- the lanes after it
    abbrev pub lanes_after : List Plain
    lanes_after = out_with n r o mid

    held_later : (q u : ℕ) (l : Lane) → held_in n lanes_after q u l ≡ behind.held q u l
    held_later q u l =
        held_out n mid mid_size r hr o goes_to q u l
        ∙ ap (λ x. held_in n mid q u l ++ (if q == r then filter (is_for u l) (and_then x []) else [])) (sym makes_at)

    -- there is room for what it makes
    pub may_go_out : HasPlace n r mid o
    may_go_out = at o refl
      where
        at : (x : Option Sent) → o ≡ x → HasPlace n r mid x
        at None q = tt
        at (Some m) q =
            let d = m.header.target in
            let lane = lane_of m.header.kind in
            let i = lane_place n r m.header.target (lane_of m.header.kind) in
            let sent = goes m q in
            let full : behind.held r m.header.target (lane_of m.header.kind)
            ≡ (lane_at mid (lane_place n r m.header.target (lane_of m.header.kind))).messages ++ m ∷ [] =
            sym (held_later r d lane)
            ∙ ap (λ x. held_in n (out_with n r x mid) r d lane) q
            ∙ held_here n (sent_out n r m mid) r d lane hr sent.in_range
            ∙ set_here n mid mid_size r d lane hr sent.in_range ((lane_at mid i).messages ++ m ∷ []) in
            let size = ap length full in
            let one = length-append (lane_at mid i).messages (m ∷ []) in
            let at_most = lane_few n w.kinds (slots_at w) is.in_range behind.world behind.held agrees_behind r d lane hr sent.in_range in
            let cap = left.capacity i in
            let room = enough.lanes r d lane hr sent.in_range in
            let used = ap (λ b. if b then length w.kinds else 0) sent.used in
            (sent.in_range, omega (arith, size, one, at_most, cap, room, used))

    later_size : length lanes_after ≡ 2 * (n * n)
    later_size = at o refl
      where
        at : (x : Option Sent) → o ≡ x → length (out_with n r x mid) ≡ 2 * (n * n)
        at None q = mid_size
        at (Some m) q = set_size n mid mid_size r m.header.target (lane_of m.header.kind) hr (goes_to m q)
            ((lane_at mid (lane_place n r m.header.target (lane_of m.header.kind))).messages ++ m ∷ [])

    later_capacity : (i : ℕ) → (lane_at lanes_after i).capacity ≡ (lane_at w.lanes i).capacity
    later_capacity i = at o refl
      where
        at : (x : Option Sent) → o ≡ x → (lane_at (out_with n r x mid) i).capacity ≡ (lane_at w.lanes i).capacity
        at None q = left.capacity i
        at (Some m) q =
            set_capacity n mid mid_size r m.header.target (lane_of m.header.kind) hr (goes_to m q)
            ((lane_at mid (lane_place n r m.header.target (lane_of m.header.kind))).messages ++ m ∷ []) i ∙ left.capacity i

    -- ---- the seats after it
    module _ (new : ChoiceRankState) (moved : Moved (go_in w r) (seat_at w.seats r) new e) where
      abbrev news : List ChoiceRankState
      news = set w.seats r new

      abbrev pub world_after : ChoiceState
      world_after = record { ranks = w.ranks; kinds = w.kinds; seats = news; lanes = lanes_after }

      inside : r < length w.seats
      inside = let a = is.size in omega (arith, a, hr)

      pub news_size : length news ≡ n
      news_size = length-set w.seats r new ∙ is.size

      new_here : seat_at news r ≡ new
      new_here = get_or-set_same w.seats r new no_seated inside

      pub news_other : (q : ℕ) → (q ≡ r → ⊥) → seat_at news q ≡ seat_at w.seats q
      news_other q x = get_or-set_other w.seats r q new no_seated x

      kept_same : (q : ℕ) → (seat_at news q).kept ≡ (seat_at w.seats q).kept
      kept_same q = at_set (λ (s : ChoiceRankState). s.kept ≡ (seat_at w.seats q).kept) w.seats r q new no_seated inside
          (λ i. moved.kept ∙ ap (λ t. (seat_at w.seats t).kept) (sym i)) (λ x. refl)

      system_same : ranks_in world_after ≡ ranks_in w
      system_same = ap (choice_system w.ranks w.kinds) (fun_ext (λ q. ap slots_by (kept_same q)))

      world_news : (q : ℕ) → (seat_at news q).diary.locals ≡ behind.world q
      world_news q = at_set (λ (s : ChoiceRankState). s.diary.locals ≡ behind.world q) w.seats r q new no_seated inside
          (λ i. moved.locals ∙ sym world_here ∙ ap behind.world (sym i)) (λ x. sym (world_there q x))

      scene_news : scene_in world_after ≡ behind
      scene_news = scene_by (λ q. (seat_at news q).diary.locals) behind.world (held_in n lanes_after) behind.held world_news held_later

      pub made_news : scene_in world_after ≡ step_made k (named r e) z
      made_news = scene_news ∙ sym so

      reached_news : IsReached (ranks_in world_after) (histories_in world_after) (scene_in world_after).held
      reached_news =
          subst (λ (x : System). IsReached x (scene_in world_after).world (scene_in world_after).held) (sym system_same)
          (subst (λ (y : Scene). IsReached k y.world y.held) (sym scene_news) reached_behind)

      -- the interface of each rank
      state_news : (q : ℕ) → state_at (ranks_in world_after) (histories_in world_after) q ≡ state_at k behind.world q
      state_news q = ap₂ (λ (x : System) (y : Scene). state_at x y.world q) system_same scene_news

      state_here : state_at k behind.world r ≡ after (k.go r) (state_at k z.world r) e
      state_here = ap (state (k.go r) (k.first r)) world_here ∙ state-append (k.go r) (k.first r) (z.world r) (e ∷ [])

      nic_news : (q : ℕ) → q < n → nic_in world_after q ≡ state_at (ranks_in world_after) (histories_in world_after) q
      nic_news q h = elim (cases_eq q r) [
        | inl i ↦
            ap (nic_in world_after) i ∙ ap (λ (s : ChoiceRankState). s.nic) new_here ∙ moved.nic
            ∙ ap (λ v. after (k.go r) v e) (is.nic r hr) ∙ sym state_here ∙ ap (state_at k behind.world) (sym i) ∙ sym (state_news q)
        | inr x ↦
            ap (λ (s : ChoiceRankState). s.nic) (news_other q x) ∙ is.nic q h
            ∙ ap (state (k.go q) (k.first q)) (sym (world_there q x)) ∙ sym (state_news q)
      ]

      pub standing_news : IsStanding world_after
      standing_news = record {
        in_range = is.in_range;
        few_steps = is.few_steps;
        size = news_size;
        reached = reached_news;
        nic = nic_news;
      }

      pub later_news : IsLater w world_after
      later_news = record {
        ranks = refl;
        kinds = refl;
        system = system_same;
        begins = λ q. subst (λ (y : Scene). IsPrefixOf (histories_in w q) (y.world q)) (sym made_news) (begins k z (named r e) q);
      }

      longer : length new.diary.locals ≡ length (seat_at w.seats r).diary.locals + 1
      longer = ap length moved.locals ∙ length-append (seat_at w.seats r).diary.locals (e ∷ [])

      pub room_news : HasRoom world_after
      room_news = record {
        steps = λ q h. at_set (λ (s : ChoiceRankState). steps_due n w.kinds q ≤ length s.diary.locals + s.diary.room) w.seats r q new
            no_seated inside
            (λ i. let a = enough.steps r hr in let b = ap (steps_due n w.kinds) i in let c = longer in let d = moved.room in
            omega (arith, a, b, c, d)) (λ x. enough.steps q h);
        receipts = λ q h. at_set (λ (s : ChoiceRankState). steps_due n w.kinds q ≤ length s.diary.locals + s.diary.receipts) w.seats r q
            new no_seated
            inside
            (λ i. let a = enough.receipts r hr in let b = ap (steps_due n w.kinds) i in let c = longer in let d = moved.receipts in
            omega (arith, a, b, c, d)) (λ x. enough.receipts q h);
        bytes = λ q h. at_set (λ (s : ChoiceRankState). 8 * steps_due n w.kinds q ≤ 8 * length s.diary.locals + s.diary.bytes) w.seats r q
            new no_seated
            inside
            (λ i. let a = enough.bytes r hr in let b = ap (steps_due n w.kinds) i in let c = longer in let d = moved.bytes in
            omega (arith, a, b, c, d)) (λ x. enough.bytes q h);
        wide = later_size;
        lanes = λ s d lane hs hd. let a = enough.lanes s d lane hs hd in let b = later_capacity (lane_place n s d lane) in
            omega (arith, a, b);
      }

      pub go_news : HasGo world_after
      go_news = record {
        some = λ q h. subst (λ (x : Handles). 0 < length x.counters) (sym (kept_same q)) (gone.some q h);
        go = λ q h. subst (λ (x : Handles). get_or x.counters 0 (handle 0 0) ≡ ct_of (slots_by x) w.kinds Go) (sym (kept_same q))
            (gone.go q h);
      }

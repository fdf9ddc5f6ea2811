-- The kinds of step of a choice world: what each finds, and what it leaves.
use Rattle.std.proofs.Common.{ℕ, true, ◌+◌, ◌<◌, ◌≤◌, ◌≡◌, ◌⊎◌, ◌∙◌, List, [], ◌∷◌, ◌++◌, Option, Some, None, drop, length, refl, sym, ap}
use Rattle.std.proofs.Common.{subst, inl, inr, arith}
use Rattle.coll_lang.specs.declared.choices.ChoiceKind.{ChoiceKind}
use Rattle.ptl_types.specs.declared.headers.Lane.{Lane}
use Rattle.ptl_types.specs.Kinds.{lane_of}
use Rattle.ptl_types.specs.Messages.{Sent}
use Rattle.ni_model.specs.Ready.{fired, is_ready}
use Rattle.ni_model.specs.State.{State, target}
use Rattle.pair_wires.specs.Lanes.{Plain}
use Rattle.plan_core.specs.Members.{In}
use Rattle.cuts.specs.start.Start.{go_raised}
use Rattle.cuts.specs.histories.History.{Local}
use Rattle.cuts.specs.histories.History.Local.{Start as Started, Receive as Received, Fire as Fired}
use Rattle.cuts.specs.histories.Moment.{sent_more}
use Rattle.cuts.specs.histories.System.{System, state_at}
use Rattle.cuts.specs.orders.Chosen.{Scene, delivered, step_made, with_lane}
use Rattle.cuts.specs.orders.Taking.{with_step}
use Rattle.cuts.specs.declared.orders.Step.{Step}
use Rattle.cuts.specs.declared.orders.Step.TheVariants.{Deliver, Fire, Start}
use Rattle.cuts.specs.windows.Named.{named}
use Rattle.cuts.specs.windows.Places.{lane_place}
use Rattle.worlds.specs.declared.parts.traffic.Traffic.{Traffic}
use Rattle.worlds.specs.parts.Layout.{held_in, lane_at}
use Rattle.worlds.specs.parts.Marks.{out_with, popped, receiver}
use Rattle.worlds.proofs.parts.Gated.{scene_by}
use Rattle.worlds.proofs.parts.Held.{held_here, held_set, set_capacity, set_other, set_size}
use Rattle.worlds.proofs.Listed.{offered, ready_is}
use Rattle.plan_choice.specs.texts.machine.Counted.{steps_due}
use Rattle.plan_choice.specs.texts.laws.Traffic.{IsMade as IsSent}
use Rattle.plan_choice.proofs.texts.laws.Traffic.{comes, firing_makes, receipt_makes}
use Rattle.plan_choice.specs.ranks.Seats.{ChoiceRankState, fired_seat, received_seat, started_seat}
use Rattle.plan_choice.specs.Acts.{AreSized, IsFirst, IsStepped, MayMake, lane_marks, made_at, marked, seat_at, with_lanes}
use Rattle.plan_choice.specs.World.{AreCounted, AreFields, ChoiceState, IsLater, histories_in, ranks_in, scene_in, state_of, steps_in}
use Rattle.plan_choice.proofs.Counting.{counted_news}
use Rattle.plan_choice.proofs.Moving.{Moved, SameRoom, behind, go_in, go_news, later_news, made_news, may_go_out, moment_in, news_other}
use Rattle.plan_choice.proofs.Moving.{world_after, one_due, room_news, same_lanes, slots_at, standing_news}

-- a step was made
pub record IsDone (kinds : List ChoiceKind) (seats : List ChoiceRankState) (t : Traffic) (x : Step) (nexts : List ChoiceRankState)
    (u : Traffic) : Type 0 where
  pub fields : AreFields kinds nexts u
  pub made : scene_in (state_of kinds nexts u) ≡ step_made (ranks_in (state_of kinds seats t)) x (scene_in (state_of kinds seats t))
  pub later : IsLater (state_of kinds seats t) (state_of kinds nexts u)

no_message : {X : Type 0} (m : Sent) → None ≡ Some m → X
no_message m e = cc

module _ (kinds : List ChoiceKind) (seats : List ChoiceRankState) (traffic : Traffic) (fields : AreFields kinds seats traffic) where
  abbrev w : ChoiceState
  w = state_of kinds seats traffic

  abbrev starts : List ℕ
  starts = traffic.starts

  abbrev deliveries : List ℕ
  deliveries = traffic.deliveries

  abbrev firings : List ℕ
  firings = traffic.firings

  abbrev k : System
  k = ranks_in w

  abbrev z : Scene
  z = scene_in w

  abbrev n : ℕ
  n = w.ranks

  -- ---- whatever the step is
  module _ (r : ℕ) (hr : r < w.ranks) (e : Local) (mid : List Plain) (left : SameRoom w.lanes mid) (listed : In (named r e) (steps_in w))
      (so : step_made (ranks_in w) (named r e) (scene_in w) ≡ behind w fields.standing fields.room fields.go r hr e mid left listed)
      (goes : (m : Sent) → made_at w.seats r e ≡ Some m → IsSent w.ranks r m)
      (new : ChoiceRankState) (moved : Moved (go_in w r) (seat_at w.seats r) new e) where
    abbrev after_it : ChoiceState
    after_it = world_after w fields.standing fields.room fields.go r hr e mid left listed so goes new moved

    module _ (s d : ℕ) (hs : s < w.ranks) (hd : d < w.ranks) (one_of_them : (r ≡ s) ⊎ (r ≡ d))
        (apart : (a b : ℕ) (lane : Lane) → a < w.ranks → b < w.ranks → ((a ≡ s) × (b ≡ d) → ⊥) → ((a ≡ d) × (b ≡ s) → ⊥)
        → lane_at mid (lane_place w.ranks a b lane) ≡ lane_at w.lanes (lane_place w.ranks a b lane))
        (way : (m : Sent) → made_at w.seats r e ≡ Some m → ((r ≡ s) × (m.header.target ≡ d)) ⊎ ((r ≡ d) × (m.header.target ≡ s))) where
      apart_later : (a b : ℕ) (lane : Lane) → a < w.ranks → b < w.ranks → ((a ≡ s) × (b ≡ d) → ⊥) → ((a ≡ d) × (b ≡ s) → ⊥)
          → lane_at (out_with w.ranks r (made_at w.seats r e) mid) (lane_place w.ranks a b lane)
          ≡ lane_at w.lanes (lane_place w.ranks a b lane)
      apart_later a b lane ha hb x y = at (made_at w.seats r e) refl
        where
          at : (o : Option Sent) → made_at w.seats r e ≡ o
              → lane_at (out_with w.ranks r o mid) (lane_place w.ranks a b lane) ≡ lane_at w.lanes (lane_place w.ranks a b lane)
          at None q = apart a b lane ha hb x y
          at (Some m) q =
              set_other n mid (left.size ∙ fields.room.wide) r m.header.target (lane_of m.header.kind) hr (goes m q).in_range
              ((lane_at mid (lane_place n r m.header.target (lane_of m.header.kind))).messages ++ m ∷ []) a b lane hb
              (λ i. elim (way m q) [ inl v ↦ x (i.source ∙ v.0, i.destination ∙ v.1) | inr v ↦ y (i.source ∙ v.0, i.destination ∙ v.1) ])
              ∙ apart a b lane ha hb x y

      others_later : (q : ℕ) → (q ≡ s → ⊥) → (q ≡ d → ⊥) → seat_at after_it.seats q ≡ seat_at w.seats q
      others_later q x y =
          news_other w fields.standing fields.room fields.go r hr e mid left listed so goes new moved q
          (λ i. elim one_of_them [ inl j ↦ x (i ∙ j) | inr j ↦ y (i ∙ j) ])

      abbrev left_here : Traffic
      left_here = marked after_it.seats s d (with_lanes traffic after_it.lanes)

      done_here : IsDone kinds seats traffic (named r e) after_it.seats left_here
      done_here = record {
        fields = record {
          window = fields.window;
          standing = standing_news w fields.standing fields.room fields.go r hr e mid left listed so goes new moved;
          go = go_news w fields.standing fields.room fields.go r hr e mid left listed so goes new moved;
          room = room_news w fields.standing fields.room fields.go r hr e mid left listed so goes new moved;
          counted = subst (λ k. AreCounted after_it left_here.starts (lane_marks n k after_it.lanes s d deliveries) left_here.firings)
              (sym fields.window)
              (counted_news w starts deliveries firings fields.counted after_it.seats after_it.lanes s d hs hd others_later apart_later);
        };
        made = made_news w fields.standing fields.room fields.go r hr e mid left listed so goes new moved;
        later = later_news w fields.standing fields.room fields.go r hr e mid left listed so goes new moved;
      }

      -- as the code has it
      pub finish : (nexts : List ChoiceRankState) (u : Traffic) (a b : ℕ) → nexts ≡ after_it.seats → u.lanes ≡ after_it.lanes
          → a ≡ s → b ≡ d → u ≡ marked nexts a b (with_lanes traffic u.lanes) → IsDone kinds seats traffic (named r e) nexts u
      finish nexts u a b es el ea eb marks =
          subst (λ ns. IsDone kinds seats traffic (named r e) ns u) (sym es)
          (subst (IsDone kinds seats traffic (named r e) after_it.seats) (sym
          (marks
          ∙ ap (λ ns. marked ns a b (with_lanes traffic u.lanes)) es
          ∙ ap (λ ls. marked after_it.seats a b (with_lanes traffic ls)) el
          ∙ ap (λ i. marked after_it.seats i b (with_lanes traffic after_it.lanes)) ea
          ∙ ap (λ i. marked after_it.seats s i (with_lanes traffic after_it.lanes)) eb)) done_here)

  -- ---- a start
  module _ (r : ℕ) (listed : In (Start r) (steps_in w)) where
    start_rank : r < w.ranks
    start_rank = (offered k z (Start r) listed).0

    start_goes : (m : Sent) → made_at w.seats r Started ≡ Some m → IsSent w.ranks r m
    start_goes m q = no_message m q

    start_due : length (histories_in w r) + 1 ≤ steps_due w.ranks w.kinds r
    start_due = one_due w fields.standing fields.room fields.go r start_rank Started w.lanes (same_lanes w.lanes) listed refl start_goes

    start_may : MayMake w.ranks w.seats w.lanes (Start r)
    start_may = (
      start_rank,
      record {
        room = let a = start_due in let b = fields.room.steps r start_rank in omega (arith, a, b);
        counter = fields.go.some r start_rank;
      },
    )

    start_moved : Moved (go_in w r) (seat_at w.seats r) (started_seat (seat_at w.seats r)) Started
    start_moved = record {
      kept = refl;
      locals = refl;
      nic = ap (λ h. go_raised h (seat_at w.seats r).nic) (fields.go.go r start_rank);
      room = omega arith;
      receipts = omega arith;
      bytes = omega arith;
    }

    start_done : (nexts : List ChoiceRankState) (u : Traffic)
        → IsStepped seats traffic (Start r) nexts u → IsDone kinds seats traffic (Start r) nexts u
    start_done nexts u is =
        finish r start_rank Started w.lanes (same_lanes w.lanes) listed refl start_goes (started_seat (seat_at w.seats r)) start_moved
        r r start_rank start_rank (inl refl) (λ x y lane hx hy p q. refl) (λ m q. no_message m q)
        nexts u is.s is.d is.made.seats is.made.lanes is.made.source is.made.destination is.marks

  -- ---- a firing
  module _ (r t : ℕ) (listed : In (Fire r t) (steps_in w)) where
    fire_rank : r < w.ranks
    fire_rank = (offered k z (Fire r t) listed).0

    ready_there : is_ready (seat_at w.seats r).nic t ≡ true
    ready_there = subst (λ (v : State). is_ready v t ≡ true) (sym (fields.standing.nic r fire_rank))
        (ready_is (state_at k z.world r) t (offered k z (Fire r t) listed).1)

    fire_goes : (m : Sent) → made_at w.seats r (Fired t) ≡ Some m → IsSent w.ranks r m
    fire_goes m q =
        firing_makes w.ranks w.kinds (slots_at w) fields.standing.in_range (histories_in w) (scene_in w).held
        (moment_in w fields.standing) r t m
        (ready_is (state_at k z.world r) t (offered k z (Fire r t) listed).1)
        (ap (λ v. (fired v t).message) (sym (fields.standing.nic r fire_rank)) ∙ q)

    fire_due : length (histories_in w r) + 1 ≤ steps_due w.ranks w.kinds r
    fire_due = one_due w fields.standing fields.room fields.go r fire_rank (Fired t) w.lanes (same_lanes w.lanes) listed refl fire_goes

    fire_may : MayMake w.ranks w.seats w.lanes (Fire r t)
    fire_may = (
      fire_rank,
      record {
        room = let a = fire_due in let b = fields.room.steps r fire_rank in omega (arith, a, b);
        ready = ready_there;
        goes = may_go_out w fields.standing fields.room fields.go r fire_rank (Fired t) w.lanes (same_lanes w.lanes) listed refl fire_goes;
      },
    )

    fire_moved : Moved (go_in w r) (seat_at w.seats r) (fired_seat t (seat_at w.seats r)) (Fired t)
    fire_moved = record { kept = refl; locals = refl; nic = refl; room = omega arith; receipts = omega arith; bytes = omega arith }

    fire_other : receiver r (made_at w.seats r (Fired t)) < w.ranks
    fire_other = at (made_at w.seats r (Fired t)) refl
      where
        at : (o : Option Sent) → made_at w.seats r (Fired t) ≡ o → receiver r o < w.ranks
        at None q = fire_rank
        at (Some m) q = (fire_goes m q).in_range

    fire_done : (nexts : List ChoiceRankState) (u : Traffic)
        → IsStepped seats traffic (Fire r t) nexts u → IsDone kinds seats traffic (Fire r t) nexts u
    fire_done nexts u is =
        finish r fire_rank (Fired t) w.lanes (same_lanes w.lanes) listed refl fire_goes (fired_seat t (seat_at w.seats r)) fire_moved
        r (receiver r (made_at w.seats r (Fired t))) fire_rank fire_other (inl refl) (λ x y lane hx hy p q. refl)
        (λ m q. inl (refl, sym (ap (receiver r) q)))
        nexts u is.s is.d is.made.seats is.made.lanes is.made.source is.made.destination is.marks

  -- ---- a delivery
  module _ (s d : ℕ) (lane : Lane) (listed : In (Deliver s d lane) (steps_in w)) where
    abbrev ms : List Sent
    ms = (lane_at w.lanes (lane_place w.ranks s d lane)).messages

    source_rank : s < w.ranks
    source_rank = (offered k z (Deliver s d lane) listed).0

    destination_rank : d < w.ranks
    destination_rank = (offered k z (Deliver s d lane) listed).1

    held_is : z.held s d lane ≡ ms
    held_is = held_here w.ranks w.lanes s d lane source_rank destination_rank

    some_held : 0 < length ms
    some_held = let a = (offered k z (Deliver s d lane) listed).2 in let b = ap length held_is in omega (arith, a, b)

    module _ (m : Sent) (rest : List Sent) (first : IsFirst w.ranks w.lanes s d lane m rest) where
      abbrev mid : List Plain
      mid = popped w.ranks s d lane w.lanes

      front : ms ≡ m ∷ drop 1 ms
      front = first ∙ ap (λ xs. m ∷ xs) (sym (ap (drop 1) first))

      front_held : z.held s d lane ≡ m ∷ drop 1 ms
      front_held = held_is ∙ front

      mid_same : SameRoom w.lanes mid
      mid_same = record {
        size = set_size w.ranks w.lanes fields.room.wide s d lane source_rank destination_rank (drop 1 ms) ∙ sym fields.room.wide;
        capacity = set_capacity w.ranks w.lanes fields.room.wide s d lane source_rank destination_rank (drop 1 ms);
      }

      deliver_so : step_made (ranks_in w) (Deliver s d lane) (scene_in w)
          ≡ behind w fields.standing fields.room fields.go d destination_rank (Received s lane m) mid mid_same listed
      deliver_so =
          ap (λ xs. delivered k s d lane xs z) front_held
          ∙ scene_by (with_step d (Received s lane m) z.world) (with_step d (Received s lane m) z.world)
          (λ q u l. (with_lane s d lane (drop 1 ms) z).held q u l ++ sent_more k z.world d (Received s lane m) q u l)
          (λ q u l. held_in w.ranks mid q u l ++ sent_more k z.world d (Received s lane m) q u l)
          (λ q. refl)
          (λ q u l. ap (λ xs. xs ++ sent_more k z.world d (Received s lane m) q u l)
          (sym (held_set w.ranks w.lanes fields.room.wide s d lane source_rank destination_rank (drop 1 ms) q u l)))

      answer_at : (x : Sent) → made_at w.seats d (Received s lane m) ≡ Some x → IsSent w.ranks d x × (x.header.target ≡ s)
      answer_at x q =
          receipt_makes w.ranks w.kinds (slots_at w) fields.standing.in_range (histories_in w) (scene_in w).held
          (moment_in w fields.standing) s d lane m x (drop 1 ms) source_rank destination_rank front_held
          (ap (λ v. (target v m).delivered.answer) (sym (fields.standing.nic d destination_rank)) ∙ q)

      deliver_goes : (x : Sent) → made_at w.seats d (Received s lane m) ≡ Some x → IsSent w.ranks d x
      deliver_goes x q = (answer_at x q).0

      deliver_due : length (histories_in w d) + 1 ≤ steps_due w.ranks w.kinds d
      deliver_due =
          one_due w fields.standing fields.room fields.go d destination_rank (Received s lane m) mid mid_same listed deliver_so deliver_goes

      short : length m.bytes ≤ 8
      short =
          (comes w.ranks w.kinds (slots_at w) fields.standing.in_range (histories_in w) (scene_in w).held (moment_in w fields.standing) s
          d lane
          m (drop 1 ms) source_rank destination_rank front_held).short

      for_rank : m.header.target ≡ (seat_at w.seats d).nic.rank
      for_rank =
          (comes w.ranks w.kinds (slots_at w) fields.standing.in_range (histories_in w) (scene_in w).held (moment_in w fields.standing) s
          d lane
          m (drop 1 ms) source_rank destination_rank front_held).target
          ∙ sym (ap (λ (v : State). v.rank) (fields.standing.nic d destination_rank ∙ (moment_in w fields.standing).states d))

      deliver_moved : Moved (go_in w d) (seat_at w.seats d) (received_seat s lane m (seat_at w.seats d)) (Received s lane m)
      deliver_moved = record {
        kept = refl;
        locals = refl;
        nic = refl;
        room = omega arith;
        receipts = omega arith;
        bytes = let a = short in omega (arith, a);
      }

      deliver_done : (nexts : List ChoiceRankState) (u : Traffic)
          → IsStepped seats traffic (Deliver s d lane) nexts u → IsDone kinds seats traffic (Deliver s d lane) nexts u
      deliver_done nexts u is =
          let made = is.made m rest first in
          finish d destination_rank (Received s lane m) mid mid_same listed deliver_so deliver_goes
          (received_seat s lane m (seat_at w.seats d))
          deliver_moved s d source_rank destination_rank (inr refl)
          (λ x y l hx hy p q. set_other w.ranks w.lanes fields.room.wide s d lane source_rank destination_rank (drop 1 ms) x y l hy
          (λ one. p (one.source, one.destination)))
          (λ x q. inr (refl, (answer_at x q).1))
          nexts u is.s is.d made.seats made.lanes made.source made.destination is.marks

    deliver_may : MayMake w.ranks w.seats w.lanes (Deliver s d lane)
    deliver_may = (
      source_rank,
      destination_rank,
      some_held,
      λ m rest first. record {
        room = let a = deliver_due m rest first in let b = fields.room.steps d destination_rank in omega (arith, a, b);
        receipts = let a = deliver_due m rest first in let b = fields.room.receipts d destination_rank in omega (arith, a, b);
        bytes = let a = deliver_due m rest first in let b = fields.room.bytes d destination_rank in let c = short m rest first in
            omega (arith, a, b, c);
        target = for_rank m rest first;
        goes =
            may_go_out w fields.standing fields.room fields.go d destination_rank (Received s lane m) (popped w.ranks s d lane w.lanes)
            (mid_same m rest first) listed (deliver_so m rest first) (deliver_goes m rest first);
      },
    )

    delivery_done : (nexts : List ChoiceRankState) (u : Traffic)
        → IsStepped seats traffic (Deliver s d lane) nexts u → IsDone kinds seats traffic (Deliver s d lane) nexts u
    delivery_done nexts u is = at ms refl
      where
        at : (xs : List Sent) → ms ≡ xs → IsDone kinds seats traffic (Deliver s d lane) nexts u
        at [] q = let e = ap length q in let h = some_held in absurd (omega (arith, e, h))
        at (m ∷ rest) q = deliver_done m rest q nexts u is

  -- ---- any step
  pub allowed : (x : Step) → In x (steps_in w) → MayMake w.ranks w.seats w.lanes x
  allowed (Start r) i = start_may r i
  allowed (Fire r t) i = fire_may r t i
  allowed (Deliver s d lane) i = deliver_may s d lane i

  pub done_by : (x : Step) → In x (steps_in w) → (nexts : List ChoiceRankState) (u : Traffic)
      → IsStepped seats traffic x nexts u → IsDone kinds seats traffic x nexts u
  done_by (Start r) i = start_done r i
  done_by (Fire r t) i = fire_done r t i
  done_by (Deliver s d lane) i = delivery_done s d lane i

  -- ---- by the seats that a call was given, and those that it left
  module _ (held : List ChoiceRankState) (same : held ≡ seats) where
    pub lent_sized : AreSized held traffic
    lent_sized = record {
      at_most = fields.standing.in_range.few_ranks;
      seats = ap length same ∙ fields.standing.size;
      lanes = fields.room.wide;
      starts = fields.counted.wide_starts;
      deliveries = fields.counted.wide_deliveries;
      firings = fields.counted.wide_firings;
    }

    pub lent_may : (x : Step) → In x (steps_in w) → MayMake traffic.setting.ranks held traffic.lanes x
    lent_may x i = subst (λ ss. MayMake traffic.setting.ranks ss traffic.lanes x) (sym same) (allowed x i)

    pub lent_done : (x : Step) → In x (steps_in w) → (new nexts : List ChoiceRankState) (u : Traffic) → nexts ≡ new
        → IsStepped held traffic x new u → IsDone kinds seats traffic x nexts u
    lent_done x i new nexts u en is =
        done_by x i nexts u
        (subst (λ ss. IsStepped ss traffic x nexts u) same (subst (λ ss. IsStepped held traffic x ss u) (sym en) is))

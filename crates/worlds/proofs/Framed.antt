-- Nodes that were told which of their lanes have room close a frame into a world.
use Rattle.std.proofs.Common.{ℕ, ◌*◌, ◌+◌, ◌^◌, ◌≤◌, ◌<◌, ◌≡◌, ◌∙◌, List, count_by, length, refl, sum_by, sym, ap, subst, arith}
use Rattle.pair_wires.specs.Lanes.{Plain}
use Rattle.ptl_types.specs.declared.headers.Lane.{Lane}
use Rattle.ptl_types.specs.declared.headers.Lane.TheVariants.{Request, Answer}
use Rattle.plan_core.specs.Plan.{Plan, from_to}
use Rattle.cuts.specs.view.Slots.{Slots}
use Rattle.cuts.specs.histories.Cut.{is_received_stray, is_stray}
use Rattle.cuts.specs.histories.Moment.{IsMoment}
use Rattle.cuts.specs.histories.Plans.{system_of}
use Rattle.cuts.specs.orders.Chosen.{Scene}
use Rattle.cuts.specs.windows.Places.{lane_place}
use Rattle.rank_node.specs.Copies.{Diary}
use Rattle.rank_node.specs.Handles.{Agrees}
use Rattle.rank_node.specs.Node.{IsNode, NodeState}
use Rattle.rank_node.specs.Plans.{IsCompiledFor}
use Rattle.schedule_compiler.specs.Jobs.{JobOf}
use Rattle.worlds.specs.declared.parts.lanes.Setting.{Setting}
use Rattle.worlds.specs.declared.parts.traffic.Traffic.{Traffic}
use Rattle.worlds.specs.parts.Keeps.{AgreeAll, AreCounted, AreParts, AreShort, AreStrays, spare_on}
use Rattle.worlds.specs.parts.Layout.{lane_at, node_at, scene_of}
use Rattle.worlds.proofs.parts.Gated.{IsGated, scene_gated}
use Rattle.worlds.proofs.parts.Strays.{owned_and_strays}
use Rattle.worlds.specs.opening.Frames.{IsSameButGates, frame_setting, frame_window}
use Rattle.worlds.specs.FrameState.{AreFramed, FrameState}
use Rattle.worlds.specs.Frames.{IsClosed, MayClose}
use Rattle.worlds.specs.Standing.{AreFields}
use Rattle.worlds.specs.World.{state_of}
use Rattle.worlds.proofs.Joined.{joined_moment, joined_room}

pub told_gated : (x y : NodeState) → IsSameButGates x y → IsGated x y
told_gated x y t = record {
  task = ap (λ (k : NodeState). k.task) t.same;
  kept = ap (λ (k : NodeState). k.kept) t.same;
  diary = ap (λ (k : NodeState). k.diary) t.same;
  nic = ap (λ (k : NodeState). k.nic) t.same;
  strays = ap (λ (k : NodeState). k.strays) t.same;
  wide = t.wide;
  node = λ k. subst IsNode (sym t.same) (record {
    compiled = k.compiled;
    state = k.state;
    legal = k.legal;
    all = k.all;
    counters = k.counters;
    descriptors = k.descriptors;
    entries = k.entries;
    steps = k.steps;
    receipts = k.receipts;
    bytes = k.bytes;
    gates = t.wide ∙ k.gates;
  });
}

abbrev pub frame_of : JobOf → List Plain → FrameState
frame_of job lanes = record { schedule = job.schedule; inputs = job.inputs; lanes = lanes }

module _ (job : JobOf) (traffic : Traffic) (framed : AreFramed job traffic) (nodes : List NodeState)
    (may : MayClose (frame_of job traffic.lanes) nodes) where
  abbrev p : Plan
  p = job.schedule.plan

  abbrev n : ℕ
  n = job.schedule.plan.ranks

  abbrev lanes : List Plain
  lanes = traffic.lanes

  ranks_are : traffic.setting.ranks ≡ job.schedule.plan.ranks
  ranks_are = ap (λ (s : Setting). s.ranks) framed.setting

  pub many : length nodes ≡ traffic.setting.ranks
  many = may.of_job.size ∙ sym ranks_are

  pub tasks : (r : ℕ) → r < traffic.setting.ranks → (node_at nodes r).task.ranks ≡ traffic.setting.ranks
  tasks r h = (may.of_job.compiled r (subst (λ k. r < k) ranks_are h)).ranks ∙ sym ranks_are

  -- the nodes told, and the counts made right
  module _ (news : List NodeState) (size : length news ≡ traffic.setting.ranks)
      (told : (r : ℕ) → IsSameButGates (node_at nodes r) (node_at news r))
      (kept : (r : ℕ) → r < traffic.setting.ranks → IsNode (node_at nodes r)) (after : Traffic)
      (setting : after.setting ≡ traffic.setting) (same_lanes : after.lanes ≡ traffic.lanes)
      (counted : AreCounted traffic.setting.ranks news traffic.lanes after.starts after.deliveries after.firings
      traffic.setting.window) where
    gated : (r : ℕ) → IsGated (node_at nodes r) (node_at news r)
    gated r = told_gated (node_at nodes r) (node_at news r) (told r)

    kept_here : (r : ℕ) → r < n → IsNode (node_at nodes r)
    kept_here r h = kept r (subst (λ k. r < k) (sym ranks_are) h)

    agree_before : (k : ℕ → Slots) → AgreeAll n k news → AgreeAll n k nodes
    agree_before k a r h = subst (Agrees (k r)) (gated r).kept (a r h)

    same_scene : scene_of n news lanes ≡ scene_of n nodes lanes
    same_scene = scene_gated n nodes news lanes gated

    moment : (k : ℕ → Slots) → AgreeAll n k nodes → IsMoment (system_of p job.inputs k) (scene_of n nodes lanes).world
        (scene_of n nodes lanes).held
    moment = joined_moment p job.inputs n nodes lanes refl framed.bare.sound may.of_job.compiled kept_here may.sources may.sent

    no_strays : AreStrays n nodes lanes 0 0
    no_strays = joined_room p job.inputs n nodes lanes refl framed.bare.sound may.of_job.compiled kept_here may.sources
        may.sent may.of_job.strays

    parts : AreParts p job.inputs n news lanes frame_window 0
    parts = record {
      at_most = subst (λ k. k ≤ 256) ranks_are framed.bare.sized.at_most;
      count = refl;
      sound = framed.bare.sound;
      fit = framed.bare.fit;
      some = omega arith;
      size = size ∙ ranks_are;
      wide = subst (λ k. length lanes ≡ 2 * (k * k)) ranks_are framed.bare.sized.wide_lanes;
      compiled = λ r h. subst (IsCompiledFor p job.inputs r) (sym (gated r).task) (may.of_job.compiled r h);
      node = λ r h. (gated r).node (kept_here r h);
      moment = λ k a. subst (λ (z : Scene). IsMoment (system_of p job.inputs k) z.world z.held) (sym same_scene)
          (moment k (agree_before k a));
      room = λ s d lane hs hd. nothing_more lane (may.room s d lane hs hd);
      within = λ s d lane hs hd.
          let a = may.within s d lane hs hd in
          let b = owned_and_strays (lane_at lanes (lane_place n s d lane)).messages in
          omega (arith, a, b);
    }
      where
        nothing_more : {x y : ℕ} (lane : Lane) → x ≤ y → x + spare_on lane 0 ≤ y
        nothing_more Request h = omega (arith, h)
        nothing_more Answer h = omega (arith, h)

    few_strays : AreStrays n news lanes 0 0
    few_strays = record {
      room = λ r h. (gated r).strays ∙ no_strays.room r h;
      at_most = λ d h. subst (λ (x : Diary). count_by is_received_stray x.locals + sum_by
          (λ s. count_by is_stray (lane_at lanes (lane_place n s d Request)).messages) (from_to 0 n) + 0 ≤ 0)
          (sym (gated d).diary) (no_strays.at_most d h);
      received = λ r h. subst (λ (x : Diary). AreShort x.locals) (sym (gated r).diary) (no_strays.received r h);
      held = no_strays.held;
    }

    setting_is : after.setting ≡ frame_setting n
    setting_is = setting ∙ framed.setting

    counted_here : AreCounted n news lanes after.starts after.deliveries after.firings frame_window
    counted_here = subst (λ (s : Setting). AreCounted s.ranks news lanes after.starts after.deliveries after.firings s.window)
        framed.setting counted

    pub fields_closed : AreFields job news after
    fields_closed = record {
      ranks = ap (λ (s : Setting). s.ranks) setting_is;
      spare = subst (λ (s : Setting). s.spare < 2 ^ 32) (sym setting_is) (omega arith);
      world = record {
        parts = subst (λ (s : Setting). AreParts p job.inputs s.ranks news after.lanes s.window s.spare) (sym setting_is)
            (subst (λ ls. AreParts p job.inputs n news ls frame_window 0) (sym same_lanes) parts);
        counted = subst (λ (s : Setting). AreCounted s.ranks news after.lanes after.starts after.deliveries after.firings s.window)
            (sym setting_is)
            (subst (λ ls. AreCounted n news ls after.starts after.deliveries after.firings frame_window) (sym same_lanes) counted_here);
        stray = subst (λ (s : Setting). AreStrays s.ranks news after.lanes s.strays s.spare) (sym setting_is)
            (subst (λ ls. AreStrays n news ls 0 0) (sym same_lanes) few_strays);
      };
    }

    pub closed : IsClosed (frame_of job traffic.lanes) nodes (state_of job news after)
    closed = record {
      schedule = refl;
      inputs = refl;
      window = ap (λ (s : Setting). s.window) setting_is;
      strays = ap (λ (s : Setting). s.strays) setting_is;
      spare = ap (λ (s : Setting). s.spare) setting_is;
      lanes = same_lanes;
      same = told;
      scene = ap (scene_of n news) same_lanes ∙ same_scene;
      slots = agree_before;
    }

  -- ---- by the nodes that a call was given, and those that it left
  module _ (lent : List NodeState) (same_nodes : lent ≡ nodes) where
    pub lent_many : length lent ≡ traffic.setting.ranks
    lent_many = ap length same_nodes ∙ many

    pub lent_tasks : (r : ℕ) → r < traffic.setting.ranks → (node_at lent r).task.ranks ≡ traffic.setting.ranks
    lent_tasks = subst (λ v. (r : ℕ) → r < traffic.setting.ranks → (node_at v r).task.ranks ≡ traffic.setting.ranks)
        (sym same_nodes) tasks

    module _ (last news : List NodeState) (same : news ≡ last) (size : length last ≡ traffic.setting.ranks)
        (told : (r : ℕ) → IsSameButGates (node_at lent r) (node_at last r))
        (kept : (r : ℕ) → r < traffic.setting.ranks → IsNode (node_at lent r)) (after : Traffic)
        (setting : after.setting ≡ traffic.setting) (same_lanes : after.lanes ≡ traffic.lanes)
        (counted : AreCounted traffic.setting.ranks last traffic.lanes after.starts after.deliveries after.firings
        traffic.setting.window) where
      told_now : (r : ℕ) → IsSameButGates (node_at nodes r) (node_at news r)
      told_now r =
          subst (λ v. IsSameButGates (node_at v r) (node_at news r)) same_nodes
          (subst (λ v. IsSameButGates (node_at lent r) (node_at v r)) (sym same) (told r))

      kept_now : (r : ℕ) → r < traffic.setting.ranks → IsNode (node_at nodes r)
      kept_now = subst (λ v. (r : ℕ) → r < traffic.setting.ranks → IsNode (node_at v r)) same_nodes kept

      counted_now : AreCounted traffic.setting.ranks news lanes after.starts after.deliveries after.firings traffic.setting.window
      counted_now = subst (λ v. AreCounted traffic.setting.ranks v lanes after.starts after.deliveries after.firings
          traffic.setting.window) (sym same) counted

      pub left_fields : AreFields job news after
      left_fields = fields_closed news (ap length same ∙ size) told_now kept_now after setting same_lanes counted_now

      pub left_closed : IsClosed (frame_of job traffic.lanes) nodes (state_of job news after)
      left_closed = closed news (ap length same ∙ size) told_now kept_now after setting same_lanes counted_now

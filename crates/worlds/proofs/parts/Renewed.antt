-- The parts after a step, with gates told and counts made right, are those of a world.
use Rattle.std.proofs.Common.{ℕ, ◌+◌, ◌<◌, ◌≤◌, ◌≡◌, ◌∙◌, List, length, count_by, sum_by, refl, sym, subst}
use Rattle.pair_wires.specs.Lanes.{Plain}
use Rattle.ptl_types.specs.declared.headers.Lane.TheVariants.{Request}
use Rattle.plan_core.specs.Plan.{Plan, from_to}
use Rattle.plan_core.specs.Values.{Inputs}
use Rattle.cuts.specs.view.Slots.{Slots}
use Rattle.cuts.specs.histories.Cut.{is_received_stray, is_stray}
use Rattle.cuts.specs.histories.Moment.{IsMoment}
use Rattle.cuts.specs.histories.Plans.{system_of}
use Rattle.rank_node.specs.of_plan.Ranks.{AreShort}
use Rattle.cuts.specs.orders.Chosen.{Scene}
use Rattle.cuts.specs.windows.Places.{lane_place}
use Rattle.rank_node.specs.Copies.{Diary}
use Rattle.rank_node.specs.Handles.{Agrees}
use Rattle.rank_node.specs.Node.{NodeState}
use Rattle.rank_node.specs.Plans.{IsCompiledFor}
use Rattle.worlds.specs.parts.Keeps.{AgreeAll, AreCounted, AreParts, AreStrays, IsWorld}
use Rattle.worlds.specs.declared.parts.lanes.Setting.{Setting}
use Rattle.worlds.specs.declared.parts.traffic.Traffic.{Traffic}
use Rattle.worlds.specs.parts.Layout.{lane_at, node_at, scene_of}
use Rattle.worlds.specs.parts.Marks.{gated}
use Rattle.worlds.proofs.parts.Gated.{IsGated, gated_size, is_gated, same_gates, scene_gated}

-- nodes that differ from those after the step by their gates alone, and counts that are right
pub record IsRenewed (n window : ℕ) (news : List NodeState) (lanes_after : List Plain) (nodes_after : List NodeState) (a b c : List ℕ)
    : Type 0 where
  pub size : length nodes_after ≡ length news
  pub told : (r : ℕ) → IsGated (node_at news r) (node_at nodes_after r)
  pub counted : AreCounted n nodes_after lanes_after a b c window

-- such lanes and counts
abbrev pub left : Setting → List Plain → List ℕ → List ℕ → List ℕ → Traffic
left setting lanes starts deliveries firings =
    record { setting = setting; lanes = lanes; starts = starts; deliveries = deliveries; firings = firings }

-- no node is told anything
pub as_is : (n window : ℕ) (news : List NodeState) (lanes_after : List Plain) (a b c : List ℕ) → AreCounted n news lanes_after a b c window
    → IsRenewed n window news lanes_after news a b c
as_is n window news lanes_after a b c k = record { size = refl; told = λ r. same_gates (node_at news r); counted = k }

-- one is told of one lane
pub as_told : (n window : ℕ) (news : List NodeState) (lanes_after : List Plain) (s d : ℕ) → s < length news → (a b c : List ℕ)
    → AreCounted n (gated lanes_after n window s d news) lanes_after a b c window
    → IsRenewed n window news lanes_after (gated lanes_after n window s d news) a b c
as_told n window news lanes_after s d h a b c k =
    record { size = gated_size lanes_after n window s d news; told = λ r. is_gated lanes_after n window s d news r h; counted = k }

-- as the code has it
pub renewed_by : (n window : ℕ) (news : List NodeState) (lanes_after : List Plain) (g : List NodeState) (a e : List ℕ)
    (f : List NodeState → List ℕ) → IsRenewed n window news lanes_after g a e (f g)
    → (nodes_after : List NodeState) (b c : List ℕ) → nodes_after ≡ g → b ≡ e → c ≡ f nodes_after → IsRenewed n window news lanes_after
    nodes_after a b c
renewed_by n window news lanes_after g a e f k nodes_after b c gates deliveries firings =
    subst (λ u. IsRenewed n window news lanes_after nodes_after a b u) (sym firings)
    (subst (λ u. IsRenewed n window news lanes_after nodes_after a u (f nodes_after)) (sym deliveries)
    (subst (λ v. IsRenewed n window news lanes_after v a e (f v)) (sym gates) k))

module _ (setting : Setting) (news : List NodeState) (lanes_after : List Plain) (nodes_after : List NodeState) (a b c : List ℕ)
    (is : IsRenewed setting.ranks setting.window news lanes_after nodes_after a b c) where
  abbrev n : ℕ
  n = setting.ranks

  -- ---- what the nodes keep
  pub agree_next : (slots : ℕ → Slots) → AgreeAll n slots nodes_after → AgreeAll n slots news
  agree_next slots g r h = subst (Agrees (slots r)) (is.told r).kept (g r h)

  pub scene_next : scene_of n nodes_after lanes_after ≡ scene_of n news lanes_after
  scene_next = scene_gated n news nodes_after lanes_after is.told

  module _ (p : Plan) (inputs : Inputs) (parts : AreParts p inputs setting.ranks news lanes_after setting.window setting.spare)
      (room : AreStrays setting.ranks news lanes_after setting.strays setting.spare) where
    parts_next : AreParts p inputs n nodes_after lanes_after setting.window setting.spare
    parts_next = record {
      at_most = parts.at_most;
      count = parts.count;
      sound = parts.sound;
      fit = parts.fit;
      some = parts.some;
      wide = parts.wide;
      room = parts.room;
      within = parts.within;
      size = is.size ∙ parts.size;
      compiled = λ r h. subst (IsCompiledFor p inputs r) (sym (is.told r).task) (parts.compiled r h);
      node = λ r h. (is.told r).node (parts.node r h);
      moment = λ slots g. subst (λ (z : Scene). IsMoment (system_of p inputs slots) z.world z.held) (sym scene_next)
          (parts.moment slots (agree_next slots g));
    }

    strays_next : AreStrays n nodes_after lanes_after setting.strays setting.spare
    strays_next = record {
      room = λ r h. (is.told r).strays ∙ room.room r h;
      at_most = λ q h. subst (λ (x : Diary). count_by is_received_stray x.locals
          + sum_by (λ s. count_by is_stray (lane_at lanes_after (lane_place n s q Request)).messages) (from_to 0 n) + setting.strays ≤
          setting.spare)
          (sym (is.told q).diary) (room.at_most q h);
      received = λ r h. subst (λ (x : Diary). AreShort x.locals) (sym (is.told r).diary) (room.received r h);
      held = room.held;
    }

    pub renewed : IsWorld p inputs nodes_after (left setting lanes_after a b c)
    renewed = record { parts = parts_next; counted = is.counted; stray = strays_next }

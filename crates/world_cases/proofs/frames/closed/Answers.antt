-- Nodes of which nothing was done close a frame into a world of which nothing was done.
use Rattle.std.proofs.Common.{ℕ, ◌<◌, ◌≡◌, ◌∙◌, List, [], ◌++◌, length, ap, ap₂, sym, subst, arith}
use Rattle.ptl_types.specs.declared.headers.Lane.{Lane}
use Rattle.pair_wires.specs.Lanes.{Plain}
use Rattle.plan_core.specs.Plan.{Plan}
use Rattle.plan_core.specs.Values.{Inputs}
use Rattle.cuts.specs.histories.History.{got, sent}
use Rattle.cuts.specs.histories.Plans.{start_of}
use Rattle.cuts.specs.orders.Chosen.{first_scene}
use Rattle.cuts.specs.view.Calls.{prepare}
use Rattle.cuts.specs.windows.Places.{lane_place}
use Rattle.rank_node.specs.Node.{NodeState}
use Rattle.schedule_compiler.specs.Jobs.{JobOf}
use Rattle.worlds.specs.parts.Layout.{lane_at, node_at, scene_of}
use Rattle.worlds.specs.opening.Fresh.{IsFresh}
use Rattle.worlds.specs.opening.Frames.{frame_window}
use Rattle.worlds.proofs.opening.Begun.{first-by}
use Rattle.worlds.specs.FrameState.{FrameState}
use Rattle.worlds.specs.Frames.{IsClosed, IsFrameOf, MayClose}
use Rattle.worlds.specs.Later.{IsOpened}
use Rattle.worlds.specs.World.{WorldState}
use Rattle.schedule_compiler.specs.Schedules.{ScheduleOf}
use Rattle.world_cases.proofs.frames.closed.Goals as goal

abbrev frame_by : List Plain → ScheduleOf → Inputs → FrameState
frame_by lanes schedule inputs = record { schedule = schedule; inputs = inputs; lanes = lanes }

module _ (job : JobOf) (f : FrameState) (nodes : List NodeState) (is : IsFrameOf job f) (size : length nodes ≡ job.schedule.plan.ranks)
    (fresh : (r : ℕ) → r < job.schedule.plan.ranks
    → IsFresh job.schedule.plan job.inputs job.schedule.plan.ranks 0 r (node_at nodes r)) where
  abbrev p : Plan
  p = job.schedule.plan

  abbrev n : ℕ
  n = job.schedule.plan.ranks

  same : f ≡ frame_by f.lanes job.schedule job.inputs
  same = ap₂ (λ s i. frame_by f.lanes s i) is.schedule is.inputs

  empty : (s d : ℕ) (lane : Lane) → s < n → d < n → (lane_at f.lanes (lane_place n s d lane)).messages ≡ []
  empty s d lane hs hd = ap (λ (l : Plain). l.messages) (is.lanes s d lane hs hd)

  may : MayClose (frame_by f.lanes job.schedule job.inputs) nodes
  may = record {
    of_job = record { size = size; compiled = λ r h. (fresh r h).compiled; strays = λ r h. (fresh r h).strays };
    sources = λ r s lane h past. ap (λ es. got es s lane) (fresh r h).locals;
    sent = λ slots agree s d lane hs hd.
        ap₂ (λ es ms. got es s lane ++ ms) (fresh d hd).locals (empty s d lane hs hd)
        ∙ sym (ap (λ es. sent (start_of p (slots s) s) (prepare p job.inputs (slots s) s) es d lane) (fresh s hs).locals);
    room = λ s d lane hs hd.
        let q = ap (λ (l : Plain). l.capacity) (is.lanes s d lane hs hd) in
        omega (arith, q);
    within = λ s d lane hs hd. let q = ap length (empty s d lane hs hd) in omega (arith, q);
  }

  may_close : MayClose f nodes
  may_close = subst (λ (g : FrameState). MayClose g nodes) (sym same) may

  is_opened : (w : WorldState) → IsClosed f nodes w → IsOpened job frame_window 0 w
  is_opened w c =
      let first : scene_of n nodes f.lanes ≡ first_scene = first-by n nodes f.lanes size (λ r h. (fresh r h).locals) empty in
      record {
        schedule = c.schedule ∙ is.schedule;
        inputs = c.inputs ∙ is.inputs;
        window = c.window;
        strays = c.strays;
        spare = c.spare;
        scene = c.scene ∙ ap (λ (s : ScheduleOf). scene_of s.plan.ranks nodes f.lanes) is.schedule ∙ first;
      }

pub into_world-requires : goal.into_world-requires
into_world-requires c = may_close c.args.job.now c.in_ok-frame.frame c.in_ok-nodes.nodes.items c.in_ok-frame.ensures
    c.in_ok-nodes.ensures.size c.in_ok-nodes.ensures.fresh

pub returns : goal.returns
returns c = is_opened c.args.job.now c.in_ok-frame.frame c.in_ok-nodes.nodes.items c.in_ok-frame.ensures c.in_ok-nodes.ensures.size
    c.in_ok-nodes.ensures.fresh c.into_world.result c.into_world.ensures

-- The parts are a world of which nothing was done.
use Rattle.std.proofs.Common.{ℕ, ◌*◌, ◌<◌, ◌≤◌, ◌≡◌, ◌∙◌, length, map, replicate, ap, refl, subst, sym, arith}
use Rattle.schedule_compiler.specs.Schedules.{ScheduleOf}
use Rattle.ptl_types.specs.declared.headers.Lane.{Lane}
use Rattle.plan_core.specs.Sound.{SoundPlan, AreInputsOf}
use Rattle.cuts.specs.windows.Places.{lane_place}
use Rattle.worlds.specs.declared.parts.lanes.Setting.{Setting}
use Rattle.worlds.specs.parts.Layout.{lane_at, scene_of}
use Rattle.worlds.specs.parts.Marks.{firing_count, start_count}
use Rattle.worlds.specs.opening.Fresh.{fresh_lane}
use Rattle.worlds.specs.opening.Laying.{FitLanes}
use Rattle.worlds.proofs.opening.Begun.{is-first, is-world}
use Rattle.worlds.proofs.opening.Laid.{at_most-pairs}
use Rattle.worlds.proofs.opening.opening.opened.Goals as goal

pub overflow_mul-places : goal.overflow_mul-places
overflow_mul-places c =
    let n = c.ranks-ranks.result in
    let q = at_most-pairs n c.ranks-ranks.ensures.at_most in
    omega (arith, q)

pub lay_all-requires : goal.lay_all-requires
lay_all-requires c =
    subst (λ (s : ScheduleOf). FitLanes s.plan c.args.strays) (sym c.schedule-schedule.ensures) c.requires.at_most

pub returns : goal.returns
returns c =
    let o = c.args.job.now.schedule in
    let p = o.plan in
    let inputs = c.args.job.now.inputs in
    let strays = c.args.strays in
    let same = c.schedule-schedule.ensures in
    let n = p.ranks in
    let nodes = c.in_ok-nodes.nodes.items in
    let lanes = c.in_ok-lanes.lanes.items in
    let ins = c.inputs.ensures.inputs in
    let ranks : c.ranks-ranks.result ≡ n = c.ranks-ranks.ensures.value ∙ ap (λ (s : ScheduleOf). s.plan.ranks) same in
    let sound : SoundPlan p (length inputs) = subst (SoundPlan p) (sym ins.many)
    (subst (λ (s : ScheduleOf). SoundPlan s.plan s.inputs) same c.plan.ensures.sound) in
    let at_most : n ≤ 256 = sound.few_ranks in
    let fit : AreInputsOf p inputs = ins.fit in
    let size : length nodes ≡ n = c.in_ok-nodes.ensures.size in
    let fresh = c.in_ok-nodes.ensures.fresh in
    let wide : length lanes ≡ 2 * (n * n) = c.in_ok-lanes.ensures.size ∙ ap (λ (s : ScheduleOf). 2 * (s.plan.ranks * s.plan.ranks)) same in
    let laid = subst (λ (s : ScheduleOf). (a d : ℕ) (lane : Lane) → a < s.plan.ranks → d < s.plan.ranks
    → lane_at lanes (lane_place s.plan.ranks a d lane) ≡ fresh_lane s.plan strays a d lane) same c.in_ok-lanes.ensures.laid in
    let table = c.of_lanes.ensures in
    record {
      world = is-world p inputs n nodes lanes c.args.window strays at_most refl sound fit c.requires.window size wide fresh laid
          c.ranks-ranks.result ranks c.of_lanes.result table c.in_ok-starts.starts c.in_ok-deliveries.deliveries c.in_ok-firings.firings
          (c.in_ok-starts.ensures ∙ ap (map start_count) c.deref.ensures.value)
          (c.in_ok-deliveries.ensures ∙ ap (λ m. replicate (2 * (m * m)) 0) ranks)
          (c.in_ok-firings.ensures ∙ ap (map firing_count) c.deref-2.ensures.value);
      setting = ap (λ m. let w : Setting = record { ranks = m; window = c.args.window; strays = strays; spare = strays } in w) ranks;
      first =
          ap (scene_of n nodes) table
          ∙ is-first p inputs n nodes lanes c.args.window strays at_most refl sound fit c.requires.window size wide fresh laid;
      steps = λ r h. (fresh r h).steps;
    }

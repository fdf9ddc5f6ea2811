-- The room is that of the job's ranks.
use Rattle.std.proofs.Common.{ℕ, ◌*◌, ◌<◌, ◌≡◌, ◌∙◌, length, ap, subst, sym, arith}
use Rattle.std.proofs.lemmas.List.{length-replicate}
use Rattle.schedule_compiler.specs.Schedules.{ScheduleOf}
use Rattle.ptl_types.specs.declared.headers.Lane.{Lane}
use Rattle.plan_core.specs.Sound.{SoundPlan, AreInputsOf}
use Rattle.cuts.specs.windows.Places.{lane_place}
use Rattle.worlds.specs.declared.parts.lanes.Setting.{Setting}
use Rattle.worlds.specs.parts.Layout.{lane_at}
use Rattle.worlds.specs.opening.Frames.{frame_lane, frame_setting}
use Rattle.worlds.proofs.opening.Laid.{at_most-pairs}
use Rattle.worlds.proofs.opening.framing.open_bare.Goals as goal

pub overflow_mul-places : goal.overflow_mul-places
overflow_mul-places c =
    let n = c.ranks-ranks.result in
    let q = at_most-pairs n c.ranks-ranks.ensures.at_most in
    omega (arith, q)

pub lay_all-requires : goal.lay_all-requires
lay_all-requires c = let q = c.plan.ensures.sound.few_together in omega (arith, q)

pub returns : goal.returns
returns c =
    let o = c.args.job.now.schedule in
    let p = o.plan in
    let inputs = c.args.job.now.inputs in
    let same = c.schedule-schedule.ensures in
    let n = p.ranks in
    let lanes = c.in_ok-lanes.lanes.items in
    let ins = c.inputs.ensures.inputs in
    let ranks : c.ranks-ranks.result ≡ n = c.ranks-ranks.ensures.value ∙ ap (λ (s : ScheduleOf). s.plan.ranks) same in
    let sound : SoundPlan p (length inputs) = subst (SoundPlan p) (sym ins.many)
    (subst (λ (s : ScheduleOf). SoundPlan s.plan s.inputs) same c.plan.ensures.sound) in
    let some : 0 < n = let q = sound.some_rank in omega (arith, q) in
    let fit : AreInputsOf p inputs = ins.fit in
    let wide : length lanes ≡ 2 * (n * n) = c.in_ok-lanes.ensures.size ∙ ap (λ (s : ScheduleOf). 2 * (s.plan.ranks * s.plan.ranks)) same in
    let table = c.of_lanes.ensures in
    record {
      setting =
          ap (λ w. let k : Setting = record { ranks = c.ranks-ranks.result; window = w; strays = 0; spare = 0 } in k) c.from.ensures
          ∙ ap frame_setting ranks;
      bare = record {
        count = sym ranks;
        sound = sound;
        fit = fit;
        sized = record {
          some = subst (λ m. 0 < m) (sym ranks) some;
          at_most = c.ranks-ranks.ensures.at_most;
          wide_lanes = ap length table ∙ wide ∙ ap (λ m. 2 * (m * m)) (sym ranks);
          wide_starts = ap length c.in_ok-starts.ensures ∙ length-replicate c.ranks-ranks.result 0;
          wide_deliveries = ap length c.in_ok-deliveries.ensures
              ∙ length-replicate (2 * (c.ranks-ranks.result * c.ranks-ranks.result)) 0;
          wide_firings = ap length c.in_ok-firings.ensures ∙ length-replicate c.ranks-ranks.result 0;
        };
      };
      lanes = subst (λ ls. (a d : ℕ) (lane : Lane) → a < n → d < n → lane_at ls (lane_place n a d lane) ≡ frame_lane p a d lane)
          (sym table) (subst (λ (s : ScheduleOf). (a d : ℕ) (lane : Lane) → a < s.plan.ranks → d < s.plan.ranks
          → lane_at lanes (lane_place s.plan.ranks a d lane) ≡ frame_lane s.plan a d lane) same c.in_ok-lanes.ensures.laid);
    }

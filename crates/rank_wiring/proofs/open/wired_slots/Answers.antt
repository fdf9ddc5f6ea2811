use Rattle.std.proofs.Common.{◌≡◌, ◌++◌, ◌∙◌, List, ap, drop, length, subst, sym, take}
use Rattle.schedule_compiler.specs.Schedules.{ScheduleOf}
use Rattle.rank_wiring.specs.declared.lanes.OutLanes.{OutLanes}
use Rattle.rank_slots.specs.declared.turn_rank.TurnRank.{TurnRank}
use Rattle.rank_wiring.specs.Fans.{AreFans}
use Rattle.rank_wiring.specs.Opening.{AllFanned, AreWired}
use Rattle.rank_slots.proofs.Snocs.{written}
use Rattle.rank_wiring.proofs.open.wired_slots.Goals as goal

pub build_ranks-requires-clause-count : goal.build_ranks-requires-clause-count
build_ranks-requires-clause-count g c = λ _ _.
    ap (λ (l : List OutLanes). length l) c.deref.ensures.value
    ∙ (c.in_ok-fans.ensures.count ∙ ap (λ (o : ScheduleOf). o.plan.ranks) c.schedule.ensures)

pub build_ranks-requires-clause-fans : goal.build_ranks-requires-clause-fans
build_ranks-requires-clause-fans g c = λ _ _.
    subst (AreFans c.args.job.now.schedule.plan) (sym c.deref.ensures.value)
    (subst (λ (o : ScheduleOf). AreFans o.plan c.in_ok-fans.fans.items) c.schedule.ensures c.in_ok-fans.ensures.fans)

pub in_order-requires-clause-ranks : goal.in_order-requires-clause-ranks
in_order-requires-clause-ranks g c =
    ap (λ (l : List OutLanes). length l) c.deref-2.ensures.value
    ∙ (c.in_ok-fans.ensures.count ∙ ap (λ (o : ScheduleOf). o.plan.ranks) c.schedule.ensures)

pub in_order-requires-clause-fans : goal.in_order-requires-clause-fans
in_order-requires-clause-fans g c =
    subst (AreFans c.args.job.now.schedule.plan) (sym c.deref-2.ensures.value)
    (subst (λ (o : ScheduleOf). AreFans o.plan c.in_ok-fans.fans.items) c.schedule.ensures c.in_ok-fans.ensures.fans)

pub hand_all-requires-clause-count : goal.hand_all-requires-clause-count
hand_all-requires-clause-count g c = (
  ap (λ (l : List TurnRank). length l) c.deref_mut.ensures.value ∙ c.in_ok-slots.ensures.count.0 ∙ c.in_ok-places.ensures.count,
  c.in_ok-slots.ensures.count.1 ∙ c.in_ok-places.ensures.count,
)

pub hand_all-requires-clause-fanned : goal.hand_all-requires-clause-fanned
hand_all-requires-clause-fanned g c =
    subst (λ (l : List TurnRank). AllFanned c.args.job.now l c.in_ok-slots.loads.items)
    (sym c.deref_mut.ensures.value) c.in_ok-slots.ensures.fanned

pub returns : goal.returns
returns g c =
    let new = c.hand_all.new.slots in let old = c.in_ok-slots.slots in
    let slots : take old.len (new ++ drop (length new) old.items) ≡ new = written old.len new _
    (sym (c.hand_all.ensures.count ∙ c.deref_mut.ensures.len)) in
    subst (λ (l : List TurnRank). AreWired c.args.job.now l c.in_ok-wires.wires.items) (sym slots) c.in_ok-wires.ensures.wired

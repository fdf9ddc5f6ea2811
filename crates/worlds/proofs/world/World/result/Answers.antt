-- The cell that holds the buffer lies in the rank's memory.
use Rattle.std.proofs.Common.{◌<◌, ◌∙◌, ap, arith, length, subst, sym}
use Rattle.std.proofs.lemmas.List.{get_or_read}
use Rattle.schedule_compiler.specs.Schedules.{ScheduleOf}
use Rattle.rank_node.specs.Node.{NodeState}
use Rattle.ni_model.specs.State.{State}
use Rattle.schedule_compiler.specs.Answers.{place_of}
use Rattle.schedule_compiler.specs.Keeping.{IsCellOn}
use Rattle.schedule_compiler.specs.declared.schedule.Place.{Place}
use Rattle.worlds.specs.parts.Layout.{no_node}
use Rattle.worlds.specs.World.{WorldState, state_of}
use Rattle.worlds.proofs.Ends.{result_lies}
use Rattle.worlds.proofs.Standing.{stands}
use Rattle.worlds.proofs.world.World.result.Goals as goal

pub place-requires : goal.place-requires
place-requires c =
    (c.in-Some.ensures.cell c.in-Some.cell (sym c.in-Some.ensures.value)).0

pub part_of-requires : goal.part_of-requires
part_of-requires c =
    let s = c.self.inside in
    let is = stands s.job s.nodes.items s.traffic c.self.invariant in
    let hr = subst (λ (w : WorldState). c.args.r < w.schedule.plan.ranks) (sym c.self.view_is) c.requires.rank in
    let told = subst (λ (o : ScheduleOf). IsCellOn o.plan c.args.r c.in-Some.cell) c.schedule-schedule.ensures
    (c.in-Some.ensures.cell c.in-Some.cell (sym c.in-Some.ensures.value)) in
    let size = is.size in
    let inside : c.args.r < length s.nodes.items = omega (arith, hr, size) in
    let lies = result_lies (state_of s.job s.nodes.items s.traffic) is c.args.r c.in-Some.cell hr told.0
    told.1 in
    let node = get_or_read s.nodes.items c.args.r c.index.result.now inside c.index.ensures no_node in
    let memory = ap length (c.memory.ensures.value ∙ ap (λ (x : State). x.memory) (c.nic.ensures ∙ ap (λ (x : NodeState). x.nic) node)) in
    let place = c.place.ensures ∙ ap (λ (o : ScheduleOf). place_of o.plan c.in-Some.cell) c.schedule-schedule.ensures in
    let start = ap (λ (p : Place). p.start) place in
    let long = ap (λ (p : Place). p.length) place in
    omega (arith, lies, memory, start, long)

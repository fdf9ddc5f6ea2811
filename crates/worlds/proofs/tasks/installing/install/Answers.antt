-- What is compiled can be installed, and the node is then the rank at the beginning.
use Rattle.std.proofs.Common.{◌+◌, ◌<◌, ◌^◌, ◌∙◌, false, length, replicate, ap, subst, sym}
use Rattle.schedule_compiler.specs.Schedules.{ScheduleOf}
use Rattle.plan_core.specs.Sound.{SoundPlan}
use Rattle.rank_node.specs.Node.{IsNode, task_of}
use Rattle.rank_node.specs.Plans.{IsCompiledFor}
use Rattle.worlds.proofs.tasks.Begun.{begun, can-install}
use Rattle.worlds.proofs.tasks.installing.install.Goals as goal

pub install-requires : goal.install-requires
install-requires c =
    let o = c.args.job.now.schedule in
    let same = c.schedule.ensures in
    can-install o c.args.job.now.inputs c.args.r (task_of c.in_ok-compiled.compiled)
    (subst (λ (s : ScheduleOf). SoundPlan s.plan s.inputs) same c.plan.ensures.sound)
    (subst (λ (s : ScheduleOf). length s.plan.cells + length s.plan.links < 2 ^ 27) same c.plan.ensures.at_most)
    c.inputs.ensures.inputs c.requires c.in_ok-compiled.ensures

pub returns : goal.returns
returns c =
    let p = c.args.job.now.schedule.plan in
    let inputs = c.args.job.now.inputs in
    let r = c.args.r in
    let node = c.in_ok-node.node in
    let for_rank : IsCompiledFor p inputs r node.task = subst (IsCompiledFor p inputs r) (sym c.in_ok-node.ensures.task)
    c.in_ok-compiled.ensures in
    let is : IsNode node = c.recall_history.ensures.kept in
    let none = c.in_ok-node.ensures.history in
    record {
      compiled = for_rank;
      node = is;
      history = none;
      steps = c.in_ok-node.ensures.steps;
      strays = c.in_ok-node.ensures.strays;
      gates = c.in_ok-node.ensures.gates ∙ ap (λ n. replicate n false) c.in_ok-compiled.ensures.ranks;
      first = λ slots agrees. begun p inputs r node for_rank is none slots agrees;
    }

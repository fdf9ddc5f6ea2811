-- What is compiled for a rank of a job can be installed, and the node is then the rank at the beginning of the plan's system.
use Rattle.std.proofs.Common.{ℕ, ◌+◌, ◌^◌, ◌≡◌, ◌<◌, [], length, ap, ◌∙◌, sym, subst}
use Rattle.plan_core.specs.Plan.{Plan}
use Rattle.plan_core.specs.Sound.{SoundPlan}
use Rattle.plan_core.specs.Values.{Inputs}
use Rattle.cuts.specs.view.Slots.{Slots}
use Rattle.cuts.specs.histories.History.{state}
use Rattle.cuts.specs.histories.Plans.{system_of}
use Rattle.schedule_compiler.specs.Jobs.{AreInputsFor}
use Rattle.schedule_compiler.specs.Schedules.{ScheduleOf}
use Rattle.rank_node.specs.Handles.{Agrees}
use Rattle.rank_node.specs.Node.{IsCompiled, IsNode, NodeState, Task, prepared, start_of}
use Rattle.rank_node.specs.Plans.{IsCompiledFor}
use Rattle.rank_node.proofs.Plans.{compiled-is, prepared-is}

pub can-install : (s : ScheduleOf) (inputs : Inputs) (r : ℕ) (t : Task) → SoundPlan s.plan s.inputs
    → length s.plan.cells + length s.plan.links < 2 ^ 27 → AreInputsFor s inputs → r < s.plan.ranks → IsCompiledFor s.plan inputs r t
    → IsCompiled t
can-install s inputs r t sound at_most given lt f =
    compiled-is s.plan inputs (subst (SoundPlan s.plan) (sym given.many) sound) r t at_most lt f

pub begun : (p : Plan) (inputs : Inputs) (r : ℕ) (n : NodeState) → IsCompiledFor p inputs r n.task → IsNode n → n.diary.locals ≡ []
    → (slots : ℕ → Slots) → Agrees (slots r) n.kept → n.nic ≡ (system_of p inputs slots).first r
begun p inputs r n f is none slots agrees =
    is.state (slots r) agrees
    ∙ ap (state (start_of n.task (slots r)) (prepared n.task (slots r))) none
    ∙ prepared-is p inputs r (slots r) n.task f

-- A firing whose lane is open finds nothing waiting there.
use Rattle.std.proofs.Common.{◌≡◌, ℕ, Bool, true, false, List, get_or, sym, refl, ap, ◌∙◌, subst}
use Rattle.std.specs.Prelude.{Option, Some, not, if◌then◌else◌}
use mathlib.Core.Option.{some}
use lib.ListN.{get_elem?}
use Rattle.ptl_types.specs.declared.headers.Lane.{Lane}
use Rattle.ptl_types.specs.declared.headers.Lane.TheVariants.{Request, Answer}
use Rattle.ptl_types.specs.Messages.{Sent}
use Rattle.ni_model.specs.Ready.{fired, target_at}
use Rattle.plan_core.specs.Plan.{Plan}
use Rattle.cuts.specs.view.Slots.{Slots}
use Rattle.cuts.specs.histories.History.{is_for}
use Rattle.cuts.specs.histories.History.Local.{Fire}
use Rattle.cuts.proofs.histories.Origin.{IsOf, fired_link, from_link-request}
use Rattle.rank_node.specs.Gates.{goes_out}
use Rattle.rank_node.specs.Node.{NodeState, fired_node}
use Rattle.rank_node.specs.Handles.{Agrees}
use Rattle.rank_node.proofs.Sending.{fired-target, rank_of}
use Rattle.rank_slots.specs.declared.ports.OutPort.{OutPort}
use Rattle.rank_slots.specs.Ports.{Gated}
use Rattle.rank_slots.proofs.Gates.{of-for}
use Rattle.rank_slots.proofs.Ties.{Went}

-- a firing as a step
pub fired-went : (old new : NodeState) (t : ℕ) → new ≡ fired_node t old → Went old new (Fire t)
fired-went old new t is = record {
  task = ap (λ (n : NodeState). n.task) is;
  strays = ap (λ (n : NodeState). n.strays) is;
  locals = ap (λ (n : NodeState). n.diary.locals) is;
  slots = λ k a. subst (λ (n : NodeState). Agrees k n.kept) is a;
}

open-is : (closed : List Bool) (o : Option ℕ) (d : ℕ) → o ≡ Some d → goes_out closed o ≡ true → get_or closed d false ≡ false
open-is closed o d is goes = at (get_or closed d false) (subst (λ (o : Option ℕ). goes_out closed o ≡ true) is goes)
  where
    at : (b : Bool) → not b ≡ true → b ≡ false
    at true e = cc
    at false e = refl

request-lane : (answer : Bool) (l : Lane) → (if answer then Answer else Request) ≡ l → answer ≡ false → l ≡ Request
request-lane true l e f = cc
request-lane false l e f = sym e

pub fire-free : (p : Plan) (k : Slots) (r : ℕ) (n : NodeState) (t : ℕ) (outs : List OutPort) → IsOf p k r n.nic →
    goes_out n.closed (target_at n.nic t) ≡ true → Gated n.closed outs
    → (i : ℕ) (o : OutPort) (m : Sent) → get_elem? outs i ≡ some o → (fired n.nic t).message ≡ Some m → is_for o.target o.lane m ≡ true →
    o.end.waits ≡ false
fire-free p k r n t outs of goes gated i o m a made f =
    let is = of-for o.target o.lane m f in
    let lane = request-lane _ o.lane is.1 (from_link-request p k r m (fired_link p k r t n.nic m of made)) in
    let target : target_at n.nic t ≡ Some o.target = sym (fired-target n.nic t) ∙ (ap rank_of made ∙ ap Some is.0) in
    sym (gated i o a lane) ∙ open-is n.closed (target_at n.nic t) o.target target goes

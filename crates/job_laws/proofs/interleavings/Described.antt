-- From what a text comes to, to the interleavings and the cuts of its plan.
use Rattle.std.proofs.Common.{ℕ, List, None, Ok, ◌+◌, ◌<◌, ◌≤◌, ◌≡◌, arith, map, subst}
use Rattle.op_laws.proofs.OpLaws.{op_laws}
use Rattle.op_laws.proofs.Starts.{combined-starts}
use Rattle.op_laws.proofs.Swaps.{combined-swaps}
use Rattle.coll_lang.proofs.Coming.{comes}
use Rattle.coll_lang.specs.Language.{read}
use Rattle.coll_lang.specs.Program.{Program}
use Rattle.cuts.specs.view.Slots.{Slots}
use Rattle.cuts.specs.histories.Cut.{IsCut}
use Rattle.cuts.specs.histories.Moment.{Lanes}
use Rattle.cuts.specs.histories.Plans.{system_of}
use Rattle.cuts.specs.histories.System.{Histories}
use Rattle.cuts.specs.histories.Wave.{HasNoStray}
use Rattle.cuts.specs.orders.Taking.{listed}
use Rattle.schedule_compiler.specs.shapes.Drawing.{plan_of}
use Rattle.schedule_compiler.specs.shapes.Footprint.{refusal}
use Rattle.schedule_compiler.proofs.shapes.Final.{fine-shape, inputs_fit}
use Rattle.cuts.specs.interleavings.Interleaving.{IsReachedIn, IsStillButStrays, steps_due, strays_received}
use Rattle.cuts.proofs.interleavings.Cuts.{one_choice_clean}
use Rattle.cuts.proofs.interleavings.Interleavings.{but_strays_rest, reached_moment, steps_by_receipts}
use Rattle.cuts.proofs.interleavings.Strays.{received_were_put}
use Rattle.cuts.proofs.interleavings.Whole.{steps_made}
use Rattle.job_laws.proofs.Cuts.{complete_at, meant_where_complete, rank_of, sound_for}
use Rattle.job_laws.specs.interleavings.Headline.{HeadlineWithStrays}

pub meant_with_strays : HeadlineWithStrays
meant_with_strays bytes d slots steps strays world held is accepted reached still =
    let ok = (comes bytes d is).readable in
    let sound = sound_for d.shape d.inputs ok.formed accepted ok.given in
    let fit = inputs_fit d.shape d.inputs ok.formed ok.given in
    let moment = reached_moment combined-starts (plan_of d.shape) d.inputs sound fit
    (combined-swaps op_laws) slots steps strays world held reached in
    let done = complete_at d.shape d.inputs slots world ok.formed accepted ok.given moment.cut
    (but_strays_rest combined-starts (plan_of d.shape) d.inputs sound fit (combined-swaps op_laws) slots world held moment still) in
    (done, meant_where_complete d.shape d.inputs slots world ok.formed ok.given done)

pub bounded : (bytes : List ℕ) (d : Program) (slots : ℕ → Slots) (steps strays : ℕ) (world : Histories) (held : Lanes) → read bytes ≡ Ok d
    → refusal d.shape ≡ None
    → IsReachedIn (system_of (plan_of d.shape) d.inputs slots) steps strays world held → steps ≤ steps_due (plan_of d.shape) + strays
bounded bytes d slots steps strays world held is accepted reached =
    let ok = (comes bytes d is).readable in
    let sound = sound_for d.shape d.inputs ok.formed accepted ok.given in
    let fit = inputs_fit d.shape d.inputs ok.formed ok.given in
    let a = steps_by_receipts combined-starts (plan_of d.shape) d.inputs sound fit
    (combined-swaps op_laws) slots steps strays world held reached in
    let b = received_were_put combined-starts (plan_of d.shape) d.inputs sound fit
    (combined-swaps op_laws) slots steps strays world held reached in
    omega (arith, a, b)

pub one_choice : (bytes : List ℕ) (d : Program) (slots : ℕ → Slots) (one other : Histories) → read bytes ≡ Ok d → refusal d.shape ≡ None
    → IsCut (system_of (plan_of d.shape) d.inputs slots) one → IsCut (system_of (plan_of d.shape) d.inputs slots) other
    → HasNoStray (system_of (plan_of d.shape) d.inputs slots) one → HasNoStray (system_of (plan_of d.shape) d.inputs slots) other
    → ((r : ℕ) → r < d.shape.ranks → map listed (one r) ≡ map listed (other r)) → (r : ℕ) → r < d.shape.ranks → one r ≡ other r
one_choice bytes d slots one other is accepted a b clean pure same r h =
    let ok = (comes bytes d is).readable in
    one_choice_clean combined-starts (plan_of d.shape) d.inputs (sound_for d.shape d.inputs ok.formed accepted ok.given)
    (inputs_fit d.shape d.inputs ok.formed ok.given)
    (combined-swaps op_laws) slots one other a b clean pure
    (λ q l. same q (subst (λ n. q < n) (fine-shape d.shape ok.formed).ranks l)) r (rank_of d.shape r ok.formed h)

pub exact : (bytes : List ℕ) (d : Program) (slots : ℕ → Slots) (steps strays : ℕ) (world : Histories) (held : Lanes) → read bytes ≡ Ok d
    → refusal d.shape ≡ None → IsReachedIn (system_of (plan_of d.shape) d.inputs slots) steps strays world held
    → IsStillButStrays (system_of (plan_of d.shape) d.inputs slots) world held
    → steps ≡ steps_due (plan_of d.shape) + strays_received world d.shape.ranks
exact bytes d slots steps strays world held is accepted reached still =
    let ok = (comes bytes d is).readable in
    let sound = sound_for d.shape d.inputs ok.formed accepted ok.given in
    let fit = inputs_fit d.shape d.inputs ok.formed ok.given in
    subst (λ n. steps ≡ steps_due (plan_of d.shape) + strays_received world n) (fine-shape d.shape ok.formed).ranks
    (steps_made combined-starts (plan_of d.shape) d.inputs sound fit (combined-swaps op_laws) slots steps strays world held reached still)

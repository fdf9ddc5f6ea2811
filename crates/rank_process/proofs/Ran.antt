-- What a place has gone through is a history of its rank.
use Rattle.std.proofs.Common.{ℕ, false, ◌+◌, ◌≡◌, ◌<◌, ◌≤◌, ◌++◌, List, sym, ap, ap₂, ◌∙◌, subst, arith, length}
use Rattle.std.proofs.lemmas.List.{get_or_past, nil_from_length}
use Rattle.ptl_types.specs.declared.headers.Lane.{Lane}
use Rattle.ptl_types.specs.declared.headers.Lane.TheVariants.{Request, Answer}
use Rattle.ptl_types.specs.Messages.{Sent}
use Rattle.plan_core.specs.Plan.{Plan}
use Rattle.plan_core.specs.Values.{Inputs}
use Rattle.plan_core.proofs.Drawing.{length-row}
use Rattle.plan_core.specs.calls.Lanes.{lane_messages}
use Rattle.cuts.specs.histories.History.{Legal, Local, got, made, state}
use Rattle.cuts.specs.histories.Plans.{start_of as begins}
use Rattle.cuts.specs.view.Calls.{prepare}
use Rattle.cuts.specs.view.Slots.{Slots}
use Rattle.rank_node.specs.Handles.{Agrees, slots_of}
use Rattle.rank_node.specs.Node.{IsNode, start_of}
use Rattle.rank_node.specs.Plans.{IsCompiledFor}
use Rattle.rank_node.proofs.Nodes.{agrees}
use Rattle.rank_node.proofs.Plans.{begin-is, run-legal}
use Rattle.rank_frames.specs.Due.{Dues, due_on}
use Rattle.rank_frames.specs.Going.{HasGone}
use Rattle.rank_frames.specs.Place.{PlaceState}
use Rattle.rank_process.specs.lines.Rank.{IsHistory, Work, made_by_rank, state_after}
use Rattle.rank_process.specs.Opening.{IsDueTo, IsPlaceOf}
use Rattle.rank_process.specs.Runs.{StandsAt, Told}
use Rattle.rank_process.proofs.Sums.{due-lane}

-- nothing is due of what is no rank
none-due : (p : Plan) (r : ℕ) (d : Dues) → IsDueTo p r d → (s : ℕ) (lane : Lane) → p.ranks ≤ s → due_on d s lane ≡ 0
none-due p r d is s Request h =
    let f : ℕ → ℕ = λ q. lane_messages p q r Request in
    let long = ap (λ (l : List ℕ). length l) is.requests ∙ length-row f 0 p.ranks in
    get_or_past d.requests s 0 (omega (arith, long, h))
none-due p r d is s Answer h =
    let f : ℕ → ℕ = λ q. lane_messages p q r Answer in
    let long = ap (λ (l : List ℕ). length l) is.answers ∙ length-row f 0 p.ranks in
    get_or_past d.answers s 0 (omega (arith, long, h))

module _ (plan : Plan) (inputs : Inputs) (r : ℕ) (hr : r < plan.ranks) (p : PlaceState) (place : IsPlaceOf plan inputs r p)
    (q : PlaceState) (es : List Local) (ms : List Sent) (gone : HasGone p q es ms) (is : IsNode q.node) where
  abbrev k : Slots
  k = slots_of q.node.kept

  agreed : Agrees k q.node.kept
  agreed = agrees q.node.kept is.descriptors

  compiled : IsCompiledFor plan inputs r q.node.task
  compiled = subst (IsCompiledFor plan inputs r) (sym gone.task) place.compiled

  pub locals : q.node.diary.locals ≡ es
  locals = gone.locals ∙ ap (λ (l : List Local). l ++ es) place.nothing

  legal : Legal (begins plan k r) false (prepare plan inputs k r) es
  legal = subst (Legal (begins plan k r) false (prepare plan inputs k r)) locals (run-legal plan inputs k r q.node compiled is agreed)

  begun : start_of p.node.task k ≡ begins plan k r
  begun = begin-is plan inputs r k p.node.task place.compiled

  first : p.node.nic ≡ prepare plan inputs k r
  first = place.first k (gone.slots k agreed)

  pub nic-is : q.node.nic ≡ state_after plan inputs r k es
  nic-is = gone.nic k agreed ∙ ap₂ (λ g v. state g v es) begun first

  pub made-is : made_by_rank plan inputs r k es ≡ ms
  made-is = sym (ap₂ (λ g v. made g v es) begun first) ∙ gone.made k agreed

  pub lane-got : (s : ℕ) (lane : Lane) → s < plan.ranks → due_on q.due s lane + length (got es s lane) ≡ lane_messages plan s r lane
  lane-got s lane h = gone.lanes s lane ∙ due-lane plan r p.due place.due s lane h

  pub past-lane : (s : ℕ) (lane : Lane) → plan.ranks ≤ s → due_on q.due s lane ≡ 0
  past-lane s lane h =
      let a = gone.lanes s lane in
      let b = none-due plan r p.due place.due s lane h in
      omega (arith, a, b)

  pub history : IsHistory plan inputs r k es
  history = record {
    legal = legal;
    within = λ s lane h. let e = lane-got s lane h in omega (arith, e);
    known = λ s lane h. nil_from_length (got es s lane)
        (let a = gone.lanes s lane in
        let b = none-due plan r p.due place.due s lane h in
        omega (arith, a, b));
    own = gone.clean;
  }

  pub stands : StandsAt plan inputs r k es q
  stands = record {
    me = gone.me ∙ place.me;
    locals = locals;
    nic = nic-is;
    ranks = gone.ranks ∙ ap (λ (l : List ℕ). length l) place.due.requests ∙ length-row (λ s. lane_messages plan s r Request) 0 plan.ranks;
    lanes = lane-got;
    bytes = gone.bytes ∙ place.due.bytes;
  }

-- of what is run
abbrev pub told : (w : Work) (r : ℕ) (hr : r < w.schedule.plan.ranks) (p : PlaceState) (place : IsPlaceOf w.schedule.plan w.inputs r p)
    (q : PlaceState) (es : List Local) (ms : List Sent) (gone : HasGone p q es ms) (is : IsNode q.node) → Told w r
told w r hr p place q es ms gone is = record {
  rank = hr;
  slots = slots_of q.node.kept;
  steps = es;
  history = history w.schedule.plan w.inputs r hr p place q es ms gone is;
}

-- A stray at a rank of a cut: the drop register rises, and nothing else changes, whether or not the rank has started.
use Rattle.std.proofs.Common.{ℕ, Bool, true, false, cond, ◌≡◌, ◌<◌, List, [], ◌∷◌, ◌++◌, length, ap, ◌∙◌, sym, subst, None}
use Rattle.ptl_types.specs.Messages.{Sent}
use Rattle.ptl_types.specs.declared.calls.Outcome.TheVariants.{Dropped}
use Rattle.ptl_types.specs.declared.headers.Lane.TheVariants.{Answer, Request}
use Rattle.ptl_types.specs.Handles.{one_more}
use Rattle.ni_model.specs.State.{State, delivers, target}
use Rattle.op_laws.specs.Combining.{CombineStarts}
use Rattle.plan_core.specs.Plan.{Plan}
use Rattle.plan_core.specs.Sound.{AreInputsOf, SoundPlan}
use Rattle.plan_core.specs.Values.{Inputs}
use Rattle.cuts.specs.machine.Machine.{note, seen}
use Rattle.cuts.specs.machine.Machine.Move.{Began, Heard, Strayed}
use Rattle.cuts.specs.machine.Seen.{Came, Seen, nothing_seen}
use Rattle.cuts.specs.view.Slots.{Slots}
use Rattle.cuts.specs.view.View.{view}
use Rattle.cuts.proofs.view.StepArrive.{more-min, step_stray}
use Rattle.cuts.specs.start.Waiting.{annex_of, took, waiting_view}
use Rattle.cuts.proofs.start.Prepared.{prepared}
use Rattle.cuts.specs.histories.Cut.{IsCut, is_stray}
use Rattle.cuts.specs.histories.History.{Local, state}
use Rattle.cuts.specs.histories.History.Local.{Fire, Receive, Start}
use Rattle.cuts.specs.histories.Plans.{start_of, system_of}
use Rattle.cuts.specs.histories.System.{Histories, state_at}
use Rattle.cuts.proofs.histories.FromCut.{simulation}
use Rattle.cuts.proofs.histories.Runs.{run_state}
use Rattle.cuts.proofs.histories.Simulate.{did, moves_of, stray-parts, work_numbered}
use Rattle.cuts.proofs.histories.Stepping.{annex-quiet, waiting_stray}
use Rattle.cuts.proofs.histories.Traffic.{to_came}

-- the stray is dropped there
abbrev Drops : State → Sent → Type 0
Drops v m = target v m ≡ delivers (record v { drops = one_more v.drops }) Dropped None

module _ (p : Plan) (inputs : Inputs) (sound : SoundPlan p (length inputs)) (k : ℕ → Slots) (r : ℕ) (m : Sent) (e : is_stray m ≡ true) where
  at_view : (early : List Came) (g : Seen) → Drops (view (annex_of p (k r) r early) p inputs (k r) r g) m
  at_view early g =
      let q = stray-parts m e in
      step_stray (annex_of p (k r) r early) (annex-quiet p inputs sound (k r) r k early) p inputs sound (k r) r g m q.0 q.1 q.2
      ∙ ap (λ n. delivers (record (view (annex_of p (k r) r early) p inputs (k r) r g) { drops = n }) Dropped None)
      (sym (more-min g.strays _))

  at_waiting : (early : List Came) (g : Seen) → Drops (waiting_view p inputs (k r) r k early g) m
  at_waiting early g =
      waiting_stray p inputs sound (k r) r k early g m e
      ∙ ap (λ n. delivers (record (waiting_view p inputs (k r) r k early g) { drops = n }) Dropped None) (sym (more-min g.strays _))

  run_strayed : (es : List Local) (early : List Came) (g : Seen) → Drops (run_state p inputs k r early g es) m
  run_strayed [] early g = at_waiting early g
  run_strayed (Start ∷ es) early g = at_view early (seen p (took (note p g Began) early) (moves_of p r es))
  run_strayed (Fire t ∷ es) early g = run_strayed es early (note p g (did (work_numbered p r t)))
  run_strayed (Receive s Answer x ∷ es) early g = run_strayed es early (note p g (Heard x.header.ok))
  run_strayed (Receive s Request x ∷ es) early g = at (is_stray x) (run_strayed es early (note p g Strayed))
      (run_strayed es (early ++ to_came x ∷ []) g)
    where
      at : (b : Bool) → Drops (run_state p inputs k r early (note p g Strayed) es) m →
          Drops (run_state p inputs k r (early ++ to_came x ∷ []) g es) m
          → Drops (cond b (run_state p inputs k r early (note p g Strayed) es) (run_state p inputs k r (early ++ to_came x ∷ []) g es)) m
      at true a b = a
      at false a b = b

pub stray_drops : (starts : CombineStarts) (p : Plan) (inputs : Inputs) (sound : SoundPlan p (length inputs)) (fit : AreInputsOf p inputs)
    (slots : ℕ → Slots) (w : Histories) (cut : IsCut (system_of p inputs slots) w)
    (r : ℕ) → r < p.ranks → (m : Sent) → is_stray m ≡ true → target (state_at (system_of p inputs slots) w r) m ≡ delivers
    (record (state_at (system_of p inputs slots) w r) { drops = one_more (state_at (system_of p inputs slots) w r).drops }) Dropped None
stray_drops starts p inputs sound fit slots w cut r h m e =
    subst (λ v. Drops v m)
    (sym (ap (λ v. state (start_of p (slots r) r) v (w r)) (prepared p inputs (slots r) r slots (length inputs) sound)
    ∙ (simulation starts p inputs sound fit slots w cut r h).ends))
    (run_strayed p inputs sound slots r m e (w r) [] nothing_seen)

-- Before and after its start, what a rank's interface has of its cells is that of a view.
use Rattle.cuts.specs.histories.System.{Histories, state_at}
use Rattle.cuts.specs.histories.Plans.{start_of, system_of}
use Rattle.cuts.specs.histories.Cut.{IsCut, is_stray}
use Rattle.cuts.specs.view.Slots.{Slots}
use Rattle.std.proofs.Common.{ℕ, Bool, true, false, cond, ◌≡◌, ◌<◌, List, [], ◌∷◌, ◌++◌, refl, length, ap, ◌∙◌, sym, subst}
use Rattle.ni_model.specs.State.{State}
use Rattle.op_laws.specs.Combining.{CombineStarts}
use Rattle.plan_core.specs.Plan.{Plan}
use Rattle.plan_core.specs.Sound.{AreInputsOf, SoundPlan}
use Rattle.plan_core.specs.Values.{Inputs}
use Rattle.cuts.proofs.histories.Simulate.{did, moves_of, work_numbered}
use Rattle.cuts.proofs.histories.Traffic.{to_came}
use Rattle.cuts.specs.histories.History.{Local, state}
use Rattle.cuts.specs.histories.History.Local.{Fire, Receive, Start}
use Rattle.cuts.proofs.histories.FromCut.{moves_at, simulation}
use Rattle.cuts.proofs.histories.Runs.{run_moves, run_state, seen-took-append}
use Rattle.cuts.proofs.start.Prepared.{prepared}
use Rattle.cuts.specs.start.Waiting.{annex_of, took}
use Rattle.cuts.specs.machine.Machine.{all_seen, note, seen}
use Rattle.cuts.specs.machine.Machine.Move.{Began, Heard, Strayed}
use Rattle.cuts.specs.machine.Seen.{Came, Seen, nothing_seen}
use Rattle.cuts.specs.view.View.{Annex, view}
use Rattle.ptl_types.specs.declared.headers.Lane.TheVariants.{Answer, Request}

pub record Shaped (p : Plan) (inputs : Inputs) (k : ℕ → Slots) (r : ℕ) (v : State) (g : Seen) : Type 0 where
  pub annex : Annex
  pub rank : v.rank ≡ r
  pub memory : v.memory ≡ (view annex p inputs (k r) r g).memory
  pub cts : v.cts ≡ (view annex p inputs (k r) r g).cts
  pub mds : v.mds ≡ (view annex p inputs (k r) r g).mds
  pub pending : v.pending ≡ (view annex p inputs (k r) r g).pending

run_shaped : (p : Plan) (inputs : Inputs) (k : ℕ → Slots) (r : ℕ) (es : List Local) (early : List Came) (g : Seen) →
    Shaped p inputs k r (run_state p inputs k r early g es) (seen p g (run_moves p r early es))
run_shaped p inputs k r [] early g = record {
  annex = annex_of p (k r) r early;
  rank = refl;
  memory = refl;
  cts = refl;
  mds =
      refl;
  pending = refl;
}
run_shaped p inputs k r (Start ∷ es) early g =
    subst (Shaped p inputs k r (view (annex_of p (k r) r early) p inputs (k r) r
    (seen p (took (note p g Began) early) (moves_of p r es)))) (sym (seen-took-append p early (note p g Began) (moves_of p r es)))
    (record { annex = annex_of p (k r) r early; rank = refl; memory = refl; cts = refl; mds = refl; pending = refl })
run_shaped p inputs k r (Fire t ∷ es) early g = run_shaped p inputs k r es early (note p g (did (work_numbered p r t)))
run_shaped p inputs k r (Receive s Answer m ∷ es) early g = run_shaped p inputs k r es early (note p g (Heard m.header.ok))
run_shaped p inputs k r (Receive s Request m ∷ es) early g = at (is_stray m) (run_shaped p inputs k r es early (note p g Strayed))
    (run_shaped p inputs k r es (early ++ to_came m ∷ []) g)
  where
    at : (b : Bool) → Shaped p inputs k r (run_state p inputs k r early (note p g Strayed) es)
        (seen p (note p g Strayed) (run_moves p r early es)) → Shaped p inputs k r (run_state p inputs k r (early ++ to_came m ∷ []) g es)
        (seen p g (run_moves p r (early ++ to_came m ∷ []) es))
        → Shaped p inputs k r (cond b (run_state p inputs k r early (note p g Strayed) es)
        (run_state p inputs k r (early ++ to_came m ∷ []) g es))
        (seen p g (cond b (Strayed ∷ run_moves p r early es) (run_moves p r (early ++ to_came m ∷ []) es)))
    at true x y = x
    at false x y = y

pub shape : (starts : CombineStarts) (p : Plan) (inputs : Inputs) (sound : SoundPlan p (length inputs)) (fit : AreInputsOf p inputs)
    (slots : ℕ → Slots) (w : Histories) (cut : IsCut (system_of p inputs slots) w) (r : ℕ) → r < p.ranks
    → Shaped p inputs slots r (state_at (system_of p inputs slots) w r) (all_seen p (moves_at p w) r)
shape starts p inputs sound fit slots w cut r h =
    subst (λ v. Shaped p inputs slots r v (all_seen p (moves_at p w) r))
    (sym (ap (λ v. state (start_of p (slots r) r) v (w r)) (prepared p inputs (slots r) r slots (length inputs) sound)
    ∙ (simulation starts p inputs sound fit slots w cut r h).ends))
    (run_shaped p inputs slots r (w r) [] nothing_seen)

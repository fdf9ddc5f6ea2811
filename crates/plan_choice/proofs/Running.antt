-- Runs of a choice world: each step leads to a later world and leaves fewer to be made.
use Rattle.std.proofs.Common.{ℕ, suc, ◌+◌, ◌-◌, ◌<◌, ◌≤◌, ◌≡◌, ◌∙◌, [], ◌∷◌, Some, refl, sym, ap, ap₂, subst, arith, length, sum_by}
use Rattle.std.proofs.Common.{append-nil, length-append}
use Rattle.std.specs.List.{slice_get}
use Rattle.ptl_types.specs.Handles.{top}
use Rattle.plan_core.specs.Members.{In}
use Rattle.plan_core.specs.Plan.{from_to}
use Rattle.cuts.specs.histories.Moment.{IsLocalStep}
use Rattle.cuts.specs.histories.System.{System}
use Rattle.cuts.proofs.orders.Choosing.{listed_made}
use Rattle.cuts.specs.orders.Chosen.{Scene, step_made}
use Rattle.cuts.specs.declared.orders.Step.{Step}
use Rattle.cuts.specs.windows.Possible.{possible_steps}
use Rattle.worlds.proofs.parts.Sets.{sum_moves}
use Rattle.worlds.specs.Runs.{IsRun, Running, chosen_run, chosen_step}
use Rattle.worlds.specs.Runs.IsRun.{Stepped}
use Rattle.worlds.proofs.Stepping.{next_chosen, prefix_on}
use Rattle.plan_choice.specs.texts.machine.Counted.{steps_due}
use Rattle.plan_choice.proofs.texts.laws.Ends.{history_le}
use Rattle.plan_choice.specs.World.{ChoiceState, IsLater, IsStanding, histories_in, ranks_in, scene_in, steps_in}
use Rattle.plan_choice.proofs.Moving.{moment_in, slots_at}
use Rattle.plan_choice.proofs.Standing.{possible_in}

pub same_world : (w : ChoiceState) → IsLater w w
same_world w = record { ranks = refl; kinds = refl; system = refl; begins = λ r. ([], append-nil (histories_in w r)) }

pub later_on : (u w v : ChoiceState) → IsLater u w → IsLater w v → IsLater u v
later_on u w v a b = record {
  ranks = b.ranks ∙ a.ranks;
  kinds = b.kinds ∙ a.kinds;
  system = b.system ∙ a.system;
  begins = λ r. prefix_on (histories_in u r) (histories_in w r) (histories_in v r) (a.begins r) (b.begins r);
}

-- the step was made
abbrev pub IsMadeBy : Step → ChoiceState → ChoiceState → Type 0
IsMadeBy x w v = scene_in v ≡ step_made (ranks_in w) x (scene_in w)

-- ---- a step leaves fewer

-- how many steps are still due
abbrev pub left_in : ChoiceState → ℕ
left_in w = sum_by (λ r. steps_due w.ranks w.kinds r - length (histories_in w r)) (from_to 0 w.ranks)

pub fallen : (w v : ChoiceState) (x : Step) → IsStanding w → IsStanding v → IsLater w v → In x (steps_in w) → IsMadeBy x w v
    → left_in v < left_in w
fallen w v x is stood on listed made =
    let same : left_in v ≡ sum_by (λ r. steps_due w.ranks w.kinds r - length (histories_in v r)) (from_to 0 w.ranks) =
    ap₂ (λ n ks. sum_by (λ r. steps_due n ks r - length (histories_in v r)) (from_to 0 n)) on.ranks on.kinds in
    let less = sum_moves (λ r. steps_due w.ranks w.kinds r - length (histories_in w r))
    (λ r. steps_due w.ranks w.kinds r - length (histories_in v r)) step.r 1 0 0 w.ranks (omega arith) (omega (arith, known))
    (λ q apart low high. let e = ap length (there q apart) in omega (arith, e))
    (omega (arith, longer, due)) in
    omega (arith, same, less)
  where
    step : IsLocalStep (ranks_in w) (histories_in w) (scene_in w).held (histories_in v) (scene_in v).held
    step = subst (λ (z : Scene). IsLocalStep (ranks_in w) (histories_in w) (scene_in w).held z.world z.held) (sym made)
        (listed_made (ranks_in w) (scene_in w) x listed)

    known : step.r < w.ranks
    known = step.in_range

    there : (q : ℕ) → (q ≡ step.r → ⊥) → histories_in v q ≡ histories_in w q
    there q apart = step.others q apart

    longer : length (histories_in v step.r) ≡ length (histories_in w step.r) + 1
    longer = ap length step.rank ∙ length-append (histories_in w step.r) (step.e ∷ [])

    due : length (histories_in v step.r) ≤ steps_due w.ranks w.kinds step.r
    due =
        let a = history_le v.ranks v.kinds (slots_at v) stood.in_range (histories_in v) (scene_in v).held (moment_in v stood) step.r
        (subst (λ n. step.r < n) (sym on.ranks) known) in
        let b = ap₂ (λ n ks. steps_due n ks step.r) on.ranks on.kinds in
        omega (arith, a, b)

-- ---- enabled steps lead on
abbrev pub LeadsTo : ChoiceState → ChoiceState → Type 0
LeadsTo u w = IsRun (ranks_in u) top (scene_in u) (scene_in w)

pub leads_on : (u w v : ChoiceState) (x : Step) → LeadsTo u w → IsLater u w → IsStanding w → In x (steps_in w) → IsMadeBy x w v
    → LeadsTo u v
leads_on u w v x so begun is listed made =
    subst (λ (z : Scene). IsRun (ranks_in u) top (scene_in u) z)
    (sym (made ∙ ap (λ q. step_made q x (scene_in w)) begun.system))
    (Stepped x so (subst (λ (q : System). In x (possible_steps q top (scene_in w))) begun.system
    (subst (λ xs. In x xs) (sym (possible_in w is)) listed)))

-- ---- a chosen step is the next of its run
module _ {C : Type 0} (answer : C → ℕ → ℕ) (after : C → ℕ → C) where
  abbrev at_world : ChoiceState → C → Running C
  at_world w c = record { scene = scene_in w; chooser = c }

  -- of some number of steps
  abbrev pub IsRunOf : ChoiceState → C → ChoiceState → C → Type 0
  IsRunOf u b w c = (n : ℕ) × (chosen_run (ranks_in u) top answer after n (at_world u b) ≡ at_world w c)

  pub no_run : (u : ChoiceState) (b : C) → IsRunOf u b u b
  no_run u b = (0, refl)

  pub run_more : (u w v : ChoiceState) (b c d : C) (n i : ℕ) (x : Step) → IsRunOf u b w c → IsLater u w → IsStanding w
      → n ≡ length (steps_in w) → i ≡ answer c n → d ≡ after c n → slice_get (steps_in w) i ≡ Some x → IsMadeBy x w v → IsRunOf u b v d
  run_more u w v b c d n i x so begun is number a e stands made = (
    suc so.0,
    ap (λ q. chosen_step (ranks_in u) answer after (possible_steps (ranks_in u) top q.scene) q) so.1
        ∙ ap (λ xs. chosen_step (ranks_in u) answer after xs (at_world w c))
        (ap (λ (q : System). possible_steps q top (scene_in w)) (sym begun.system) ∙ possible_in w is)
        ∙ next_chosen answer after (ranks_in u) (steps_in w) c d i x (scene_in w) (scene_in v)
        (a ∙ ap (answer c) number) stands (e ∙ ap (after c) number)
        (made ∙ ap (λ q. step_made q x (scene_in w)) begun.system),
  )

-- Runs by words: from the first scene, under a window that no lane fills, they are the chosen runs of the words.
use Rattle.std.proofs.Common.{ℕ, zero, suc, ◌^◌, ◌<◌, ◌≤◌, ◌≡◌, ◌%◌, ◌∙◌, List, [], ◌∷◌, refl, sym, ap, ap₂, subst, arith, length}
use Rattle.std.proofs.Common.{length-append, get_or}
use Rattle.op_laws.proofs.OpLaws.{op_laws}
use Rattle.op_laws.proofs.Starts.{combined-starts}
use Rattle.op_laws.proofs.Swaps.{combined-swaps}
use Rattle.ptl_types.specs.declared.headers.Lane.{Lane}
use Rattle.plan_core.specs.calls.Lanes.{lane_messages}
use Rattle.plan_core.specs.Plan.{Plan}
use Rattle.plan_core.specs.Sound.{AreInputsOf, SoundPlan}
use Rattle.plan_core.specs.Values.{Inputs}
use Rattle.cuts.specs.view.Slots.{Slots}
use Rattle.cuts.specs.histories.History.{got}
use Rattle.cuts.specs.histories.Plans.{system_of}
use Rattle.cuts.specs.histories.System.{Histories, System, sent_by}
use Rattle.cuts.proofs.orders.Choosing.{chosen_reached}
use Rattle.cuts.proofs.orders.Steps.{AreMoves, reached_moment, reached_moves}
use Rattle.cuts.specs.orders.Chosen.{IsChosen, Scene, choose, chosen, enabled_steps, first_scene, step_made}
use Rattle.cuts.specs.orders.Reached.{IsReached}
use Rattle.cuts.specs.orders.Taking.{histories}
use Rattle.cuts.specs.declared.orders.Step.{Step}
use Rattle.cuts.proofs.rest.LaneCuts.{lane_few}
use Rattle.cuts.specs.windows.Possible.{possible_steps}
use Rattle.worlds.specs.Runs.{Running, chosen_run, chosen_step}
use Rattle.worlds.proofs.Steps.{all_possible, lane_small}

-- ---- where each enabled step of a reached moment is possible
module _ (k : System) (window : ℕ)
    (possible : (z : Scene) → IsReached k z.world z.held → possible_steps k window z ≡ enabled_steps k z) where
  module _ {C : Type 0} (answer : C → ℕ → ℕ) (after : C → ℕ → C) (chooser : ℕ → C) (words : ℕ → ℕ)
      (answers : (i n : ℕ) → answer (chooser i) n ≡ words i % n) (goes : (i n : ℕ) → after (chooser i) n ≡ chooser (suc i)) where
    abbrev at_words : ℕ → Running C
    at_words n = record { scene = chosen k words n; chooser = chooser n }

    abbrev begun : Running C
    begun = record { scene = first_scene; chooser = chooser 0 }

    -- so many words were used; fewer only where no step was left
    abbrev Followed : ℕ → Type 0
    Followed n = (m : ℕ) × (chosen_run k window answer after n begun ≡ at_words m)

    one_more : (n : ℕ) (xs : List Step) → enabled_steps k (chosen k words n) ≡ xs
        → (m : ℕ) × (chosen_step k answer after xs (at_words n) ≡ at_words m)
    one_more n [] e = (n, refl)
    one_more n (x ∷ xs) e = (
      suc n,
      ap₂ (λ y c. let q : Running C = record { scene = y; chooser = c } in q)
          (ap (λ j. step_made k (get_or (x ∷ xs) j x) (chosen k words n)) (answers n (length (x ∷ xs)))
          ∙ sym (ap (λ ys. choose k ys (words n) (chosen k words n)) e))
          (goes n (length (x ∷ xs))),
    )

    pub followed : (n : ℕ) → Followed n
    followed zero = (0, refl)
    followed (suc n) =
        let so = followed n in
        let more = one_more so.0 (enabled_steps k (chosen k words so.0)) refl in (
          more.0,
          ap (λ (q : Running C). chosen_step k answer after (possible_steps k window q.scene) q) so.1
              ∙ ap (λ xs. chosen_step k answer after xs (at_words so.0))
              (possible (chosen k words so.0) (chosen_reached k words so.0))
              ∙ more.1,
        )

    -- where it ends, it ends as the chosen run
    pub ends_by_words : (n : ℕ) (z : Scene) (c : C) → chosen_run k window answer after n begun ≡
        (let q : Running C = record { scene = z; chooser = c } in q)
        → possible_steps k window z ≡ [] → IsChosen k words z.world
    ends_by_words n z c is none =
        let so = followed n in
        let same : chosen k words so.0 ≡ z = ap (λ (q : Running C). q.scene) (sym so.1 ∙ is) in
        record {
          steps = so.0;
          ended = sym (possible (chosen k words so.0) (chosen_reached k words so.0))
              ∙ ap (λ (s : Scene). possible_steps k window s) same ∙ none;
          world = λ r h. ap (λ (s : Scene). s.world r) (sym same);
        }

-- ---- the ranks of a plan
module _ (p : Plan) (inputs : Inputs) (sound : SoundPlan p (length inputs)) (fit : AreInputsOf p inputs) (slots : ℕ → Slots) (window : ℕ)
    (wide : 2 ^ 32 ≤ window) where
  abbrev k : System
  k = system_of p inputs slots

  -- without strays a lane holds what was sent, and so few
  held_small : (z : Scene) → IsReached k z.world z.held → (s d : ℕ) (lane : Lane) → s < p.ranks → d < p.ranks
      → length (z.held s d lane) < window
  held_small z reached s d lane hs hd =
      let so : AreMoves k z.world z.held = reached_moves k z.world z.held reached in
      let cut = (reached_moment combined-starts p inputs slots sound fit (combined-swaps op_laws) z.world z.held reached).cut in
      let sent : length (sent_by k (histories so.moves) s d lane) ≤ lane_messages p s d lane =
      subst (λ (w : Histories). length (sent_by k w s d lane) ≤ lane_messages p s d lane) so.same
      (lane_few combined-starts p inputs sound fit slots z.world cut s d lane hs hd) in
      let both = ap length (so.balanced s d lane) in
      let parts = length-append (got (histories so.moves d) s lane) (z.held s d lane) in
      let small = lane_small p (length inputs) sound s d lane in
      omega (arith, sent, both, parts, small, wide)

  -- so each enabled step is possible
  pub reached_possible : (z : Scene) → IsReached k z.world z.held → possible_steps k window z ≡ enabled_steps k z
  reached_possible z reached = all_possible p inputs sound slots window z (held_small z reached)

  module _ {C : Type 0} (answer : C → ℕ → ℕ) (after : C → ℕ → C) (chooser : ℕ → C) (words : ℕ → ℕ)
      (answers : (i n : ℕ) → answer (chooser i) n ≡ words i % n) (goes : (i n : ℕ) → after (chooser i) n ≡ chooser (suc i)) where
    pub ends_chosen : (n : ℕ) (z : Scene) (c : C) → chosen_run k window answer after n
        (let b : Running C = record { scene = first_scene; chooser = chooser 0 } in b) ≡
        (let q : Running C = record { scene = z; chooser = c } in q)
        → possible_steps k window z ≡ [] → IsChosen k words z.world
    ends_chosen = ends_by_words k window reached_possible answer after chooser words answers goes

-- The nodes after a step are the ranks of the moment after it.
use Rattle.std.proofs.Common.{ℕ, ◌≡◌, ◌∙◌, List, [], ◌∷◌, ◌++◌, refl, ap, sym, subst}
use Rattle.ptl_types.specs.Messages.{Sent}
use Rattle.ptl_types.specs.declared.headers.Lane.{Lane}
use Rattle.plan_core.specs.Plan.{Plan}
use Rattle.plan_core.specs.Values.{Inputs}
use Rattle.cuts.specs.view.Slots.{Slots}
use Rattle.cuts.specs.histories.History.Local.{Start as Started, Receive as Received, Fire as Fired}
use Rattle.cuts.specs.histories.Plans.{system_of}
use Rattle.cuts.specs.histories.System.{System}
use Rattle.rank_node.specs.of_plan.Ranks.{IsRank, mover}
use Rattle.cuts.specs.orders.Chosen.{Scene, delivered, step_made}
use Rattle.cuts.specs.declared.orders.Step.{Step}
use Rattle.cuts.specs.declared.orders.Step.TheVariants.{Start, Deliver, Fire}
use Rattle.cuts.proofs.orders.Ending.{here}
use Rattle.cuts.proofs.orders.Choosing.{elsewhere}
use Rattle.rank_node.specs.Copies.{Diary}
use Rattle.rank_node.specs.Handles.{Agrees}
use Rattle.rank_node.specs.Node.{IsNode, IsStarted, NodeState, fired_node, received_node}
use Rattle.rank_node.specs.Plans.{IsCompiledFor}

module _ (p : Plan) (inputs : Inputs) (slots : ℕ → Slots) (z : Scene) (r : ℕ) where
  pub fired-rank : (t : ℕ) (n : NodeState) → IsRank p inputs slots z r n → IsNode (fired_node t n) →
      IsRank p inputs slots (step_made (system_of p inputs slots) (Fire r t) z) r (fired_node t n)
  fired-rank t n is keeps = record {
    compiled = is.compiled;
    node = keeps;
    agrees = is.agrees;
    history = here r (Fired t) z.world
        ∙ ap (λ h. h ++ Fired t ∷ []) is.history;
  }

  pub received-rank : (s : ℕ) (lane : Lane) (m : Sent) (later : List Sent) (n : NodeState) → z.held s r lane ≡ m ∷ later →
      IsRank p inputs slots z r n → IsNode (received_node s lane m n)
      → IsRank p inputs slots (step_made (system_of p inputs slots) (Deliver s r lane) z) r (received_node s lane m n)
  received-rank s lane m later n front is keeps = record {
    compiled = is.compiled;
    node = keeps;
    agrees = is.agrees;
    history = ap (λ ms. (delivered (system_of p inputs slots) s r lane ms z).world r) front ∙ here r (Received s lane m) z.world
        ∙ ap (λ h. h ++ Received s lane m ∷ []) is.history;
  }

  pub started-rank : (n v : NodeState) → IsRank p inputs slots z r n → IsStarted n v → IsNode v → Agrees (slots r) v.kept →
      IsRank p inputs slots (step_made (system_of p inputs slots) (Start r) z) r v
  started-rank n v is st keeps agrees = record {
    compiled = subst (IsCompiledFor p inputs r) (sym st.task) is.compiled;
    node = keeps;
    agrees = agrees;
    history = here r Started z.world ∙ ap (λ h. h ++ Started ∷ []) is.history ∙ sym (ap (λ (d : Diary). d.locals) st.diary);
  }

module _ (k : System) (z : Scene) (q : ℕ) where
  received-other : (s d : ℕ) (lane : Lane) (ms : List Sent) → (q ≡ d → ⊥) → (delivered k s d lane ms z).world q ≡ z.world q
  received-other s d lane [] n = refl
  received-other s d lane (m ∷ later) n = elsewhere d (Received s lane m) z.world q n

  other-world : (x : Step) → (q ≡ mover x → ⊥) → (step_made k x z).world q ≡ z.world q
  other-world (Start r) n = elsewhere r Started z.world q n
  other-world (Fire r t) n = elsewhere r (Fired t) z.world q n
  other-world (Deliver s d lane) n = received-other s d lane (z.held s d lane) n

pub other-rank : (p : Plan) (inputs : Inputs) (slots : ℕ → Slots) (z : Scene) (q : ℕ) (x : Step) (n : NodeState) → (q ≡ mover x → ⊥) →
    IsRank p inputs slots z q n → IsRank p inputs slots (step_made (system_of p inputs slots) x z) q n
other-rank p inputs slots z q x n apart is = record {
  compiled = is.compiled;
  node = is.node;
  agrees = is.agrees;
  history =
      other-world (system_of p inputs slots) z q x apart ∙ is.history;
}

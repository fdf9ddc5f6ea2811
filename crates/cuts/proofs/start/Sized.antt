-- A link's message leaves each cell its length.
use Rattle.std.proofs.Common.{ℕ, Bool, true, false, cond, ◌≡◌, ◌==◌, List, refl, length, ap, ◌∙◌, sym, eqb-true}
use Rattle.plan_core.specs.Plan.{Plan, cell, link}
use Rattle.plan_core.specs.Sound.{SoundPlan}
use Rattle.plan_core.specs.Values.{Inputs, initial, land_as}
use Rattle.cuts.specs.machine.Seen.{Seen, content}
use Rattle.cuts.specs.machine.Machine.{came, note}
use Rattle.cuts.specs.machine.Machine.Move.{Took}
use Rattle.plan_core.proofs.Links.{length-land}
use Rattle.plan_core.proofs.Values.{Lands-of}
use Rattle.cuts.specs.view.Steps.{IsLinkHere, Sized}
use Rattle.cuts.proofs.view.StepArrive.{content-push}

pub sized_took : (p : Plan) (inputs : Inputs) → SoundPlan p (length inputs) → (r l : ℕ) (g : Seen) → IsLinkHere p r l → Sized p inputs g →
    (bs : List ℕ) → length bs ≡ (link p l).length → Sized p inputs (note p g (Took l bs))
sized_took p inputs sound r l g h sized bs e d i = ap length (content-push p g.came (came l bs) d (initial p inputs d))
    ∙ at ((link p l).target == d) refl
  where
    x : List ℕ
    x = content p g.came d (initial p inputs d)

    at : (b : Bool) → ((link p l).target == d) ≡ b → length (cond b
        (land_as (link p l).kind (cell p (link p l).target) (link p l).target_offset bs (content p g.came d (initial p inputs d)))
        (content p g.came d (initial p inputs d))) ≡ (cell p d).length
    at false q = sized d i
    at true q =
        let w = sound.links_sound l h.known in
        let t : (link p l).target ≡ d = eqb-true _ _ q in
        let z = sized d i in
        length-land (cell p (link p l).target) (link p l).kind (link p l).target_offset bs (content p g.came d (initial p inputs d))
        (sound.whole (link p l).target w.cells) (Lands-of p l w bs e) (z ∙ ap (λ v. (cell p v).length) (sym t))
        ∙ ap (λ v. (cell p v).length) t

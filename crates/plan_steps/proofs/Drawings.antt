-- Drawings that are equal, and what a step leaves of equal beginnings.
use Rattle.std.proofs.Common.{ℕ, ◌≡◌, List, Option, ap, ◌∙◌, length}
use Rattle.plan_core.specs.Draw.{NewCell, add_all}
use Rattle.coll_shape.specs.declared.types.CollStep.{CollStep}
use Rattle.coll_shape.specs.Collectives.{result_of}
use Rattle.plan_steps.specs.declared.drawing.Drawing.{Drawing}
use Rattle.plan_steps.specs.declared.ends.StepExit.{StepExit}
use Rattle.plan_steps.specs.Beginning.{held_after}
use Rattle.plan_steps.specs.Drawing.{drawn_as}
use Rattle.plan_steps.specs.Steps.{exits_by}

-- a drawing is its plan, its held cells and its exits
pub same-drawing : (d e : Drawing) → d.plan ≡ e.plan → d.held ≡ e.held → d.exits ≡ e.exits → d ≡ e
same-drawing d e a b c =
    ap (λ p. record { plan = p; held = d.held; exits = d.exits }) a
    ∙ ap (λ h. record { plan = e.plan; held = h; exits = d.exits }) b
    ∙ ap (λ x. record { plan = e.plan; held = e.held; exits = x }) c

-- a drawing whose plan got these cells, and whose tables these ends, is as the step leaves it
pub left-as : (d e : Drawing) (step : CollStep) (g : List ℕ) (cells : List NewCell) (these ends : List StepExit) (made : Option ℕ)
    → these ≡ ends → made ≡ result_of step
    → e.plan ≡ add_all d.plan cells → e.held ≡ held_after made d.held g these → e.exits ≡ exits_by d.exits g these (length g)
    → e ≡ drawn_as d step g cells ends
left-as d e step g cells these ends made same is plan held exits =
    same-drawing e (drawn_as d step g cells ends) plan
    (held ∙ ap (λ m. held_after m d.held g these) is ∙ ap (λ v. held_after (result_of step) d.held g v) same)
    (exits ∙ ap (λ v. exits_by d.exits g v (length g)) same)

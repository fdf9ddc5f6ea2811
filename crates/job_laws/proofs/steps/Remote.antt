-- A plan asks for acknowledgements where its shape does.
use Rattle.std.proofs.Common.{ℕ, zero, suc, ◌≡◌, ◌∙◌, List, [], ◌∷◌, refl, length, map, ap}
use Rattle.coll_shape.specs.Outline.{Outline, buffer_at, step_at}
use Rattle.plan_core.specs.Draw.{NewCell, go_plan}
use Rattle.plan_core.specs.Plan.{Plan, from_to}
use Rattle.plan_steps.proofs.Bridge.{add_all-with}
use Rattle.plan_steps.specs.Sounding.{with_cell, with_cells}
use Rattle.schedule_compiler.specs.shapes.Drawing.{drawing_of, drawn_inputs, drawn_upto, input_cell, plan_of}
use Rattle.plan_steps.specs.Collectives.{cells_of}
use Rattle.job_laws.specs.steps.Order.{site_at}

same_with : (p : Plan) (ns : List NewCell) → (with_cells p ns).remote ≡ p.remote
same_with p [] = refl
same_with p (n ∷ ns) = same_with (with_cell p n) ns

of_inputs : (o : Outline) (b : ℕ) → (drawn_inputs o b).plan.remote ≡ o.remote
unfolding drawn_inputs go_plan
of_inputs o zero = refl
of_inputs o (suc b) =
    let d = drawn_inputs o b in
    ap (λ (p : Plan). p.remote) (add_all-with d.plan (map (input_cell (buffer_at o b)) (from_to 0 o.ranks)))
    ∙ same_with d.plan (map (input_cell (buffer_at o b)) (from_to 0 o.ranks)) ∙ of_inputs o b

of_steps : (o : Outline) (k : ℕ) → (drawn_upto o k).plan.remote ≡ o.remote
unfolding drawn_upto
of_steps o zero = of_inputs o o.inputs
of_steps o (suc k) =
    let d = drawn_upto o k in
    ap (λ (p : Plan). p.remote) (add_all-with d.plan (cells_of (site_at o k) (step_at o k)))
    ∙ same_with d.plan (cells_of (site_at o k) (step_at o k)) ∙ of_steps o k

pub remote_is : (o : Outline) → (plan_of o).remote ≡ o.remote
unfolding drawing_of
remote_is o = of_steps o (length o.steps)

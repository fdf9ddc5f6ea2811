-- The step is the one whose cells were drawn.
use Rattle.std.proofs.Common.{◌≡◌, IfOk, ap, subst, sym}
use Rattle.plan_steps.specs.declared.drawing.Drawing.{Drawing}
use Rattle.plan_steps.specs.Collectives.{cells_of, ends_of}
use Rattle.plan_steps.specs.Drawing.{drawn_as, site}
use Rattle.plan_steps.proofs.add_step.Goals as goal

pub returns-in-Exscan : goal.returns-in-Exscan
returns-in-Exscan c =
    let d = c.args.drawing.now in
    let t = c.args.step.now in
    let g = c.args.members.now in
    let s = site c.args.shape.now d t g in
    let P : Drawing → Type 0 = λ x. IfOk c.add_as-in-Exscan.result (λ u. c.add_as-in-Exscan.new.drawing ≡ x) in
    subst P (ap (λ v. drawn_as d t g (cells_of s v) (ends_of s v)) (sym c.in-Exscan.is)) c.add_as-in-Exscan.ensures

-- What follows from what a schedule keeps; and a shape's schedule is one.
use Rattle.std.proofs.Common.{ℕ, zero, suc, ◌*◌, ◌^◌, ◌<◌, ◌≤◌, ◌≡◌, None, refl, sym, subst, ap, ap₂, ◌∙◌, arith}
use Rattle.plan_core.specs.Draw.{HeldCells}
use Rattle.plan_core.specs.Plan.{Plan}
use Rattle.plan_core.specs.Sound.{SoundPlan}
use Rattle.plan_core.specs.Values.{Inputs}
use Rattle.plan_tables.specs.Tables.{IsTabled}
use Rattle.plan_tables.proofs.Room.{sound-tabled}
use Rattle.coll_shape.specs.Meaning.{AreInputs}
use Rattle.coll_shape.specs.Outline.{Outline}
use Rattle.coll_shape.specs.WellFormed.{IsWellFormed}
use Rattle.schedule_compiler.specs.shapes.Drawing.{drawing_of, plan_of}
use Rattle.schedule_compiler.specs.shapes.Footprint.{refusal}
use Rattle.schedule_compiler.proofs.shapes.Final.{few_links, fine-shape, inputs_fit, result-cell, sound}
use Rattle.schedule_compiler.specs.Jobs.{AreInputsFor}
use Rattle.schedule_compiler.specs.Keeping.{AreHeld, CanRun}
use Rattle.schedule_compiler.specs.Schedules.{ScheduleOf, schedule_of, scheduled}

pub can-tabled : (s : ScheduleOf) → CanRun s → IsTabled s.plan
can-tabled s can = sound-tabled s.plan s.inputs can.sound

-- the input cells are cells of the plan, so there are few
pub at_most-inputs : (p : Plan) (n : ℕ) → SoundPlan p n → n * p.ranks ≤ 2 ^ 24
at_most-inputs p n sound = at (n * p.ranks) refl
  where
    at : (k : ℕ) → n * p.ranks ≡ k → k ≤ 2 ^ 24
    at zero e = omega arith
    at (suc k) e =
        let here = (sound.input_cells k (omega (arith, e))).0 in
        let at_most = sound.few_cells in
        omega (arith, here, at_most)

-- schedules of the same parts
pub same-parts : (p q : Plan) (h k : HeldCells) (m n : ℕ) → p ≡ q → h ≡ k → m ≡ n → scheduled p h m ≡ scheduled q k n
same-parts p q h k m n e f g = ap₂ (λ v w. scheduled v w m) e f ∙ ap (scheduled q k) g

-- ---- of shapes
pub shape-held : (o : Outline) → IsWellFormed o → AreHeld (plan_of o) (drawing_of o).held
shape-held o formed =
    let fine = fine-shape o formed in record {
      ranks = fine.held_ranks ∙ sym fine.ranks;
      cells = λ b r c hb hr e.
          let is = result-cell o formed b r c (subst (λ n. b < n) fine.held_buffers hb) (subst (λ n. r < n) fine.ranks hr) e in
          (is.in_plan, is.rank);
    }

pub shape-can : (o : Outline) → IsWellFormed o → refusal o ≡ None → CanRun (schedule_of o)
shape-can o formed accepted = record {
  sound = sound o formed accepted;
  at_most = (let cells = (sound o formed accepted).few_cells in let links = few_links o formed accepted in omega (arith, cells, links));
  held = shape-held o formed;
}

pub shape-inputs : (o : Outline) (inputs : Inputs) → IsWellFormed o → AreInputs o inputs → AreInputsFor (schedule_of o) inputs
shape-inputs o inputs formed given = record {
  many = given.many;
  lists = λ b h. given.ranks b (subst (λ n. b < n) given.many h) ∙ sym (fine-shape o formed).ranks;
  fit = inputs_fit o inputs formed given;
}

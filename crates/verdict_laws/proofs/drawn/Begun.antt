-- The cells at which barriers are entered are reached after their rank's start alone.
use Rattle.std.proofs.Common.{ℕ, ◌≡◌, ◌<◌, sym, ap, subst, ◌∙◌, inl, inr}
use Rattle.std.proofs.Common.{None}
use Rattle.std.proofs.lemmas.Bool.{cases_Bool}
use Rattle.coll_shape.specs.Outline.{Outline}
use Rattle.coll_shape.specs.WellFormed.{IsWellFormed}
use Rattle.cuts.specs.machine.Machine.{Leads}
use Rattle.cuts.specs.machine.Machine.Leads.{along, here}
use Rattle.given_lines.specs.declared.given.Mark.TheVariants as marks
use Rattle.job_laws.specs.steps.Order.{IsAt}
use Rattle.job_laws.specs.steps.Order as steps
use Rattle.mark_judge.specs.Bound.{IsBound}
use Rattle.mark_judge.specs.Bound.IsBound.{bump, go, message}
use Rattle.mark_judge.specs.Marked.{IsOn}
use Rattle.plan_core.specs.Plan.{Plan, cell, is_bump, link}
use Rattle.plan_core.specs.Sound.{SoundPlan}
use Rattle.plan_core.proofs.Links.{in_links-In}
use Rattle.schedule_compiler.specs.shapes.Drawing.{plan_of}
use Rattle.schedule_compiler.specs.shapes.Footprint.{refusal}
use Rattle.schedule_compiler.proofs.shapes.Final.{sound}
use Rattle.verdict_laws.proofs.Starting.{bump-is}
use Rattle.verdict_laws.proofs.drawn.Named.{IsOf}

-- a cell to which links lead from its rank's go cell
leads_bound : (p : Plan) (inputs : ℕ) → SoundPlan p inputs → (r c : ℕ) → r < p.ranks → (cell p c).rank ≡ r → Leads p r c → IsBound p c
leads_bound p inputs good r c h on here = go r h
leads_bound p inputs good r c h on (along d l i path) =
    let k = in_links-In p d l i in
    let s = good.links_sound l k.0 in
    let e = k.1 in
    let source = (link p l).source in
    elim (cases_Bool (is_bump (link p l).kind)) [
      | inl counts ↦ (let at : (cell p source).rank ≡ r =
          s.bump_stays (bump-is (link p l).kind counts) ∙ ap (λ v. (cell p v).rank) e ∙ on in
          bump d l i counts (leads_bound p inputs good r source h at path))
      | inr sends ↦ message d l i sends
    ]

-- a chain of links leads from each member's go cell to its entry of each step
abbrev pub Begins : Outline → Type 0
Begins o = (k i r : ℕ) → IsAt o k i r → Leads (plan_of o) r (steps.entry_cell o k i)

pub of_begun : (o : Outline) → IsWellFormed o → refusal o ≡ None → Begins o → (s r c : ℕ) → IsOf o (marks.Enter s r c)
    → IsOn (plan_of o) r c → IsBound (plan_of o) c
of_begun o a none begins s r c of on =
    let good = sound o a none in
    let at = of.1 in
    leads_bound (plan_of o) o.inputs good r c (subst (λ v. v < (plan_of o).ranks) on.1 (good.ranks_known c on.0)) on.1
    (subst (Leads (plan_of o) r) (sym of.3)
    (begins s of.0 r (record { step = at.step; place = at.place; member = sym of.2 })))

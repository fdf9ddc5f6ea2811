-- What is owed of a shape's plan.
use Rattle.std.proofs.Common.{◌≡◌, ℕ, Option, Some, None, Err, refl, sym, subst, ap, ◌∙◌}
use Rattle.port_io.specs.Ends.{Outflow}
use Rattle.coll_shape.specs.Outline.{Outline}
use Rattle.schedule_compiler.specs.declared.shapes.faults.CompileFault.{CompileFault}
use Rattle.schedule_compiler.specs.declared.shapes.faults.CompileFault.TheVariants as faults
use Rattle.schedule_compiler.specs.declared.shapes.judging.TheConstants.{MOST_BYTES, MOST_LINKS}
use Rattle.schedule_compiler.specs.shapes.Compiling.{Answers}
use Rattle.schedule_compiler.specs.shapes.Footprint.{Excess, Refused as Excessive, refusal}
use Rattle.schedule_compiler.specs.shapes.Footprint.Excess.{Links, Bytes}
use Rattle.text_notes.specs.declared.notes.cause.Cause.{Cause}
use Rattle.text_notes.specs.declared.notes.cause.Cause.TheVariants as causes
use Rattle.text_notes.specs.declared.notes.cause.Excess.TheVariants as excesses
use Rattle.text_notes.specs.declared.notes.cause.Limit.TheVariants as limits
use Rattle.text_notes.specs.notes.Causes.{name_of}
use Rattle.run_text.specs.declared.status.Status.{Status}
use Rattle.run_text.specs.declared.status.Status.TheVariants.{NoMemory}
use Rattle.run_text.specs.Ending.{Written, done, refused}
use Rattle.run_text.specs.Refused.{step_line}
use Rattle.marked_plans.specs.Marks.{Marked, marked_of}
use Rattle.plan_top.specs.Texts.{marked_text}
use Rattle.plan_top.specs.Excess.{excess_of}
use Rattle.plan_top.specs.Owed.{due_plan, excess_name}
use Rattle.plan_top.proofs.Answering.{plan_owes}

pub excess_owed : (o : Outline) (k : ℕ) (name : Excess) (r : Option Excessive) → r ≡ Some (record { step = k; name = name })
    → (sink sink' : Outflow) (status : Status) → Written (refused (step_line o k) (excess_name name)) sink sink' status
    → Written (due_plan o r) sink sink' status
excess_owed o k name r is sink sink' status written = subst (λ x. Written (due_plan o x) sink sink' status) (sym is) written

pub memory_owed : (o : Outline) (r : Option Excessive) (sink : Outflow) → Written (due_plan o r) sink sink NoMemory
memory_owed o r sink = record { allowed = plan_owes o r; no_read = λ is. absurd (cc); text = refl }

pub plan_owed : (o : Outline) (r : Option Excessive) (m : Marked) → r ≡ None → m ≡ marked_of o
    → (sink sink' : Outflow) (status : Status) → Written (done (marked_text o.buffers m)) sink sink' status
    → Written (due_plan o r) sink sink' status
plan_owed o r m is same sink sink' status written =
    subst (λ x. Written (due_plan o x) sink sink' status) (sym is)
    (subst (λ n. Written (done (marked_text o.buffers n)) sink sink' status) same written)

-- what makes the plan too large, and its name
pub excess_found : (o : Outline) (fault : CompileFault) (k : ℕ) (cause : Cause) → Answers o (λ m. m ≡ marked_of o) (Err fault)
    → excess_of fault ≡ Some (k, cause)
    → (name : Excess) × (refusal o ≡ Some (record { step = k; name = name })) × (excess_name name ≡ name_of cause)
excess_found o (faults.TooMany j) k cause is e =
    let same : (j, causes.TooMany (limits.Links MOST_LINKS)) ≡ (k, cause) = cc in (
      Links,
      is ∙ ap (λ (x : ℕ × Cause). Some (record { step = x.0; name = Links })) same,
      ap (λ (x : ℕ × Cause). name_of x.1) same,
    )
excess_found o (faults.TooLarge j) k cause is e =
    let same : (j, causes.TooLarge (excesses.Cells MOST_BYTES)) ≡ (k, cause) = cc in (
      Bytes,
      is ∙ ap (λ (x : ℕ × Cause). Some (record { step = x.0; name = Bytes })) same,
      ap (λ (x : ℕ × Cause). name_of x.1) same,
    )
excess_found o faults.NoMemory k cause is e = absurd (cc)

-- The run of the generated description.
use Rattle.std.proofs.Common.{◌≡◌, ℕ, None, Some, Result, Err, ◌∙◌, ap, refl, subst}
use Rattle.coll_lang.specs.Generated.{generated, generated_shape}
use Rattle.coll_lang.specs.Program.{Program}
use Rattle.coll_shape.specs.Outline.{Outline}
use Rattle.coll_shape.specs.WellFormed.{IsWellFormed}
use Rattle.plan_steps.specs.Rounds.{rounds}
use Rattle.schedule_compiler.specs.Answers.{Compiles}
use Rattle.schedule_compiler.specs.Schedules.{ScheduleOf}
use Rattle.schedule_compiler.specs.declared.shapes.faults.CompileFault.{CompileFault}
use Rattle.schedule_compiler.specs.declared.shapes.faults.CompileFault.TheVariants.{TooMany, TooLarge, NoMemory}
use Rattle.schedule_compiler.specs.shapes.Footprint.{refusal}
use Rattle.schedule_compiler.specs.shapes.Footprint.Excess.{Links, Bytes}
use Rattle.schedule_compiler.proofs.shapes.Sizes.{are-steps, refusal-found}

-- its plan is within the limits
pub fits : IsWellFormed generated_shape → refusal generated_shape ≡ None
unfolding rounds
fits formed = refusal-found generated_shape (are-steps generated_shape formed) ∙ refl

-- and so is that of a shape which is its
pub accepted : (d : Program) (o : Outline) (k : ℕ) → d ≡ generated k → o ≡ d.shape → IsWellFormed d.shape → refusal o ≡ None
accepted d o k is same formed =
    ap refusal (same ∙ ap (λ (x : Program). x.shape) is) ∙ fits (subst (λ (x : Program). IsWellFormed x.shape) is formed)

-- so a compiler that answers it with a fault had no memory
pub no-excess : (o : Outline) (r : Result ScheduleOf CompileFault) (f : CompileFault) → refusal o ≡ None → Compiles o r → r ≡ Err f
    → f ≡ NoMemory
no-excess o r (TooMany k) none compiles is =
    let over : refusal o ≡ Some (record { step = k; name = Links }) = subst (λ x. Compiles o x) is compiles in absurd (cc)
no-excess o r (TooLarge k) none compiles is =
    let over : refusal o ≡ Some (record { step = k; name = Bytes }) = subst (λ x. Compiles o x) is compiles in absurd (cc)
no-excess o r NoMemory none compiles is = refl

-- The refusal that is owed, or no memory.
use Rattle.std.proofs.Common.{◌∙◌, refl, sym}
use Rattle.schedule_compiler.specs.shapes.Footprint.{refusal}
use Rattle.schedule_compiler.specs.shapes.Footprint.Excess.{Links, Bytes}
use Rattle.portals_top.proofs.Answering.{excess-owed, memory-owed}
use Rattle.portals_top.proofs.Steps.{at-step}
use Rattle.portals_top.proofs.refusing.refuse_plan.Goals as goal

pub refuse_step-requires : goal.refuse_step-requires
refuse_step-requires g c = at-step c.args.shape.now c.in-TooMany.step Links (rw c.in-TooMany.is at c.requires)

pub refuse_step-requires-in-TooLarge : goal.refuse_step-requires-in-TooLarge
refuse_step-requires-in-TooLarge g c = at-step c.args.shape.now c.in-TooLarge.step Bytes (rw c.in-TooLarge.is at c.requires)

pub returns-in-TooMany : goal.returns-in-TooMany
returns-in-TooMany g c =
    let is = rw c.in-TooMany.is at c.requires in
    record {
      written = λ k inputs ran. excess-owed c.args.shape.now c.in-TooMany.step Links (refusal c.args.shape.now) is k inputs ran _ _ _
          (rw c.many_links.ensures at c.refuse_step.ensures.written);
      memory = λ none. let e = sym none ∙ is in absurd (cc);
      told = c.refuse_step.ensures.told;
    }

pub returns-in-TooLarge : goal.returns-in-TooLarge
returns-in-TooLarge g c =
    let is = rw c.in-TooLarge.is at c.requires in
    record {
      written = λ k inputs ran. excess-owed c.args.shape.now c.in-TooLarge.step Bytes (refusal c.args.shape.now) is k inputs ran _ _ _
          (rw c.large_cells.ensures at c.refuse_step-in-TooLarge.ensures.written);
      memory = λ none. let e = sym none ∙ is in absurd (cc);
      told = c.refuse_step-in-TooLarge.ensures.told;
    }

pub returns-in-NoMemory : goal.returns-in-NoMemory
returns-in-NoMemory g c = record {
  written = λ k inputs ran. memory-owed c.args.shape.now (refusal c.args.shape.now) (rw c.in-NoMemory.is at c.requires) k inputs ran _;
  memory = λ none. refl;
  told = tt;
}

use Rattle.std.proofs.Common.{◌≡◌, ◌∙◌, false, refl, true≢false}
use Rattle.std.specs.Prelude.{Option, Some, None, is_some}
use Rattle.ptl_types.specs.declared.steps.LocalStep.{LocalStep}
use Rattle.rank_threads.proofs.Turns.{made-else, none-after, none-idle, none-made, same-parts}
use Rattle.rank_threads.proofs.fabric.Fabric.work.Goals as goal

none-is : (e : Option LocalStep) → is_some e ≡ false → e ≡ None
none-is None e = refl
none-is (Some step) e = cc

pub returns-then-is_none-clause-parts : goal.returns-then-is_none-clause-parts
returns-then-is_none-clause-parts g c =
    same-parts c.args.self.now.job c.loop.hand.knows c.step.new.hand.knows c.args.rank c.step.result c.step.ensures.some
    c.step.ensures.none ∙ c.loop.invariant.parts

pub returns-then-is_none-clause-idle : goal.returns-then-is_none-clause-idle
returns-then-is_none-clause-idle g c =
    none-idle c.args.self.now.job c.loop.hand.knows c.step.new.hand.knows c.args.rank c.step.result
    (none-is c.step.result c.if-is_none.ensures) c.step.ensures.none

pub returns-then-is_none-clause-others : goal.returns-then-is_none-clause-others
returns-then-is_none-clause-others g c = λ r apart h.
    made-else c.args.self.now.job c.loop.hand.knows c.step.new.hand.knows c.args.rank r c.step.result c.step.ensures.some
    c.step.ensures.none apart
    (c.loop.invariant.others r apart h)

pub returns-then-is_none-clause-none : goal.returns-then-is_none-clause-none
returns-then-is_none-clause-none g c = λ no.
    none-after c.args.hand.now.knows c.loop.hand.knows c.step.new.hand.knows (c.loop.invariant.none no)
    (none-made c.args.self.now.job c.loop.hand.knows c.step.new.hand.knows c.args.rank c.step.result
    (none-is c.step.result c.if-is_none.ensures) c.step.ensures.none)

pub loop-preserved : goal.loop-preserved
loop-preserved g c = record {
  hand = c.step.ensures.hand;
  parts = same-parts c.args.self.now.job c.loop.hand.knows c.step.new.hand.knows c.args.rank c.step.result c.step.ensures.some
      c.step.ensures.none
      ∙ c.loop.invariant.parts;
  others = λ r apart h.
      made-else c.args.self.now.job c.loop.hand.knows c.step.new.hand.knows c.args.rank r c.step.result c.step.ensures.some
      c.step.ensures.none apart
      (c.loop.invariant.others r apart h);
  none = λ no. absurd (true≢false no);
}

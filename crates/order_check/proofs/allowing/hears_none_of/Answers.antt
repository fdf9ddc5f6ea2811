use Rattle.std.proofs.Common.{subst}
use Rattle.ptl_types.specs.declared.headers.Lane.TheVariants.{Answer, Request}
use Rattle.order_check.specs.Open.{IsOpen}
use Rattle.order_check.proofs.Open.{waiting}
use Rattle.order_check.proofs.allowing.hears_none_of.Goals as goal

pub returns-then-is_open : goal.returns-then-is_open
returns-then-is_open c =
    let w = c.args.world.now in (
      λ h. cc,
      λ none. absurd (waiting w c.args.r c.args.source Request
          (subst (λ e. IsOpen w c.args.r e) c.receipt.ensures (c.is_open.ensures.0 c.if-is_open.true)) none),
    )

pub returns-then-is_open-2 : goal.returns-then-is_open-2
returns-then-is_open-2 c =
    let w = c.args.world.now in (
      λ h. cc,
      λ none. absurd (waiting w c.args.r c.args.source Answer
          (subst (λ e. IsOpen w c.args.r e) c.receipt-2.ensures (c.is_open-2.ensures.0 c.if-is_open-2.true)) none),
    )

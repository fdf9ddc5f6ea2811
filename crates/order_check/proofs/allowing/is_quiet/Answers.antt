use Rattle.std.proofs.Common.{◌≡◌, ◌∙◌, false, subst, sym, arith}
use Rattle.ni_model.specs.Ready.{is_ready}
use Rattle.order_check.proofs.Open.{begun}
use Rattle.order_check.proofs.allowing.is_quiet.Goals as goal

pub returns-then-is_open : goal.returns-then-is_open
returns-then-is_open c = (
  λ h. cc,
  λ quiet. absurd (let a = quiet.started in let b = c.is_open.ensures.0 c.if-is_open.true in omega (arith, a, b)),
)

pub returns-in-None : goal.returns-in-None
returns-in-None c =
    let w = c.args.world.now in (
      λ h. record {
        started = begun w c.args.r (λ o. let q = sym c.if-is_open.false ∙ c.is_open.ensures.1 o in cc);
        idle = λ t. subst (λ s. is_ready s t ≡ false) c.nic.ensures.value (c.in-None.ensures.value t);
        hears = c.hears_nothing.ensures.0 h;
      },
      λ quiet. c.hears_nothing.ensures.1 quiet.hears,
    )

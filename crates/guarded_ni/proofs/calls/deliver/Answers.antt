-- By the test of the target.
use Rattle.std.proofs.Common.{refl, sym, ap, ◌∙◌}
use Rattle.ptl_types.specs.declared.headers.Header.{Header}
use Rattle.guarded_ni.specs.declared.faults.Misuse.TheVariants.{Elsewhere}
use Rattle.guarded_ni.specs.Guarded.Tests.{Answered, Misused_by}
use Rattle.guarded_ni.proofs.Testing.{other, same}
use Rattle.guarded_ni.proofs.calls.deliver.Goals as goal

pub returns-then-header-rank : goal.returns-then-header-rank
returns-then-header-rank c = Misused_by Elsewhere (other c.args.message.header.target c.args.nic.now.rank Elsewhere
    (λ e. c.if-header-rank.true (ap (λ (h : Header). h.target) c.header.ensures ∙ e ∙ sym c.rank.ensures.value))) refl

pub returns : goal.returns
returns c = Answered c.deliver.result (same c.args.message.header.target c.args.nic.now.rank Elsewhere
    (sym (ap (λ (h : Header). h.target) c.header.ensures) ∙ c.if-header-rank.false ∙ c.rank.ensures.value)) c.deliver.ensures.does

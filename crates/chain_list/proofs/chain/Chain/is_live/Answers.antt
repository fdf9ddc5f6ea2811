use Rattle.std.proofs.Common.{ap, ◌∙◌, arith}
use Rattle.std.specs.Option.{is_some}
use Rattle.std.proofs.lemmas.Bool.{le-ltb}
use Rattle.chain_list.specs.Chain.{value_at}
use Rattle.chain_list.proofs.ChainKept.{live-here, live-past}
use Rattle.chain_list.proofs.chain.Chain.is_live.Goals as goal

pub returns-then-place-len : goal.returns-then-place-len
returns-then-place-len g c =
    live-here _ _ _ _ _ c.self.invariant c.args.key c.eq.result c.at.result (omega (arith, c.len.ensures)) c.eq.ensures c.at.ensures
    ∙ ap (λ v. is_some (value_at c.args.key v.entries)) c.self.view_is

pub returns-else-place-len : goal.returns-else-place-len
returns-else-place-len g c =
    le-ltb c.args.key.place c.len.result (omega arith) ∙ live-past _ _ _ _ _ c.self.invariant c.args.key (omega (arith, c.len.ensures))
    ∙ ap (λ v. is_some (value_at c.args.key v.entries)) c.self.view_is

use Rattle.std.proofs.Common.{◌≡◌, true, ap, ◌∙◌}
use Rattle.std.specs.Option.{is_some}
use Rattle.chain_list.specs.Chain.{stamp_at}
use Rattle.chain_list.proofs.chain.Chain.key.Goals as goal

pub key_at-requires : goal.key_at-requires
key_at-requires g c =
    let stamp = c.self.invariant.stamped c.args.place ∙ ap (λ v. stamp_at c.args.place v.entries) c.self.view_is in
    let live : is_some (stamp_at c.args.place c.args.self.now.entries) ≡ true = c.requires in
    ap is_some stamp ∙ live

pub returns-clause-stamp : goal.returns-clause-stamp
returns-clause-stamp g c =
    c.key_at.ensures.1 ∙ c.self.invariant.stamped c.args.place ∙ ap (λ v. stamp_at c.args.place v.entries) c.self.view_is

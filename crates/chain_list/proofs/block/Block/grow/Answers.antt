use Rattle.std.proofs.Common.{◌+◌, ◌++◌, None, replicate, ap, ◌∙◌}
use Rattle.chain_list.specs.Places.{filled_up}
use Rattle.chain_list.proofs.PlaceLemmas.{filled-more}
use Rattle.chain_list.proofs.block.Block.grow.Goals as goal

pub returns-clause-ok : goal.returns-clause-ok
returns-clause-ok g c =
    let xs = c.self.inside.places.items in
    let len = c.self.inside.len in
    ap (λ l. filled_up l (len + c.args.more) None) c.reserve.ensures.items ∙ filled-more xs len None c.args.more c.self.invariant.0
    ∙ ap (λ v. v ++ replicate c.args.more None) c.self.view_is

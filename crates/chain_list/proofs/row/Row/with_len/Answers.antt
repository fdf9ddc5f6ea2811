use Rattle.std.proofs.Common.{replicate, ap, ◌∙◌}
use Rattle.chain_list.specs.Joined.{joined}
use Rattle.chain_list.proofs.Rows.{joined-none}
use Rattle.chain_list.proofs.row.Row.with_len.Goals as goal

pub returns : goal.returns
returns g c =
    let items = c.in_ok-links.ensures ∙ ap (λ l. replicate c.args.len l) c.no_links.ensures in
    (λ i. joined (c.in_ok-values.ensures i) (items i)) ∙ joined-none c.args.len

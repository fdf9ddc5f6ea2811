use Rattle.std.proofs.Common.{◌-◌, length, sym, ap, ◌∙◌}
use Rattle.chain_list.proofs.Rows.{length-joined}
use Rattle.chain_list.proofs.row.Row.len.Goals as goal

pub returns : goal.returns
returns g c = c.len.ensures ∙ sym (length-joined c.self.inside.values c.self.inside.links.items) ∙ ap length c.self.view_is

use Rattle.std.proofs.Common.{sym, ◌∙◌}
use Rattle.ni_objects.proofs.handles.Growth.{length-table_of}
use Rattle.ni_objects.proofs.handles.Store.len.Goals as goal

pub returns : goal.returns
returns g c = c.len.ensures ∙ sym (length-table_of c.self.inside.slab c.self.inside.given c.self.inside.limit c.args.self.now
    c.self.view_is)

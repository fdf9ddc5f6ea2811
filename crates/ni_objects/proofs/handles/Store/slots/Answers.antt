use Rattle.ni_objects.proofs.handles.Slots.{below-table}
use Rattle.ni_objects.proofs.handles.Store.slots.Goals as goal

pub returns-clause-below : goal.returns-clause-below
returns-clause-below g c = below-table c.self.inside.slab c.self.inside.given c.self.inside.limit c.args.self.now c.self.view_is
    c.self.invariant

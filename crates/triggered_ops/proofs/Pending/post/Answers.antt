use Rattle.std.proofs.Common.{◌<◌, length, refl, sym, subst, arith}
use Rattle.triggered_ops.specs.Operations.{Operations}
use Rattle.triggered_ops.proofs.Laid.{laid-kept, laid-within, laid-room, not-given}
use Rattle.triggered_ops.proofs.Telling.{low-cross, high-cross}
use Rattle.triggered_ops.proofs.Pending.post.Goals as goal

pub make_room-requires-clause-within : goal.make_room-requires-clause-within
make_room-requires-clause-within g c = laid-within c.self.inside.spots c.self.inside.threads c.self.inside.stamps.items
    c.self.inside.given c.self.inside.limit c.self.invariant

pub make_room-requires-clause-room : goal.make_room-requires-clause-room
make_room-requires-clause-room g c =
    laid-room c.self.inside.spots c.self.inside.threads c.self.inside.stamps.items c.self.inside.given c.self.inside.limit c.self.invariant
    (subst (λ (o : Operations _). length o.waiting < o.limit) (sym c.self.view_is) c.requires.room)

pub put_in-requires-clause-low : goal.put_in-requires-clause-low
put_in-requires-clause-low g c = low-cross c.args.threshold c.args.sum _ c.args.ct c.tell.ensures.due

pub put_in-requires-clause-high : goal.put_in-requires-clause-high
put_in-requires-clause-high g c = high-cross c.args.threshold c.args.sum _ c.args.ct c.tell.ensures.due

pub returns-clause-fresh : goal.returns-clause-fresh
returns-clause-fresh g c =
    rw (← c.self.view_is) (not-given _ (laid-kept c.self.inside.spots c.self.inside.threads c.self.inside.stamps.items c.self.inside.given
    c.self.inside.limit c.self.invariant (omega arith)))

pub returns-clause-ok : goal.returns-clause-ok
returns-clause-ok g c = rw (← c.self.view_is, c.put_in.ensures.value, c.tell.ensures.told, c.make_room.ensures.value) refl

use Rattle.std.proofs.Common.{◌∙◌, sym, arith}
use Rattle.initiator_engine.proofs.Naming.{users-bound, users-ct-room, users-eq-room}
use Rattle.initiator_engine.proofs.initiator.Initiator.bind.Goals as goal

pub add-requires : goal.add-requires
add-requires c =
    let i = c.self.inside in
    record {
      room = users-ct-room i.limits i.mds i.cts i.eqs c.args.md.ct c.self.invariant (sym c.is_full.ensures ∙ c.if-is_full.false)
          (omega (arith, c.slots-slots.ensures.slots));
    }

pub add-requires-2 : goal.add-requires-2
add-requires-2 c =
    let i = c.self.inside in
    record {
      room = users-eq-room i.limits i.mds i.cts i.eqs c.args.md.eq c.self.invariant (sym c.is_full.ensures ∙ c.if-is_full.false)
          (omega (arith, c.slots-slots.ensures.slots));
    }

pub invariant_of-self : goal.invariant_of-self
invariant_of-self c = rw c.in-Err.ensures.err.1 c.self.invariant

pub invariant_of-self-2 : goal.invariant_of-self-2
invariant_of-self-2 c =
    let i = c.self.inside in
    rw (c.in-Ok.ensures.ok, c.add.ensures.does, c.add-2.ensures.does)
    (users-bound i.limits i.mds i.cts i.eqs c.in-Ok.handle.slot c.args.md c.self.invariant c.in-Ok.ensures.free)

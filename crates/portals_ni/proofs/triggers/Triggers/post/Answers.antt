use Rattle.std.proofs.Common.{nat_le, refl, arith}
use Rattle.triggered_ops.specs.Operations.{waits_on, told, with_posted}
use Rattle.portals_ni.proofs.Uses.{used-told, used-posted, room-raise, room-counter, room-get, room-put}
use Rattle.portals_ni.proofs.triggers.Triggers.post.Goals as goal

pub raise-requires : goal.raise-requires
raise-requires c =
    let t = c.self.inside in
    record { room = room-raise t.pending t.cts t.mds c.args.ct c.self.invariant (omega (arith, c.len-many.ensures.len)) }

pub add-requires : goal.add-requires
add-requires c =
    let t = c.self.inside in
    record {
      room = rw c.raise.ensures.does (room-counter t.pending t.cts t.mds c.args.ct c.action_counter-counter.result c.self.invariant
          (omega (arith, c.len-many.ensures.len)));
    }

pub add-requires-2 : goal.add-requires-2
add-requires-2 c =
    let t = c.self.inside in
    record { room = room-get t.pending t.cts t.mds c.get_md-get.result c.self.invariant (omega (arith, c.len-many.ensures.len)) }

pub add-requires-3 : goal.add-requires-3
add-requires-3 c =
    let t = c.self.inside in
    record {
      room = rw c.add-2.ensures.does (room-put t.pending t.cts t.mds c.get_md-get.result c.put_md-put.result c.self.invariant
          (omega (arith, c.len-many.ensures.len)));
    }

pub invariant_of-self : goal.invariant_of-self
invariant_of-self c =
    rw c.in_err-number.ensures.err c.self.invariant

pub invariant_of-self-2 : goal.invariant_of-self-2
invariant_of-self-2 c =
    let t = c.self.inside in
    let ops = told c.args.ct c.args.sum t.pending in
    rw (
      c.in_ok-number.ensures.ok,
      c.in_ok-packed.ensures,
      c.add.ensures.does,
      c.raise.ensures.does,
      c.action_counter-counter.ensures,
      c.add-3.ensures.does,
      c.add-2.ensures.does,
      c.get_md-get.ensures,
      c.put_md-put.ensures,
    )
    (used-posted ops (with_posted c.args.posted c.args.ct c.args.threshold c.args.sum ops)
    (record {
      number = t.pending.given;
      action = c.args.posted;
      ct = c.args.ct;
      threshold = c.args.threshold;
      due =
          nat_le c.args.threshold c.args.sum;
    }) t.cts t.mds
    (used-told (waits_on c.args.ct) c.args.sum t.pending t.cts t.mds c.self.invariant) refl)

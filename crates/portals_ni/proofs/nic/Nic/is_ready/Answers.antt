use Rattle.std.proofs.Common.{sym}
use Rattle.portals_ni.proofs.Firing.{ready-is}
use Rattle.portals_ni.proofs.nic.Nic.is_ready.Goals as goal

pub returns : goal.returns
returns c =
    record {
      value = rw (← c.self.view_is, c.is_ready.ensures.value, c.waiting.ensures.value)
          (sym (ready-is c.args.number c.self.inside.cts c.self.inside.pending c.self.invariant.sound.told));
    }

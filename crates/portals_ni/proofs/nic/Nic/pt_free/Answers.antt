use Rattle.std.proofs.Common.{None}
use Rattle.portals_ni.proofs.Kept.{indices-sound}
use Rattle.portals_ni.proofs.Stands.{freed-stands}
use Rattle.portals_ni.proofs.nic.Nic.pt_free.Goals as goal

pub invariant_of-self : goal.invariant_of-self
invariant_of-self c =
    let n = c.self.inside in
    let gone = c.pt_free.ensures in
    record {
      sound = indices-sound n.target c.pt_free.new.self n.region n.cts n.initiator n.pending c.args.index None c.pt_free.result tt
          c.self.invariant.sound gone.unchanged gone.freed;
      stands = freed-stands n.target n.region n.cts n.eqs n.initiator n.pending n.drops n.violations c.pt_free.new.self c.args.index
          c.pt_free.result c.self.invariant.stands gone.unchanged gone.freed;
    }

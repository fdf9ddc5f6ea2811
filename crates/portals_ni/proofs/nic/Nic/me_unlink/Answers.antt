use Rattle.portals_ni.proofs.Equations.{unlink-ends}
use Rattle.portals_ni.proofs.Kept.{unlinked-sound}
use Rattle.portals_ni.proofs.Stands.{ended-stands, me_unlink-stands}
use Rattle.portals_ni.proofs.nic.Nic.me_unlink.Goals as goal

pub invariant_of-self : goal.invariant_of-self
invariant_of-self c =
    let n = c.self.inside in
    record {
      sound = unlinked-sound n.target c.unlink.new.self n.region n.cts n.initiator n.pending c.args.me c.unlink.result
          c.self.invariant.sound c.unlink.ensures.unchanged c.unlink.ensures.unlinked;
      stands = ended-stands _ _ _ (unlink-ends n.target n.region n.cts n.eqs n.initiator n.pending n.drops n.violations c.args.me
          c.unlink.new.self c.unlink.result c.unlink.ensures.err c.unlink.ensures.unchanged c.unlink.ensures.ok c.unlink.ensures.unlinked)
          (me_unlink-stands c.args.me _ c.self.invariant.stands);
    }

pub returns : goal.returns
returns c =
    let n = c.self.inside in
    let gone = c.unlink.ensures in
    record {
      does = rw (← c.self.view_is) (unlink-ends n.target n.region n.cts n.eqs n.initiator n.pending n.drops n.violations c.args.me
          c.unlink.new.self c.unlink.result gone.err gone.unchanged gone.ok gone.unlinked);
    }

use Rattle.portals_ni.proofs.Equations.{cancel-ends}
use Rattle.portals_ni.proofs.Kept.{cancelled-sound}
use Rattle.portals_ni.proofs.Stands.{ended-stands, ct_cancel-stands}
use Rattle.portals_ni.proofs.nic.Nic.ct_cancel.Goals as goal

pub invariant_of-self : goal.invariant_of-self
invariant_of-self c =
    let n = c.self.inside in
    record {
      sound = rw c.cancel.ensures.rest (cancelled-sound n.target n.region n.cts n.initiator n.pending c.args.ct c.self.invariant.sound);
      stands = ended-stands _ _ _ (cancel-ends n.target n.region n.cts n.eqs n.initiator n.pending n.drops n.violations c.args.ct
          c.cancel.result c.cancel.new.self c.is_live.result c.is_live.ensures c.if-not-is_live.false c.cancel.ensures.number
          c.cancel.ensures.rest) (ct_cancel-stands c.args.ct _ c.self.invariant.stands);
    }

pub returns : goal.returns
returns c =
    let n = c.self.inside in
    record {
      does = rw (← c.self.view_is) (cancel-ends n.target n.region n.cts n.eqs n.initiator n.pending n.drops n.violations c.args.ct
          c.cancel.result c.cancel.new.self c.is_live.result c.is_live.ensures c.if-not-is_live.false c.cancel.ensures.number
          c.cancel.ensures.rest);
    }

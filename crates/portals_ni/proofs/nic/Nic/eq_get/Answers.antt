use Rattle.std.proofs.Common.{refl}
use Rattle.portals_ni.proofs.Equations.{event-ends}
use Rattle.portals_ni.proofs.Stands.{ended-stands, eq_get-stands}
use Rattle.portals_ni.proofs.nic.Nic.eq_get.Goals as goal

pub returns : goal.returns
returns c =
    let n = c.self.inside in
    record {
      does = rw (← c.self.view_is) (event-ends n.target n.region n.cts n.eqs n.initiator n.pending n.drops n.violations c.args.eq
          c.take_event.result c.take_event.new.eqs _ refl c.take_event.ensures.answer c.take_event.ensures.rest);
    }

pub invariant_of-self : goal.invariant_of-self
invariant_of-self c =
    let n = c.self.inside in
    record {
      sound = c.self.invariant.sound;
      stands = ended-stands _ _ _ (event-ends n.target n.region n.cts n.eqs n.initiator n.pending n.drops n.violations c.args.eq
          c.take_event.result c.take_event.new.eqs _ refl c.take_event.ensures.answer c.take_event.ensures.rest)
          (eq_get-stands c.args.eq _ c.self.invariant.stands);
    }

use Rattle.std.proofs.Common.{◌<◌, subst}
use Rattle.std.specs.Result.{IfOk}
use Rattle.portals_ni.proofs.Equations.{alloc-makes}
use Rattle.portals_ni.proofs.Kept.{made-sound}
use Rattle.portals_ni.proofs.Stands.{made-stands, ct_alloc-stands}
use Rattle.portals_ni.proofs.nic.Nic.ct_alloc.Goals as goal

pub invariant_of-self : goal.invariant_of-self
invariant_of-self c =
    let n = c.self.inside in
    record {
      sound = made-sound n.target n.region n.cts c.make.new.things n.initiator n.pending c.new.result c.make.result c.self.invariant.sound
          c.make.ensures.unchanged c.make.ensures.made;
      stands = made-stands _ _ _ _ (alloc-makes n.target n.region n.cts n.eqs n.initiator n.pending n.drops n.violations c.new.result
          c.make.new.things c.make.result c.new.ensures c.make.ensures.err c.make.ensures.unchanged c.make.ensures.ok c.make.ensures.stamp
          c.make.ensures.free c.make.ensures.made) (λ slot. ct_alloc-stands slot _ c.self.invariant.stands);
    }

pub returns : goal.returns
returns c =
    let n = c.self.inside in
    let made = c.make.ensures in
    record {
      makes = rw (← c.self.view_is) (alloc-makes n.target n.region n.cts n.eqs n.initiator n.pending n.drops n.violations
          c.new.result c.make.new.things c.make.result c.new.ensures made.err made.unchanged made.ok made.stamp made.free made.made);
      slot =
          rw (← c.self.view_is) (subst (λ m. IfOk c.make.result (λ h. h.slot < m)) c.self.invariant.stands.limits.counting_events
          made.slot);
    }

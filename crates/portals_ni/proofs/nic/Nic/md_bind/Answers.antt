use Rattle.std.proofs.Common.{◌<◌, subst}
use Rattle.std.specs.Result.{IfOk}
use Rattle.portals_ni.proofs.Equations.{bind-makes}
use Rattle.portals_ni.proofs.Kept.{bound-sound}
use Rattle.portals_ni.proofs.Stands.{made-stands, md_bind-stands}
use Rattle.portals_ni.proofs.nic.Nic.md_bind.Goals as goal

pub invariant_of-self : goal.invariant_of-self
invariant_of-self c =
    let n = c.self.inside in
    record {
      sound = bound-sound n.target n.region n.cts n.eqs n.initiator c.bind.new.self n.pending c.args.md c.bind.result
          c.self.invariant.sound c.bind.ensures.unchanged c.bind.ensures.ok c.bind.ensures.bound;
      stands = made-stands _ _ _ _ (bind-makes n.target n.region n.cts n.eqs n.initiator n.pending n.drops n.violations c.args.md
          c.bind.new.self c.bind.result c.bind.ensures.err c.bind.ensures.unchanged c.bind.ensures.ok c.bind.ensures.stamp
          c.bind.ensures.free c.bind.ensures.bound) (λ slot. md_bind-stands slot c.args.md _ c.self.invariant.stands);
    }

pub returns : goal.returns
returns c =
    let n = c.self.inside in
    let made = c.bind.ensures in
    record {
      makes = rw (← c.self.view_is) (bind-makes n.target n.region n.cts n.eqs n.initiator n.pending n.drops n.violations c.args.md
          c.bind.new.self c.bind.result made.err made.unchanged made.ok made.stamp made.free made.bound);
      slot =
          rw (← c.self.view_is) (subst (λ m. IfOk c.bind.result (λ h. h.slot < m)) c.self.invariant.stands.limits.descriptors made.slot);
    }

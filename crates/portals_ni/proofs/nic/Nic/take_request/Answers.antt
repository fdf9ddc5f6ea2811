use Rattle.std.proofs.Common.{sym, subst}
use Rattle.ni_model.specs.Arrive.{parts}
use Rattle.portals_ni.proofs.Equations.{request-ends}
use Rattle.portals_ni.proofs.Kept.{target-sound}
use Rattle.portals_ni.proofs.Targets.{Keeps, RequestKeeps, request-keeps}
use Rattle.portals_ni.proofs.Stands.{delivers-stands, request-stands}
use Rattle.portals_ni.proofs.nic.Nic.take_request.Goals as goal

pub invariant_of-self : goal.invariant_of-self
invariant_of-self c =
    let n = c.self.inside in
    let new = c.request-arrived.new in
    let ct = c.request-arrived.result.counted in
    let old = parts n.target n.region n.cts n.eqs in
    let keeps : Keeps old (parts new.self new.region new.cts new.eqs) ct = subst (RequestKeeps old) (sym c.request-arrived.ensures.does)
    (request-keeps old c.args.message c.self.invariant.sound.parts) in
    record {
      sound = rw c.tell.ensures (target-sound n.target new.self n.region new.region n.cts new.cts n.eqs new.eqs n.initiator n.pending ct
          c.self.invariant.sound keeps);
      stands = delivers-stands _ _ _ (request-ends n.target n.region n.cts n.eqs n.initiator n.pending n.drops n.violations c.args.message
          new.self new.region new.cts new.eqs c.tell.new.pending c.request-arrived.result c.raise_drops-self-inside.result
          c.raise_violations-self-inside.result c.request-arrived.ensures.does keeps.rank keeps.limit c.tell.ensures
          c.raise_drops-self-inside.ensures c.raise_violations-self-inside.ensures)
          (request-stands _ c.args.message c.self.invariant.stands);
    }

pub returns : goal.returns
returns c =
    let n = c.self.inside in
    let new = c.request-arrived.new in
    let ct = c.request-arrived.result.counted in
    let old = parts n.target n.region n.cts n.eqs in
    let keeps : Keeps old (parts new.self new.region new.cts new.eqs) ct = subst (RequestKeeps old) (sym c.request-arrived.ensures.does)
    (request-keeps old c.args.message c.self.invariant.sound.parts) in
    rw (← c.self.view_is) (request-ends n.target n.region n.cts n.eqs n.initiator n.pending n.drops n.violations c.args.message new.self
    new.region new.cts new.eqs c.tell.new.pending c.request-arrived.result c.raise_drops-self-inside.result
    c.raise_violations-self-inside.result c.request-arrived.ensures.does keeps.rank keeps.limit c.tell.ensures
    c.raise_drops-self-inside.ensures c.raise_violations-self-inside.ensures)

use Rattle.portals_ni.proofs.Equations.{ready-answers}
use Rattle.portals_ni.proofs.nic.Nic.ready.Goals as goal

pub returns : goal.returns
returns c =
    let n = c.self.inside in
    record {
      value = rw (← c.self.view_is) (ready-answers n.target n.region n.cts n.eqs n.initiator n.pending n.drops n.violations
          c.ready.result c.self.invariant.sound.told (rw c.waiting.ensures.value at c.ready.ensures.some)
          (rw c.waiting.ensures.value at c.ready.ensures.none));
    }

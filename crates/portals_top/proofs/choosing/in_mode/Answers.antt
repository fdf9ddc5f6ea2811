use Rattle.portals_top.proofs.Telling.{done_tells}
use Rattle.portals_top.proofs.choosing.in_mode.Goals as goal

pub returns-in-Once : goal.returns-in-Once
returns-in-Once g c = rw c.in-Once.is (record {
  written = c.once.ensures.written;
  world = c.once.ensures.world;
  told =
      done_tells _ _ _ _ _ c.once.ensures.written;
})

pub returns-in-Sim : goal.returns-in-Sim
returns-in-Sim g c = rw c.in-Sim.is (record {
  written = c.sim.ensures.written;
  world = c.sim.ensures.world;
  told =
      done_tells _ _ _ _ _ c.sim.ensures.written;
})

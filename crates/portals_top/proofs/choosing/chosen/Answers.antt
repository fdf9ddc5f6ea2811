use Rattle.portals_top.proofs.Answering.{no-world-refused}
use Rattle.portals_top.proofs.choosing.chosen.Goals as goal

pub returns-in-Execute : goal.returns-in-Execute
returns-in-Execute g c = rw c.in-Execute.is (record {
  written = c.in_mode.ensures.written;
  world = c.in_mode.ensures.world;
  told = c.in_mode.ensures.told;
})

pub returns-in-Plan : goal.returns-in-Plan
returns-in-Plan g c = rw (c.in-Plan.is, c.requires) (record {
  written = c.refuse_choices.ensures.written;
  world = no-world-refused _ _ c.refuse_choices.ensures.written.allowed;
  told = c.refuse_choices.ensures.told;
})

use Rattle.portals_top.proofs.top.described.Goals as goal

pub returns-in-Some : goal.returns-in-Some
returns-in-Some g c = record {
  begun = (
    rw (← c.in-Some.ensures.value) c.chosen.ensures.written,
    rw (← c.in-Some.ensures.value, ← c.shape-shape.ensures.shape, ← c.ranks-ranks.ensures.value) c.chosen.ensures.world,
  );
  told = c.chosen.ensures.told;
}

pub returns-in-None : goal.returns-in-None
returns-in-None g c = record { begun = rw (← c.in-None.ensures.value) c.compiled.ensures.begun; told = c.compiled.ensures.told }

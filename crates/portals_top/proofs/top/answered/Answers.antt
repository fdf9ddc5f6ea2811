use Rattle.portals_top.specs.Explained.{IsPlaced}
use Rattle.portals_top.proofs.Beginning.{answered-large, answered-left}
use Rattle.portals_top.proofs.Telling.{done_tells_since}
use Rattle.portals_top.proofs.top.answered.Goals as goal

pub returns-in-Answered : goal.returns-in-Answered
returns-in-Answered g c = record {
  answers = rw c.in-Answered.is at c.started.ensures.begun;
  told = rw c.in-Answered.is at c.started.ensures.told;
}

pub returns-in-Run : goal.returns-in-Run
returns-in-Run g c =
    let b = rw c.in-Run.is at c.started.ensures.begun in
    record {
      answers = (b.0, b.1, answered-left _ _ _ _ _ _ _ _ _ _ _ b.2.0 b.2.1 c.run.ensures.written c.run.ensures.world);
      told = (b.0, b.1, done_tells_since (IsPlaced b.0) _ _ _ _ _ _ _ c.run.ensures.written);
    }

pub returns-in-Large : goal.returns-in-Large
returns-in-Large g c =
    let b = rw c.in-Large.is at c.started.ensures.begun in
    record {
      answers = (b.0, b.1, answered-large _ _ _ _ _ _ _ _ _ _ _ _ b.2.0 b.2.1 c.large.ensures.written c.large.ensures.world);
      told = (b.0, b.1, done_tells_since (IsPlaced b.0) _ _ _ _ _ _ _ c.large.ensures.written);
    }

use Rattle.rank_frames.specs.Place.{PlaceState}
use Rattle.rank_frames.proofs.Placed.{placed-start}
use Rattle.rank_frames.proofs.place.Place.start.Goals as goal

pub invariant_of-self : goal.invariant_of-self
invariant_of-self c =
    let p : PlaceState = record { me = c.self.inside.me; node = c.self.inside.node; due = c.self.inside.due } in
    placed-start p c.start.new.self c.self.invariant c.start.ensures c.recall_history.ensures.kept

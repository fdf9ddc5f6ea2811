use Rattle.plan_pages.specs.Played.{ArePlayed}
use Rattle.plan_pages.proofs.playing.take_turns.Given as goal

-- the orders are played so far
abbrev pub invariant-loop-rank : goal.invariant-loop-rank
invariant-loop-rank l = ArePlayed l.orders l.play.turns.items l.play.made.items

use Rattle.plan_pages.specs.Played.{ArePlayed}
use Rattle.plan_pages.proofs.playing.played.Given as goal

-- the orders are played so far
abbrev pub invariant-loop : goal.invariant-loop
invariant-loop l = ArePlayed l.orders l.shown.turns.items l.shown.made.items

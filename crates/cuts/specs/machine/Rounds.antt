-- The rounds of a dissemination barrier.
pub use Rattle.plan_core.specs.Rounds.{Comes, IsRounds}

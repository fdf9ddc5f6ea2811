-- Lemmas on what is opened, for those who open other worlds.
pub use Rattle.worlds.proofs.opening.Begun.{none-held}
pub use Rattle.worlds.proofs.opening.Laid.{IsLaid, all-laid, at_most-pairs, one-pair, two-more}
pub use Rattle.worlds.proofs.opening.Lists.{pushed, written}

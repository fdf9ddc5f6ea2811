-- Two lists of which a test knows only how many entries they had.
use Rattle.std.specs.Prelude.{ℕ, ◌<◌, ◌≤◌, All}
use Rattle.match_lists.specs.Lists.{Both, linked_count}

-- at most n entries were appended, each under a slot below n
pub record HadFew (n : ℕ) (b : Both) : Type 0 where
  pub count : linked_count b ≤ n
  pub appended : b.appended ≤ n
  pub priority : All (λ x. x.handle.slot < n) b.priority
  pub overflow : All (λ x. x.handle.slot < n) b.overflow

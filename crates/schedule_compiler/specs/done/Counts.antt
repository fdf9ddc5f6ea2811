-- How many cells each rank of a plan has, and how many messages it sends.
use Rattle.std.specs.Prelude.{ℕ, ◌≡◌, List, IsTrue, length, map}
use Rattle.plan_core.specs.Plan.{Plan, link, own}
use Rattle.plan_tables.specs.Rising.{of_key}
use Rattle.plan_tables.specs.Tables.{IsTabled, all_ranks, from_rank, key_of}

abbrev pub own_counts : Plan → List ℕ
own_counts p = map (λ r. length (own p r)) (all_ranks p)

-- where a link is counted: at the rank that fires it, and past the end where it is a Bump
abbrev pub sent_key : Plan → ℕ → ℕ
sent_key p l = key_of (link p l).kind (from_rank p l) p.ranks

abbrev pub sent_counts : Plan → List ℕ
sent_counts p = map (λ r. length (of_key (sent_key p) (length p.links) r)) (all_ranks p)

-- The messages count alone where completion waits for acknowledgements.
abbrev pub AreSent : Plan → List ℕ → Type 0
AreSent p sent = IsTrue p.remote → sent ≡ sent_counts p

-- these are a plan's counts
pub record AreCounted (p : Plan) (cells sent : List ℕ) : Type 0 where
  pub tabled : IsTabled p
  pub own : cells ≡ own_counts p
  pub messages : AreSent p sent

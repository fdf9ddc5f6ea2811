-- The links that come to a cell.
use Rattle.std.proofs.Common.{ℕ, ◌≡◌, ◌<◌, ◌≤◌, ◌==◌, List, length}
use Rattle.std.specs.List.{All}
use Rattle.std.proofs.lemmas.List.Elements.{All-from_get_or}
use Rattle.plan_core.specs.Plan.{Plan, in_links, link}
use Rattle.plan_tables.proofs.Indexed.{all-below, at_most-filtered}

pub all_known : (p : Plan) (c : ℕ) (links : List ℕ) → links ≡ in_links p c → All (λ l. l < length p.links) links
all_known p c links e =
    All-from_get_or (λ l. l < length p.links) links 0
    (λ i h. all-below (λ l. (link p l).target == c) (length p.links) links e i h)

pub few_in : (p : Plan) (c : ℕ) → length (in_links p c) ≤ length p.links
few_in p c = at_most-filtered (λ l. (link p l).target == c) (length p.links)

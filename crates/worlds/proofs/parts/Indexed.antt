-- The counts of deliveries by the places of lanes.
use Rattle.std.proofs.Common.{ℕ, ◌*◌, ◌<◌, ◌≡◌, ◌∙◌, List, get_or, sym, ap}
use Rattle.pair_wires.specs.Lanes.{Plain}
use Rattle.cuts.specs.windows.Places.{destination_at, kind_at, source_at}
use Rattle.rank_node.specs.Node.{NodeState}
use Rattle.worlds.specs.parts.Keeps.{AreCounted}
use Rattle.worlds.specs.parts.Marks.{delivery_count}
use Rattle.worlds.proofs.parts.Placed.{place_told, ranks_told}

pub delivery_index : (n : ℕ) (nodes : List NodeState) (lanes : List Plain) (starts deliveries firings : List ℕ) (window : ℕ) →
    AreCounted n nodes lanes starts deliveries firings window
    → (i : ℕ) → i < 2 * (n * n) → get_or deliveries i 0 ≡ delivery_count lanes n window (source_at n i) (destination_at n i) (kind_at i)
delivery_index n nodes lanes starts deliveries firings window k i h =
    let r = ranks_told n i h in
    ap (λ j. get_or deliveries j 0) (sym (place_told n i)) ∙ k.of_deliveries (source_at n i) (destination_at n i) (kind_at i) r.0 r.1

-- The possible steps by places: starts and firings by rank, deliveries by the places of lanes.
use Rattle.std.specs.Prelude.{ℕ, ◌+◌, ◌*◌, ◌/◌, ◌%◌, ◌==◌, List, ◌++◌, filter, flat_map, map, length, if◌then◌else◌}
use Rattle.ptl_types.specs.declared.headers.Lane.{Lane}
use Rattle.ptl_types.specs.declared.headers.Lane.TheVariants.{Request, Answer}
use Rattle.plan_core.specs.Plan.{from_to}
use Rattle.cuts.specs.histories.System.{System}
use Rattle.cuts.specs.orders.Chosen.{Scene, firings_at, first_of, start_at}
use Rattle.cuts.specs.declared.orders.Step.{Step}
use Rattle.cuts.specs.windows.Possible.{is_possible}

-- the place of a lane between n ranks: by source, target, request before answer
abbrev pub lane_place : ℕ → ℕ → ℕ → Lane → ℕ
lane_place n s d Request = 2 * (s * n + d)
lane_place n s d Answer = 2 * (s * n + d) + 1

-- the lane of a place
abbrev pub source_at : ℕ → ℕ → ℕ
source_at n i = i / 2 / n

abbrev pub destination_at : ℕ → ℕ → ℕ
destination_at n i = i / 2 % n

abbrev pub kind_at : ℕ → Lane
kind_at i = if i % 2 == 0 then Request else Answer

-- the possible delivery on a lane, if there is one
abbrev pub delivery_on : System → ℕ → Scene → ℕ → ℕ → Lane → List Step
delivery_on k window z s d lane = filter (is_possible k window z) (first_of s d lane (z.held s d lane))

-- by its place
abbrev pub delivery_at : System → ℕ → Scene → ℕ → List Step
delivery_at k window z i = delivery_on k window z (source_at k.count i) (destination_at k.count i) (kind_at i)

-- the possible firings at a rank
abbrev pub fires_at : System → ℕ → Scene → ℕ → List Step
fires_at k window z r = filter (is_possible k window z) (firings_at k z r)

-- all of them
abbrev pub steps_by_place : System → ℕ → Scene → List Step
steps_by_place k window z =
    flat_map (start_at z) (from_to 0 k.count)
    ++ (flat_map (delivery_at k window z) (from_to 0 (2 * (k.count * k.count)))
    ++ flat_map (fires_at k window z) (from_to 0 k.count))

-- how many things each place of a fixed order gives
abbrev pub counts : {X : Type 0} → (ℕ → List X) → ℕ → List ℕ
counts f n = map (λ i. length (f i)) (from_to 0 n)

-- The tables of all areas, by rank and then by class: place r * 81 + k is that of class k at rank r.
use Rattle.std.specs.Prelude.{ℕ, nat_lt, ◌+◌, ◌*◌, List, length, map, filter, sum_by}
use Rattle.plan_core.specs.Plan.{Plan, link, from_to}
use Rattle.plan_core.specs.calls.Areas.{link_class, region_length}
use Rattle.plan_tables.specs.Rising.{of_key}
use Rattle.plan_tables.specs.Tables.{key_of, link_length, to_rank}

abbrev pub message_key : Plan → ℕ → ℕ
message_key p l = key_of (link p l).kind (to_rank p l * 81 + link_class p l) (p.ranks * 81)

-- how many messages, and how many bytes
abbrev pub area_counts : Plan → List ℕ
area_counts p = map (λ i. length (of_key (message_key p) (length p.links) i)) (from_to 0 (p.ranks * 81))

abbrev pub area_sums : Plan → List ℕ
area_sums p = map (λ i. sum_by (link_length p) (of_key (message_key p) (length p.links) i)) (from_to 0 (p.ranks * 81))

-- ---- at one rank
abbrev pub area_links : Plan → ℕ → ℕ → List ℕ
area_links p r class = of_key (message_key p) (length p.links) (r * 81 + class)

abbrev pub area_bytes : Plan → ℕ → ℕ → ℕ
area_bytes p r class = sum_by (link_length p) (area_links p r class)

-- the classes that have a message, and where the area of a class begins: a class without messages has no bytes
abbrev pub counted_classes : Plan → ℕ → List ℕ
counted_classes p r = filter (λ k. nat_lt 0 (length (area_links p r k))) (from_to 0 81)

abbrev pub counted_start : Plan → ℕ → ℕ → ℕ
counted_start p r class = region_length p r + sum_by (area_bytes p r) (from_to 0 class)

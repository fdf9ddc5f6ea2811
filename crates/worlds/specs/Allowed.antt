-- Which steps the parts of a world allow.
use Rattle.std.specs.Prelude.{true, ◌<◌, ◌≡◌, List, count_by}
use Rattle.cuts.specs.histories.History.{is_start}
use Rattle.cuts.specs.declared.orders.Step.{Step}
use Rattle.cuts.specs.declared.orders.Step.TheVariants.{Deliver, Fire, Start}
use Rattle.rank_node.specs.Gates.{may_go}
use Rattle.rank_node.specs.Node.{NodeState}
use Rattle.worlds.specs.declared.parts.traffic.Traffic.{Traffic}
use Rattle.worlds.specs.parts.Layout.{node_at}
use Rattle.worlds.specs.parts.Marks.{lane_may}

-- a start that was not yet; a delivery, of a request only where its answer would find room; a firing that is ready and whose message
-- finds an open lane
abbrev pub Allows : List NodeState → Traffic → Step → Type 0
Allows nodes t (Start r) = (r < t.setting.ranks) × (count_by is_start (node_at nodes r).diary.locals ≡ 0)
Allows nodes t (Deliver s d lane) = (s < t.setting.ranks) × (d < t.setting.ranks)
    × (lane_may t.lanes t.setting.ranks t.setting.window s d lane ≡ true)
Allows nodes t (Fire r number) = (r < t.setting.ranks) × (may_go (node_at nodes r).closed (node_at nodes r).nic number ≡ true)

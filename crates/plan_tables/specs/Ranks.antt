-- The tables over a whole plan.
use Rattle.std.specs.Prelude.{◌≡◌, map}
use Rattle.plan_core.specs.Plan.{Plan, all_cells, own, out_links}
use Rattle.plan_core.specs.calls.Areas.{links_to, region_length}
use Rattle.plan_core.specs.calls.Calls.{cell_start}
use Rattle.plan_tables.specs.declared.index.Index.{Index}
use Rattle.plan_tables.specs.declared.tables.Tables.{Tables}
use Rattle.plan_tables.specs.Tables.{all_ranks, lane_counts, lane_sums}
use Rattle.plan_tables.specs.AreaTables.{area_counts, area_sums}

-- the tables over the whole plan
pub record IsIndex (p : Plan) (i : Index) : Type 0 where
  pub own : i.own ≡ map (own p) (all_ranks p)
  pub out : i.out ≡ map (out_links p) (all_ranks p)
  pub into : i.into ≡ map (links_to p) (all_ranks p)
  pub starts : i.starts.items ≡ map (cell_start p) (all_cells p)
  pub lengths : i.lengths ≡ map (region_length p) (all_ranks p)
  pub counts : i.areas.counts ≡ area_counts p
  pub bytes : i.areas.bytes ≡ area_sums p

-- all tables of a plan
pub record IsTables (p : Plan) (t : Tables) : Type 0 where
  pub index : IsIndex p t.index
  pub lanes : t.lanes.counts ≡ lane_counts p
  pub lane_bytes : t.lanes.bytes ≡ lane_sums p

-- A call looks at no table but those that it reads: with no lanes or edges lent at all, repair comes to the
-- same, and with no edges succession does.
use mathlib.Core.Path.{◌≡◌, refl}
use Rattle.model.specs.Calls.{ListOutputs, RepairOutputs, lane_rules, list_content, repair_call, repair_content}
use Rattle.model.specs.Calls.{repair_rules, rules_to5, succession_call, succession_rules, warning_row}
use Rattle.model.specs.Repair.{repair, start_roads, warnings}
use Rattle.model.specs.Rules.{lanes_sized, lanes_worded, map_sized, map_worded}
use Rattle.model.specs.Tables.{Tables, lane_tables, map_of, map_tables}

module _ (t : Tables) where
  -- ---- repair
  pub repair_content_reads : repair_content t
      ≡ repair_content (map_tables t.text t.roads t.sections t.junctions t.connections t.pairs)
  unfolding repair_content repair start_roads warnings warning_row map_of
  repair_content_reads = refl

  pub repair_call_reads : (o : RepairOutputs)
      → repair_call t o
      ≡ repair_call (map_tables t.text t.roads t.sections t.junctions t.connections t.pairs) o
  unfolding repair_call repair_rules rules_to5 map_sized map_worded repair_content repair start_roads
      warnings warning_row map_of
  repair_call_reads o = refl

  -- ---- succession
  pub list_content_reads : list_content t
      ≡ list_content
      (lane_tables t.text t.roads t.sections t.junctions t.connections t.pairs t.lanes)
  unfolding list_content map_of
  list_content_reads = refl

  pub succession_call_reads : (o : ListOutputs)
      → succession_call t o
      ≡ succession_call
      (lane_tables t.text t.roads t.sections t.junctions t.connections t.pairs t.lanes) o
  unfolding succession_call succession_rules rules_to5 lane_rules map_sized map_worded lanes_sized
      lanes_worded list_content map_of
  succession_call_reads o = refl

-- The tables of a call, read from the slices that are lent. Definitions only.
use Rattle.std.specs.Prelude.{ℕ, List, Float}
use Rattle.model.specs.Tables.{Tables, map_tables, lane_tables, all_tables}
use Rattle.words.specs.declared.map.MapTables.{MapTables}

-- of a call that reads no lanes and no edges
abbrev pub map_read : MapTables → Tables
map_read m = map_tables m.text.now m.roads.now m.sections.now m.junctions.now m.connections.now m.pairs.now

-- of a call that reads no edges
abbrev pub lanes_read : MapTables → List ℕ → Tables
lanes_read m lanes =
    lane_tables m.text.now m.roads.now m.sections.now m.junctions.now m.connections.now m.pairs.now lanes

-- of a call that reads all
abbrev pub all_read : MapTables → List ℕ → List Float → Tables
all_read m lanes edges =
    all_tables m.text.now m.roads.now m.sections.now m.junctions.now m.connections.now m.pairs.now lanes edges

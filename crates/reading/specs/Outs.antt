-- The code's outputs as far as they are laid. Definitions only.
use Rattle.std.specs.Prelude.{List, ℕ}
use Rattle.reading.specs.Laid.{Before, ConnectionOuts, JunctionOuts, LinkOuts, Low, Output}
use Rattle.reading.specs.declared.laid.Laid.{Laid}

-- one output, those of a reader of lane links, of connections, and of junctions
abbrev pub laid : {W : ℕ} → Laid W → Output
laid o = record { slice = o.words.ghost_name; rows = o.rows; words = o.words.now }

abbrev pub links_laid : Laid 2 → Laid 4 → LinkOuts
links_laid pairs warnings = record { pairs = laid pairs; warnings = laid warnings }

abbrev pub connections_laid : Laid 7 → Laid 2 → Laid 4 → ConnectionOuts
connections_laid connections pairs warnings =
    record { connections = laid connections; rest = links_laid pairs warnings }

abbrev pub junctions_laid : Laid 5 → Laid 7 → Laid 2 → Laid 4 → JunctionOuts
junctions_laid junctions connections pairs warnings =
    record { junctions = laid junctions; rest = connections_laid connections pairs warnings }

-- no more rows than those before connection c, or before junction j, give
abbrev pub LowLaid : (raw : List ℕ) (c : ℕ) → Laid 7 → Laid 2 → Laid 4 → Type 0
LowLaid raw c connections pairs warnings = Low raw c connections.rows pairs.rows warnings.rows

abbrev pub BeforeLaid : (raw_junctions raw_connections : List ℕ) (j : ℕ) → Laid 5 → Laid 7 → Laid 2 → Laid 4 → Type 0
BeforeLaid raw_junctions raw_connections j junctions connections pairs warnings =
    Before raw_junctions raw_connections j junctions.rows connections.rows pairs.rows warnings.rows

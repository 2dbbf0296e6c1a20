-- What a map is that the call's rules admit. Definitions only.
use Rattle.std.specs.Prelude.{◌≡◌, false, List, ℕ, ◌/◌, ◌≤◌, length}
use Rattle.model.specs.Tables.{Tables}
use Rattle.words.specs.Keys.{name_before}
use Rattle.words.specs.Rows.{any, total}
use Rattle.rules.specs.Parts.{Fit, counts}

-- what rules 1 and 5 say of connections and pairs
pub record Small (pairs connections : List ℕ) : Type 0 where
  pub few : length connections / 7 ≤ 8192
  pub few_pairs : length pairs / 2 ≤ 8192
  pub fit : Fit 7 5 6 connections (length pairs / 2)

-- what rules 1 and 5 say of junctions
pub record Joined (junctions connections : List ℕ) : Type 0 where
  pub few : length junctions / 5 ≤ 16384
  pub fit : Fit 5 3 4 junctions (length connections / 7)

-- all that repair relies on
pub record Ready (t : Tables) : Type 0 where
  pub few_roads : length t.roads / 20 ≤ 16384
  pub once : any (length t.roads / 20) (name_before t.text 20 0 t.roads) ≡ false
  pub small : Small t.pairs t.connections
  pub joined : Joined t.junctions t.connections
  pub fit : Fit 20 18 19 t.roads (length t.sections)

-- ---- how many rows there are
-- connection c's pairs, those of the connections before it, and the connections of the junctions before the k-th
abbrev pub pair_count : (connections : List ℕ) → ℕ → ℕ
pair_count connections c = counts 7 6 connections c

abbrev pub pairs_before : (connections : List ℕ) → ℕ → ℕ
pairs_before connections c = total c (counts 7 6 connections)

abbrev pub connections_before : (junctions : List ℕ) → ℕ → ℕ
connections_before junctions k = total k (counts 5 4 junctions)

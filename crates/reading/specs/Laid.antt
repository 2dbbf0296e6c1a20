-- What the readers of lane links, connections and junctions have done: rows counted, and their words put where
-- an output has room for them. Definitions only.
use Rattle.std.specs.Prelude.{◌≡◌, Bool, ◌&&◌, List, [], ℕ, ◌+◌, ◌*◌, ◌/◌, ◌≤◌, length}
use Rattle.model.specs.Lists.{gather}
use Rattle.model.specs.Reading.{RawTables, ReadWarning, lane_link_warnings, read_pair, read_warning_row}
use Rattle.model.specs.Reading.{to_list}
use Rattle.model.specs.Records.{Connection, Junction, Pair}
use Rattle.model.specs.ReadingCalls.{raw_sized, rows_named}
use Rattle.model.specs.Rows.{parts_fit, rows_from, table}
use Rattle.model.specs.Rules.{sized}
use Rattle.model.specs.Tables.{connection_row, junction_row, pair_row}
use Rattle.words.specs.Rows.{spliced, total}
use Rattle.rules.specs.Parts.{Fit, counts}

-- the raw tables of a call
abbrev pub raw_tables : (text junctions connections lane_links : List ℕ) → RawTables
raw_tables text junctions connections lane_links =
    record { text = text; junctions = junctions; connections = connections; lane_links = lane_links }

-- the pair that a lane link gives, and its warning, by what they read
unfoldable pub pairs_at : (text lane_links : List ℕ) → ℕ → List Pair
pairs_at text lane_links l = to_list (read_pair (raw_tables text [] [] lane_links) l)

unfoldable pub drops_at : (text lane_links : List ℕ) → (j c l : ℕ) → List ReadWarning
drops_at text lane_links j c l = lane_link_warnings (raw_tables text [] [] lane_links) j c l

-- ---- outputs so far
-- which slice an output is, how many rows it has, and its words
pub record Output : Type 0 where
  pub slice : ℕ
  pub rows : ℕ
  pub words : List ℕ

-- those of a reader of lane links
pub record LinkOuts : Type 0 where
  pub pairs : Output
  pub warnings : Output

-- of a reader of connections
pub record ConnectionOuts : Type 0 where
  pub connections : Output
  pub rest : LinkOuts

-- of a reader of junctions
pub record JunctionOuts : Type 0 where
  pub junctions : Output
  pub rest : ConnectionOuts

-- built from the words of each and its number of rows, in the order of the code's parameters, whichever slice it is
abbrev pub output : List ℕ → ℕ → Output
output words rows = record { slice = 0; rows = rows; words = words }

abbrev pub link_outs : List ℕ → ℕ → List ℕ → ℕ → LinkOuts
link_outs po p wo w = record { pairs = output po p; warnings = output wo w }

abbrev pub connection_outs : List ℕ → ℕ → List ℕ → ℕ → List ℕ → ℕ → ConnectionOuts
connection_outs co n po p wo w = record { connections = output co n; rest = link_outs po p wo w }

abbrev pub junction_outs : List ℕ → ℕ → List ℕ → ℕ → List ℕ → ℕ → List ℕ → ℕ → JunctionOuts
junction_outs jo m co n po p wo w = record { junctions = output jo m; rest = connection_outs co n po p wo w }

-- ---- what a run of reading leaves: from the outputs `old` to the outputs `new`
-- a row put into an output from word `at` on, where there is room
abbrev pub PutIf : (at : ℕ) → (row out after : List ℕ) → Type 0
PutIf at row out after = at + length row ≤ length out → after ≡ spliced at row out

-- k rows of w words more: they are counted, and put in where there is room; it is still the slice that it was
pub record Run (w : ℕ) (rows : List ℕ) (k : ℕ) (old new : Output) : Type 0 where
  pub same : new.slice ≡ old.slice
  pub count : new.rows ≡ old.rows + k
  pub wide : length rows ≡ k * w
  pub put : PutIf (old.rows * w) rows old.words new.words
  pub kept : length new.words ≡ length old.words

-- these warnings, a row each
abbrev pub Warned : List ReadWarning → (old new : Output) → Type 0
Warned ws old new = Run 4 (gather read_warning_row ws) (length ws) old new

-- these pairs and warnings were read
pub record LinksRead (ps : List Pair) (ws : List ReadWarning) (old new : LinkOuts) : Type 0 where
  pub pairs : Run 2 (gather pair_row ps) (length ps) old.pairs new.pairs
  pub warnings : Warned ws old.warnings new.warnings

-- the pairs of connections, and the connections of junctions
abbrev pub pairs_of : List Connection → List Pair
pairs_of cs = gather (λ c. c.pairs) cs

abbrev pub connections_of : List Junction → List Connection
connections_of js = gather (λ j. j.connections) js

-- these connections with their pairs, and these warnings
pub record ConnectionsRead (cs : List Connection) (ws : List ReadWarning) (old new : ConnectionOuts) : Type 0 where
  pub rows : Run 7 (rows_from connection_row (λ c. c.pairs) old.rest.pairs.rows cs) (length cs)
      old.connections new.connections
  pub rest : LinksRead (pairs_of cs) ws old.rest new.rest

-- these junctions with their connections and pairs, and these warnings
pub record JunctionsRead (js : List Junction) (ws : List ReadWarning) (old new : JunctionOuts) : Type 0 where
  pub rows : Run 5 (rows_from junction_row (λ j. j.connections) old.rest.connections.rows js) (length js)
      old.junctions new.junctions
  pub rest : ConnectionsRead (connections_of js) ws old.rest new.rest

-- ---- 1, 2 and 5, as the code tests them
abbrev pub sizes : RawTables → Bool
sizes t =
    raw_sized t.text 8 (length t.junctions) && sized 14 16384 (length t.connections)
    && sized 4 16384 (length t.lane_links)

abbrev pub named : RawTables → Bool
named t =
    rows_named t.text 8 3 t.junctions && rows_named t.text 14 6 t.connections
    && rows_named t.text 4 2 t.lane_links

abbrev pub parted : RawTables → Bool
parted t =
    parts_fit 6 7 0 (length t.connections / 14) (table 8 t.junctions)
    && parts_fit 12 13 0 (length t.lane_links / 4) (table 14 t.connections)

-- what 1 and 5 say of the raw tables
pub record Ready (junctions connections lane_links : List ℕ) : Type 0 where
  pub few_junctions : length junctions / 8 ≤ 16384
  pub few_connections : length connections / 14 ≤ 16384
  pub few_links : length lane_links / 4 ≤ 16384
  pub connection_parts : Fit 8 6 7 junctions (length connections / 14)
  pub link_parts : Fit 14 12 13 connections (length lane_links / 4)

-- no more than the rows before connection c give: c connections, as many pairs as they have lane links, and a
-- warning for each of both
pub record Low (connections : List ℕ) (c n p w : ℕ) : Type 0 where
  pub connections_low : n ≤ c
  pub pairs_low : p ≤ total c (counts 14 13 connections)
  pub warnings_low : w ≤ c + total c (counts 14 13 connections)

-- the same of the rows before junction j: at most j junctions, and what their connections give
pub record Before (junctions connections : List ℕ) (j m n p w : ℕ) : Type 0 where
  pub junctions_low : m ≤ j
  pub low : Low connections (total j (counts 8 7 junctions)) n p w

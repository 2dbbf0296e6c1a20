-- What reversal writes, by row numbers. proofs/ has it as the model's. Definitions only.
use Rattle.std.specs.Prelude.{ℕ, zero, suc, ◌+◌, ◌*◌, ◌-◌, ◌/◌, ◌<◌, ◌≤◌, Bool, true, false, not, cond, List, [], ◌∷◌}
use Rattle.std.specs.Prelude.{◌++◌, ◌≡◌, eqb, Float, length, get_or, take}
use Rattle.std.specs.Float.{nan}
use Rattle.std.proofs.Math.Option.{Option}
use Rattle.geometry.specs.Edges.{ends_at}
use Rattle.geometry.specs.Gap.{start_of, end_of, swapped}
use Rattle.geometry.specs.declared.segment.Point.{Point}
use Rattle.model.specs.Calls.{ReversalOutputs}
use Rattle.model.specs.Lists.{◌⊕◌, bind_o, head_or, last_or, map_o, pick}
use Rattle.model.specs.Records as records
use Rattle.model.specs.Records.{Span, link_at}
use Rattle.model.specs.Reversal as reversal
use Rattle.model.specs.Reversal.{mirror, mirrored, reverse_direction, reverse_target, road_named, signed}
use Rattle.model.specs.Rows.{part, parts_fit, table, word}
use Rattle.model.specs.Tables.{bit, flag, lane_in, lane_row, span_in, target_in, target_words}
use Rattle.words.specs.Fields.{number_read}
use Rattle.words.specs.Name.{place_of}
use Rattle.words.specs.Rows.{from, joined}
use Rattle.rules.specs.ByRow.{numbers_at, road_row_of}
use Rattle.reversal.specs.declared.lanes.Lane.{Lane}

-- row i of a table with w words a row
abbrev pub row : ℕ → List ℕ → ℕ → List ℕ
row w ws i = take w (from w ws i)

-- ---- marks
-- is the road with that row plus 1 marked? 0 is no road
abbrev pub mark_at : List ℕ → ℕ → Bool
mark_at marks zero = false
mark_at marks (suc r) = flag (get_or marks r 0)

-- is the road of that name marked?
unfoldable pub mark_of : (text roads marks : List ℕ) → Span → Bool
mark_of text roads marks n = mark_at marks (road_row_of text roads n)

-- does a target name a marked road?
abbrev pub names_marked : (Span → Bool) → Option records.Target → Bool
names_marked mk t = reversal.marks mk (bind_o t road_named)

-- does the target from word a on?
unfoldable pub target_marked : (text roads marks : List ℕ) → ℕ → Bool
target_marked text roads marks a = names_marked (mark_of text roads marks) (target_in roads a)

-- ---- roads
-- a road's row with those targets
abbrev pub road_with : List ℕ → Option records.Target → Option records.Target → List ℕ
road_with r before after =
    (word r 0 ∷ word r 1 ∷ word r 2 ∷ word r 3 ∷ []) ++ target_words before ++ target_words after
    ++ (word r 18 ∷ word r 19 ∷ [])

-- the road of a row, marked or not
abbrev pub road_turned : (Span → Bool) → List ℕ → Bool → List ℕ
road_turned mk r m =
    road_with r (map_o (reverse_target mk) (target_in r (pick m 4 11)))
    (map_o (reverse_target mk) (target_in r (pick m 11 4)))

-- road i
unfoldable pub reversed_road : (text roads marks : List ℕ) → ℕ → List ℕ
reversed_road text roads marks i =
    road_turned (mark_of text roads marks) (row 20 roads i) (flag (get_or marks i 0))

-- its sections
unfoldable pub turned_sections : (roads sections marks : List ℕ) → ℕ → List ℕ
turned_sections roads sections marks i =
    cond (flag (get_or marks i 0)) (mirrored (numbers_at roads sections i)) (numbers_at roads sections i)

-- ---- connections and pairs
-- a connection's row, where its connecting road is marked or not
abbrev pub connection_turned : List ℕ → Bool → List ℕ
connection_turned r m =
    word r 0 ∷ word r 1 ∷ word r 2 ∷ word r 3 ∷ bit (m ⊕ flag (word r 4)) ∷ word r 5 ∷ word r 6 ∷ []

-- connection i
unfoldable pub reversed_connection : (text roads marks connections : List ℕ) → ℕ → List ℕ
reversed_connection text roads marks ws i =
    connection_turned (row 7 ws i) (mark_of text roads marks (span_in (row 7 ws i) 2))

-- pair p, where the incoming and the connecting road are marked or not
unfoldable pub turned_pair : Bool → Bool → List ℕ → ℕ → List ℕ
turned_pair m n pairs p = signed m (get_or pairs (p * 2) 0) ∷ signed n (get_or pairs (p * 2 + 1) 0) ∷ []

-- the pairs of a connection
unfoldable pub pairs_turned : Bool → Bool → List ℕ → List ℕ
pairs_turned m n pairs = joined (length pairs / 2) (turned_pair m n pairs)

-- those of connection i
unfoldable pub turned_pairs : (text roads marks connections pairs : List ℕ) → ℕ → List ℕ
turned_pairs text roads marks ws pairs i =
    pairs_turned (mark_of text roads marks (span_in (row 7 ws i) 0)) (mark_of text roads marks (span_in (row 7 ws i) 2))
    (part (word (row 7 ws i) 5 * 2) (word (row 7 ws i) 6 * 2) pairs)

-- ---- lanes
-- a lane of the code as the model's
abbrev pub lane_read : Lane → records.Lane
lane_read l = record {
  identity = l.identity;
  road = place_of l.road;
  section = l.section;
  number = l.number;
  direction = l.direction;
  predecessor = number_read l.predecessor;
  successor = number_read l.successor;
}

-- does the link at end e of the road with row r, of a lane in section s, change sign? By the road that the target at
-- that end names where the section is the last that way, and else by the lane's own road
abbrev pub sign_at : (text roads marks : List ℕ) → (s r : ℕ) → Bool → List ℕ → Bool → Bool
sign_at text roads marks s r m ss e =
    cond (eqb s (pick e (head_or 0 ss) (last_or 0 ss))) (target_marked text roads marks (r * 20 + pick e 4 11)) m

-- a lane, on the road with row r, marked or not, of the sections ss
unfoldable pub reversed_on : (text roads marks : List ℕ) → records.Lane → ℕ → Bool → List ℕ → records.Lane
reversed_on text roads marks l r m ss = record {
  identity = l.identity;
  road = l.road;
  section = cond m (mirror ss l.section) l.section;
  number = signed m l.number;
  direction = reverse_direction m l.direction;
  predecessor = map_o (signed (sign_at text roads marks l.section r m ss m)) (link_at m l);
  successor = map_o (signed (sign_at text roads marks l.section r m ss (not m))) (link_at (not m) l);
}

-- lane i
unfoldable pub reversed_lane : (text roads sections marks lanes owner : List ℕ) → ℕ → List ℕ
reversed_lane text roads sections marks lanes owner i =
    lane_row
    (reversed_on text roads marks (lane_in (row 10 lanes i)) (get_or owner i 0 - 1) (mark_at marks (get_or owner i 0))
    (numbers_at roads sections (get_or owner i 0 - 1)))

-- section number s lies between the first and the last of a part
pub record Within (part : List ℕ) (s : ℕ) : Type 0 where
  pub low : head_or 0 part ≤ s
  pub high : s ≤ last_or 0 part

-- lane i's road is known, and its section lies between the first and the last of the road
pub record Kept (roads sections lanes owner : List ℕ) (i : ℕ) : Type 0 where
  pub known : 0 < get_or owner i 0
  pub below : get_or owner i 0 ≤ length roads / 20
  pub within : Within (numbers_at roads sections (get_or owner i 0 - 1)) (get_or lanes (i * 10 + 3) 0)

-- ---- edges
abbrev pub point_floats : Point → List Float
point_floats p = p.x ∷ p.y ∷ p.z ∷ []

-- a point that is not there
abbrev pub nowhere : Point
nowhere = record { x = nan; y = nan; z = nan }

abbrev pub end_floats : List Point → List Float
end_floats ps = point_floats (get_or ps 0 nowhere) ++ point_floats (get_or ps 1 nowhere)

-- the twelve floats of two ends
unfoldable pub floats_of : List (List Point) → List Float
floats_of ends = end_floats (start_of ends) ++ end_floats (end_of ends)

unfoldable pub turned_edges : (owner marks : List ℕ) → List Float → ℕ → List Float
turned_edges owner marks edges i =
    floats_of (cond (mark_at marks (get_or owner i 0)) (swapped (ends_at edges i)) (ends_at edges i))

-- ---- all six
-- WHAT REVERSAL WRITES, row by row
unfoldable pub reversed_tables : (text roads sections connections pairs lanes : List ℕ) → List Float
    → (marks owner : List ℕ) → ReversalOutputs
reversed_tables text roads sections connections pairs lanes edges marks owner = record {
  roads = joined (length roads / 20) (reversed_road text roads marks);
  sections = joined (length roads / 20) (turned_sections roads sections marks);
  connections = joined (length connections / 7) (reversed_connection text roads marks connections);
  pairs = joined (length connections / 7) (turned_pairs text roads marks connections pairs);
  lanes = joined (length lanes / 10) (reversed_lane text roads sections marks lanes owner);
  edges = joined (length edges / 12) (turned_edges owner marks edges);
}

-- ---- what the writers ask
-- of the pairs: those of each connection are in their place
pub record ReadyPairs (connections pairs out : List ℕ) : Type 0 where
  pub parts : parts_fit 5 6 0 (length pairs / 2) (table 7 connections) ≡ true
  pub room : length pairs ≤ length out

-- each output is as long as the table whose rows it gets
pub record Room (tables outs : ReversalOutputs) : Type 0 where
  pub roads : length tables.roads ≤ length outs.roads
  pub sections : length tables.sections ≤ length outs.sections
  pub connections : length tables.connections ≤ length outs.connections
  pub pairs : length tables.pairs ≤ length outs.pairs
  pub lanes : length tables.lanes ≤ length outs.lanes
  pub edges : length tables.edges ≤ length outs.edges

-- Succession over rows: the model's functions where every name is a row plus 1, and 0 where nothing bears it.
-- Definitions only.
use Rattle.std.specs.Prelude.{ℕ, zero, suc, ◌+◌, ◌*◌, ◌/◌, ◌<◌, ◌≤◌, ◌≡◌, Bool, true, false, not, cond, List, [], ◌∷◌}
use Rattle.std.specs.Prelude.{◌++◌, eqb, length, get_or, take, Option as Found, Some, None}
use Rattle.std.proofs.Math.Option.{Option, none, some}
use Rattle.geometry.specs.declared.gap.Direction.{Direction}
use Rattle.geometry.specs.declared.gap.Direction.TheVariants.{Forward, Backward, Both}
use Rattle.model.specs.Lists.{list_o, pick}
use Rattle.model.specs.Records.{Lane, Target}
use Rattle.model.specs.Rows.{parts_fit, table, written}
use Rattle.model.specs.Succession.{Entry, end_section, is_both, next_section}
use Rattle.model.specs.Tables.{direction_of, flag, lane_in, link_of, target_in}
use Rattle.words.specs.Keys.{is_key}
use Rattle.words.specs.Rows.{from, joined, last_of}
use Rattle.rules.specs.ByRow.{numbers_at}
use Rattle.succession.specs.Runs.{Rising, absorb}

-- The tables of words, and the rows (plus 1) that their names mean: of each lane's road, of each connection's
-- two roads, of each road's two targets.
pub record Rows : Type 0 where
  pub roads : List ℕ
  pub sections : List ℕ
  pub junctions : List ℕ
  pub connections : List ℕ
  pub pairs : List ℕ
  pub lanes : List ℕ
  pub owner : List ℕ
  pub sides : List ℕ
  pub ends : List ℕ

abbrev pub rows_of : List ℕ → List ℕ → List ℕ → List ℕ → List ℕ → List ℕ → List ℕ → List ℕ → List ℕ → Rows
rows_of roads sections junctions connections pairs lanes owner sides ends = record {
  roads = roads;
  sections = sections;
  junctions = junctions;
  connections = connections;
  pairs = pairs;
  lanes = lanes;
  owner = owner;
  sides = sides;
  ends = ends;
}

-- f first, f (first + 1), .. joined: n of them
abbrev pub ranged : {A : Type 0} → ℕ → ℕ → (ℕ → List A) → List A
ranged first n f = joined n (λ i. f (first + i))

-- the lane of row r
unfoldable pub lane_at : List ℕ → ℕ → Lane
lane_at lanes r = lane_in (from 10 lanes r)

-- the lane of a row plus 1, entered at end e; nothing for 0
abbrev pub one_at : List ℕ → ℕ → Bool → List Entry
one_at lanes zero e = []
one_at lanes (suc r) e = record { lane = lane_at lanes r; contact = e } ∷ []

-- ---- lanes by road, section and number
unfoldable pub lane_row_of : List ℕ → List ℕ → ℕ → ℕ → ℕ → ℕ
lane_row_of lanes owner w s k = last_of (length lanes / 10) (is_key lanes owner w s k)

-- ---- sections
abbrev pub sections_by_row : List ℕ → List ℕ → ℕ → List ℕ
sections_by_row roads sections zero = []
sections_by_row roads sections (suc r) = numbers_at roads sections r

-- a section of the code as the model's
abbrev pub section_of : Found ℕ → Option ℕ
section_of (Some s) = some s
section_of None = none

-- ---- the model's functions
unfoldable pub lookup_by_row : Rows → ℕ → Bool → ℕ → List Entry
lookup_by_row R w e k =
    one_at R.lanes
    (lane_row_of R.lanes R.owner w (end_section (sections_by_row R.roads R.sections w) e) k) e

-- what pair p leads lane number k to, in that section of that road
unfoldable pub pair_entry : List ℕ → List ℕ → List ℕ → ℕ → ℕ → Bool → ℕ → ℕ → List Entry
pair_entry pairs lanes owner w s e k p =
    cond (eqb (get_or pairs (p * 2) 0) k) (one_at lanes (lane_row_of lanes owner w s (get_or pairs (p * 2 + 1) 0)) e)
    []

abbrev pub pair_by_row : Rows → ℕ → ℕ → ℕ → List Entry
pair_by_row R c k p = pair_entry R.pairs R.lanes R.owner (get_or R.sides (c * 2 + 1) 0)
    (end_section (sections_by_row R.roads R.sections (get_or R.sides (c * 2 + 1) 0))
    (flag (get_or R.connections (c * 7 + 4) 0)))
    (flag (get_or R.connections (c * 7 + 4) 0)) k p

unfoldable pub pairs_by_row : Rows → ℕ → ℕ → List Entry
pairs_by_row R c k =
    ranged (get_or R.connections (c * 7 + 5) 0) (get_or R.connections (c * 7 + 6) 0) (pair_by_row R c k)

unfoldable pub connection_by_row : Rows → ℕ → ℕ → ℕ → List Entry
connection_by_row R w k c = cond (eqb (get_or R.sides (c * 2) 0) w) (pairs_by_row R c k) []

unfoldable pub junction_by_row : Rows → ℕ → ℕ → ℕ → List Entry
junction_by_row R j w k =
    ranged (get_or R.junctions (j * 5 + 3) 0) (get_or R.junctions (j * 5 + 4) 0) (connection_by_row R w k)

abbrev pub junction_at_row : Rows → ℕ → ℕ → ℕ → List Entry
junction_at_row R zero w k = []
junction_at_row R (suc j) w k = junction_by_row R j w k

-- the link from word at of the lanes on, and lane l's at an end of its road
abbrev pub link_from : List ℕ → ℕ → Option ℕ
link_from lanes at = link_of (get_or lanes at 0) (get_or lanes (at + 1) 0)

abbrev pub link_by_row : List ℕ → ℕ → Bool → Option ℕ
link_by_row lanes l e = pick e (link_from lanes (l * 10 + 8)) (link_from lanes (l * 10 + 6))

-- what a target, which names row `to`, leads lane l, with link o there, into
abbrev pub cross_at_row : Rows → ℕ → ℕ → Option ℕ → Target → List Entry
cross_at_row R l to o t = cond t.is_junction
    (junction_at_row R to (get_or R.owner l 0) (get_or R.lanes (l * 10 + 4) 0))
    (list_o o (lookup_by_row R to t.contact))

-- past the target from word at on, which names row `to`, of lane l with link o there
unfoldable pub cross_by_row : Rows → ℕ → ℕ → ℕ → Option ℕ → List Entry
cross_by_row R l at to o = list_o (target_in R.roads at) (cross_at_row R l to o)

-- the lane in another section of lane l's road, by link o
unfoldable pub step_by_row : List ℕ → List ℕ → ℕ → ℕ → Option ℕ → Bool → List Entry
step_by_row lanes owner l s o e = list_o o (λ k. one_at lanes (lane_row_of lanes owner (get_or owner l 0) s k) e)

abbrev pub exits_from_row : Rows → ℕ → ℕ → Bool → Option ℕ → Option ℕ → List Entry
exits_from_row R l r e o (some s) = step_by_row R.lanes R.owner l s o (not e)
exits_from_row R l r e o none =
    cross_by_row R l (pick e (r * 20 + 4) (r * 20 + 11))
    (pick e (get_or R.ends (r * 2) 0) (get_or R.ends (r * 2 + 1) 0)) o

abbrev pub exits_at_row : Rows → ℕ → Bool → ℕ → List Entry
exits_at_row R l e zero = []
exits_at_row R l e (suc r) =
    exits_from_row R l r e (link_by_row R.lanes l e)
    (next_section (numbers_at R.roads R.sections r) (get_or R.lanes (l * 10 + 3) 0) e)

unfoldable pub exits_by_row : Rows → ℕ → Bool → List Entry
exits_by_row R l e = exits_at_row R l e (get_or R.owner l 0)

-- the direction of lane l
abbrev pub direction_at : List ℕ → ℕ → Direction
direction_at lanes l = direction_of (get_or lanes (l * 10 + 5) 0)

abbrev pub own_exits_from_row : Rows → ℕ → Direction → List Entry
own_exits_from_row R l Forward = exits_by_row R l true
own_exits_from_row R l Backward = exits_by_row R l false
own_exits_from_row R l Both = exits_by_row R l true ++ exits_by_row R l false

unfoldable pub own_exits_by_row : Rows → ℕ → List Entry
own_exits_by_row R l = own_exits_from_row R l (direction_at R.lanes l)

-- taken in one by one: from a two-way lane each once, and only what runs away from the joint
unfoldable pub successors_by_row : Rows → ℕ → List ℕ
successors_by_row R l = absorb (is_both (direction_at R.lanes l)) [] (own_exits_by_row R l)

-- ---- what the functions ask and answer
-- the entries taken in one by one, after the n words of the run
pub record Took (both : Bool) (n : ℕ) (es : List Entry) (old new : List ℕ) (r : ℕ) : Type 0 where
  pub list : new ≡ written (absorb both (take n old) es) old
  pub size : r ≡ length (absorb both (take n old) es)

pub record Room (n : ℕ) (es : List Entry) (old : List ℕ) : Type 0 where
  pub rising : Rising (take n old)
  pub fits : n + length es ≤ length old

-- rows and parts lie in their tables, and sections ascend
pub record Sound (R : Rows) : Type 0 where
  pub few_roads : length R.roads / 20 ≤ 16384
  pub owner_low : (l : ℕ) → l < length R.lanes / 10 → 0 < get_or R.owner l 0
  pub owner_high : (l : ℕ) → l < length R.lanes / 10 → get_or R.owner l 0 ≤ length R.roads / 20
  pub sides_long : length R.connections / 7 * 2 ≤ length R.sides
  pub sides_high : (c : ℕ) → c < length R.connections / 7 → get_or R.sides (c * 2 + 1) 0 ≤ length R.roads / 20
  pub ends_long : length R.roads / 20 * 2 ≤ length R.ends
  pub start_roads : (r : ℕ) → r < length R.roads / 20 → flag (get_or R.roads (r * 20 + 4 + 1) 0) ≡ false
      → get_or R.ends (r * 2) 0 ≤ length R.roads / 20
  pub start_junctions : (r : ℕ) → r < length R.roads / 20 → flag (get_or R.roads (r * 20 + 4 + 1) 0) ≡ true
      → get_or R.ends (r * 2) 0 ≤ length R.junctions / 5
  pub end_roads : (r : ℕ) → r < length R.roads / 20 → flag (get_or R.roads (r * 20 + 11 + 1) 0) ≡ false
      → get_or R.ends (r * 2 + 1) 0 ≤ length R.roads / 20
  pub end_junctions : (r : ℕ) → r < length R.roads / 20 → flag (get_or R.roads (r * 20 + 11 + 1) 0) ≡ true
      → get_or R.ends (r * 2 + 1) 0 ≤ length R.junctions / 5
  pub section_parts : parts_fit 18 19 0 (length R.sections) (table 20 R.roads) ≡ true
  pub rising : (r : ℕ) → r < length R.roads / 20 → Rising (numbers_at R.roads R.sections r)
  pub connection_parts : (j : ℕ) → j < length R.junctions / 5
      → get_or R.junctions (j * 5 + 3) 0 + get_or R.junctions (j * 5 + 4) 0 ≤ length R.connections / 7
  pub pair_parts : (c : ℕ) → c < length R.connections / 7
      → get_or R.connections (c * 7 + 5) 0 + get_or R.connections (c * 7 + 6) 0 ≤ length R.pairs / 2

-- lane l's own list written from the run's first word on
pub record Resolved (R : Rows) (l : ℕ) (old new : List ℕ) (q : ℕ) : Type 0 where
  pub list : new ≡ written (successors_by_row R l) old
  pub size : q ≡ length (successors_by_row R l)

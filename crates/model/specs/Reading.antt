-- "Attribute reading": lane numbers, targets, a lane's links, and junctions with their connections, pairs and
-- warnings, from attributes as a file has them. Definitions only.
use Rattle.std.specs.Prelude.{Bool, false, not, ◌&&◌, ◌||◌, cond, List, [], ◌∷◌, ◌++◌, map, ℕ, zero, suc, ◌+◌, ◌*◌, ◌-◌}
use Rattle.std.specs.Prelude.{◌/◌, ◌%◌, eqb, leb, length, take, drop}
use Rattle.std.proofs.Math.Option.{Option, none, some}
use Rattle.model.specs.Lists.{pick, is_some, map_o, bind_o, list_o, gather}
use Rattle.model.specs.Records.{Span, Target, JunctionKind, common, direct, virtual, Pair, Connection, Junction}
use Rattle.model.specs.Text.{equal_bytes, bytes_of, same_in}
use Rattle.model.specs.Rows.{word}
use Rattle.model.specs.Tables.{flag, name_in, link_words, no_row}
use Rattle.model.specs.Repair.{is_virtual}
use Rattle.model.specs.Reversal.{negated}
use Rattle.model.specs.Rules.{is_direct}

-- ---- "A lane number is text that Rust's `parse::<i32>` takes"
-- is a byte a digit? 48 is "0", 57 is "9"
abbrev pub is_digit : ℕ → Bool
is_digit b = leb 48 b && leb b 57

-- the number that digits mean, after digits that mean v; none where a byte is no digit
abbrev pub digits_from : ℕ → List ℕ → Option ℕ
digits_from v [] = some v
digits_from v (b ∷ bs) = cond (is_digit b) (digits_from (v * 10 + (b - 48)) bs) none

-- "one or more digits"
abbrev pub digits : List ℕ → Option ℕ
digits [] = none
digits (b ∷ bs) = digits_from 0 (b ∷ bs)

-- a number, if it is at most that
abbrev pub up_to : ℕ → Option ℕ → Option ℕ
up_to most none = none
up_to most (some v) = cond (leb v most) (some v) none

-- "an optional + or -, then one or more digits, within -2,147,483,648 to 2,147,483,647; else none": its word.
-- 43 is "+", 45 is "-"
unfoldable pub lane_number : List ℕ → Option ℕ
lane_number [] = none
lane_number (b ∷ bs) = cond (eqb b 45) (map_o negated (up_to 2147483648 (digits bs)))
    (cond (eqb b 43) (up_to 2147483647 (digits bs)) (up_to 2147483647 (digits (b ∷ bs))))

-- ---- attributes: names that may be absent
-- "start", "end", "junction", "direct", "virtual"
abbrev pub start_text : List ℕ
start_text = 115 ∷ 116 ∷ 97 ∷ 114 ∷ 116 ∷ []

abbrev pub end_text : List ℕ
end_text = 101 ∷ 110 ∷ 100 ∷ []

abbrev pub junction_text : List ℕ
junction_text = 106 ∷ 117 ∷ 110 ∷ 99 ∷ 116 ∷ 105 ∷ 111 ∷ 110 ∷ []

abbrev pub direct_text : List ℕ
direct_text = 100 ∷ 105 ∷ 114 ∷ 101 ∷ 99 ∷ 116 ∷ []

abbrev pub virtual_text : List ℕ
virtual_text = 118 ∷ 105 ∷ 114 ∷ 116 ∷ 117 ∷ 97 ∷ 108 ∷ []

-- what a contactPoint says: the contact, false being start; whether it is given; whether it is spelled loosely
pub record ContactPoint : Type 0 where
  pub contact : Bool
  pub given : Bool
  pub loose : Bool

module _ (text : List ℕ) where
  -- is the attribute there, and has it just these bytes?
  abbrev pub reads : List ℕ → Option Span → Bool
  reads bytes none = false
  reads bytes (some n) = equal_bytes (bytes_of text n) bytes

  -- are two attributes there, and equal?
  abbrev pub same_names : Option Span → Option Span → Bool
  same_names none b = false
  same_names (some a) none = false
  same_names (some a) (some b) = same_in text a b

  -- an attribute's lane number; none where it is absent
  abbrev pub number_of : Option Span → Option ℕ
  number_of none = none
  number_of (some n) = lane_number (bytes_of text n)

  -- a junction's kind, by its type
  abbrev pub kind_read : Option Span → JunctionKind
  kind_read o = cond (reads direct_text o) direct (cond (reads virtual_text o) virtual common)

  -- "OpenDRIVE knows "start" and "end" only"
  abbrev pub is_spelled : Option Span → Bool
  is_spelled o = reads start_text o || reads end_text o

  -- "A contact is given only with those two spellings; any other reads as start, isn't given": a loose one
  abbrev pub contact_of : Option Span → ContactPoint
  contact_of o = record { contact = reads end_text o; given = is_spelled o; loose = is_some o && not (is_spelled o) }

  -- "Raw target: element flag and elementType, elementId, contactPoint, elementS"; flag 0 and "absent elementId
  -- gives no target"
  unfoldable pub read_target : List ℕ → Option Target
  read_target r = cond (flag (word r 0)) (map_o (λ n. record {
    is_junction = reads junction_text (name_in r 1);
    name = n;
    contact = (contact_of (name_in r 5)).contact;
    given = (contact_of (name_in r 5)).given;
    along = is_some (name_in r 7);
  }) (name_in r 3)) none

  -- "Raw lane: predecessor id, successor id (4), giving a flag and number each"
  unfoldable pub read_lane : List ℕ → List ℕ
  read_lane r = link_words (number_of (name_in r 0)) ++ link_words (number_of (name_in r 2))

-- ---- rows and warnings
-- row k of a table with w words a row
abbrev pub row_at : ℕ → List ℕ → ℕ → List ℕ
row_at w ws k = take w (drop (k * w) ws)

-- the rows of a part, by number
abbrev pub part_rows : ℕ → ℕ → List ℕ
part_rows first zero = []
part_rows first (suc count) = first ∷ part_rows (suc first) count

-- "Warnings, 4 words: 1, raw junction row, connection row, 0; or 2, junction row, connection row, lane link row"; and
-- "warning row 4 with raw junction row or 4,294,967,295, raw connection or road row, 0 for a predecessor or
-- connection and 1 for a successor"
pub data ReadWarning : Type 0 where
  connection_dropped : (junction connection : ℕ) → ReadWarning
  lane_link_dropped : (junction connection lane_link : ℕ) → ReadWarning
  connection_loose : (junction connection : ℕ) → ReadWarning
  target_loose : (road end : ℕ) → ReadWarning

abbrev pub read_warning_row : ReadWarning → List ℕ
read_warning_row (connection_dropped j c) = 1 ∷ j ∷ c ∷ 0 ∷ []
read_warning_row (lane_link_dropped j c l) = 2 ∷ j ∷ c ∷ l ∷ []
read_warning_row (connection_loose j c) = 4 ∷ j ∷ c ∷ 0 ∷ []
read_warning_row (target_loose r e) = 4 ∷ no_row ∷ r ∷ e ∷ []

module _ (text raw : List ℕ) where
  -- is the target of raw row i kept, and its contactPoint spelled loosely?
  unfoldable pub loose_target : ℕ → Bool
  loose_target i = is_some (read_target text (row_at 9 raw i)) && (contact_of text (name_in (row_at 9 raw i) 5)).loose

  -- warning 4, for such a target: "Raw targets stand two to a road, predecessor first"
  abbrev pub target_warnings_at : ℕ → List ReadWarning
  target_warnings_at i = cond (loose_target i) (target_loose (i / 2) (i % 2) ∷ []) []

  -- THE WARNINGS OF TARGETS, "in that order"
  unfoldable pub target_warnings : List ReadWarning
  target_warnings = gather target_warnings_at (part_rows 0 (length raw / 9))

-- ---- junctions
-- the raw tables as lent
pub record RawTables : Type 0 where
  pub text : List ℕ
  pub junctions : List ℕ
  pub connections : List ℕ
  pub lane_links : List ℕ

-- the value, or nothing, as a list
abbrev pub to_list : {A : Type 0} → Option A → List A
to_list o = list_o o (λ a. a ∷ [])

-- two numbers as a pair, if both are there
abbrev pub pair_of : Option ℕ → Option ℕ → Option Pair
pair_of none b = none
pair_of (some a) none = none
pair_of (some a) (some b) = some (record { from = a; to = b })

module _ (t : RawTables) where
  -- "Raw junction: id, type, mainRoad, connection part (8 words)"
  abbrev pub raw_junction : ℕ → List ℕ
  raw_junction j = row_at 8 t.junctions j

  -- "Raw connection: id, type, incomingRoad, connectingRoad, linkedRoad, contactPoint, lane link part (14)"
  abbrev pub raw_connection : ℕ → List ℕ
  raw_connection c = row_at 14 t.connections c

  -- "Raw lane link: from, to (4)"
  abbrev pub raw_lane_link : ℕ → List ℕ
  raw_lane_link l = row_at 4 t.lane_links l

  -- the connections of a junction, and the lane links of a connection, by row
  abbrev pub connections_at : ℕ → List ℕ
  connections_at j = part_rows (word (raw_junction j) 6) (word (raw_junction j) 7)

  abbrev pub lane_links_at : ℕ → List ℕ
  lane_links_at c = part_rows (word (raw_connection c) 12) (word (raw_connection c) 13)

  -- a junction's kind
  abbrev pub kind_at : ℕ → JunctionKind
  kind_at j = kind_read t.text (name_in (raw_junction j) 2)

  -- the pair of a lane link; none where it has not two numbers
  unfoldable pub read_pair : ℕ → Option Pair
  read_pair l =
      pair_of (number_of t.text (name_in (raw_lane_link l) 0)) (number_of t.text (name_in (raw_lane_link l) 2))

  -- is connection c of junction j passed over? `is_virtual && (c.attribute("type") == Some("virtual") ||
  -- from_main)` of `junctions`
  unfoldable pub passed_over : (j c : ℕ) → Bool
  passed_over j c = is_virtual (kind_at j)
      && (reads t.text virtual_text (name_in (raw_connection c) 2) || same_names t.text
      (name_in (raw_connection c) 4) (name_in (raw_junction j) 4))

  -- its connecting road: linkedRoad in a direct junction, connectingRoad in any other
  unfoldable pub leads_into : (j c : ℕ) → Option Span
  leads_into j c = pick (is_direct (kind_at j)) (name_in (raw_connection c) 6) (name_in (raw_connection c) 8)

  -- what its contactPoint says
  abbrev pub contact_at : ℕ → ContactPoint
  contact_at c = contact_of t.text (name_in (raw_connection c) 10)

  -- it, if its incoming and its connecting road are there, with the pairs of its lane links
  unfoldable pub read_connection : (j c : ℕ) → Option Connection
  read_connection j c = bind_o (name_in (raw_connection c) 4) λ incoming. map_o (λ connecting. record {
    incoming = incoming;
    connecting = connecting;
    contact = (contact_at c).contact;
    pairs = gather (λ l. to_list (read_pair l)) (lane_links_at c);
  }) (leads_into j c)

  -- what it adds to its junction
  unfoldable pub kept_connections : (j c : ℕ) → List Connection
  kept_connections j c = cond (passed_over j c) [] (to_list (read_connection j c))

  -- warning 2, for a lane link without two numbers
  abbrev pub lane_link_warnings : (j c l : ℕ) → List ReadWarning
  lane_link_warnings j c l = cond (is_some (read_pair l)) [] (lane_link_dropped j c l ∷ [])

  -- warning 4, for a connection whose contactPoint is spelled loosely
  abbrev pub contact_warnings : (j c : ℕ) → List ReadWarning
  contact_warnings j c = cond (contact_at c).loose (connection_loose j c ∷ []) []

  -- its warnings: 1 where a road is absent; where it is kept 4, "ahead of that connection's lane link warnings"
  unfoldable pub connection_warnings : (j c : ℕ) → List ReadWarning
  connection_warnings j c =
      cond (passed_over j c) [] (cond (is_some (read_connection j c))
      (contact_warnings j c ++ gather (lane_link_warnings j c) (lane_links_at c)) (connection_dropped j c ∷ []))

  -- "a junction without id gives no row and one warning for each connection"
  unfoldable pub read_junction : ℕ → Option Junction
  read_junction j =
      map_o (λ n. record { name = n; kind = kind_at j; connections = gather (kept_connections j) (connections_at j) })
      (name_in (raw_junction j) 0)

  unfoldable pub junction_warnings : ℕ → List ReadWarning
  junction_warnings j =
      cond (is_some (name_in (raw_junction j) 0)) (gather (connection_warnings j) (connections_at j))
      (map (connection_dropped j) (connections_at j))

  -- the rows of the raw junctions
  abbrev pub junction_rows : List ℕ
  junction_rows = part_rows 0 (length t.junctions / 8)

  -- THE JUNCTIONS READ, and the warnings, in row order
  unfoldable pub read_junctions : List Junction
  read_junctions = gather (λ j. to_list (read_junction j)) junction_rows

  unfoldable pub read_warnings : List ReadWarning
  read_warnings = gather junction_warnings junction_rows

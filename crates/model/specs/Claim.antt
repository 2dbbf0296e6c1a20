-- The claim about a sequence of reversals, demand 3, as one statement. Definitions only.
use Rattle.std.specs.Prelude.{◌≡◌, Bool, true, List, [], ◌∷◌, map, ℕ, ◌<◌, ◌/◌, eqb, length, take, get_or}
use Rattle.std.proofs.Math.Option.{Option, none, some}
use Rattle.model.specs.Lists.{count, member}
use Rattle.model.specs.Rows.{table, word}
use Rattle.model.specs.Tables.{Tables, lane_width}
use Rattle.model.specs.Lookup.{lists_in}
use Rattle.model.specs.Rules.{fits}
use Rattle.model.specs.Calls.{Answer, refused, wrote, warning_width, ListOutputs, ReversalOutputs}
use Rattle.model.specs.Calls.{repair_content, repair_refusal, list_content, gap_content, reversal_lengths}
use Rattle.model.specs.Calls.{reversal_content, reversal_call}
use Rattle.model.specs.Sequence.{Call, after, run, answers, empty_set, toggled_mark, reversed_by, set_after}
use Rattle.model.specs.Sequence.{answers_by_set, is_accepted, any_accepted, odd_marks, Buffers, Found, no_repair}
use Rattle.model.specs.Sequence.{no_lists, lists, found}

-- the tables with what repair writes in place of what it read
unfoldable pub repaired_tables : Tables → Tables
repaired_tables t = record {
  text = t.text;
  roads = (repair_content t).roads;
  sections = t.sections;
  junctions = (repair_content t).junctions;
  connections = (repair_content t).connections;
  pairs = (repair_content t).pairs;
  lanes = t.lanes;
  edges = t.edges;
}

-- the rows that an accepted succession wrote
unfoldable pub list_rows : List ℕ → ListOutputs → ListOutputs
list_rows counts o = record {
  successor_offsets = take (word counts 0) o.successor_offsets;
  successor_ids = take (word counts 1) o.successor_ids;
  predecessor_offsets = take (word counts 2) o.predecessor_offsets;
  predecessor_ids = take (word counts 3) o.predecessor_ids;
}

-- the lists of a succession; none where it was refused
abbrev pub written_lists : Answer → ListOutputs → Option ListOutputs
written_lists (refused k) o = none
written_lists (wrote counts) o = some (list_rows counts o)

-- the lists that are found; none where repair or succession was refused
abbrev pub found_lists : Found → Option ListOutputs
found_lists (no_repair k) = none
found_lists (no_lists counts k) = none
found_lists (lists counts succession gaps) = written_lists succession.answer succession.outs

-- a lane row's identity
abbrev pub identity_at : List ℕ → ℕ → ℕ
identity_at lanes i = word (get_or (table lane_width lanes) i []) 0

-- is its direction both?
abbrev pub is_two_way : List ℕ → ℕ → Bool
is_two_way lanes i = eqb (word (get_or (table lane_width lanes) i []) 5) 2

-- its list in packed lists
abbrev pub list_at : List ℕ → List ℕ → ℕ → List ℕ
list_at offsets ids i = get_or (lists_in offsets ids) i []

-- The lanes before are the lanes onward read the other way, as often. Of two two-way lanes each lists the other
-- or neither does.
pub record Mutual (lanes : List ℕ) (l : ListOutputs) : Type 0 where
  pub converse : (i j : ℕ) → i < length lanes / lane_width → j < length lanes / lane_width →
      count (identity_at lanes j) (list_at l.successor_offsets l.successor_ids i)
      ≡ count (identity_at lanes i) (list_at l.predecessor_offsets l.predecessor_ids j)
  pub two_way : (i j : ℕ) → i < length lanes / lane_width → j < length lanes / lane_width
      → is_two_way lanes i ≡ true → is_two_way lanes j ≡ true →
      member (identity_at lanes j) (list_at l.successor_offsets l.successor_ids i)
      ≡ member (identity_at lanes i) (list_at l.successor_offsets l.successor_ids j)

-- a warning row with the end turned where its road is in the set
unfoldable pub reversed_warning : List ℕ → List ℕ → List ℕ
reversed_warning set r = word r 0 ∷ word r 1 ∷ word r 2 ∷ toggled_mark (word r 3) (word set (word r 2)) ∷ []

module _ (t : Tables) (cs : List Call) where
  -- the set of roads after the sequence
  abbrev pub the_set : List ℕ
  the_set = set_after t (empty_set t) cs

  -- THE CLAIM, on any tables and any sequence of reversals, refused ones included, with outputs of any content
  -- and length
  pub record Claim : Type 0 where
    -- each call answers as the reversal of the first map reversed by the set so far
    pub said : answers t cs ≡ answers_by_set t (empty_set t) cs
    -- the tables are the first ones reversed once by the set; an empty set changes nothing
    pub tables : run t cs ≡ reversed_by the_set t
    -- the set is the roads chosen an odd number of times in the accepted calls
    pub odd : the_set ≡ odd_marks (empty_set t) (answers t cs) cs
    -- if any call was accepted, so is one reversal by the set, outputs long enough, and it leaves the same tables
    pub at_once : any_accepted (answers t cs) ≡ true → (outs : ReversalOutputs)
        → fits (reversal_lengths (reversal_content t the_set)) (reversal_lengths outs) ≡ true →
        (is_accepted (reversal_call t the_set outs).answer ≡ true)
        × (after t (record { marks = the_set; outs = outs }) ≡ run t cs)
    -- repair answers alike, and its warnings differ only in the end of a road of the set
    pub repairs : (lengths : List ℕ) → repair_refusal (run t cs) lengths ≡ repair_refusal t lengths
    pub warned : table warning_width (repair_content (run t cs)).warnings
        ≡ map (reversed_warning the_set) (table warning_width (repair_content t).warnings)
    -- repair, succession and the gap check, with whatever outputs, give the same answers, lists and gap rows
    pub alike : (q : Buffers) → found q (run t cs) ≡ found q t
    -- the lists and the gap rows themselves, places included, whatever outputs they are written to
    pub same_lists : list_content (repaired_tables (run t cs)) ≡ list_content (repaired_tables t)
    pub same_gaps : (offsets ids : List ℕ)
        → gap_content (repaired_tables (run t cs)) offsets ids ≡ gap_content (repaired_tables t) offsets ids
    -- and the lists that are found are each other's converse
    pub converse : (q : Buffers) (l : ListOutputs) → found_lists (found q (run t cs)) ≡ some l →
        Mutual (run t cs).lanes l

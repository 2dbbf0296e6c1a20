-- The maps of the bench cards, by their records, and their tables. The text is "abcjk": roads a, b and c, and
-- junctions j and k.
use mathlib.Core.Bool.{Bool, true, false}
use mathlib.Core.Option.{Option, none, some}
use mathlib.Core.List.{List, [], ◌∷◌, map}
use Prim.Native.Nat.{ℕ}
use lib.Ieee.{Float, binary32, of_bits}
use Rattle.geometry.specs.declared.gap.Direction.{Direction}
use Rattle.geometry.specs.declared.gap.Direction.TheVariants.{Both, Forward}
use Rattle.model.specs.Records.{Connection, EdgedLane, Junction, JunctionKind, Lane, Map, Pair, Road}
use Rattle.model.specs.Records.{Span, Target, common}
use Rattle.model.specs.Tables.{Tables, tables_of}

abbrev pub text : List ℕ
text = 97 ∷ 98 ∷ 99 ∷ 106 ∷ 107 ∷ []

abbrev pub a : Span
a = record { start = 0; size = 1 }

abbrev pub b : Span
b = record { start = 1; size = 1 }

abbrev pub c : Span
c = record { start = 2; size = 1 }

abbrev pub j : Span
j = record { start = 3; size = 1 }

abbrev pub k : Span
k = record { start = 4; size = 1 }

-- lane number -1
abbrev pub minus1 : ℕ
minus1 = 4294967295

abbrev pub to_road : Span → Bool → Option Target
to_road n contact = some (record { is_junction = false; name = n; contact = contact; given = true; along = false })

abbrev pub to_junction : Span → Option Target
to_junction n = some (record { is_junction = true; name = n; contact = false; given = true; along = false })

-- junction j, with a contact
abbrev pub j_at : Bool → Option Target
j_at contact = some (record { is_junction = true; name = j; contact = contact; given = true; along = false })

abbrev pub road : Span → Option Target → Option Target → List ℕ → Road
road n before after sections =
    record { name = n; junction = none; predecessor = before; successor = after; sections = sections }

-- a lane with a link onward and none back
abbrev pub lane : ℕ → Span → ℕ → ℕ → Direction → Option ℕ → Lane
lane identity n section number direction link = record {
  identity = identity;
  road = n;
  section = section;
  number = number;
  direction = direction;
  predecessor = none;
  successor = link;
}

abbrev pub pair : ℕ → ℕ → Pair
pair from to = record { from = from; to = to }

abbrev pub connection : Span → Span → Bool → List Pair → Connection
connection incoming connecting contact pairs =
    record { incoming = incoming; connecting = connecting; contact = contact; pairs = pairs }

abbrev pub junction : JunctionKind → List Connection → Junction
junction kind connections = record { name = j; kind = kind; connections = connections }

-- ---- a lane's edges: every end at one point (x, 0, 0)
abbrev pub bits : ℕ → Float
bits n = of_bits binary32 n

abbrev pub end_at : ℕ → List Float
end_at x = bits x ∷ bits 0 ∷ bits 0 ∷ bits x ∷ bits 0 ∷ bits 0 ∷ []

abbrev pub edged_at : ℕ → Lane → EdgedLane
edged_at x l = record { lane = l; at_start = end_at x; at_end = end_at x }

-- the tables of a map whose lanes all lie at the origin
abbrev pub tables_for : Map → Tables
tables_for m = tables_of text m (map (edged_at 0) m.lanes)

-- ---- the maps
abbrev pub no_lanes : Map
no_lanes = record { roads = []; junctions = []; lanes = [] }

-- "Road a (section 0), successor b at start; b (0, 1); forward lanes numbered -1: 7 on a, 3 and 5 on b, links
-- -1 onward"
abbrev pub straight : Map
straight = record {
  roads = road a none (to_road b false) (0 ∷ []) ∷ road b none none (0 ∷ 1 ∷ []) ∷ [];
  junctions = [];
  lanes = lane 7 a 0 minus1 Forward (some minus1) ∷ lane 3 b 0 minus1 Forward (some minus1)
      ∷ lane 5 b 1 minus1 Forward (some minus1) ∷ [];
}

-- "Two pairs to lane 9 from 7"
abbrev pub two_pairs : Map
two_pairs = record {
  roads = road a none (to_junction j) (0 ∷ []) ∷ road b none none (0 ∷ []) ∷ [];
  junctions = junction common (connection a b false (pair minus1 minus1 ∷ pair minus1 minus1 ∷ []) ∷ []) ∷ [];
  lanes = lane 7 a 0 minus1 Forward none ∷ lane 9 b 0 minus1 Forward none ∷ [];
}

-- "Two-way 1 linked to two-way 2 alone", or to 2 of another direction, entered at its start
abbrev pub two_way : Direction → Map
two_way d = record {
  roads = road a none (to_road b false) (0 ∷ []) ∷ road b none none (0 ∷ []) ∷ [];
  junctions = [];
  lanes = lane 1 a 0 minus1 Both (some minus1) ∷ lane 2 b 0 minus1 d none ∷ [];
}

-- lane 7 of road a leads to lane 9 of road b, and their ends lie x apart, by its bits
abbrev pub apart : ℕ → Tables
apart x = tables_of text (record {
  roads = road a none (to_road b false) (0 ∷ []) ∷ road b none none (0 ∷ []) ∷ [];
  junctions = [];
  lanes = lane 7 a 0 minus1 Forward (some minus1) ∷ lane 9 b 0 minus1 Forward none ∷ [];
}) (edged_at 0 (lane 7 a 0 minus1 Forward (some minus1)) ∷ edged_at x (lane 9 b 0 minus1 Forward none) ∷ [])

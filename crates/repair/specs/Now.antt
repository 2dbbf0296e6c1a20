-- The roads as repaired so far, and the rows of connections and junctions, by row numbers. Definitions only.
-- `ends` has a word for each end of a road, at twice its row, plus 1 for its end: 0 as read, 1 made absent, k +
-- 2 given junction row k.
use Rattle.std.proofs.Math.Option as maths
use Rattle.std.specs.Prelude.{Bool, true, false, List, Option, Some, None, ℕ, zero, suc, ◌+◌, ◌*◌, ◌/◌, length, get_or}
use Rattle.model.specs.Lists.{pick}
use Rattle.model.specs.Records.{Span, Target, Road, Connection, Junction}
use Rattle.model.specs.Repair.{linked}
use Rattle.model.specs.Rows.{part, word}
use Rattle.model.specs.Tables.{Tables, bit, span_in, name_in, target_in, pairs_in, connection_in, kind_of}
use Rattle.tables.specs.declared.lookup.RoadId.{RoadId}
use Rattle.words.specs.Rows.{tab, name_at, from}

-- f i, f (i + 1), .. m of them
abbrev pub run : {A : Type 0} → (ℕ → A) → ℕ → ℕ → List A
run f i m = tab m (λ j. f (i + j))

-- a road that there may be, by its row plus 1
abbrev pub road_stored : Option RoadId → ℕ
road_stored None = 0
road_stored (Some r) = suc r.0

-- an end that there may be: its start, or its end
abbrev pub end_read : Option Bool → maths.Option Bool
end_read None = maths.none
end_read (Some e) = maths.some e

-- a target by its end's word: as read, absent, or junction row k
abbrev pub end_now : ℕ → maths.Option Target → (ℕ → Target) → maths.Option Target
end_now zero t l = t
end_now (suc zero) t l = maths.none
end_now (suc (suc k)) t l = maths.some (l k)

-- road r's target at an end
unfoldable pub target_now : (roads junctions ends : List ℕ) → ℕ → Bool → maths.Option Target
target_now roads junctions ends r e =
    end_now (get_or ends (r * 2 + bit e) 0) (target_in (from 20 roads r) (pick e 4 11))
    (λ k. linked (name_at 5 0 junctions k) e)

-- road r, and all roads
unfoldable pub road_now : (sections roads junctions ends : List ℕ) → ℕ → Road
road_now sections roads junctions ends r = record {
  name = span_in (from 20 roads r) 0;
  junction = name_in (from 20 roads r) 2;
  predecessor = target_now roads junctions ends r false;
  successor = target_now roads junctions ends r true;
  sections = part (word (from 20 roads r) 18) (word (from 20 roads r) 19) sections;
}

unfoldable pub roads_now : (sections roads junctions ends : List ℕ) → List Road
roads_now sections roads junctions ends = tab (length roads / 20) (road_now sections roads junctions ends)

-- connection c, and junction k
unfoldable pub connection_at : (pairs connections : List ℕ) → ℕ → Connection
connection_at pairs connections c = connection_in (pairs_in pairs) (from 7 connections c)

unfoldable pub junction_at : (pairs connections junctions : List ℕ) → ℕ → Junction
junction_at pairs connections junctions k = record {
  name = name_at 5 0 junctions k;
  kind = kind_of (get_or junctions (k * 5 + 2) 0);
  connections = run (connection_at pairs connections) (get_or junctions (k * 5 + 3) 0) (get_or junctions (k * 5 + 4) 0);
}

-- ---- the same of a map's tables
-- its roads with those words for their ends
abbrev pub roads_with : Tables → (ends : List ℕ) → List Road
roads_with t ends = roads_now t.sections t.roads t.junctions ends

abbrev pub road_with : Tables → (ends : List ℕ) → ℕ → Road
road_with t ends r = road_now t.sections t.roads t.junctions ends r

-- the connection in row c, the junction in row k, and its name
abbrev pub row_connection : Tables → ℕ → Connection
row_connection t c = connection_at t.pairs t.connections c

abbrev pub row_junction : Tables → ℕ → Junction
row_junction t k = junction_at t.pairs t.connections t.junctions k

abbrev pub junction_name : Tables → ℕ → Span
junction_name t k = name_at 5 0 t.junctions k

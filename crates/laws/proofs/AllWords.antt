-- Tables of words mean a map whose numbers are words, and the tables of such a map are words: numbers below 2^32.
use mathlib.Core.Bool.{Bool, true, false, cond}
use mathlib.Core.Option.{Option, none, some}
use mathlib.Core.List.{List, [], ◌∷◌, ◌++◌, map}
use Prim.Native.Nat.{ℕ, zero, suc, ◌+◌, ◌/◌, ◌<◌}
use native.Mathlib.Omega.{arith}
use lib.Dec.{eqb}
use lib.ListN.{length, drop, get_or, length-append}
use Rattle.geometry.specs.declared.gap.Direction.{Direction}
use Rattle.geometry.specs.declared.gap.Direction.TheVariants.{Backward, Both, Forward}
use Rattle.model.specs.Lists.{gather}
use Rattle.model.specs.Records.{Connection, Junction, JunctionKind, Lane, Map, Pair, Road, Span, Target, common}
use Rattle.model.specs.Records.{direct, virtual}
use Rattle.model.specs.Rows.{rows, rows_from, table, word}
use Rattle.model.specs.Tables.{Tables, all_connections, all_pairs, bit, connection_in, connection_row}
use Rattle.model.specs.Tables.{connection_words, connections_in, direction_word, is_absent, junction_in, junction_row}
use Rattle.model.specs.Tables.{junction_words, junctions_in, kind_word, lane_in, lane_row, lane_words, lanes_in}
use Rattle.model.specs.Tables.{link_of, link_words, map_of, name_in, name_words, pair_in, pair_row, pair_words}
use Rattle.model.specs.Tables.{pairs_in}
use Rattle.model.specs.Tables.{road_in, road_row, road_words, roads_in, section_words, span_in, span_words, target_of}
use Rattle.model.specs.Tables.{target_words}
use Rattle.laws.proofs.ForEach.{each_append, each_drop, each_gather, each_over, each_take}
use Rattle.laws.proofs.Numbers.{Word}
use Rattle.laws.proofs.Valid.{Each}

word_of : (ws : List ℕ) (k : ℕ) → Each Word ws → Word (get_or ws k 0)
word_of [] k h = omega arith
word_of (w ∷ ws) zero h = h.0
word_of (w ∷ ws) (suc k) h = word_of ws k h.1

rows_words : (w n : ℕ) (ws : List ℕ) → Each Word ws → Each (Each Word) (rows w n ws)
rows_words w zero ws h = tt
rows_words w (suc n) ws h = (each_take Word w ws h, rows_words w n (drop w ws) (each_drop Word w ws h))

table_words : (w : ℕ) (ws : List ℕ) → Each Word ws → Each (Each Word) (table w ws)
unfolding table
table_words w ws h = rows_words w (length ws / w) ws h

-- ---- a map of words
abbrev pub SpanW : Span → Type 0
SpanW s = Word s.start × Word s.size

abbrev pub NameW : Option Span → Type 0
NameW none = Unit {0}
NameW (some s) = SpanW s

abbrev pub TargetW : Option Target → Type 0
TargetW none = Unit {0}
TargetW (some t) = SpanW t.name

abbrev pub LinkW : Option ℕ → Type 0
LinkW none = Unit {0}
LinkW (some n) = Word n

abbrev pub RoadW : Road → Type 0
RoadW r =
    SpanW r.name
    × NameW r.junction
    × TargetW r.predecessor
    × TargetW r.successor
    × Each Word r.sections

abbrev pub PairW : Pair → Type 0
PairW p = Word p.from × Word p.to

abbrev pub ConnectionW : Connection → Type 0
ConnectionW c = SpanW c.incoming × SpanW c.connecting × Each PairW c.pairs

abbrev pub JunctionW : Junction → Type 0
JunctionW j = SpanW j.name × Each ConnectionW j.connections

abbrev pub LaneW : Lane → Type 0
LaneW l =
    Word l.identity
    × SpanW l.road
    × Word l.section
    × Word l.number
    × LinkW l.predecessor
    × LinkW l.successor

pub record MapW (m : Map) : Type 0 where
  pub roads : Each RoadW m.roads
  pub junctions : Each JunctionW m.junctions
  pub lanes : Each LaneW m.lanes

-- ---- what words mean is a map of words
pub record TablesW (t : Tables) : Type 0 where
  pub roads : Each Word t.roads
  pub sections : Each Word t.sections
  pub junctions : Each Word t.junctions
  pub connections : Each Word t.connections
  pub pairs : Each Word t.pairs
  pub lanes : Each Word t.lanes

name_words_lem : (r : List ℕ) (k : ℕ) → Each Word r → NameW (name_in r k)
name_words_lem r k h = go (is_absent (word r k) (word r (k + 1)))
  where
    go : (b : Bool) → NameW (cond b none (some (span_in r k)))
    go true = tt
    go false = (word_of r k h, word_of r (k + 1) h)

target_words_lem : (p k s n c g a : ℕ) → Word s → Word n → TargetW (target_of p k s n c g a)
target_words_lem p k s n c g a h q = go (eqb p 1)
  where
    go : (b : Bool)
        → TargetW (cond b (some (record {
          is_junction = eqb k 1;
          name = record { start = s; size = n };
          contact = eqb c 1;
          given = eqb g 1;
          along = eqb a 1;
        })) none)
    go true = (h, q)
    go false = tt

link_words_lem : (f n : ℕ) → Word n → LinkW (link_of f n)
link_words_lem f n h = go (eqb f 1)
  where
    go : (b : Bool) → LinkW (cond b (some n) none)
    go true = h
    go false = tt

road_means : (ss r : List ℕ) → Each Word ss → Each Word r → RoadW (road_in ss r)
unfolding road_in
road_means ss r q h = (
  (word_of r 0 h, word_of r 1 h),
  name_words_lem r 2 h,
  target_words_lem (word r 4) (word r 5) (word r 6) (word r 7) (word r 8) (word r 9) (word r 10) (word_of r 6 h)
      (word_of r 7 h),
  target_words_lem (word r 11) (word r 12) (word r 13) (word r 14) (word r 15) (word r 16) (word r 17)
      (word_of r 13 h) (word_of r 14 h),
  each_take Word (word r 19) (drop (word r 18) ss) (each_drop Word (word r 18) ss q),
)

connection_means : (ps : List Pair) (r : List ℕ) → Each PairW ps → Each Word r → ConnectionW (connection_in ps r)
unfolding connection_in
connection_means ps r q h = (
  (word_of r 0 h, word_of r 1 h),
  (word_of r 2 h, word_of r 3 h),
  each_take PairW (word r 6) (drop (word r 5) ps) (each_drop PairW (word r 5) ps q),
)

junction_means : (cs : List Connection) (r : List ℕ) → Each ConnectionW cs → Each Word r → JunctionW (junction_in cs r)
unfolding junction_in
junction_means cs r q h = (
  (word_of r 0 h, word_of r 1 h),
  each_take ConnectionW (word r 4) (drop (word r 3) cs) (each_drop ConnectionW (word r 3) cs q),
)

lane_means : (r : List ℕ) → Each Word r → LaneW (lane_in r)
unfolding lane_in
lane_means r h = (
  word_of r 0 h,
  (word_of r 1 h, word_of r 2 h),
  word_of r 3 h,
  word_of r 4 h,
  link_words_lem (word r 8) (word r 9) (word_of r 9 h),
  link_words_lem (word r 6) (word r 7) (word_of r 7 h),
)

pair_means : (r : List ℕ) → Each Word r → PairW (pair_in r)
unfolding pair_in
pair_means r h = (word_of r 0 h, word_of r 1 h)

pub means_words : (t : Tables) → TablesW t → MapW (map_of t)
unfolding map_of roads_in junctions_in connections_in pairs_in lanes_in
means_words t h = record {
  roads = each_over (road_in t.sections) RoadW (Each Word) (λ r q. road_means t.sections r h.sections q)
      (table 20 t.roads) (table_words 20 t.roads h.roads);
  junctions = each_over
      (junction_in (map (connection_in (map pair_in (table 2 t.pairs))) (table 7 t.connections))) JunctionW
      (Each Word) (λ r q.
      junction_means (map (connection_in (map pair_in (table 2 t.pairs))) (table 7 t.connections)) r
      connections q) (table 5 t.junctions) (table_words 5 t.junctions h.junctions);
  lanes = each_over lane_in LaneW (Each Word) lane_means (table 10 t.lanes) (table_words 10 t.lanes h.lanes);
}
  where
    pairs : Each PairW (map pair_in (table 2 t.pairs))
    pairs = each_over pair_in PairW (Each Word) pair_means (table 2 t.pairs) (table_words 2 t.pairs h.pairs)

    connections : Each ConnectionW (map (connection_in (map pair_in (table 2 t.pairs))) (table 7 t.connections))
    connections =
        each_over (connection_in (map pair_in (table 2 t.pairs))) ConnectionW (Each Word)
        (λ r q. connection_means (map pair_in (table 2 t.pairs)) r pairs q) (table 7 t.connections)
        (table_words 7 t.connections h.connections)

-- ---- the words of a map of words are words
bit_word : (b : Bool) → Word (bit b)
bit_word true = omega arith
bit_word false = omega arith

rows_from_words : {X A : Type 0} (P : X → Type 0) (row : ℕ → X → List ℕ) (f : X → List A)
    → ((i : ℕ) (x : X) → P x → Word i → Word (length (f x)) → Each Word (row i x)) →
    (i : ℕ) (xs : List X) → Each P xs → i + length (gather f xs) < 4294967296 → Each Word (rows_from row f i xs)
rows_from_words P row f k i [] h l = tt
rows_from_words P row f k i (x ∷ xs) h l =
    let joined = length-append (f x) (gather f xs) in
    each_append Word (row i x) (rows_from row f (i + length (f x)) xs) (k i x h.0 (omega arith) (omega arith))
    (rows_from_words P row f k (i + length (f x)) xs h.1 (omega arith))

each_name : (o : Option Span) → NameW o → Each Word (name_words o)
each_name none h = (omega arith, (omega arith, tt))
each_name (some s) h = (h.0, (h.1, tt))

each_target : (o : Option Target) → TargetW o → Each Word (target_words o)
each_target none h =
    (omega arith, (omega arith, (omega arith, (omega arith, (omega arith, (omega arith, (omega arith, tt)))))))
each_target (some t) h = (
  omega arith,
  (
    bit_word t.is_junction,
    (h.0, (h.1, (bit_word t.contact, (bit_word t.given, (bit_word t.along, tt))))),
  ),
)

each_link : (o : Option ℕ) → LinkW o → Each Word (link_words o)
each_link none h = (omega arith, (omega arith, tt))
each_link (some n) h = (omega arith, (h, tt))

road_row_lem : (i : ℕ) (r : Road) → RoadW r → Word i → Word (length r.sections) → Each Word (road_row i r)
unfolding road_row
road_row_lem i r h a b =
    each_append Word (span_words r.name ++ name_words r.junction ++ target_words r.predecessor
    ++ target_words r.successor) (i ∷ length r.sections ∷ [])
    (each_append Word (span_words r.name ++ name_words r.junction ++ target_words r.predecessor)
    (target_words r.successor)
    (each_append Word (span_words r.name ++ name_words r.junction) (target_words r.predecessor)
    (each_append Word (span_words r.name) (name_words r.junction) (h.0.0, (h.0.1, tt))
    (each_name r.junction h.1)) (each_target r.predecessor h.2))
    (each_target r.successor h.3))
    (a, (b, tt))

connection_row_lem : (i : ℕ) (c : Connection) → ConnectionW c → Word i → Word (length c.pairs)
    → Each Word (connection_row i c)
unfolding connection_row
connection_row_lem i c h a b = (h.0.0, (h.0.1, (h.1.0, (h.1.1, (bit_word c.contact, (a, (b, tt)))))))

junction_row_lem : (i : ℕ) (j : Junction) → JunctionW j → Word i → Word (length j.connections)
    → Each Word (junction_row i j)
unfolding junction_row
junction_row_lem i j h a b = (h.0.0, (h.0.1, (kind j.kind, (a, (b, tt)))))
  where
    kind : (k : JunctionKind) → Word (kind_word k)
    kind common = omega arith
    kind direct = omega arith
    kind virtual = omega arith

lane_row_lem : (l : Lane) → LaneW l → Each Word (lane_row l)
unfolding lane_row
lane_row_lem l h = (
  h.0,
  (
    h.1.0,
    (
      h.1.1,
      (
        h.2,
        (
          h.3,
          (
            way l.direction,
            each_append Word (link_words l.successor) (link_words l.predecessor)
                (each_link l.successor h.5) (each_link l.predecessor h.4),
          ),
        ),
      ),
    ),
  ),
)
  where
    way : (d : Direction) → Word (direction_word d)
    way Forward = omega arith
    way Backward = omega arith
    way Both = omega arith

module _ (m : Map) (h : MapW m) where
  pub roads_written : length (section_words m.roads) < 4294967296 → Each Word (road_words m.roads)
  unfolding road_words section_words
  roads_written l = rows_from_words RoadW road_row (λ r. r.sections) road_row_lem 0 m.roads h.roads (omega arith)

  pub sections_written : Each Word (section_words m.roads)
  unfolding section_words
  sections_written = each_gather RoadW Word (λ r. r.sections) (λ r q. q.4) m.roads h.roads

  connections_words : Each ConnectionW (all_connections m.junctions)
  unfolding all_connections
  connections_words =
      each_gather JunctionW ConnectionW (λ j. j.connections) (λ j q. q.1) m.junctions h.junctions

  pub junctions_written : length (all_connections m.junctions) < 4294967296
      → Each Word (junction_words m.junctions)
  unfolding junction_words all_connections
  junctions_written l =
      rows_from_words JunctionW junction_row (λ j. j.connections) junction_row_lem 0 m.junctions h.junctions
      (omega arith)

  pub connections_written : length (all_pairs m.junctions) < 4294967296 → Each Word (connection_words m.junctions)
  unfolding connection_words all_pairs
  connections_written l =
      rows_from_words ConnectionW connection_row (λ c. c.pairs) connection_row_lem 0 (all_connections m.junctions)
      connections_words (omega arith)

  pub pairs_written : Each Word (pair_words m.junctions)
  unfolding pair_words all_pairs pair_row
  pairs_written =
      each_gather PairW Word pair_row (λ p q. (q.0, (q.1, tt))) (all_pairs m.junctions)
      (each_gather ConnectionW PairW (λ c. c.pairs) (λ c q. q.2) (all_connections m.junctions)
      connections_words)

  pub lanes_written : Each Word (lane_words m.lanes)
  unfolding lane_words
  lanes_written = each_gather LaneW Word lane_row lane_row_lem m.lanes h.lanes

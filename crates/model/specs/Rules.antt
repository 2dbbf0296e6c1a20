-- "How each call refuses": one test for each number, true where the number does not apply. Each is over what it
-- reads; the rule on the tables is its abbreviation. Definitions only.
use Rattle.std.specs.Prelude.{Bool, true, false, not, ◌&&◌, ◌||◌, cond, List, [], ◌∷◌, ℕ, suc, ◌+◌, ◌*◌, ◌/◌, ◌%◌, eqb}
use Rattle.std.specs.Prelude.{leb, Float, length}
use Rattle.std.proofs.Math.Option.{Option, none, some}
use Rattle.geometry.specs.Root.{below_zero}
use Rattle.model.specs.Lists.{every, distinct, ascends, member, some?}
use Rattle.model.specs.Records.{Span, Road, JunctionKind, common, direct, virtual, Junction, Pair, Lane}
use Rattle.model.specs.Text.{same_in, placed}
use Rattle.model.specs.Repair.{names_junction}
use Rattle.model.specs.Succession.{sections_of}
use Rattle.model.specs.Reversal.{marked}
use Rattle.model.specs.Rows.{table, word, parts_fit}
use Rattle.model.specs.Tables.{Tables, road_width, junction_width, connection_width, pair_width, lane_width}
use Rattle.model.specs.Tables.{edge_width, flag, is_absent, span_in, roads_of, junctions_of, pairs_of, lanes_of}

-- ---- "The first that applies is given, and only then."
-- a refusal's number, and whether the call passes it
pub record Rule : Type 0 where
  pub passes : Bool
  pub number : ℕ

abbrev pub rule : ℕ → Bool → Rule
rule k b = record { passes = b; number = k }

-- the number of the first rule that is broken
abbrev pub first_broken : List Rule → Option ℕ
first_broken [] = none
first_broken (r ∷ rs) = cond r.passes (first_broken rs) (some r.number)

-- a refusal as a word: 0 where there is none
abbrev pub refusal_word : Option ℕ → ℕ
refusal_word none = 0
refusal_word (some k) = k

-- "Names are equal when their bytes are"
abbrev pub same : Tables → Span → Span → Bool
same t = same_in t.text

-- ---- 1 an input's length is no whole number of rows or above its limit
-- n words, w a row: whole rows, and at most most of them
unfoldable pub sized : (w most n : ℕ) → Bool
sized w most n = eqb (n % w) 0 && leb n (most * w)

-- "Text is at most 1,048,576 bytes; each table at most 16,384 rows"; connections and pairs at most most rows
unfoldable pub map_sized : ℕ → Tables → Bool
map_sized most t = leb (length t.text) 1048576
    && sized road_width 16384 (length t.roads)
    && sized 1 16384 (length t.sections)
    && sized junction_width 16384 (length t.junctions)
    && sized connection_width most (length t.connections)
    && sized pair_width most (length t.pairs)

unfoldable pub lanes_sized : Tables → Bool
lanes_sized t = sized lane_width 16384 (length t.lanes)

unfoldable pub edges_sized : Tables → Bool
edges_sized t = sized edge_width 16384 (length t.edges)

-- "packed identities at most 131,072, and offsets at most 16,385 words"
unfoldable pub lists_sized : (offsets ids : List ℕ) → Bool
lists_sized offsets ids = sized 1 16385 (length offsets) && sized 1 131072 (length ids)

-- ---- 2 a word or name breaks the table rules
-- "Where present is 0 the other six words are 0. Where it is 1 the name is present."
unfoldable pub target_worded : List ℕ → ℕ → ℕ → ℕ → ℕ → ℕ → ℕ → ℕ → Bool
target_worded text p k s n c g a = leb p 1 && cond (flag p)
    (leb k 1 && placed text (record { start = s; size = n }) && leb c 1 && leb g 1 && leb a 1)
    (eqb k 0 && eqb s 0 && eqb n 0 && eqb c 0 && eqb g 0 && eqb a 0)

-- the target from word k of a row on
abbrev pub target_worded_at : List ℕ → List ℕ → ℕ → Bool
target_worded_at text r k =
    target_worded text (word r k) (word r (k + 1)) (word r (k + 2)) (word r (k + 3)) (word r (k + 4))
    (word r (k + 5)) (word r (k + 6))

-- "junction name (may be absent)"; "Names not said to be absent are present", and the absent name lies in no
-- text that 1 lets pass
unfoldable pub road_worded : List ℕ → List ℕ → Bool
road_worded text r = placed text (span_in r 0) && (is_absent (word r 2) (word r 3) || placed text (span_in r 2))
    && target_worded_at text r 4 && target_worded_at text r 11

unfoldable pub junction_worded : List ℕ → List ℕ → Bool
junction_worded text r = placed text (span_in r 0) && leb (word r 2) 2

unfoldable pub connection_worded : List ℕ → List ℕ → Bool
connection_worded text r = placed text (span_in r 0) && placed text (span_in r 2) && leb (word r 4) 1

-- "A number whose flag is 0 is 0."
unfoldable pub link_worded : ℕ → ℕ → Bool
link_worded f n = leb f 1 && (flag f || eqb n 0)

unfoldable pub lane_worded : List ℕ → List ℕ → Bool
lane_worded text r =
    placed text (span_in r 1) && leb (word r 5) 2
    && link_worded (word r 6) (word r 7) && link_worded (word r 8) (word r 9)

-- sections, pairs and edges have no rule on their words
unfoldable pub map_worded : Tables → Bool
map_worded t = every (road_worded t.text) (table road_width t.roads)
    && every (junction_worded t.text) (table junction_width t.junctions)
    && every (connection_worded t.text) (table connection_width t.connections)

unfoldable pub lanes_worded : Tables → Bool
lanes_worded t = every (lane_worded t.text) (table lane_width t.lanes)

-- ---- 3 a road name twice
unfoldable pub names_once : (Span → Span → Bool) → List Road → Bool
names_once alike rs = distinct (λ a b. alike a.name b.name) rs

abbrev pub roads_once : Tables → Bool
roads_once t = names_once (same t) (roads_of t)

-- ---- 4 a section part misplaced or not strictly ascending
unfoldable pub section_parts_fit : (sections roads : List ℕ) → Bool
section_parts_fit sections roads = parts_fit 18 19 0 (length sections) (table road_width roads)

unfoldable pub sections_ascend : List Road → Bool
sections_ascend rs = every (λ r. ascends r.sections) rs

abbrev pub sections_fit : Tables → Bool
sections_fit t = section_parts_fit t.sections t.roads && sections_ascend (roads_of t)

-- ---- 5 a connection or pair part misplaced
unfoldable pub connection_parts_fit : (connections junctions : List ℕ) → Bool
connection_parts_fit connections junctions =
    parts_fit 3 4 0 (length connections / connection_width) (table junction_width junctions)

unfoldable pub pair_parts_fit : (pairs connections : List ℕ) → Bool
pair_parts_fit pairs connections = parts_fit 5 6 0 (length pairs / pair_width) (table connection_width connections)

abbrev pub connections_fit : Tables → Bool
connections_fit t = connection_parts_fit t.connections t.junctions && pair_parts_fit t.pairs t.connections

-- ---- 6 an identity twice
unfoldable pub ids_once : List Lane → Bool
ids_once ls = distinct (λ a b. eqb a.identity b.identity) ls

abbrev pub identities_once : Tables → Bool
identities_once t = ids_once (lanes_of t)

-- ---- 7 a lane's road unknown or its section not listed there
unfoldable pub listed_in : (Span → Span → Bool) → List Road → List Lane → Bool
listed_in alike rs ls = every (λ l. member l.section (sections_of alike rs l.road)) ls

abbrev pub lanes_listed : Tables → Bool
lanes_listed t = listed_in (same t) (roads_of t) (lanes_of t)

-- ---- 8 two lanes with equal road, section and number
unfoldable pub same_key : (Span → Span → Bool) → Lane → Lane → Bool
same_key alike a b = alike a.road b.road && eqb a.section b.section && eqb a.number b.number

unfoldable pub places_once : (Span → Span → Bool) → List Lane → Bool
places_once alike ls = distinct (same_key alike) ls

abbrev pub keys_once : Tables → Bool
keys_once t = places_once (same t) (lanes_of t)

-- ---- 9 an output shorter than its content
abbrev pub fits : (contents outputs : List ℕ) → Bool
fits [] ns = true
fits (k ∷ ks) [] = false
fits (k ∷ ks) (n ∷ ns) = leb k n && fits ks ns

-- ---- 10 edges not 12 for each lane
unfoldable pub edges_even : List ℕ → List Float → Bool
edges_even lanes edges = eqb (length edges) (edge_width * (length lanes / lane_width))

abbrev pub edges_fit : Tables → Bool
edges_fit t = edges_even t.lanes t.edges

-- ---- 11 offsets falling, wrongly sized, not starting at 0 or not ending at the count, or an identity no lane bears
abbrev pub climbs_to : ℕ → ℕ → List ℕ → Bool
climbs_to end o [] = eqb o end
climbs_to end o (p ∷ os) = leb o p && climbs_to end p os

abbrev pub climbs : ℕ → List ℕ → Bool
climbs end [] = false
climbs end (o ∷ os) = eqb o 0 && climbs_to end o os

-- does some lane bear the identity?
unfoldable pub borne : List Lane → ℕ → Bool
borne ls i = some? (λ l. eqb l.identity i) ls

unfoldable pub lists_fit : Tables → List ℕ → List ℕ → Bool
lists_fit t offsets ids =
    eqb (length offsets) (suc (length t.lanes / lane_width)) && climbs (length ids) offsets
    && every (borne (lanes_of t)) ids

-- ---- 12 marks not one 0 or 1 for each road
unfoldable pub marks_fit : (roads marks : List ℕ) → Bool
marks_fit roads marks = eqb (length roads / road_width) (length marks) && every (λ k. leb k 1) marks

-- ---- 13 a lane, link or pair number is -2,147,483,648
-- the word of that number
abbrev pub least_number : ℕ
least_number = 2147483648

abbrev pub link_fine : Option ℕ → Bool
link_fine none = true
link_fine (some n) = not (eqb n least_number)

unfoldable pub lane_fine : Lane → Bool
lane_fine l = not (eqb l.number least_number) && link_fine l.predecessor && link_fine l.successor

unfoldable pub pair_fine : Pair → Bool
pair_fine p = not (eqb p.from least_number) && not (eqb p.to least_number)

unfoldable pub numbers_fine : List Lane → List Pair → Bool
numbers_fine ls ps = every lane_fine ls && every pair_fine ps

abbrev pub numbers_turn : Tables → Bool
numbers_turn t = numbers_fine (lanes_of t) (pairs_of t)

-- ---- 14 a marked road names one direct junction at both ends
abbrev pub is_direct : JunctionKind → Bool
is_direct common = false
is_direct direct = true
is_direct virtual = false

unfoldable pub names_twice : (Span → Span → Bool) → Span → Road → Bool
names_twice alike j r = names_junction alike j r.predecessor && names_junction alike j r.successor

unfoldable pub names_direct_twice : (Span → Span → Bool) → List Junction → Road → Bool
names_direct_twice alike js r = some? (λ j. is_direct j.kind && names_twice alike j.name r) js

unfoldable pub one_ended_in : (Span → Span → Bool) → (Span → Bool) → List Junction → List Road → Bool
one_ended_in alike mk js rs = every (λ r. not (mk r.name && names_direct_twice alike js r)) rs

abbrev pub one_ended : Tables → List ℕ → Bool
one_ended t marks = one_ended_in (same t) (marked (same t) (roads_of t) marks) (junctions_of t) (roads_of t)

-- ---- 15 below zero, of the root
abbrev pub rootable : Float → Bool
rootable x = not (below_zero x)

-- ---- 16 starts and lengths differ in count, of the length check
abbrev pub even_counts : (starts lengths : List Float) → Bool
even_counts starts lengths = eqb (length starts) (length lengths)

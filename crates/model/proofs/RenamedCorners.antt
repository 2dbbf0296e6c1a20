-- Maps renamed and reordered: what is no copy of a map; then a map and its copy, word by word, both admitted, and what
-- is found on each, worked out by antt.
use mathlib.Core.Path.{◌≡◌, refl, sym, ◌∙◌, ap}
use mathlib.Core.Bool.{false}
use mathlib.Core.Option.{none}
use mathlib.Core.List.{List, [], ◌∷◌, ◌++◌, head-eq_of_cons-eq, map, nil≢cons, tail-eq_of_cons-eq}
use Prim.Native.Nat.{ℕ, suc}
use native.Mathlib.Omega.{arith}
use lib.Ieee.{Float}
use lib.ListN.{drop, length, replicate, take}
use Rattle.geometry.specs.declared.gap.Direction.TheVariants.{Forward}
use Rattle.model.specs.Calls.{repair_content, table_rules, warning_width}
use Rattle.model.specs.Claim.{repaired_tables}
use Rattle.model.specs.Orders.{InOrder, among, both, emptied, ended, neither, paired}
use Rattle.model.specs.Records.{EdgedLane, Junction, Lane, Span, common}
use Rattle.model.specs.Renamed.{EdgedRenamed, NewName, Renamed, Renaming, RoadRenamed, before_at, gap_by_identity}
use Rattle.model.specs.Renamed.{gaps_by_identity, onward_at}
use Rattle.model.specs.Rows.{table}
use Rattle.model.specs.Rules.{first_broken}
use Rattle.model.specs.Tables.{Tables, absent_start, edged_lanes_of, roads_of}
use Rattle.model.proofs.CardMaps.{a, b, connection, edged_at, end_at, j, junction, lane, minus1, pair, road}
use Rattle.model.proofs.CardMaps.{tables_for, text, to_junction}
use Rattle.model.proofs.Computed.{broken}

-- ---- what is no copy
-- two names made one
pub no_two_made_one : (f : Renaming) (x : List ℕ) → f.becomes (97 ∷ []) x → f.becomes (98 ∷ []) x → ⊥
no_two_made_one f x p q =
    let same : ◌≡◌ {A = ℕ} 97 98 = head-eq_of_cons-eq (f.kept_different (97 ∷ []) (98 ∷ []) x p q) in
    omega (arith, same)

-- a road with other sections, and a lane without its edges at one end
module _ (road_name junction_name : Span → Span → Type 0) where
  pub no_other_sections :
      RoadRenamed road_name junction_name (road a none none (0 ∷ 1 ∷ [])) (road a none none (0 ∷ [])) → ⊥
  no_other_sections h = nil≢cons (tail-eq_of_cons-eq h.sections)

  pub no_lost_edges : (l : Lane) →
      EdgedRenamed road_name (edged_at 0 l) (record { lane = l; at_start = end_at 0; at_end = [] }) → ⊥
  no_lost_edges l h = nil≢cons h.at_end

-- junction rows in another order: lane 7 of road a leads into junction j, of which the last row counts
abbrev leading : Junction
leading = junction common (connection a b false (pair minus1 minus1 ∷ []) ∷ [])

abbrev empty : Junction
empty = junction common []

abbrev through : List Junction → Tables
through js = tables_for (record {
  roads = road a none (to_junction j) (0 ∷ []) ∷ road b none none (0 ∷ []) ∷ [];
  junctions = js;
  lanes = lane 7 a 0 minus1 Forward none ∷ lane 9 b 0 minus1 Forward none ∷ [];
})

first_pair : {A B : Type 0} {R : A → B → Type 0} {x : A} {xs : List A} {y : B} {ys : List B}
    → InOrder R (x ∷ xs) (y ∷ ys) → R x y
first_pair (paired r rest) = r

as_many : {A B : Type 0} {R : A → B → Type 0} {xs : List A} {ys : List B} → InOrder R xs ys → length ys ≡ length xs
as_many ended = refl
as_many (paired r rest) = ap suc (as_many rest)

pub no_junctions_reordered :
    (onward_at (through (leading ∷ empty ∷ [])) 0 ≡ []) × (onward_at (through (empty ∷ leading ∷ [])) 0 ≡ 9 ∷ [])
    × ((f g : Renaming) → Renamed f g (through (leading ∷ empty ∷ [])) (through (empty ∷ leading ∷ [])) → ⊥)
unfolding broken
no_junctions_reordered = (
  refl,
  refl,
  λ f g h. let lost : ◌≡◌ {A = ℕ} 0 1 = as_many (first_pair h.junctions).connections in omega (arith, lost),
)

-- ---- a map and its copy
-- The map: lane 7 on road a, 5 on b in junction j, 3 and 9 on c. Lanes 7 and 5 lie 2 metres apart, 3 and 9 one. Road a
-- lacks its link to j, which repair adds.
abbrev no_target : List ℕ
no_target = replicate 7 0

abbrev at : ℕ → List Float
at x = end_at x ++ end_at x

-- the bits of 1 and of 2
abbrev one : ℕ
one = 1065353216

abbrev two : ℕ
two = 1073741824

-- the text is "abcjk"
abbrev pub first_map : Tables
first_map = record {
  text = text;
  roads = (0 ∷ 1 ∷ absent_start ∷ 0 ∷ []) ++ no_target ++ no_target ++ (0 ∷ 1 ∷ [])
      ++ (1 ∷ 1 ∷ 3 ∷ 1 ∷ []) ++ (1 ∷ 0 ∷ 0 ∷ 1 ∷ 1 ∷ 1 ∷ 0 ∷ []) ++ (1 ∷ 0 ∷ 2 ∷ 1 ∷ 0 ∷ 1 ∷ 0 ∷ []) ++ (1 ∷ 1 ∷ [])
      ++ (2 ∷ 1 ∷ absent_start ∷ 0 ∷ []) ++ (1 ∷ 0 ∷ 1 ∷ 1 ∷ 1 ∷ 1 ∷ 0 ∷ []) ++ no_target ++ (2 ∷ 2 ∷ []);
  sections = 0 ∷ 0 ∷ 0 ∷ 1 ∷ [];
  junctions = 3 ∷ 1 ∷ 0 ∷ 0 ∷ 1 ∷ [];
  connections = 0 ∷ 1 ∷ 1 ∷ 1 ∷ 0 ∷ 0 ∷ 1 ∷ [];
  pairs = minus1 ∷ minus1 ∷ [];
  lanes = (7 ∷ 0 ∷ 1 ∷ 0 ∷ minus1 ∷ 0 ∷ 0 ∷ 0 ∷ 0 ∷ 0 ∷ [])
      ++ (5 ∷ 1 ∷ 1 ∷ 0 ∷ minus1 ∷ 0 ∷ 1 ∷ minus1 ∷ 0 ∷ 0 ∷ [])
      ++ (3 ∷ 2 ∷ 1 ∷ 0 ∷ minus1 ∷ 0 ∷ 1 ∷ minus1 ∷ 0 ∷ 0 ∷ [])
      ++ (9 ∷ 2 ∷ 1 ∷ 1 ∷ minus1 ∷ 0 ∷ 0 ∷ 0 ∷ 0 ∷ 0 ∷ []);
  edges = at two ++ at 0 ++ at 0 ++ at one;
}

-- its copy: roads c, a, b, each with byte 255 before its name, which is then no UTF-8; junction "aj"; lanes 9, 3, 5, 7
abbrev pub copy : Tables
copy = record {
  text = 255 ∷ 99 ∷ 255 ∷ 98 ∷ 97 ∷ 106 ∷ 255 ∷ 97 ∷ [];
  roads = (0 ∷ 2 ∷ absent_start ∷ 0 ∷ []) ++ (1 ∷ 0 ∷ 2 ∷ 2 ∷ 1 ∷ 1 ∷ 0 ∷ []) ++ no_target ++ (0 ∷ 2 ∷ [])
      ++ (6 ∷ 2 ∷ absent_start ∷ 0 ∷ []) ++ no_target ++ no_target ++ (2 ∷ 1 ∷ [])
      ++ (2 ∷ 2 ∷ 4 ∷ 2 ∷ []) ++ (1 ∷ 0 ∷ 6 ∷ 2 ∷ 1 ∷ 1 ∷ 0 ∷ []) ++ (1 ∷ 0 ∷ 0 ∷ 2 ∷ 0 ∷ 1 ∷ 0 ∷ []) ++ (3 ∷ 1 ∷ []);
  sections = 0 ∷ 1 ∷ 0 ∷ 0 ∷ [];
  junctions = 4 ∷ 2 ∷ 0 ∷ 0 ∷ 1 ∷ [];
  connections = 6 ∷ 2 ∷ 2 ∷ 2 ∷ 0 ∷ 0 ∷ 1 ∷ [];
  pairs = minus1 ∷ minus1 ∷ [];
  lanes = (9 ∷ 0 ∷ 2 ∷ 1 ∷ minus1 ∷ 0 ∷ 0 ∷ 0 ∷ 0 ∷ 0 ∷ [])
      ++ (3 ∷ 0 ∷ 2 ∷ 0 ∷ minus1 ∷ 0 ∷ 1 ∷ minus1 ∷ 0 ∷ 0 ∷ [])
      ++ (5 ∷ 2 ∷ 2 ∷ 0 ∷ minus1 ∷ 0 ∷ 1 ∷ minus1 ∷ 0 ∷ 0 ∷ [])
      ++ (7 ∷ 6 ∷ 2 ∷ 0 ∷ minus1 ∷ 0 ∷ 0 ∷ 0 ∷ 0 ∷ 0 ∷ []);
  edges = at one ++ at 0 ++ at 0 ++ at two;
}

-- a byte before every name
abbrev pub prefixed : ℕ → Renaming
prefixed k = record {
  becomes = λ a x. x ≡ k ∷ a;
  one_new_name = λ a x y p q. p ∙ sym q;
  kept_different = λ a b x p q. tail-eq_of_cons-eq (sym p ∙ q);
}

-- a lane with another road's name is copied, if that is the new one
abbrev on_road : Span → EdgedLane → EdgedLane
on_road n x = record {
  lane = record {
    identity = x.lane.identity;
    road = n;
    section = x.lane.section;
    number = x.lane.number;
    direction = x.lane.direction;
    predecessor = x.lane.predecessor;
    successor = x.lane.successor;
  };
  at_start = x.at_start;
  at_end = x.at_end;
}

lane_copied : {road_name : Span → Span → Type 0} {x : EdgedLane} (n : Span) → road_name x.lane.road n →
    EdgedRenamed road_name x (on_road n x)
lane_copied n name = record {
  lane = record {
    identity = refl;
    road = name;
    section = refl;
    number = refl;
    direction = refl;
    predecessor = refl;
    successor = refl;
  };
  at_start = refl;
  at_end = refl;
}

pub is_copy : Renamed (prefixed 255) (prefixed 97) first_map copy
unfolding broken NewName
is_copy = record {
  -- a stands second of c, a, b; then b second of c, b; then c alone
  roads =
      among (take 1 (roads_of copy)) (drop 2 (roads_of copy))
      (record { name = refl; junction = neither; predecessor = neither; successor = neither; sections = refl })
      (among (take 1 (roads_of copy)) [] (record {
        name = refl;
        junction = both refl;
        predecessor = both (record { is_junction = refl; name = refl; contact = refl; given = refl; along = refl });
        successor = both (record { is_junction = refl; name = refl; contact = refl; given = refl; along = refl });
        sections = refl;
      })
      (among [] [] (record {
        name = refl;
        junction = neither;
        predecessor = both (record { is_junction = refl; name = refl; contact = refl; given = refl; along = refl });
        successor = neither;
        sections = refl;
      }) emptied));
  junctions = paired (record {
    name = refl;
    kind = refl;
    connections = paired (record { incoming = refl; connecting = refl; contact = refl; pairs = refl }) ended;
  }) ended;
  -- 7, 5, 3 and 9 stand last of 9, 3, 5, 7, of 9, 3, 5, of 9, 3 and of 9
  lanes =
      among (take 3 (edged_lanes_of copy)) [] (lane_copied (record { start = 6; size = 2 }) refl)
      (among (take 2 (edged_lanes_of copy)) [] (lane_copied (record { start = 2; size = 2 }) refl)
      (among (take 1 (edged_lanes_of copy)) [] (lane_copied (record { start = 0; size = 2 }) refl)
      (among [] [] (lane_copied (record { start = 0; size = 2 }) refl) emptied)));
}

-- both are admitted
pub both_admitted : (first_broken (table_rules first_map) ≡ none) × (first_broken (table_rules copy) ≡ none)
unfolding broken
both_admitted = (refl, refl)

-- what succession, the gap check and repair's warnings give: lists in row order, gap rows by identity, warnings
pub record Found (t : Tables) (onward before gaps warnings : List (List ℕ)) : Type 0 where
  pub lanes_onward : map (onward_at t) (0 ∷ 1 ∷ 2 ∷ 3 ∷ []) ≡ onward
  pub lanes_before : map (before_at t) (0 ∷ 1 ∷ 2 ∷ 3 ∷ []) ≡ before
  pub gap_rows_lem : gaps_by_identity t ≡ gaps
  pub warned : table warning_width (repair_content t).warnings ≡ warnings

pub found_on_both :
    -- lanes 7, 5, 3, 9 before repair, and after it
    Found first_map ([] ∷ (3 ∷ []) ∷ (9 ∷ []) ∷ [] ∷ []) ([] ∷ [] ∷ (5 ∷ []) ∷ (3 ∷ []) ∷ [])
    ((3 ∷ 9 ∷ one ∷ 0 ∷ 0 ∷ []) ∷ []) ((3 ∷ 0 ∷ 0 ∷ 1 ∷ []) ∷ [])
    × Found (repaired_tables first_map) ((5 ∷ []) ∷ (3 ∷ []) ∷ (9 ∷ []) ∷ [] ∷ [])
    ([] ∷ (7 ∷ []) ∷ (5 ∷ []) ∷ (3 ∷ []) ∷ [])
    ((7 ∷ 5 ∷ two ∷ 0 ∷ 0 ∷ []) ∷ (3 ∷ 9 ∷ one ∷ 0 ∷ 0 ∷ []) ∷ []) []
    -- lanes 9, 3, 5, 7 of the copy: the same lists, the gap rows in another order, and road a in another row
    × Found copy ([] ∷ (9 ∷ []) ∷ (3 ∷ []) ∷ [] ∷ []) ((3 ∷ []) ∷ (5 ∷ []) ∷ [] ∷ [] ∷ [])
    ((3 ∷ 9 ∷ one ∷ 0 ∷ 0 ∷ []) ∷ []) ((3 ∷ 0 ∷ 1 ∷ 1 ∷ []) ∷ [])
    × Found (repaired_tables copy) ([] ∷ (9 ∷ []) ∷ (3 ∷ []) ∷ (5 ∷ []) ∷ [])
    ((3 ∷ []) ∷ (5 ∷ []) ∷ (7 ∷ []) ∷ [] ∷ [])
    ((3 ∷ 9 ∷ one ∷ 0 ∷ 0 ∷ []) ∷ (7 ∷ 5 ∷ two ∷ 0 ∷ 0 ∷ []) ∷ []) []
unfolding broken gap_by_identity gaps_by_identity repaired_tables
found_on_both = (
  record { lanes_onward = refl; lanes_before = refl; gap_rows_lem = refl; warned = refl },
  record { lanes_onward = refl; lanes_before = refl; gap_rows_lem = refl; warned = refl },
  record { lanes_onward = refl; lanes_before = refl; gap_rows_lem = refl; warned = refl },
  record { lanes_onward = refl; lanes_before = refl; gap_rows_lem = refl; warned = refl },
)

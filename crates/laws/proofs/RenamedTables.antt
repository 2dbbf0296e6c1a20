-- The claim about tables and their copy, renamed and reordered.
use mathlib.Core.Path.{◌≡◌, refl, sym, ◌∙◌, ap, subst}
use mathlib.Core.Bool.{Bool, true}
use mathlib.Core.List.{List, [], map, map-map}
use Prim.Native.Nat.{ℕ}
use lib.Dec.{eqb}
use lib.ListN.{get_or-map, get_or}
use Rattle.model.specs.Calls.{repair_content, row_named}
use Rattle.model.specs.Calls.{warning_row, warning_width}
use Rattle.model.specs.Claim.{repaired_tables}
use Rattle.model.specs.Lists.{distinct}
use Rattle.model.specs.Orders.{InAnyOrder, InOrder}
use Rattle.model.specs.Records.{EdgedLane, Lane, Road, Span}
use Rattle.model.specs.Renamed.{EdgedRenamed, JunctionName, LaneRenamed, NewName, OneIdentity, Renamed, RenamedClaim}
use Rattle.model.specs.Renamed.{Renaming, RoadName, SameByIdentity, WarningRenamed, identities_of, name_at}
use Rattle.model.specs.Repair.{Warning}
use Rattle.model.specs.Rows.{table}
use Rattle.model.specs.Rules.{ids_once, names_once, same}
use Rattle.model.specs.Succession.{successors}
use Rattle.model.specs.Tables.{Tables, bit, edged_lanes_of, lane_in, lane_width, lanes_in, lanes_of, map_of, road_in}
use Rattle.model.specs.Tables.{road_width}
use Rattle.model.specs.Tables.{roads_in, roads_of, span_in}
use Rattle.model.specs.Text.{bytes_of, equal_bytes, same_in}
use Rattle.model.proofs.RenamedCorners.{both_admitted, copy, first_map, is_copy, prefixed}
use Rattle.laws.proofs.AnyOrder.{KeysOnce, any_map, any_row, order_map}
use Rattle.laws.proofs.Basics.{bool_ext}
use Rattle.laws.proofs.ByBytes.{alike_in, bytes_equal, equal_bytes_lem}
use Rattle.laws.proofs.GapsRenamed.{gaps_any, gaps_are, identity_of}
use Rattle.laws.proofs.ListTests.{distinct_map}
use Rattle.laws.proofs.OverTables.{repaired_means}
use Rattle.laws.proofs.Packed.{lane, lane_at_lem, lanes_count, predecessors_at, successors_at}
use Rattle.laws.proofs.RepairKeeps.{names_of}
use Rattle.laws.proofs.RepairRenamed.{MapRenamed, Names, repair_renamed}
use Rattle.laws.proofs.SameWarnings.{warning_rows}
use Rattle.laws.proofs.SuccessionRenamed.{predecessors_renamed, successors_renamed}
use Rattle.laws.proofs.WarningsRenamed.{Warned, knows, row_name, warnings_renamed}
use Rattle.laws.proofs.WordsReversed.{Fine, fine, fine_sound, model_of}

-- ---- new names are the same just where the old ones are
bytes_as_old : (f : Renaming) (a b x y : List ℕ) → f.becomes a x → f.becomes b y → equal_bytes x y ≡ equal_bytes a b
bytes_as_old f a b x y p q =
    bool_ext (equal_bytes x y) (equal_bytes a b)
    (λ e. equal (f.kept_different a b y (subst (f.becomes a) (equal_bytes_lem x y e) p) q))
    (λ e. equal (f.one_new_name b x y (subst (λ n. f.becomes n x) (equal_bytes_lem a b e) p) q))
  where
    equal : {x y : List ℕ} → x ≡ y → equal_bytes x y ≡ true
    equal {x} e = ap (equal_bytes x) (sym e) ∙ bytes_equal x

pub names_as_old : (f : Renaming) (text text' : List ℕ) (a a' b b' : Span) → NewName f text text' a a'
    → NewName f text text' b b' → same_in text' a' b' ≡ same_in text a b
unfolding NewName same_in
names_as_old f text text' a a' b b' p q =
    bytes_as_old f (bytes_of text a) (bytes_of text b) (bytes_of text' a') (bytes_of text' b') p q

-- ---- the lanes' identities
abbrev lane_identity : Lane → ℕ
lane_identity l = l.identity

identities_are : (t : Tables) → identities_of t ≡ map lane_identity (lanes_of t)
unfolding lanes_in lane_in
identities_are t = sym (map-map lane_identity lane_in (table lane_width t.lanes))

edged_once : (t : Tables) → map (λ x. x.lane) (edged_lanes_of t) ≡ lanes_of t → KeysOnce lane_identity (lanes_of t) →
    KeysOnce identity_of (edged_lanes_of t)
edged_once t match once =
    let alike : Lane → Lane → Bool = λ a b. eqb a.identity b.identity in
    sym (distinct_map (λ (x : EdgedLane). x.lane) alike (edged_lanes_of t)) ∙ ap (distinct alike) match ∙ once

-- ---- tables and their copy
module _ (of_roads of_junctions : Renaming) (t t' : Tables) where
  -- how names are compared in the two
  abbrev N : Names
  N = record {
    same = same t;
    same' = same t';
    alike = alike_in t.text;
    road_name = RoadName of_roads of_junctions t t';
    junction_name = JunctionName of_roads of_junctions t t';
    road_kept = names_as_old of_roads t.text t'.text;
    junction_kept = names_as_old of_junctions t.text t'.text;
  }

  module _ (h : MapRenamed N (map_of t) (map_of t'))
      (edged : InAnyOrder (EdgedRenamed N.road_name) (edged_lanes_of t) (edged_lanes_of t'))
      (match : map (λ x. x.lane) (edged_lanes_of t) ≡ lanes_of t)
      (match' : map (λ x. x.lane) (edged_lanes_of t') ≡ lanes_of t')
      (once : KeysOnce lane_identity (lanes_of t)) (once' : KeysOnce lane_identity (lanes_of t')) where
    lane_copy : (i j : ℕ) → OneIdentity t t' i j → LaneRenamed N.road_name (lane t i) (lane t' j)
    unfolding map_of lane_in
    lane_copy i j o =
        let there = lane_at_lem t i o.row in
        let there' = lane_at_lem t' j o.row' in
        rw (there, there') at
        (any_row lane_identity lane_identity (λ l l' w. w.identity) h.lanes once once' i j (lane_in []) (lane_in [])
        (rw (lanes_count t) o.row) (rw (lanes_count t') o.row')
        (ap lane_identity there' ∙ o.identity ∙ sym (ap lane_identity there)))

    pub same_found : SameByIdentity t t'
    unfolding map_of
    same_found = record {
      identities = rw (identities_are t, identities_are t')
          (any_map lane_identity lane_identity (λ l l' w. sym w.identity) h.lanes);
      onward = λ i j o.
          successors_at t' j o.row' ∙ successors_renamed N h (lane t i) (lane t' j) (lane_copy i j o)
          ∙ sym (successors_at t i o.row);
      before = λ i j o.
          predecessors_at t' j o.row' ∙ predecessors_renamed N h (lane t i) (lane t' j) (lane_copy i j o)
          ∙ sym (predecessors_at t i o.row);
      gaps = rw (gaps_are t match, gaps_are t' match')
          (gaps_any N.road_name edged (edged_once t match once)
          (λ x. successors (same t) (map_of t) x.lane) (λ x. successors (same t') (map_of t') x.lane)
          (λ x x' w. successors_renamed N h x.lane x'.lane w.lane));
    }

-- ---- the name in the row of a road
row_bytes : (t : Tables) (n : Span) → knows (same t) (names_of (roads_of t)) n ≡ true →
    bytes_of t.text (name_at t (row_named (same t) (roads_of t) n)) ≡ bytes_of t.text n
unfolding road_in roads_in same_in
row_bytes t n known =
    let row = row_named (same t) (roads_of t) n in
    let there = row_name (same t) (roads_of t) n (span_in [] 0) known in
    ap (bytes_of t.text) (sym (in_row row)) ∙ equal_bytes_lem (bytes_of t.text (name row)) (bytes_of t.text n) there
  where
    name : ℕ → Span
    name i = get_or (names_of (roads_of t)) i (span_in [] 0)

    in_row : (i : ℕ) → name i ≡ name_at t i
    in_row i =
        get_or-map (λ (r : Road). r.name) (roads_of t) i (road_in t.sections [])
        ∙ ap (λ (r : Road). r.name) (get_or-map (road_in t.sections) (table road_width t.roads) i [])

row_renamed : (f : Renaming) (t t' : Tables) (n n' : Span) → NewName f t.text t'.text n n'
    → knows (same t) (names_of (roads_of t)) n ≡ true → knows (same t') (names_of (roads_of t')) n' ≡ true →
    NewName f t.text t'.text (name_at t (row_named (same t) (roads_of t) n))
    (name_at t' (row_named (same t') (roads_of t') n'))
unfolding NewName
row_renamed f t t' n n' new known known' = moved (row_bytes t n known) (row_bytes t' n' known')
  where
    moved : {a x : List ℕ} → a ≡ bytes_of t.text n → x ≡ bytes_of t'.text n' → f.becomes a x
    moved old-same new-same = rw (old-same, new-same) new

-- ---- THE CLAIM
lanes_match : (t : Tables) → Fine t → map (λ (x : EdgedLane). x.lane) (edged_lanes_of t) ≡ lanes_of t
unfolding model_of map_of
lanes_match t f = (fine_sound t f).match

ids_once_lem : (t : Tables) → Fine t → KeysOnce lane_identity (lanes_of t)
unfolding ids_once
ids_once_lem t f = f.rest.identities

module _ (of_roads of_junctions : Renaming) (t t' : Tables) (h : Renamed of_roads of_junctions t t') (f : Fine t)
    (f' : Fine t') where
  abbrev M : Names
  M = N of_roads of_junctions t t'

  plain : MapRenamed M (map_of t) (map_of t')
  unfolding map_of names_once
  plain = record {
    roads = record { any = h.roads; once = f.rest.once };
    junctions = h.junctions;
    lanes = rw (lanes_match t f, lanes_match t' f') at
        (any_map (λ x. x.lane) (λ x. x.lane) (λ x x' w. w.lane) h.lanes);
  }

  repaired : MapRenamed M (map_of (repaired_tables t)) (map_of (repaired_tables t'))
  repaired = rw (repaired_means t f, repaired_means t' f') (repair_renamed M plain)

  warned : InOrder (WarningRenamed of_roads t t') (table warning_width (repair_content t).warnings)
      (table warning_width (repair_content t').warnings)
  unfolding map_of
  warned =
      rw (warning_rows t, warning_rows t')
      (order_map (warning_row t) (warning_row t') one (warnings_renamed M (map_of t) (map_of t') plain))
    where
      one : (w w' : Warning) → Warned M (names_of (roads_of t)) (names_of (roads_of t')) w w' →
          WarningRenamed of_roads t t' (warning_row t w) (warning_row t' w')
      one w w' q = unfold warning_row in record {
        warning = refl;
        junction = q.junction_row;
        road = row_renamed of_roads t t' w.road w'.road q.road q.known q.known';
        at_end = ap bit q.at_end;
      }

  pub renamed_claim : RenamedClaim of_roads of_junctions t t'
  unfolding map_of repaired_tables edged_lanes_of
  renamed_claim = record {
    found =
        same_found of_roads of_junctions t t' plain h.lanes (lanes_match t f) (lanes_match t' f') (ids_once_lem t f)
        (ids_once_lem t' f');
    repaired = record { roads = repaired.roads.any; junctions = repaired.junctions; lanes = h.lanes };
    found_repaired =
        same_found of_roads of_junctions (repaired_tables t) (repaired_tables t') repaired h.lanes (lanes_match t f)
        (lanes_match t' f') (ids_once_lem t f) (ids_once_lem t' f');
    warned = warned;
  }

-- the map and the copy of the corner cases
pub renamed_example : RenamedClaim (prefixed 255) (prefixed 97) first_map copy
renamed_example =
    renamed_claim (prefixed 255) (prefixed 97) first_map copy is_copy (fine first_map both_admitted.0)
    (fine copy both_admitted.1)

-- The junctions in row order: one junction more.
use mathlib.Core.Path.{◌≡◌, refl, sym, ap, ap₂, ◌∙◌}
use mathlib.Core.Bool.{Bool}
use mathlib.Core.List.{List, [], ◌∷◌, ◌++◌, append-nil, append_assoc}
use Prim.Native.Nat.{ℕ, suc, ◌+◌, ◌*◌, ◌/◌, ◌≤◌}
use native.Mathlib.Nat.{add-zero}
use native.Mathlib.Omega.{arith}
use lib.ListN.{length, get_or, take}
use Rattle.model.specs.Calls.{warning_row}
use Rattle.model.specs.Lists.{gather}
use Rattle.model.specs.Records.{Span, Connection, Junction, Road}
use Rattle.model.specs.Repair.{Warning, connections_after, junctions_over, missing_links, repair_junction}
use Rattle.model.specs.Repair.{repair_roads, reversed, roads_after, roads_over, warn_after, warn_all, warn_over}
use Rattle.model.specs.Rows.{rows_from}
use Rattle.model.specs.Rules.{same}
use Rattle.model.specs.Tables.{Tables, junction_row, kind_word}
use Rattle.laws.proofs.WordsReversed.{gather_append}
use Rattle.words.specs.Fields.{junction_kind}
use Rattle.words.specs.Map.{map_read}
use Rattle.words.specs.Rows.{tab}
use Rattle.words.proofs.Laws.{tab_length, tab_more, total_le}
use Rattle.rules.specs.Parts.{counts}
use Rattle.rules.proofs.Fits.{fit_next}
use Rattle.repair.specs.Now.{run, junction_at, junction_name, roads_with, row_connection, row_junction}
use Rattle.repair.specs.Laying.{Blank, Over, RoomForAll, Stepped, Twice}
use Rattle.repair.specs.Ready.{Joined, Small, connections_before, pairs_before}
use Rattle.repair.specs.declared.junction.Junction.{Junction as Read}
use Rattle.words.specs.declared.kinds.JunctionKind.{JunctionKind}
use Rattle.words.specs.declared.kinds.JunctionKind.TheVariants.{Common, Direct, Virtual}
use Rattle.repair.specs.declared.junctions.State.{State}
use Rattle.repair.specs.declared.laying.Pile.{Pile}
use Rattle.repair.proofs.Piles.{laid_none, laid_on, laid_same}
use Rattle.repair.proofs.TargetWords.{name_first}
use Rattle.laws.proofs.RowTests.{rows_from_append}

-- ---- a junction as it is read: what its kind makes of connections, roads and warnings
module _ (rs : List Road) (j : Read) where
  abbrev t : Tables
  t = map_read j.reads.map

  abbrev own : List Connection
  own = run (row_connection t) j.first j.count

  abbrev name : Span
  name = junction_name t j.row

  connections_are : connections_after (same t) (junction_kind j.kind) name own rs
      ≡ (repair_junction (same t) rs (row_junction t j.row)).connections
  unfolding repair_junction junction_at
  connections_are =
      λ i. connections_after (same t) (j.kind_is i) name (run (row_connection t) (j.first_is i) (j.count_is i)) rs

  roads_are : roads_after (same t) (junction_kind j.kind) name own rs ≡ repair_roads (same t) (row_junction t j.row) rs
  unfolding repair_roads junction_at
  roads_are = λ i. roads_after (same t) (j.kind_is i) name (run (row_connection t) (j.first_is i) (j.count_is i)) rs

  warned_are : warn_after (same t) j.row (junction_kind j.kind) name own rs
      ≡ warn_after (same t) j.row (row_junction t j.row).kind (row_junction t j.row).name
      (row_junction t j.row).connections rs
  unfolding junction_at
  warned_are =
      λ i. warn_after (same t) j.row (j.kind_is i) name (run (row_connection t) (j.first_is i) (j.count_is i)) rs

  pub direct_connections : j.kind ≡ Direct
      → own ++ reversed (same t) rs name own ≡ (repair_junction (same t) rs (row_junction t j.row)).connections
  direct_connections is =
      sym (ap (λ x. connections_after (same t) (junction_kind x) name own rs) is) ∙ connections_are

  pub other_connections : (j.kind ≡ Direct → ⊥)
      → own ≡ (repair_junction (same t) rs (row_junction t j.row)).connections
  other_connections other = go j.kind refl ∙ connections_are
    where
      go : (x : JunctionKind) → j.kind ≡ x → own ≡ connections_after (same t) (junction_kind x) name own rs
      go Common is = refl
      go Direct is = absurd (other is)
      go Virtual is = refl

  module _ (is : j.kind ≡ Common) where
    pub common_roads : missing_links (same t) name own rs ≡ repair_roads (same t) (row_junction t j.row) rs
    common_roads = sym (ap (λ x. roads_after (same t) (junction_kind x) name own rs) is) ∙ roads_are

    pub common_warned : warn_all (same t) j.row name own rs
        ≡ warn_after (same t) j.row (row_junction t j.row).kind (row_junction t j.row).name
        (row_junction t j.row).connections rs
    common_warned = sym (ap (λ x. warn_after (same t) j.row (junction_kind x) name own rs) is) ∙ warned_are

  module _ (other : j.kind ≡ Common → ⊥) where
    pub other_roads : rs ≡ repair_roads (same t) (row_junction t j.row) rs
    other_roads = go j.kind refl ∙ roads_are
      where
        go : (x : JunctionKind) → j.kind ≡ x → rs ≡ roads_after (same t) (junction_kind x) name own rs
        go Common is = absurd (other is)
        go Direct is = refl
        go Virtual is = refl

    pub other_warned : []
        ≡ warn_after (same t) j.row (row_junction t j.row).kind (row_junction t j.row).name
        (row_junction t j.row).connections rs
    other_warned = go j.kind refl ∙ warned_are
      where
        go : (x : JunctionKind) → j.kind ≡ x → [] ≡ warn_after (same t) j.row (junction_kind x) name own rs
        go Common is = absurd (other is)
        go Direct is = refl
        go Virtual is = refl

  -- its row
  pub junction_row_lem : (n : ℕ) {count : ℕ}
      → count ≡ length (repair_junction (same t) rs (row_junction t j.row)).connections
      → get_or t.junctions (j.row * 5) 0 ∷ get_or t.junctions (j.row * 5 + 1) 0 ∷ kind_word (junction_kind j.kind)
      ∷ n ∷ count ∷ [] ≡ junction_row n (repair_junction (same t) rs (row_junction t j.row))
  unfolding junction_row repair_junction junction_at
  junction_row_lem n {count} counted =
      ap (λ (s : Span). s.start ∷ s.size ∷ kind_word (junction_kind j.kind) ∷ n ∷ count ∷ [])
      (name_first 5 t.junctions j.row)
      ∙ (λ i.
      get_or t.junctions (j.row * 5 + 0) 0 ∷ get_or t.junctions (j.row * 5 + 0 + 1) 0 ∷ kind_word (j.kind_is i) ∷ n
      ∷ counted i ∷ [])

-- ---- its part of the connections, and their pairs
pub record Part (junctions connections pairs : List ℕ) (k first m : ℕ) : Type 0 where
  pub begins : first ≡ connections_before junctions k
  pub inside : first + m ≤ length connections / 7
  pub finish : first + m ≡ connections_before junctions (k + 1)
  pub pairs_begin : pairs_before connections first ≡ pairs_before connections (connections_before junctions k)
  pub pairs_finish : pairs_before connections (first + m)
      ≡ pairs_before connections (connections_before junctions (k + 1))
  pub pairs_rise : pairs_before connections first ≤ pairs_before connections (first + m)
  pub pairs_few : pairs_before connections (first + m) ≤ length pairs / 2

pub part_of : (j : Read)
    → Part j.reads.map.junctions.now j.reads.map.connections.now j.reads.map.pairs.now j.row j.first j.count
part_of j =
    let junctions = j.reads.map.junctions.now in
    let connections = j.reads.map.connections.now in
    let small : Small j.reads.map.pairs.now connections = j.reads.ready.small in
    let joined : Joined junctions connections = j.reads.ready.joined in
    let next = fit_next 5 4 junctions j.row in
    let begins : j.first ≡ connections_before junctions j.row = j.first_is ∙ joined.fit.begins j.row j.inside in
    let finish : j.first + j.count ≡ connections_before junctions (j.row + 1) =
    omega (arith, next, begins, j.count_is) in
    record {
      begins = begins;
      inside = j.within;
      finish = finish;
      pairs_begin = ap (pairs_before connections) begins;
      pairs_finish = ap (pairs_before connections) finish;
      pairs_rise = total_le j.first (j.first + j.count) (counts 7 6 connections) (omega arith);
      pairs_few =
          let all = total_le (j.first + j.count) (length connections / 7) (counts 7 6 connections) j.within in
          omega (arith, all, small.fit.whole);
    }

-- room for its own connections, and for those the other way
module _ (t : Tables) {k first m : ℕ} {before : Pile} (small : Small t.pairs t.connections)
    (part : Part t.junctions t.connections t.pairs k first m) (twice : Twice t k before) where
  pub room_own : RoomForAll t.connections first m before.connections.rows before.pairs.rows
  room_own = record {
    inside = part.inside;
    rows = omega (arith, part.begins, part.inside, small.few, twice.rows);
    pair_rows =
        omega (arith, part.pairs_begin, part.pairs_rise, part.pairs_few, small.few_pairs, twice.pair_rows);
  }

  module _ (own : Pile) (rows : own.connections.rows ≡ before.connections.rows + m)
      (laid : own.pairs.rows + pairs_before t.connections first
      ≡ before.pairs.rows + pairs_before t.connections (first + m)) where
    pub room_back : RoomForAll t.connections first m own.connections.rows own.pairs.rows
    room_back = record {
      inside = part.inside;
      rows = omega (arith, part.begins, part.inside, small.few, twice.rows);
      pair_rows = omega (
        arith,
        part.pairs_begin,
        part.pairs_rise,
        part.pairs_few,
        small.few_pairs,
        twice.pair_rows,
        laid,
      );
    }

    -- there are at most twice as many as up to the next junction: with its own alone, and with both
    pub twice_own : Twice t (k + 1) own
    twice_own = record {
      rows = omega (arith, twice.rows, part.begins, part.finish);
      pair_rows = omega (
        arith,
        laid,
        twice.pair_rows,
        part.pairs_begin,
        part.pairs_finish,
        part.pairs_rise,
      );
    }

    pub twice_more : {after : Pile} → after.connections.rows ≤ own.connections.rows + m
        → after.pairs.rows + pairs_before t.connections first
        ≤ own.pairs.rows + pairs_before t.connections (first + m) → Twice t (k + 1) after
    twice_more back pairs_back = record {
      rows = omega (arith, back, twice.rows, part.begins, part.finish);
      pair_rows = omega (
        arith,
        pairs_back,
        laid,
        twice.pair_rows,
        part.pairs_begin,
        part.pairs_finish,
        part.pairs_rise,
      );
    }

-- ---- one junction more
module _ (same : Span → Span → Bool) where
  roads_snoc : (xs : List Junction) (x : Junction) (rs : List Road)
      → roads_over same (xs ++ (x ∷ [])) rs ≡ repair_roads same x (roads_over same xs rs)
  roads_snoc [] x rs = refl
  roads_snoc (y ∷ xs) x rs = roads_snoc xs x (repair_roads same y rs)

  junctions_snoc : (xs : List Junction) (x : Junction) (rs : List Road)
      → junctions_over same (xs ++ (x ∷ [])) rs
      ≡ junctions_over same xs rs ++ (repair_junction same (roads_over same xs rs) x ∷ [])
  junctions_snoc [] x rs = refl
  junctions_snoc (y ∷ xs) x rs =
      ap {B = List Junction} (λ l. repair_junction same rs y ∷ l) (junctions_snoc xs x (repair_roads same y rs))

  warned_snoc : (i : ℕ) (xs : List Junction) (x : Junction) (rs : List Road)
      → warn_over same i (xs ++ (x ∷ [])) rs
      ≡ warn_over same i xs rs
      ++ warn_after same (i + length xs) x.kind x.name x.connections (roads_over same xs rs)
  warned_snoc i [] x rs =
      append-nil (warn_after same i x.kind x.name x.connections rs)
      ∙ ap (λ (k : ℕ). warn_after same k x.kind x.name x.connections rs) (sym (add-zero i))
  warned_snoc i (y ∷ xs) x rs =
      ap (λ (l : List Warning). warn_after same i y.kind y.name y.connections rs ++ l)
      (warned_snoc (suc i) xs x (repair_roads same y rs))
      ∙ sym (append_assoc (warn_after same i y.kind y.name y.connections rs)
      (warn_over same (suc i) xs (repair_roads same y rs))
      (warn_after same (suc i + length xs) x.kind x.name x.connections
      (roads_over same xs (repair_roads same y rs))))
      ∙ (let z : suc i + length xs ≡ i + suc (length xs) = omega arith in
      ap (λ (k : ℕ).
      (warn_after same i y.kind y.name y.connections rs
      ++ warn_over same (suc i) xs (repair_roads same y rs))
      ++ warn_after same k x.kind x.name x.connections (roads_over same xs (repair_roads same y rs))) z)

abbrev connections_of : Junction → List Connection
connections_of j = j.connections

pub over_none : (t : Tables) (x : State) → Blank x → Over t 0 x x
unfolding tab
over_none t x blank = record {
  roads = refl;
  count = blank.junctions;
  rows = ap (λ (n : ℕ). take (n * 5) x.junctions.words) blank.junctions;
  laid = laid_none x.pile;
  warned = ap (λ (n : ℕ). take (n * 4) x.warnings.words) blank.warnings;
}

module _ (t : Tables) (i : ℕ) (initial : State) (blank : Blank initial) where
  abbrev start : List Road
  start = roads_with t initial.ends.words

  abbrev junctions : List Junction
  junctions = tab i (row_junction t)

  abbrev done : List Junction
  done = junctions_over (same t) junctions start

  abbrev last : Junction
  last = repair_junction (same t) (roads_over (same t) junctions start) (row_junction t i)

  list : junctions_over (same t) (tab (i + 1) (row_junction t)) start ≡ done ++ (last ∷ [])
  list =
      ap (λ (l : List Junction). junctions_over (same t) l start) (tab_more i (row_junction t))
      ∙ junctions_snoc (same t) junctions (row_junction t i) start

  index : i ≡ 0 + length junctions
  index = let count = tab_length i (row_junction t) in omega arith

  pub over_more : {before after : State} → Over t i initial before → Stepped t i before after
      → Over t (i + 1) initial after
  over_more over step = record {
    roads = step.roads
        ∙ ap (repair_roads (same t) (row_junction t i)) over.roads
        ∙ sym
        (ap (λ (l : List Junction). roads_over (same t) l start) (tab_more i (row_junction t))
        ∙ roads_snoc (same t) junctions (row_junction t i) start);
    count = step.count ∙ ap (λ (n : ℕ). n + 1) over.count;
    rows =
        step.row
        ∙ ap₂ (λ (a b : List ℕ). a ++ b) over.rows
        (ap₂ (λ (n : ℕ) (r : List Road). junction_row n (repair_junction (same t) r (row_junction t i)))
        (over.laid.rows ∙ ap (λ (n : ℕ). n + length (gather connections_of done)) blank.connections) over.roads
        ∙ sym (append-nil (junction_row (0 + length (gather connections_of done)) last)))
        ∙ sym (ap (rows_from junction_row connections_of 0) list
        ∙ rows_from_append junction_row connections_of 0 done (last ∷ []));
    laid =
        laid_same
        (sym (ap (gather connections_of) list
        ∙ gather_append connections_of done (last ∷ [])
        ∙ ap (λ (l : List Connection). gather connections_of done ++ l) (append-nil last.connections)))
        (laid_on (gather connections_of done) last.connections over.laid
        (laid_same
        (ap (λ (r : List Road). (repair_junction (same t) r (row_junction t i)).connections) over.roads)
        step.laid));
    warned =
        step.warned
        ∙ ap₂ (λ (a b : List ℕ). a ++ b) over.warned
        (ap₂
        (λ (k : ℕ) (r : List Road).
        gather (warning_row t)
        (warn_after (same t) k (row_junction t i).kind (row_junction t i).name (row_junction t i).connections r))
        index over.roads)
        ∙ sym
        (ap (λ (l : List Junction). gather (warning_row t) (warn_over (same t) 0 l start))
        (tab_more i (row_junction t))
        ∙ ap (gather (warning_row t)) (warned_snoc (same t) 0 junctions (row_junction t i) start)
        ∙ gather_append (warning_row t) (warn_over (same t) 0 junctions start)
        (warn_after (same t) (0 + length junctions) (row_junction t i).kind (row_junction t i).name
        (row_junction t i).connections (roads_over (same t) junctions start)));
  }

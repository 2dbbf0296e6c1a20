-- The call's whole outcome.
use mathlib.Core.Path.{◌≡◌, refl, sym, ap, ap₂, ◌∙◌}
use mathlib.Core.Bool.{Bool, true, false, ◌&&◌}
use mathlib.Core.Option.{none}
use mathlib.Core.List.{List, [], ◌∷◌, ◌++◌, map}
use Prim.Native.Nat.{ℕ, zero, suc, ◌+◌, ◌*◌, ◌/◌, ◌≤◌, ◌<◌}
use native.Mathlib.Nat.{le_of_suc-le-suc, mul-div_cancel}
use native.Mathlib.Omega.{arith}
use lib.ListN.{length, get_or, take}
use lib.Seq.{get_or-drop}
use lib.Dec.{leb}
use borrow.Author.Tests.{le-leb, lt-leb, not-true, leb-true}
use Rattle.model.specs.Calls.{RepairOutputs, put_repaired, repair_content, repair_counts, repair_lengths}
use Rattle.model.specs.Calls.{repair_rules, rules_to5, warning_row}
use Rattle.model.specs.Lists.{gather}
use Rattle.model.specs.Records.{Connection, Junction, Pair, Road}
use Rattle.model.specs.Repair.{junctions_over, repair, roads_over, start_roads, warn_over, warnings, without_along}
use Rattle.model.specs.Rows.{part, parts_fit, rows_from, table, written}
use Rattle.model.specs.Rules.{connection_parts_fit, first_broken, fits, map_sized}
use Rattle.model.specs.Rules.{pair_parts_fit, same, sized}
use Rattle.model.specs.Tables.{Tables, all_connections, all_pairs, connection_in, connection_row, connection_words}
use Rattle.model.specs.Tables.{connections_in, junction_in, junction_row, junction_words, junctions_in, kind_of}
use Rattle.model.specs.Tables.{map_of, pair_row, pair_words, pairs_in, road_words, roads_of}
use Rattle.laws.proofs.RulesReversed.{all_pass}
use Rattle.words.specs.Rows.{from, tab}
use Rattle.words.proofs.Laws.{tab_same}
use Rattle.words.proofs.Scans.{and_off, and_off_left, and_step, left_on, map_rows, right_on}
use Rattle.rules.proofs.Counts.{few, junctions_few, sized_few}
use Rattle.rules.proofs.Forms.{name_at_lem, roads_once_lem}
use Rattle.rules.proofs.Locals.{short}
use Rattle.tables.proofs.Order.{parts_of}
use Rattle.repair.specs.Now.{connection_at, junction_at, roads_with, row_junction}
use Rattle.repair.specs.Laying.{Blank, Over, laid_words}
use Rattle.repair.specs.Along.{roads_begun}
use Rattle.repair.specs.Answers.{content_now, outputs}
use Rattle.repair.specs.Ready.{Joined, Ready}
use Rattle.repair.specs.declared.junctions.State.{State}
use Rattle.repair.proofs.Piles.{part_tab}
use Rattle.rules.proofs.Fits.{fit_in, fit_of}
use Rattle.repair.proofs.RoadWords.{roads_width, words_now_lem}

-- ---- content in whole rows
pub record InRows (content : RepairOutputs) (roads junctions connections pairs warnings : ℕ) : Type 0 where
  pub road_words_lem : length content.roads ≡ roads * 20
  pub words_of_junctions : length content.junctions ≡ junctions * 5
  pub connection_words_lem : length content.connections ≡ connections * 7
  pub words_of_pairs : length content.pairs ≡ pairs * 2
  pub warning_words : length content.warnings ≡ warnings * 4

rows_of : {words rows width : ℕ} → 0 < width → words ≡ rows * width → rows ≡ words / width
rows_of {words} {rows} {width} some h = sym (ap (λ (n : ℕ). n / width) h ∙ mul-div_cancel rows some)

module _ (content : RepairOutputs) (roads junctions connections pairs warnings : ℕ)
    (whole : InRows content roads junctions connections pairs warnings) where
  -- whether it fits the outputs
  pub room_is : (outs : RepairOutputs) {room : Bool}
      → fits (roads * 20 ∷ junctions * 5 ∷ connections * 7 ∷ pairs * 2 ∷ warnings * 4 ∷ [])
      (length outs.roads ∷ length outs.junctions ∷ length outs.connections ∷ length outs.pairs
      ∷ length outs.warnings ∷ []) ≡ room → fits (repair_lengths content) (repair_lengths outs) ≡ room
  unfolding repair_lengths
  room_is outs room =
      (λ i.
      fits
      (whole.road_words_lem i ∷ whole.words_of_junctions i ∷ whole.connection_words_lem i ∷ whole.words_of_pairs i
      ∷ whole.warning_words i ∷ [])
      (repair_lengths outs))
      ∙ room

  -- how many rows it has
  pub rows_are : roads ∷ junctions ∷ connections ∷ pairs ∷ warnings ∷ [] ≡ repair_counts content
  unfolding repair_counts
  rows_are = λ i.
      rows_of (omega arith) whole.road_words_lem i ∷ rows_of (omega arith) whole.words_of_junctions i
      ∷ rows_of (omega arith) whole.connection_words_lem i ∷ rows_of (omega arith) whole.words_of_pairs i
      ∷ rows_of (omega arith) whole.warning_words i ∷ []

-- what is at hand is in whole rows
rows_in : {slice words : List ℕ} {n : ℕ} → (slice ≡ words) × (length slice ≡ n) → length words ≡ n
rows_in whole = sym (ap length whole.0) ∙ whole.1

pub whole_is : (t : Tables) (s : State) {junctions connections pairs warnings : List ℕ}
    → (junctions ≡ laid_words s.junctions) × (length junctions ≡ s.junctions.rows * 5)
    → (connections ≡ laid_words s.pile.connections) × (length connections ≡ s.pile.connections.rows * 7)
    → (pairs ≡ laid_words s.pile.pairs) × (length pairs ≡ s.pile.pairs.rows * 2)
    → (warnings ≡ laid_words s.warnings) × (length warnings ≡ s.warnings.rows * 4)
    → InRows (content_now t s) (length t.roads / 20) s.junctions.rows s.pile.connections.rows s.pile.pairs.rows
    s.warnings.rows
whole_is t s junctions connections pairs warnings = record {
  road_words_lem = roads_width _ _ _ _;
  words_of_junctions = rows_in junctions;
  connection_words_lem = rows_in connections;
  words_of_pairs = rows_in pairs;
  warning_words = rows_in warnings;
}

-- an output that a slice is copied to
pub copied : (out : List ℕ) {slice words new : List ℕ} → new ≡ written slice out → slice ≡ words
    → new ≡ written words out
copied out put is = put ∙ ap (λ (l : List ℕ). written l out) is

-- the five outputs, each written
pub put_are : (content outs : RepairOutputs) {roads junctions connections pairs warnings : List ℕ}
    → roads ≡ written content.roads outs.roads → junctions ≡ written content.junctions outs.junctions
    → connections ≡ written content.connections outs.connections
    → pairs ≡ written content.pairs outs.pairs → warnings ≡ written content.warnings outs.warnings
    → outputs roads junctions connections pairs warnings ≡ put_repaired content outs
unfolding put_repaired
put_are content outs roads junctions connections pairs warnings =
    λ i. outputs (roads i) (junctions i) (connections i) (pairs i) (warnings i)

-- ---- the junctions by their rows
connections_tab : (pairs connections : List ℕ)
    → connections_in pairs connections ≡ tab (length connections / 7) (connection_at pairs connections)
unfolding connections_in connection_at connection_in
connections_tab pairs connections = map_rows 7 connections (connection_in (pairs_in pairs)) (λ l. simp (short 7 l))

junction_one : (pairs connections junctions : List ℕ) → Joined junctions connections → (k : ℕ)
    → k < length junctions / 5
    → junction_in (connections_in pairs connections) (from 5 junctions k)
    ≡ junction_at pairs connections junctions k
unfolding junction_in junction_at
junction_one pairs connections junctions joined k inside =
    let first = get_or junctions (k * 5 + 3) 0 in
    let count = get_or junctions (k * 5 + 4) 0 in
    let own =
    ap₂ (λ (a b : ℕ). part a b (connections_in pairs connections)) (get_or-drop (k * 5) junctions 3 0)
    (get_or-drop (k * 5) junctions 4 0)
    ∙ ap (part first count) (connections_tab pairs connections)
    ∙ part_tab (length connections / 7) (connection_at pairs connections) first count
    (fit_in 5 3 4 junctions (length connections / 7) joined.fit k inside) in
    λ i.
    record
    { name = name_at_lem 5 0 junctions k i; kind = kind_of (get_or-drop (k * 5) junctions 2 0 i); connections = own i }

pub junctions_tab : (pairs connections junctions : List ℕ) → Joined junctions connections
    → junctions_in pairs connections junctions
    ≡ tab (length junctions / 5) (junction_at pairs connections junctions)
unfolding junctions_in junction_in
junctions_tab pairs connections junctions joined =
    map_rows 5 junctions (junction_in (connections_in pairs connections)) (λ l. simp (short 5 l))
    ∙ tab_same (length junctions / 5) (λ k. junction_in (connections_in pairs connections) (from 5 junctions k))
    (junction_at pairs connections junctions) (junction_one pairs connections junctions joined)

-- ---- what is written is what repair has to write
module _ (t : Tables) (joined : Joined t.junctions t.connections) where
  list : tab (length t.junctions / 5) (row_junction t) ≡ (map_of t).junctions
  unfolding map_of
  list = sym (junctions_tab t.pairs t.connections t.junctions joined)

  pub start_is : {rs : List Road} → rs ≡ roads_begun t → rs ≡ start_roads (same t) (map_of t)
  unfolding start_roads map_of
  start_is begun = begun ∙ ap (λ (js : List Junction). map (without_along (same t) js) (roads_of t)) list

module _ (t : Tables) (ready : Ready t) where
  module _ {before after : State} (blank : Blank before) (begun : roads_with t before.ends.words ≡ roads_begun t)
      (over : Over t (length t.junctions / 5) before after) where
    listed : tab (length t.junctions / 5) (row_junction t) ≡ (map_of t).junctions
    listed = list t ready.joined

    started : roads_with t before.ends.words ≡ start_roads (same t) (map_of t)
    started = start_is t ready.joined begun

    repaired : junctions_over (same t) (tab (length t.junctions / 5) (row_junction t))
        (roads_with t before.ends.words)
        ≡ junctions_over (same t) (map_of t).junctions (start_roads (same t) (map_of t))
    repaired = ap₂ (junctions_over (same t)) listed started

    pub content_is : content_now t after ≡ repair_content t
    unfolding repair_content repair warnings junction_words connection_words pair_words all_connections all_pairs
    content_is =
        let pairs_of : Connection → List Pair = λ x. x.pairs in
        let laid =
        gather (λ (x : Junction). x.connections)
        (junctions_over (same t) (tab (length t.junctions / 5) (row_junction t)) (roads_with t before.ends.words)) in
        let roads =
        sym (words_now_lem t.sections t.roads t.junctions after.ends.words ready.fit)
        ∙ ap road_words (over.roads ∙ ap₂ (roads_over (same t)) listed started) in
        let junctions = over.rows ∙ ap (rows_from junction_row (λ (x : Junction). x.connections) 0) repaired in
        let connections =
        over.laid.words
        ∙ ap₂ (λ (n p : ℕ). take (n * 7) before.pile.connections.words ++ rows_from connection_row pairs_of p laid)
        blank.connections blank.pairs
        ∙ ap (λ (l : List Junction).
        rows_from connection_row (λ (x : Connection). x.pairs) 0
        (gather (λ (x : Junction). x.connections) l)) repaired in
        let pairs =
        over.laid.words_of_pairs
        ∙ ap (λ (n : ℕ). take (n * 2) before.pile.pairs.words ++ gather pair_row (gather pairs_of laid)) blank.pairs
        ∙ ap (λ (l : List Junction).
        gather pair_row
        (gather (λ (x : Connection). x.pairs) (gather (λ (x : Junction). x.connections) l))) repaired in
        let warned =
        over.warned
        ∙ ap₂ (λ (l : List Junction) (rs : List Road). gather (warning_row t) (warn_over (same t) 0 l rs)) listed
        started in
        λ i. outputs (roads i) (junctions i) (connections i) (pairs i) (warned i)

-- ---- what an admission says
sizes : (t : Tables) → map_sized 8192 t ≡ true → (length t.connections / 7 ≤ 8192) × (length t.pairs / 2 ≤ 8192)
unfolding map_sized
sizes t sized-all =
    let text = leb (length t.text) 1048576 in
    let roads = sized 20 16384 (length t.roads) in
    let sections = sized 1 16384 (length t.sections) in
    let junctions = sized 5 16384 (length t.junctions) in
    let connections = sized 7 8192 (length t.connections) in
    let pairs = sized 2 8192 (length t.pairs) in
    let before = text && roads && sections && junctions in (
      sized_few 7 8192 _ (right_on before connections (left_on (before && connections) pairs sized-all)),
      sized_few 2 8192 _ (right_on (before && connections) pairs sized-all),
    )

pub ready : (t : Tables) → none ≡ first_broken (repair_rules t) → Ready t
unfolding repair_rules rules_to5 connection_parts_fit pair_parts_fit
ready t unbroken =
    let rules = all_pass (repair_rules t) (sym unbroken) in
    let sized-all = rules.0 in
    let once = rules.1.1.0 in
    let sections_fit_lem = rules.1.1.1.0 in
    let parts_fit_lem = rules.1.1.1.1.0 in
    let few-rows = sizes t sized-all in
    let own-connections = parts_fit 3 4 0 (length t.connections / 7) (table 5 t.junctions) in
    let own_pairs = parts_fit 5 6 0 (length t.pairs / 2) (table 7 t.connections) in
    record {
      few_roads = (few 8192 t (omega arith) sized-all).few_roads;
      once = not-true _ (sym (roads_once_lem t.text t.roads t.sections) ∙ once);
      small = record {
        few = few-rows.0;
        few_pairs = few-rows.1;
        fit = fit_of 7 5 6 (length t.pairs / 2) t.connections (omega arith) (omega arith)
            (right_on own-connections own_pairs parts_fit_lem);
      };
      joined = record {
        few = junctions_few 8192 t sized-all;
        fit = fit_of 5 3 4 (length t.connections / 7) t.junctions (omega arith) (omega arith)
            (left_on own-connections own_pairs parts_fit_lem);
      };
      fit = fit_of 20 18 19 (length t.sections) t.roads (omega arith) (omega arith)
          (parts_of t.sections t.roads _ sections_fit_lem);
    }

-- ---- five contents that fit
pub all_fit : {a b c d e roads junctions connections pairs warnings : ℕ} → a ≤ roads → b ≤ junctions
    → c ≤ connections → d ≤ pairs → e ≤ warnings
    → fits (a ∷ b ∷ c ∷ d ∷ e ∷ []) (roads ∷ junctions ∷ connections ∷ pairs ∷ warnings ∷ []) ≡ true
all_fit la lb lc ld le =
    and_step (le-leb _ _ la)
    (and_step (le-leb _ _ lb) (and_step (le-leb _ _ lc) (and_step (le-leb _ _ ld) (and_step (le-leb _ _ le) refl))))

-- contents of which the i-th does not fit
pub one_over : (contents outs : List ℕ) (i : ℕ) → i < length contents → get_or outs i 0 < get_or contents i 0
    → fits contents outs ≡ false
one_over [] outs i inside over = absurd (omega arith)
one_over (k ∷ ks) [] i inside over = refl
one_over (k ∷ ks) (n ∷ ns) zero inside over = and_off_left _ (fits ks ns) (lt-leb k n over)
one_over (k ∷ ks) (n ∷ ns) (suc i) inside over =
    and_off (leb k n) (fits ks ns) (one_over ks ns i (le_of_suc-le-suc inside) over)

-- five contents that fit do so one by one
pub fits_five : (a b c d e roads junctions connections pairs warnings : ℕ)
    → fits (a ∷ b ∷ c ∷ d ∷ e ∷ []) (roads ∷ junctions ∷ connections ∷ pairs ∷ warnings ∷ []) ≡ true
    → (a ≤ roads) × (b ≤ junctions) × (c ≤ connections) × (d ≤ pairs) × (e ≤ warnings)
fits_five a b c d e roads junctions connections pairs warnings all =
    let from-warnings = leb e warnings && true in
    let from-pairs = leb d pairs && from-warnings in
    let from-connections = leb c connections && from-pairs in
    let from-junctions = leb b junctions && from-connections in
    let rest-1 = right_on (leb a roads) from-junctions all in
    let rest-2 = right_on (leb b junctions) from-connections rest-1 in
    let rest-3 = right_on (leb c connections) from-pairs rest-2 in
    let rest-4 = right_on (leb d pairs) from-warnings rest-3 in (
      leb-true a roads (left_on (leb a roads) from-junctions all),
      leb-true b junctions (left_on (leb b junctions) from-connections rest-1),
      leb-true c connections (left_on (leb c connections) from-pairs rest-2),
      leb-true d pairs (left_on (leb d pairs) from-warnings rest-3),
      leb-true e warnings (left_on (leb e warnings) true rest-4),
    )

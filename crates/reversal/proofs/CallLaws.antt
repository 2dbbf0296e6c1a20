-- The call's outcome, and what its admission says.
use Prim.Native.Nat.{ℕ, ◌*◌, ◌/◌, ◌%◌, ◌<◌, ◌≤◌, zero, suc}
use mathlib.Core.Bool.{Bool, true, false, ◌&&◌, false≢true}
use mathlib.Core.List.{List, [], ◌∷◌, map}
use mathlib.Core.Option.{none}
use mathlib.Core.Path.{◌≡◌, refl, sym, ap, ◌∙◌, subst, fun_ext}
use lib.Dec.{leb}
use lib.ListN.{length, get_or}
use borrow.Author.Tests.{eqb-true, not-true, leb-true}
use Rattle.model.specs.Calls.{ReversalOutputs, mark_rules, marked_by, reversal_content, reversal_counts}
use Rattle.model.specs.Calls.{reversal_lengths, reversal_rules, table_rules}
use Rattle.model.specs.Lists.{ascends, every, gather}
use Rattle.model.specs.Records.{Span}
use Rattle.model.specs.Reversal.{reverse_edged, reverse_junction, reverse_lane, reverse_map, reverse_road}
use Rattle.model.specs.Rows.{parts_fit, rows_from, table}
use Rattle.model.specs.Rules.{connection_parts_fit, connection_worded, edges_even, edges_sized, first_broken, fits}
use Rattle.model.specs.Rules.{junction_worded, lane_worded, lanes_sized, lanes_worded, map_sized, map_worded}
use Rattle.model.specs.Rules.{pair_parts_fit, road_worded, section_parts_fit, sections_ascend}
use Rattle.model.specs.Tables.{Tables, all_pairs, connection_row, connection_words, edge_words, edged_lanes_of}
use Rattle.model.specs.Tables.{junctions_of}
use Rattle.model.specs.Tables.{lane_words, lanes_in, map_of, pair_row, pair_words, road_words, roads_in, roads_of}
use Rattle.model.specs.Tables.{section_words}
use Rattle.model.specs.Text.{same_in}
use Rattle.laws.proofs.Decoded.{and3}
use Rattle.laws.proofs.RulesReversed.{all_pass, unbroken_append}
use Rattle.laws.proofs.WordsReversed.{Fine, fine, fine_sound, fine_whole, fine_words, lengths_are, model_of}
use Rattle.laws.proofs.WordsReversed.{six_lengths}
use Rattle.words.specs.Keys.{name_before}
use Rattle.words.specs.Rows.{all, any}
use Rattle.words.proofs.Scans.{left_on, right_on}
use Rattle.rules.specs.ByRow.{Linked, listed_at, numbers_at}
use Rattle.rules.proofs.Counts.{few, sized_few}
use Rattle.rules.proofs.Forms.{lanes_listed_lem, roads_once_lem, sections_ascend_lem}
use Rattle.tables.proofs.Order.{marks_count}
use Rattle.reversal.specs.Answers.{long_enough, outputs}
use Rattle.reversal.specs.Turned.{Kept, mark_of, reversed_tables, Room}
use Rattle.reversal.proofs.EdgeWords.{edges_are}
use Rattle.reversal.proofs.LaneWords.{kept_at, lane_mark, lanes_are}
use Rattle.reversal.proofs.LinkWords.{all_turned, connections_are, pairs_are}
use Rattle.reversal.proofs.MarkLaws.{mark_is}
use Rattle.reversal.proofs.RoadWords.{roads_are, sections_are}
use native.Mathlib.Omega.{arith}

-- ---- the lengths of what is written
-- the counts by the lengths
counts_by : (c : ReversalOutputs) (t : Tables) → reversal_lengths c ≡ six_lengths t
    → length t.roads / 20 ∷ length t.sections ∷ length t.connections / 7 ∷ length t.pairs / 2
    ∷ length t.lanes / 10 ∷ length t.edges / 12 ∷ []
    ≡ reversal_counts c
unfolding reversal_lengths six_lengths reversal_counts
counts_by c t even =
    ap (λ (l : List ℕ).
    get_or l 0 0 / 20 ∷ get_or l 1 0 ∷ get_or l 2 0 / 7 ∷ get_or l 3 0 / 2 ∷ get_or l 4 0 / 10 ∷ get_or l 5 0 / 12 ∷ [])
    (sym even)

module _ (t : Tables) (marks : List ℕ) (clear : none ≡ first_broken (reversal_rules t marks)) where
  tables_fine : Fine t
  unfolding reversal_rules
  tables_fine = fine t (unbroken_append (table_rules t) (mark_rules t marks) (sym clear)).0

  -- what is written has the lengths of what is read
  pub lengths_even : reversal_lengths (reversal_content t marks) ≡ six_lengths t
  lengths_even =
      subst (λ (u : Tables). reversal_lengths (reversal_content u marks) ≡ six_lengths u)
      (fine_words t tables_fine) (lengths_are t.text (model_of t) (fine_sound t tables_fine) marks)

  pub counted : length t.roads / 20 ∷ length t.sections ∷ length t.connections / 7
      ∷ length t.pairs / 2 ∷ length t.lanes / 10 ∷ length t.edges / 12 ∷ []
      ≡ reversal_counts (reversal_content t marks)
  counted = counts_by (reversal_content t marks) t lengths_even

  -- so the content fits where a table as long as each does
  pub room_is : (outs : List ℕ) {enough : Bool} → enough ≡ fits (six_lengths t) outs
      → enough ≡ fits (reversal_lengths (reversal_content t marks)) outs
  room_is outs e = e ∙ ap (λ (l : List ℕ). fits l outs) (sym lengths_even)

-- ---- what an admission says of the tables
pub record Facts (t : Tables) (marks : List ℕ) : Type 0 where
  pub few_roads : length t.roads / 20 ≤ 16384
  pub few_lanes : length t.lanes / 10 ≤ 16384
  pub even_marks : length marks ≡ length t.roads / 20
  pub even_edges : length t.edges ≡ 12 * (length t.lanes / 10)
  pub once : any (length t.roads / 20) (name_before t.text 20 0 t.roads) ≡ false
  pub parts : parts_fit 18 19 0 (length t.sections) (table 20 t.roads) ≡ true
  pub up : all (length t.roads / 20) (λ i. ascends (numbers_at t.roads t.sections i)) ≡ true
  pub members : parts_fit 3 4 0 (length t.connections / 7) (table 5 t.junctions) ≡ true
  pub links : parts_fit 5 6 0 (length t.pairs / 2) (table 7 t.connections) ≡ true
  pub words_of_junctions : every (junction_worded t.text) (table 5 t.junctions) ≡ true
  pub listed : all (length t.lanes / 10) (listed_at t.text t.roads t.sections t.lanes) ≡ true
  pub whole : length t.junctions % 5 ≡ 0

pub facts : (t : Tables) (marks : List ℕ) → none ≡ first_broken (reversal_rules t marks) → Facts t marks
unfolding reversal_rules mark_rules map_worded lanes_worded section_parts_fit connection_parts_fit pair_parts_fit
    edges_even lanes_sized
facts t marks clear =
    let parted = unbroken_append (table_rules t) (mark_rules t marks) (sym clear) in
    let right = fine t parted.0 in
    let marks-right = all_pass (mark_rules t marks) parted.1 in
    let sizes = and3 (map_sized 16384 t) (lanes_sized t) (edges_sized t) right.sizes in
    let counts = few 16384 t (native.Mathlib.Nat.le_refl 16384) sizes.0 in
    let roads-worded = every (road_worded t.text) (table 20 t.roads) in
    let junctions-worded = every (junction_worded t.text) (table 5 t.junctions) in
    let connections-worded = every (connection_worded t.text) (table 7 t.connections) in
    let map-worded = roads-worded && junctions-worded && connections-worded in
    let lanes-worded = every (lane_worded t.text) (table 10 t.lanes) in
    let worded = and3 roads-worded junctions-worded connections-worded
    (left_on map-worded lanes-worded right.rest.worded) in
    let sections_placed = parts_fit 18 19 0 (length t.sections) (table 20 t.roads) in
    let sections-rise = sections_ascend (roads_in t.sections t.roads) in
    let connections_placed = parts_fit 3 4 0 (length t.connections / 7) (table 5 t.junctions) in
    let pairs_placed = parts_fit 5 6 0 (length t.pairs / 2) (table 7 t.connections) in
    record {
      few_roads = counts.few_roads;
      few_lanes = sized_few 10 16384 (length t.lanes) sizes.1;
      even_marks = sym (marks_count t.roads marks marks-right.0);
      even_edges = eqb-true (length t.edges) (12 * (length t.lanes / 10)) right.rest.edges;
      once = not-true (any (length t.roads / 20) (name_before t.text 20 0 t.roads))
          (sym (roads_once_lem t.text t.roads t.sections) ∙ right.rest.once);
      parts = left_on sections_placed sections-rise right.rest.sections;
      up = sym (sections_ascend_lem t.roads t.sections)
          ∙ right_on sections_placed sections-rise right.rest.sections;
      members = left_on connections_placed pairs_placed right.rest.connections;
      links = right_on connections_placed pairs_placed right.rest.connections;
      words_of_junctions = worded.1;
      listed = sym (lanes_listed_lem t.text t.roads t.sections t.lanes) ∙ right.rest.listed;
      whole = (fine_whole t right).of_junctions_lem;
    }

module _ (t : Tables) (marks : List ℕ) (f : Facts t marks) {heads next owner kheads knext : List ℕ}
    (linked : Linked t.text t.roads t.lanes heads next owner kheads knext) where
  pub kept : (i : ℕ) → i < length t.lanes / 10 → Kept t.roads t.sections t.lanes owner i
  kept = kept_at t.text t.roads t.sections t.lanes owner f.once f.up f.listed linked.owned

  -- the marks by name are those by row
  marked_is : marked_by t marks ≡ mark_of t.text t.roads marks
  marked_is = fun_ext (mark_is t.text t.roads t.sections f.once marks f.even_marks)

  content_by : (Span → Bool) → ReversalOutputs
  content_by mk =
      outputs (road_words (map (reverse_road mk) (roads_of t))) (section_words (map (reverse_road mk) (roads_of t)))
      (connection_words (map (reverse_junction mk) (junctions_of t)))
      (pair_words (map (reverse_junction mk) (junctions_of t)))
      (lane_words (map (reverse_lane (same_in t.text) mk (roads_of t)) (lanes_in t.lanes)))
      (edge_words (map (reverse_edged (same_in t.text) mk (roads_of t)) (edged_lanes_of t)))

  -- WHAT THE LOOPS WRITE is what reversal has to write
  pub content_is : reversal_content t marks
      ≡ reversed_tables t.text t.roads t.sections t.connections t.pairs t.lanes t.edges marks owner
  unfolding reversal_content reverse_map map_of content_by connection_words pair_words all_pairs edged_lanes_of
      reversed_tables
  content_is =
      let mk = mark_of t.text t.roads marks in
      let turned = all_turned t.text mk t.pairs t.connections t.junctions f.whole f.words_of_junctions
      f.members in
      let roads = roads_are t.text t.roads t.sections marks f.once f.even_marks f.parts in
      let sections = sections_are t.text t.roads t.sections marks f.once f.even_marks f.parts in
      let connections = ap (rows_from connection_row (λ c. c.pairs) 0) turned
      ∙ connections_are t.text t.roads marks t.connections t.pairs f.links in
      let pairs = ap (λ cs. gather pair_row (gather (λ c. c.pairs) cs)) turned
      ∙ pairs_are t.text t.roads marks t.connections t.pairs f.links in
      let lanes = lanes_are t.text t.roads t.sections marks t.lanes owner f.once f.up linked.owned kept in
      let own = lane_mark t.text t.roads t.sections marks t.lanes owner f.once f.up linked.owned kept in
      let edges = edges_are (same_in t.text) mk (roads_of t) t.lanes owner marks t.edges f.even_edges own in
      ap content_by marked_is
      ∙ (λ i.
      record {
        roads = roads i;
        sections = sections i;
        connections = connections i;
        pairs = pairs i;
        lanes = lanes i;
        edges = edges i;
      })

-- ---- room
-- the outputs are tried one by one
tried : (a b c d e f : Bool) → (a && b && c && d && e && f) ≡ (a && (b && (c && (d && (e && (f && true))))))
tried false b c d e f = refl
tried true false c d e f = refl
tried true true false d e f = refl
tried true true true false e f = refl
tried true true true true false f = refl
tried true true true true true false = refl
tried true true true true true true = refl

pub enough_is : (tables outs : ReversalOutputs)
    → long_enough tables outs ≡ fits (reversal_lengths tables) (reversal_lengths outs)
unfolding reversal_lengths
enough_is t o =
    tried (leb (length t.roads) (length o.roads)) (leb (length t.sections) (length o.sections))
    (leb (length t.connections) (length o.connections)) (leb (length t.pairs) (length o.pairs))
    (leb (length t.lanes) (length o.lanes)) (leb (length t.edges) (length o.edges))

-- content that fits does so output by output
fits_at : (i : ℕ) (contents outs : List ℕ) → fits contents outs ≡ true → get_or contents i 0 ≤ get_or outs i 0
fits_at zero [] outs fit = omega arith
fits_at (suc i) [] outs fit = omega arith
fits_at zero (k ∷ ks) [] fit = absurd (false≢true fit)
fits_at (suc i) (k ∷ ks) [] fit = absurd (false≢true fit)
fits_at zero (k ∷ ks) (n ∷ ns) fit = leb-true k n (left_on (leb k n) (fits ks ns) fit)
fits_at (suc i) (k ∷ ks) (n ∷ ns) fit = fits_at i ks ns (right_on (leb k n) (fits ks ns) fit)

pub room : (tables outs : ReversalOutputs) → fits (reversal_lengths tables) (reversal_lengths outs) ≡ true
    → Room tables outs
unfolding reversal_lengths
room tables outs fit =
    let each : (i : ℕ) → get_or (reversal_lengths tables) i 0 ≤ get_or (reversal_lengths outs) i 0 =
    λ i. fits_at i (reversal_lengths tables) (reversal_lengths outs) fit in
    record { roads = each 0; sections = each 1; connections = each 2; pairs = each 3; lanes = each 4; edges = each 5 }

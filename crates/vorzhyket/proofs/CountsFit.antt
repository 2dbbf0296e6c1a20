-- THE COUNTS OF AN ACCEPTED CALL are words, since where no rule is broken the content's rows are.
use mathlib.Core.Path.{◌≡◌, sym, ap, ◌∙◌, subst}
use mathlib.Core.Option.{none}
use mathlib.Core.List.{List, [], ◌∷◌, map}
use Prim.Native.Nat.{ℕ, suc, ◌*◌, ◌/◌, ◌≤◌}
use native.Mathlib.Omega.{arith}
use lib.ListN.{length, length-map}
use Rattle.model.specs.Calls.{Answer, ListOutputs, RepairOutputs, ReversalOutputs, gap_call, gap_content, gap_rules}
use Rattle.model.specs.Calls.{gap_width, list_content, list_lengths, list_writing, mark_rules, outcome, repair_call}
use Rattle.model.specs.Calls.{repair_content, repair_counts, repair_rules, repair_writing, repaired_map, reversal_call}
use Rattle.model.specs.Calls.{reversal_content, reversal_counts, reversal_rules, reversal_writing, rules_to5}
use Rattle.model.specs.Calls.{succession_call, succession_rules, table_rules, table_writing, warning_row}
use Rattle.model.specs.Claim.{repaired_tables}
use Rattle.model.specs.Repair.{Warning, warnings}
use Rattle.model.specs.Rows.{table}
use Rattle.model.specs.Rules.{edges_sized, first_broken, lanes_sized, map_sized, map_worded, same}
use Rattle.model.specs.Succession.{predecessor_lists, predecessors, successor_lists, successors}
use Rattle.model.specs.Tables.{Tables, lane_in, lanes_in, lanes_of, map_of}
use Rattle.laws.proofs.Admitted.{sized_most, sizes_of_lem}
use Rattle.laws.proofs.Bound.{gather_most}
use Rattle.laws.proofs.Decoded.{and3}
use Rattle.laws.proofs.Eleven.{offsets_count}
use Rattle.laws.proofs.Grown.{repair_admitted}
use Rattle.laws.proofs.Lay.{length_table}
use Rattle.laws.proofs.Offsets.{predecessors_words, successors_words}
use Rattle.laws.proofs.RulesReversed.{all_pass, unbroken_append}
use Rattle.laws.proofs.WordsReversed.{fine, length_connections}
use Rattle.words.proofs.Scans.{right_on}
use Rattle.rules.proofs.Counts as sized
use Rattle.gaps.proofs.Bridge.{content_is}
use Rattle.gaps.proofs.CallLaws.{gap_kept, gap_through}
use Rattle.gaps.proofs.LinkLaws.{total_within}
use Rattle.reversal.proofs.CallLaws as reversal
use Rattle.vorzhyket.specs.Exported.{Counted, Words}
use Rattle.vorzhyket.proofs.Left.{counted}
use Rattle.vorzhyket.proofs.WarningsFew.{warnings_few}

-- ---- repair
module _ (t : Tables) (unbroken : first_broken (repair_rules t) ≡ none) where
  sizes : (length (repair_content t).roads ≤ 16384 * 20) × (length (repair_content t).junctions ≤ 16384 * 5)
      × (length (repair_content t).connections ≤ 16384 * 7) × (length (repair_content t).pairs ≤ 16384 * 2)
  unfolding repaired_tables rules_to5
  sizes =
      let u = repaired_tables t in
      let passed = all_pass (rules_to5 (map_sized 16384 u) (map_worded u) u) (repair_admitted t unbroken) in
      let s = sizes_of_lem 16384 u passed.0 in (
        sized_most 20 16384 (length u.roads) s.1,
        sized_most 5 16384 (length u.junctions) s.3,
        sized_most 7 16384 (length u.connections) s.4,
        sized_most 2 16384 (length u.pairs) s.5,
      )

  warned : length (repair_content t).warnings ≤ 16384 * 4
  unfolding repair_content
  warned =
      let four-each = gather_most 4 (warning_row t) (warnings (same t) (map_of t)) four in
      let one_each = warnings_few (same t) (map_of t) in
      let rows = length_connections (repaired_map t).junctions in
      omega (arith, sizes.2)
    where
      four : (w : Warning) → length (warning_row t w) ≤ 4
      four w = unfold warning_row in omega arith

  repair_words : Words (repair_counts (repair_content t))
  unfolding repair_counts
  repair_words =
      let roads = sizes.0 in
      let junctions = sizes.1 in
      let connections = sizes.2 in
      let pairs = sizes.3 in
      let warnings = warned in (omega arith, (omega arith, (omega arith, (omega arith, (omega arith, tt)))))

pub repair_counted : (t : Tables) (o : RepairOutputs) {y : Answer} {after : RepairOutputs}
    → outcome y after ≡ repair_call t o → Counted y
unfolding repair_call
repair_counted t o e = counted repair_writing (repair_rules t) (repair_content t) o e (repair_words t)

-- ---- succession
module _ (t : Tables) (unbroken : first_broken (succession_rules t) ≡ none) where
  lanes_few : length (lanes_of t) ≤ 16384
  unfolding lanes_in succession_rules rules_to5
  lanes_few =
      let lanes = length-map (table 10 t.lanes) lane_in in
      let rows = length_table 10 t.lanes in
      let fit = right_on (map_sized 16384 t) (lanes_sized t) (all_pass (succession_rules t) unbroken).0 in
      omega (arith, sized.lanes_few t fit)

  offsets_few : (length (list_content t).successor_offsets ≤ 16385)
      × (length (list_content t).predecessor_offsets ≤ 16385)
  unfolding list_content successor_lists predecessor_lists map_of
  offsets_few =
      let lanes = lanes_few in
      let onward =
      offsets_count 0 (map (successors (same t) (map_of t)) (lanes_of t))
      ∙ ap suc (length-map (lanes_of t) (successors (same t) (map_of t))) in
      let before =
      offsets_count 0 (map (predecessors (same t) (map_of t)) (lanes_of t))
      ∙ ap suc (length-map (lanes_of t) (predecessors (same t) (map_of t))) in
      (omega arith, omega arith)

  list_words : Words (list_lengths (list_content t))
  unfolding list_lengths
  list_words =
      let onward-offsets = offsets_few.0 in
      let onward = successors_words t unbroken in
      let before-offsets = offsets_few.1 in
      let before = predecessors_words t unbroken in (omega arith, (omega arith, (omega arith, (omega arith, tt))))

pub succession_counted : (t : Tables) (o : ListOutputs) {y : Answer} {after : ListOutputs}
    → outcome y after ≡ succession_call t o → Counted y
unfolding succession_call
succession_counted t o e = counted list_writing (succession_rules t) (list_content t) o e (list_words t)

-- ---- the gap check
gap_words_lem : (t : Tables) (offsets ids : List ℕ) → first_broken (gap_rules t offsets ids) ≡ none
    → Words (length (gap_content t offsets ids) / gap_width ∷ [])
gap_words_lem t offsets ids unbroken =
    let through = gap_through t offsets ids (sym unbroken) in
    let kept = gap_kept t offsets ids through.0 in
    let content = ap length (content_is t offsets ids kept.even kept.once through.1) in
    let row-each = total_within t.lanes t.edges offsets ids through.1 (length t.lanes / 10) (omega arith) in
    (omega (arith, kept.short), tt)

pub gaps_counted : (t : Tables) (offsets ids o : List ℕ) {y : Answer} {after : List ℕ}
    → outcome y after ≡ gap_call t offsets ids o → Counted y
unfolding gap_call
gaps_counted t offsets ids o e =
    counted (table_writing gap_width) (gap_rules t offsets ids) (gap_content t offsets ids) o e
    (gap_words_lem t offsets ids)

-- ---- reversal
reversal_words : (t : Tables) (marks : List ℕ) → first_broken (reversal_rules t marks) ≡ none
    → Words (reversal_counts (reversal_content t marks))
unfolding reversal_rules lanes_sized edges_sized
reversal_words t marks unbroken =
    let tables = (unbroken_append (table_rules t) (mark_rules t marks) unbroken).0 in
    let fit = and3 (map_sized 16384 t) (lanes_sized t) (edges_sized t) (fine t tables).sizes in
    let s = sizes_of_lem 16384 t fit.0 in
    let roads = sized_most 20 16384 (length t.roads) s.1 in
    let sections = sized_most 1 16384 (length t.sections) s.2 in
    let connections = sized_most 7 16384 (length t.connections) s.4 in
    let pairs = sized_most 2 16384 (length t.pairs) s.5 in
    let lanes = sized_most 10 16384 (length t.lanes) fit.1 in
    let edges = sized_most 12 16384 (length t.edges) fit.2 in
    subst Words (reversal.counted t marks (sym unbroken))
    (omega arith, (omega arith, (omega arith, (omega arith, (omega arith, (omega arith, tt))))))

pub reversal_counted : (t : Tables) (marks : List ℕ) (o : ReversalOutputs) {y : Answer} {after : ReversalOutputs}
    → outcome y after ≡ reversal_call t marks o → Counted y
unfolding reversal_call
reversal_counted t marks o e =
    counted reversal_writing (reversal_rules t marks) (reversal_content t marks) o e (reversal_words t marks)

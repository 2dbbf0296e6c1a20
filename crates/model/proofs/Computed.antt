-- Repair, succession, the gap check and reversal of a map with the names of CardMaps. The line under each names
-- all that it computes with, so that a proof that unfolds it is an equation that antt works out.
use mathlib.Core.Bool.{Bool, cond}
use mathlib.Core.List.{List, [], ◌∷◌}
use Prim.Native.Nat.{ℕ}
use lib.Ieee.{add, div, eq, is_nan, le, lt, mul, neg, of_bits, sub, to_bits}
use Rattle.geometry.specs.Gap.{best_from, better, chosen_of, closest_ends, gap_of, least_from, min_of}
use Rattle.geometry.specs.Root.{midpoint_above, midpoint_below, root_bits, root_of}
use Rattle.geometry.specs.Segment.{apart_of, clamp_of, dot_of, free_place, length_of, minus_of, places_apart, places_of}
use Rattle.geometry.specs.Segment.{places_for, plus_of, times_of}
use Rattle.model.specs.Calls.{gap_call, gap_content, gap_rules, gap_words, lane_rules, list_content}
use Rattle.model.specs.Calls.{list_lengths, mark_rules, put_lists, put_repaired, put_reversed, repair_call}
use Rattle.model.specs.Calls.{repair_content, repair_counts, repair_lengths, repair_refusal, repair_rules}
use Rattle.model.specs.Calls.{reversal_call, reversal_content, reversal_counts, reversal_lengths}
use Rattle.model.specs.Calls.{reversal_refusal, reversal_rules, rules_to5, succession_call}
use Rattle.model.specs.Calls.{succession_rules, table_rules, warning_row}
use Rattle.model.specs.Gaps.{GapRow, closest_between, gap_between, gap_row, link_gaps}
use Rattle.model.specs.Records.{EdgedLane, Map, Span}
use Rattle.model.specs.Repair.{Warning, back_at, back_end, back_of, in_virtual, linked, meeting_end, meets}
use Rattle.model.specs.Repair.{missing_end, missing_link, put_target, repair, repair_junction, repair_roads}
use Rattle.model.specs.Repair.{reversed, road_of, runs_back, start_roads, swapped, vacant_end, warn_one}
use Rattle.model.specs.Repair.{warnings, without_along}
use Rattle.model.specs.Reversal.{leads_to, mirror, mirrored, negated, reverse_connection, reverse_edged}
use Rattle.model.specs.Reversal.{reverse_junction, reverse_lane, reverse_link, reverse_map, reverse_pair}
use Rattle.model.specs.Reversal.{reverse_road, reverse_target, roadward}
use Rattle.model.specs.Rows.{table, written}
use Rattle.model.specs.Rules.{Rule, borne, connection_parts_fit, connection_worded, edges_even, edges_sized}
use Rattle.model.specs.Rules.{ids_once, junction_worded, lane_fine, lane_worded, lanes_sized, lanes_worded}
use Rattle.model.specs.Rules.{link_worded, listed_in, lists_fit, lists_sized, map_sized, map_worded, marks_fit}
use Rattle.model.specs.Rules.{names_direct_twice, names_once, names_twice, numbers_fine, one_ended_in, pair_fine}
use Rattle.model.specs.Rules.{pair_parts_fit, places_once, road_worded, same_key, section_parts_fit}
use Rattle.model.specs.Rules.{sections_ascend, sized, target_worded}
use Rattle.model.specs.Succession.{back_links, end_section, entry_id, exits, finds_back, junction_of, lookup}
use Rattle.model.specs.Succession.{lookup_at_end, next_section, predecessor_lists, predecessors, runs_away}
use Rattle.model.specs.Succession.{sections_of, stands_at, successor_lists, successors, successors_of}
use Rattle.model.specs.Succession.{through_junction, through_pairs}
use Rattle.model.specs.Tables.{all_connections, all_pairs, connection_in, connection_row, connection_words}
use Rattle.model.specs.Tables.{connections_in, edge_row, edge_words, edged_lanes_of, junction_in, junction_row}
use Rattle.model.specs.Tables.{junction_words, junctions_in, lane_in, lane_row, lane_words, lanes_in, map_of}
use Rattle.model.specs.Tables.{pair_in, pair_row, pair_words, pairs_in, road_in, road_row, road_words, roads_in}
use Rattle.model.specs.Tables.{section_words, tables_of}
use Rattle.model.specs.Text.{bytes_of, placed, same_in}
use Rattle.model.proofs.CardMaps.{text}

-- are two names equal?
unfoldable pub alike : Span → Span → Bool
unfolding bytes_of same_in
alike = same_in text

-- the map after repair
unfoldable pub repaired : Map → Map
unfolding alike back_at back_end back_of in_virtual linked meeting_end meets missing_end missing_link put_target repair
    repair_junction repair_roads reversed road_of runs_back start_roads swapped vacant_end without_along
repaired m = repair alike m

-- repair's warnings
unfoldable pub warned : Map → List Warning
unfolding repaired warn_one warnings
warned m = warnings alike m

-- the lanes onward of each lane, by succession alone
unfoldable pub onward : Map → List (List ℕ)
unfolding alike back_links end_section entry_id exits finds_back junction_of lookup lookup_at_end next_section road_of
    runs_away sections_of stands_at successor_lists successors successors_of through_junction through_pairs
onward m = successor_lists alike m

-- the lanes before each lane
unfoldable pub before : Map → List (List ℕ)
unfolding onward predecessor_lists predecessors
before m = predecessor_lists alike m

-- the gap rows of lanes with their lists of successors
unfoldable pub gap_rows : List EdgedLane → List (List ℕ) → List GapRow
unfolding add apart_of best_from better chosen_of clamp_of closest_between closest_ends div dot_of eq free_place
    gap_between gap_of gap_row is_nan le least_from length_of link_gaps lt midpoint_above midpoint_below min_of minus_of
    mul neg of_bits places_apart places_for places_of plus_of root_bits root_of sub times_of to_bits
gap_rows ls ns = link_gaps ls ns

-- the map reversed by marks, given as a test of a road's name
unfoldable pub turned : (Span → Bool) → Map → Map
unfolding alike leads_to mirror mirrored negated next_section reverse_connection reverse_junction reverse_lane
    reverse_link reverse_map reverse_pair reverse_road reverse_target road_of roadward sections_of
turned mk m = reverse_map alike mk m

-- a lane with its edges in it reversed
unfoldable pub turned_edged : (Span → Bool) → Map → EdgedLane → EdgedLane
unfolding turned reverse_edged
turned_edged mk m x = reverse_edged alike mk m.roads x

-- the numbers of all rules that are broken; a proof that unfolds it computes the four calls
unfoldable pub broken : List Rule → List ℕ
unfolding before gap_rows turned_edged warned
    gap_call gap_content gap_rules gap_words lane_rules list_content list_lengths mark_rules put_lists
    put_repaired put_reversed repair_call repair_content repair_counts repair_lengths repair_refusal repair_rules
    reversal_call reversal_content reversal_counts reversal_lengths reversal_refusal reversal_rules rules_to5
    succession_call succession_rules table_rules warning_row
    table written
    borne connection_parts_fit connection_worded edges_even edges_sized ids_once junction_worded lane_fine lane_worded
    lanes_sized lanes_worded link_worded listed_in lists_fit lists_sized map_sized map_worded marks_fit
    names_direct_twice
    names_once names_twice numbers_fine one_ended_in pair_fine pair_parts_fit places_once road_worded same_key
    section_parts_fit sections_ascend sized target_worded
    all_connections all_pairs connection_in connection_row connection_words connections_in edge_row edge_words
    edged_lanes_of junction_in junction_row junction_words junctions_in lane_in lane_row lane_words lanes_in map_of
    pair_in
    pair_row pair_words pairs_in road_in road_row road_words roads_in section_words tables_of
    placed
broken [] = []
broken (r ∷ rs) = cond r.passes (broken rs) (r.number ∷ broken rs)

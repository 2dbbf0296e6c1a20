-- The twelve bench cards that document 01 marks *, jointly, over the definitions: antt computes each.
use mathlib.Core.Path.{◌≡◌, refl}
use mathlib.Core.Option.{none}
use mathlib.Core.List.{List, [], ◌∷◌}
use Prim.Native.Nat.{ℕ}
use lib.Ieee.{binary32, of_bits, to_bits, add, sub, mul, div, neg, lt, le, eq, is_nan}
use Rattle.geometry.specs.declared.segment.Point.{Point}
use Rattle.geometry.specs.declared.gap.Direction.TheVariants.{Backward, Both}
use Rattle.geometry.specs.Root.{accepted, below_zero, midpoint_above, midpoint_below, root_answer, root_bits, root_of}
use Rattle.geometry.specs.Segment.{distance_of, minus_of, plus_of, times_of, dot_of, length_of, clamp_of, free_place}
use Rattle.geometry.specs.Segment.{places_apart, places_of, places_for, apart_of}
use Rattle.geometry.specs.Gap.{min_of, least_from, gap_of, better, chosen_of, best_from, closest_ends}
use Rattle.model.proofs.CardMaps.{apart, bits, no_lanes, straight, tables_for, two_pairs, two_way}
use Rattle.model.specs.Calls.{gap_call, gap_content, gap_rules, gap_words, lane_rules, list_content}
use Rattle.model.specs.Calls.{list_lengths, mark_rules, put_lists, put_repaired, put_reversed, repair_call}
use Rattle.model.specs.Calls.{repair_content, repair_counts, repair_lengths, repair_rules}
use Rattle.model.specs.Calls.{reversal_call, reversal_content, reversal_counts, reversal_lengths, reversal_refusal}
use Rattle.model.specs.Calls.{reversal_rules, rules_to5, succession_call, succession_rules}
use Rattle.model.specs.Calls.{table_rules, warning_row, wrote}
use Rattle.model.specs.Claim.{repaired_tables}
use Rattle.model.specs.Gaps.{gap_between, closest_between, gap_row, link_gaps}
use Rattle.model.specs.Repair.{back_at, back_end, back_of, in_virtual, linked, meeting_end, meets, missing_end}
use Rattle.model.specs.Repair.{missing_link, put_target, repair, repair_junction, repair_roads, reversed, road_of}
use Rattle.model.specs.Repair.{runs_back, start_roads, swapped, vacant_end, warn_one, warnings, without_along}
use Rattle.model.specs.Reversal.{leads_to, mirror, mirrored, negated, reverse_connection, reverse_edged}
use Rattle.model.specs.Reversal.{reverse_junction, reverse_lane, reverse_link, reverse_map, reverse_pair}
use Rattle.model.specs.Reversal.{reverse_road, reverse_target, reverse_warning, roadward}
use Rattle.model.specs.Rows.{table, written}
use Rattle.model.specs.Rules.{borne, connection_parts_fit, connection_worded, edges_even, edges_sized, first_broken}
use Rattle.model.specs.Rules.{ids_once}
use Rattle.model.specs.Rules.{junction_worded, lane_fine, lane_worded, lanes_sized, lanes_worded, link_worded}
use Rattle.model.specs.Rules.{listed_in, lists_fit, lists_sized, map_sized, map_worded, marks_fit, names_direct_twice}
use Rattle.model.specs.Rules.{names_once, names_twice, numbers_fine, one_ended_in, pair_fine, pair_parts_fit}
use Rattle.model.specs.Rules.{places_once, road_worded, same_key, section_parts_fit, sections_ascend, sized}
use Rattle.model.specs.Rules.{target_worded}
use Rattle.model.specs.Sequence.{Call, after, answers, fed, found, from_repaired, reversed_by, reversed_once_by}
use Rattle.model.specs.Sequence.{reversed_rows, run, with_repaired, with_reversed}
use Rattle.model.specs.Succession.{back_links, end_section, entry_id, exits, finds_back, junction_of, lookup}
use Rattle.model.specs.Succession.{lookup_at_end, next_section, predecessor_lists, predecessors, runs_away}
use Rattle.model.specs.Succession.{sections_of, stands_at, successor_lists, successors, successors_of}
use Rattle.model.specs.Succession.{through_junction, through_pairs}
use Rattle.model.specs.Tables.{Tables, all_connections, all_pairs, connection_in, connection_row, connection_words}
use Rattle.model.specs.Tables.{connections_in, edge_row, edge_words, edged_lanes_of, junction_in, junction_row}
use Rattle.model.specs.Tables.{junction_words, junctions_in, lane_in, lane_row, lane_words, lanes_in, map_of, pair_in}
use Rattle.model.specs.Tables.{pair_row, pair_words, pairs_in, road_in, road_row, road_words, roads_in, section_words}
use Rattle.model.specs.Tables.{tables_of}
use Rattle.model.specs.Text.{bytes_of, placed, same_in}

-- `root` accepts the value of the first bits, and answers that of the second
abbrev Rooted : ℕ → ℕ → Type 0
Rooted n r = root_answer (bits n) ≡ accepted (bits r)

abbrev at : ℕ → ℕ → Point
at x y = record { x = bits x; y = bits y; z = bits 0 }

-- no rule refuses the tables repair, nor what it leaves succession; and these are the lists
pub record Gives (t : Tables) (successor_offsets successor_ids predecessor_offsets predecessor_ids : List ℕ) : Type 0
  where
    pub repair_passes : first_broken (repair_rules t) ≡ none
    pub succession_passes : first_broken (succession_rules (repaired_tables t)) ≡ none
    pub lists_are : list_content (repaired_tables t)
        ≡ record {
          successor_offsets = successor_offsets;
          successor_ids = successor_ids;
          predecessor_offsets = predecessor_offsets;
          predecessor_ids = predecessor_ids;
        }

-- road b reversed, with outputs just long enough
abbrev reversing_b : Call
reversing_b = record { marks = 0 ∷ 1 ∷ []; outs = reversal_content (tables_for straight) (0 ∷ 0 ∷ []) }

pub bench_cards :
    Rooted 0x4080_0000 0x4000_0000
    × Rooted 0x4000_0000 0x3fb5_04f3
    × Rooted 0x0000_0001 0x1a35_04f3
    × Rooted 0x7f7f_ffff 0x5f7f_ffff
    × (gap_call (apart 0x3dcc_cccd) (0 ∷ 1 ∷ 1 ∷ []) (9 ∷ []) (5 ∷ 6 ∷ 7 ∷ 8 ∷ 9 ∷ 10 ∷ [])
    ≡ record { answer = wrote (0 ∷ []); outs = 5 ∷ 6 ∷ 7 ∷ 8 ∷ 9 ∷ 10 ∷ [] })
    × (gap_call (apart 0x3dcc_ccce) (0 ∷ 1 ∷ 1 ∷ []) (9 ∷ []) (5 ∷ 6 ∷ 7 ∷ 8 ∷ 9 ∷ 10 ∷ [])
    ≡ record { answer = wrote (1 ∷ []); outs = 0 ∷ 1 ∷ 0x3dcc_ccce ∷ 0 ∷ 0 ∷ 10 ∷ [] })
    × (to_bits binary32
    (distance_of (at 0 0 ∷ at 0 0x4000_0000 ∷ []) (at 0x3e80_0000 0 ∷ at 0x3e80_0000 0x4000_0000 ∷ []))
    ≡ 0x3e80_0000)
    × Gives (tables_for no_lanes) (0 ∷ []) [] (0 ∷ []) []
    × Gives (tables_for straight) (0 ∷ 1 ∷ 2 ∷ 2 ∷ []) (3 ∷ 5 ∷ []) (0 ∷ 0 ∷ 1 ∷ 2 ∷ []) (7 ∷ 3 ∷ [])
    × ((answers (tables_for straight) (reversing_b ∷ []) ≡ wrote (2 ∷ 3 ∷ 0 ∷ 0 ∷ 3 ∷ 3 ∷ []) ∷ [])
    × Gives (run (tables_for straight) (reversing_b ∷ [])) (0 ∷ 1 ∷ 2 ∷ 2 ∷ []) (3 ∷ 5 ∷ []) (0 ∷ 0 ∷ 1 ∷ 2 ∷ [])
    (7 ∷ 3 ∷ []))
    × Gives (tables_for two_pairs) (0 ∷ 2 ∷ 2 ∷ []) (9 ∷ 9 ∷ []) (0 ∷ 0 ∷ 2 ∷ []) (7 ∷ 7 ∷ [])
    × (Gives (tables_for (two_way Both)) (0 ∷ 1 ∷ 2 ∷ []) (2 ∷ 1 ∷ []) (0 ∷ 1 ∷ 2 ∷ []) (2 ∷ 1 ∷ [])
    × Gives (tables_for (two_way Backward)) (0 ∷ 0 ∷ 0 ∷ []) [] (0 ∷ 0 ∷ 0 ∷ []) [])
unfolding repaired_tables rules_to5 lane_rules repair_lengths repair_counts put_repaired warning_row repair_content
    repair_rules repair_call list_lengths put_lists list_content succession_rules
    succession_call gap_words gap_content gap_rules gap_call reversal_lengths reversal_counts put_reversed
    reversal_content table_rules mark_rules reversal_rules reversal_refusal reversal_call gap_between
    closest_between gap_row link_gaps
    linked put_target vacant_end swapped back_at road_of meets in_virtual without_along back_end missing_end
    missing_link
    meeting_end runs_back back_of reversed repair_roads repair_junction start_roads repair warn_one warnings negated
    mirror mirrored reverse_target reverse_road reverse_pair reverse_connection reverse_junction reverse_warning
    roadward leads_to reverse_link reverse_lane reverse_map reverse_edged table written sized map_sized lanes_sized
    edges_sized lists_sized target_worded road_worded junction_worded connection_worded link_worded lane_worded
    map_worded lanes_worded names_once section_parts_fit sections_ascend connection_parts_fit pair_parts_fit ids_once
    listed_in same_key places_once edges_even borne lists_fit marks_fit lane_fine pair_fine numbers_fine names_twice
    names_direct_twice one_ended_in with_reversed reversed_rows after reversed_once_by reversed_by fed with_repaired
    from_repaired found runs_away entry_id next_section end_section sections_of stands_at lookup lookup_at_end
    through_pairs through_junction junction_of exits successors_of finds_back back_links successors predecessors
    successor_lists predecessor_lists road_in road_row pair_in pair_row connection_in connection_row junction_in
    junction_row lane_in lane_row edge_row roads_in pairs_in connections_in junctions_in lanes_in map_of edged_lanes_of
    road_words section_words all_connections all_pairs junction_words connection_words pair_words lane_words edge_words
    tables_of bytes_of same_in placed midpoint_below midpoint_above root_bits root_of below_zero minus_of plus_of
    times_of
    dot_of length_of clamp_of free_place places_apart places_of places_for apart_of min_of least_from gap_of better
    chosen_of
    best_from closest_ends of_bits to_bits add sub mul div neg lt le eq is_nan
bench_cards = (
  refl,
  refl,
  refl,
  refl,
  refl,
  refl,
  refl,
  (record { repair_passes = refl; succession_passes = refl; lists_are = refl }),
  (record { repair_passes = refl; succession_passes = refl; lists_are = refl }),
  (refl, (record { repair_passes = refl; succession_passes = refl; lists_are = refl })),
  (record { repair_passes = refl; succession_passes = refl; lists_are = refl }),
  (
    (record { repair_passes = refl; succession_passes = refl; lists_are = refl }),
    (record { repair_passes = refl; succession_passes = refl; lists_are = refl }),
  ),
)

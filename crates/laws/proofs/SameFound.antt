-- Repair, succession and the gap check on a reversed map: the same answers, lists and gap rows as on the map.
use mathlib.Core.Path.{◌≡◌, refl, sym, ◌∙◌, ap, ap₂}
use mathlib.Core.Bool.{Bool, true, ◌&&◌}
use mathlib.Core.Option.{Option, none, some}
use mathlib.Core.List.{List, [], ◌∷◌, ◌++◌, map}
use Prim.Native.Nat.{ℕ, suc, ◌*◌, ◌/◌}
use native.Mathlib.Omega.{arith}
use lib.Dec.{eqb}
use lib.ListN.{length, take, get_or, length-map}
use Rattle.model.specs.Calls.{Answer, ListOutputs, Outcome, RepairOutputs, called, gap_call, gap_content}
use Rattle.model.specs.Calls.{gap_rules, gap_width, gap_words, lane_rules, list_content, list_writing, long_enough}
use Rattle.model.specs.Calls.{outcome, put_repaired, refused, repair_call, repair_content, repair_counts}
use Rattle.model.specs.Calls.{repair_lengths, repair_refusal, repair_rules, repair_writing, row_named, rules_to5}
use Rattle.model.specs.Calls.{succession_call, succession_rules, table_writing, warning_row, wrote}
use Rattle.model.specs.Claim.{repaired_tables}
use Rattle.model.specs.Gaps.{link_gaps}
use Rattle.model.specs.Lists.{every, gather, some?}
use Rattle.model.specs.Lookup.{lists_in, offsets_from, packed}
use Rattle.model.specs.Records.{Connection, EdgedLane, Junction, Lane, Map, Road, Span}
use Rattle.model.specs.Repair.{Warning, repair, warnings}
use Rattle.model.specs.Reversal.{reverse_edged, reverse_lane, reverse_map}
use Rattle.model.specs.Rows.{word}
use Rattle.model.specs.Rules.{borne, climbs, first_broken, lanes_worded, lists_fit, lists_sized, map_worded, rule}
use Rattle.model.specs.Sequence.{Buffers, Found, by_lists, by_repair, found, from_repaired, lists, with_repaired}
use Rattle.model.specs.Succession.{predecessor_lists, successor_lists}
use Rattle.model.specs.Tables.{Tables, all_connections, bit, connection_words, edge_words, junction_words}
use Rattle.model.specs.Tables.{lane_words, lanes_of, pair_words, road_words, section_words, tables_of}
use Rattle.model.specs.Text.{same_in}
use Rattle.laws.proofs.Basics.{gather_map, some?_ext, some?_map}
use Rattle.laws.proofs.ByBytes.{alike_in}
use Rattle.laws.proofs.ForEach.{each}
use Rattle.laws.proofs.Held.{Held, lanes_count, predecessors_held, repair_sizes, repair_sizes_reversed}
use Rattle.laws.proofs.Held.{successors_held}
use Rattle.laws.proofs.Lay.{length_even}
use Rattle.laws.proofs.ListTests.{and_left, every_ext}
use Rattle.laws.proofs.RepairKeeps.{came_whole}
use Rattle.laws.proofs.SameGaps.{link_gaps_reversed}
use Rattle.laws.proofs.SoundMaps.{Passed, Sound, is_edged, is_lanes, is_map, is_roads, passed}
use Rattle.laws.proofs.StaySound.{sound_repair, sound_reversed}
use Rattle.laws.proofs.WordsReversed.{Counted, Even, all_pairs_nested, counted_reversed, edges_sized_even}
use Rattle.laws.proofs.WordsReversed.{even_tables, lanes_sized_even, length_connections, length_junctions}
use Rattle.laws.proofs.WordsReversed.{length_pairs, length_roads, map_sized_even, outcome_by, rows_taken}

-- ---- what repair writes, over the map itself
unfoldable pub warn_row : List ℕ → List Road → Warning → List ℕ
warn_row text rs w = 3 ∷ w.junction_row ∷ row_named (same_in text) rs w.road ∷ bit w.at_end ∷ []

unfoldable pub repaired_of : List ℕ → Map → RepairOutputs
repaired_of text m = record {
  roads = road_words (repair (same_in text) m).roads;
  junctions = junction_words (repair (same_in text) m).junctions;
  connections = connection_words (repair (same_in text) m).junctions;
  pairs = pair_words (repair (same_in text) m).junctions;
  warnings = gather (warn_row text m.roads) (warnings (same_in text) m);
}

module _ (text : List ℕ) (m : Map) (xs : List EdgedLane) (h : Sound text m xs) where
  abbrev after_repair : Map
  after_repair = repair (same_in text) m

  pub repaired_is : repair_content (tables_of text m xs) ≡ repaired_of text m
  unfolding repair_content repaired_of warning_row warn_row tables_of
  repaired_is = λ i. from (is_map text m xs h i) (is_roads text m xs h i)
    where
      from : Map → List Road → RepairOutputs
      from n rs = record {
        roads = road_words (repair (same_in text) n).roads;
        junctions = junction_words (repair (same_in text) n).junctions;
        connections = connection_words (repair (same_in text) n).junctions;
        pairs = pair_words (repair (same_in text) n).junctions;
        warnings = gather (λ w. 3 ∷ w.junction_row ∷ row_named (same_in text) rs w.road ∷ bit w.at_end ∷ [])
            (warnings (same_in text) n);
      }

  sections_kept : section_words m.roads ≡ section_words after_repair.roads
  unfolding section_words
  sections_kept =
      sym (gather_map (λ (r : Road). r.sections) (λ l. l) m.roads)
      ∙ ap (gather (λ (l : List ℕ). l)) (sym (came_whole (same_in text) m).listed_kept)
      ∙ gather_map (λ (r : Road). r.sections) (λ l. l) after_repair.roads

  lanes_kept : m.lanes ≡ after_repair.lanes
  unfolding repair
  lanes_kept = refl

  -- the rows that repair wrote, in place of what it read, are the repaired map's words
  pub repaired_rows : (o : RepairOutputs)
      → with_repaired (tables_of text m xs) (repair_counts (repaired_of text m)) (put_repaired (repaired_of text m) o)
      ≡ tables_of text after_repair xs
  unfolding with_repaired repair_counts put_repaired repaired_of tables_of
  repaired_rows o =
      let rs = after_repair.roads in
      let js = after_repair.junctions in
      λ i. record {
        text = text;
        roads = rows_taken 20 (road_words rs) o.roads _ (omega arith) (length_roads rs) i;
        sections = sections_kept i;
        junctions = rows_taken 5 (junction_words js) o.junctions _ (omega arith) (length_junctions js) i;
        connections = rows_taken 7 (connection_words js) o.connections _ (omega arith) (length_connections js) i;
        pairs = rows_taken 2 (pair_words js) o.pairs _ (omega arith) (length_pairs js) i;
        lanes = lane_words (lanes_kept i);
        edges = edge_words xs;
      }

  -- the tables with what repair writes
  pub repaired_tables_lem : repaired_tables (tables_of text m xs) ≡ tables_of text after_repair xs
  unfolding repaired_tables tables_of
  repaired_tables_lem = ap from (repaired_is) ∙ (unfold repaired_of in λ i. record {
    text = text;
    roads = road_words after_repair.roads;
    sections = sections_kept i;
    junctions = junction_words after_repair.junctions;
    connections = connection_words after_repair.junctions;
    pairs = pair_words after_repair.junctions;
    lanes = lane_words (lanes_kept i);
    edges = edge_words xs;
  })
    where
      from : RepairOutputs → Tables
      from c =
          record {
            text = text;
            roads = c.roads;
            sections = section_words m.roads;
            junctions = c.junctions;
            connections = c.connections;
            pairs = c.pairs;
            lanes = lane_words m.lanes;
            edges = edge_words xs;
          }

-- ---- outputs of the same lengths
pub record EvenRepaired (c d : RepairOutputs) : Type 0 where
  pub roads : length c.roads ≡ length d.roads
  pub junctions : length c.junctions ≡ length d.junctions
  pub connections : length c.connections ≡ length d.connections
  pub pairs : length c.pairs ≡ length d.pairs
  pub warnings : length c.warnings ≡ length d.warnings

module _ (c d : RepairOutputs) (e : EvenRepaired c d) where
  lengths_even : repair_lengths c ≡ repair_lengths d
  unfolding repair_lengths
  lengths_even = λ i. e.roads i ∷ e.junctions i ∷ e.connections i ∷ e.pairs i ∷ e.warnings i ∷ []

  counts_even : repair_counts c ≡ repair_counts d
  unfolding repair_counts
  counts_even =
      λ i. e.roads i / 20 ∷ e.junctions i / 5 ∷ e.connections i / 7 ∷ e.pairs i / 2 ∷ e.warnings i / 4 ∷ []

both_true : {a b : Bool} → a ≡ true → b ≡ true → a ≡ b
both_true p q = p ∙ sym q

-- two tables that pass rules 2 to 8 and 10, of the same lengths, are judged alike
module _ (t u : Tables) (e : Even t u) (p : Passed t) (q : Passed u) where
  pub repair_rules_even : repair_rules t ≡ repair_rules u
  unfolding repair_rules rules_to5
  repair_rules_even =
      λ i.
      rule 1 (map_sized_even t u e 8192 i)
      ∷ rule 2 (both_true (and_left (map_worded t) (lanes_worded t) p.worded)
      (and_left (map_worded u) (lanes_worded u) q.worded) i)
      ∷ rule 3 (both_true p.once q.once i) ∷ rule 4 (both_true p.sections q.sections i)
      ∷ rule 5 (both_true p.connections q.connections i) ∷ []

  pub succession_rules_even : succession_rules t ≡ succession_rules u
  unfolding succession_rules rules_to5 lane_rules
  succession_rules_even =
      λ i.
      rule 1 (map_sized_even t u e 16384 i && lanes_sized_even t u e i)
      ∷ rule 2 (both_true p.worded q.worded i)
      ∷ rule 3 (both_true p.once q.once i) ∷ rule 4 (both_true p.sections q.sections i)
      ∷ rule 5 (both_true p.connections q.connections i)
      ∷ rule 6 (both_true p.identities q.identities i) ∷ rule 7 (both_true p.listed q.listed i)
      ∷ rule 8 (both_true p.keys q.keys i) ∷ []

  pub gap_rules_even : (offsets ids : List ℕ) → lists_fit t offsets ids ≡ lists_fit u offsets ids
      → gap_rules t offsets ids ≡ gap_rules u offsets ids
  unfolding gap_rules rules_to5 lane_rules
  gap_rules_even offsets ids l =
      λ i.
      rule 1 (map_sized_even t u e 16384 i && lanes_sized_even t u e i && edges_sized_even t u e i && lists_sized
      offsets ids) ∷ rule 2 (both_true p.worded q.worded i)
      ∷ rule 3 (both_true p.once q.once i) ∷ rule 4 (both_true p.sections q.sections i)
      ∷ rule 5 (both_true p.connections q.connections i)
      ∷ rule 6 (both_true p.identities q.identities i) ∷ rule 7 (both_true p.listed q.listed i)
      ∷ rule 8 (both_true p.keys q.keys i)
      ∷ rule 10 (both_true p.edges q.edges i) ∷ rule 11 (l i) ∷ []

-- ---- the map m with its lanes' edges, and the same reversed by s
module _ (text : List ℕ) (m : Map) (xs : List EdgedLane) (h : Sound text m xs) (s : Span → Bool)
    (H : Held (same_in text) m s) where
  abbrev alike : Span → Span → Bool
  alike = same_in text

  -- the map reversed, and its lanes
  abbrev turned_map : Map
  turned_map = reverse_map alike s m

  abbrev turned_lanes : List EdgedLane
  turned_lanes = map (reverse_edged alike s m.roads) xs

  turned_sound : Sound text turned_map turned_lanes
  turned_sound = sound_reversed text s H.is_steady m xs h

  -- both maps repaired
  abbrev mended_map : Map
  mended_map = repair alike m

  abbrev turned_mended : Map
  turned_mended = repair alike turned_map

  mended_sound : Sound text mended_map xs
  mended_sound = sound_repair text m xs h

  turned_mended_sound : Sound text turned_mended turned_lanes
  turned_mended_sound = sound_repair text turned_map turned_lanes turned_sound

  -- the words of each
  abbrev plain : Tables
  plain = tables_of text m xs

  abbrev turned : Tables
  turned = tables_of text turned_map turned_lanes

  abbrev mended : Tables
  mended = tables_of text mended_map xs

  abbrev turned_then_mended : Tables
  turned_then_mended = tables_of text turned_mended turned_lanes

  -- ---- repair's counts
  size_at : (k : ℕ) → get_or (repair_sizes alike turned_map) k 0 ≡ get_or (repair_sizes alike m) k 0
  size_at k = ap (λ (l : List ℕ). get_or l k 0) (repair_sizes_reversed alike (alike_in text) m s H)

  counted_repair : Counted turned_mended mended_map turned_lanes xs
  counted_repair = record {
    roads = (unfold repair_sizes in size_at 0);
    sections = ap length (sym (sections_kept text turned_map turned_lanes turned_sound))
        ∙ (counted_reversed alike s m xs).sections
        ∙ ap length (sections_kept text m xs h);
    junctions = (unfold repair_sizes in size_at 1);
    connections = (unfold repair_sizes all_connections in size_at 2);
    pairs = ap length (all_pairs_nested turned_mended.junctions)
        ∙ nested
        ∙ sym (ap length (all_pairs_nested mended_map.junctions));
    lanes = lanes_count alike (alike_in text) m s H;
    ends = length-map xs (reverse_edged alike s m.roads);
  }
    where
      nested : length (gather (λ (j : Junction). gather (λ (c : Connection). c.pairs) j.connections)
          turned_mended.junctions)
          ≡ length (gather (λ (j : Junction). gather (λ (c : Connection). c.pairs) j.connections)
          mended_map.junctions)
      nested = unfold repair_sizes in size_at 3

  even_repaired : EvenRepaired (repaired_of text turned_map) (repaired_of text m)
  unfolding repaired_of
  even_repaired = record {
    roads = length_roads turned_mended.roads
        ∙ ap (λ (k : ℕ). k * 20) counted_repair.roads
        ∙ sym (length_roads mended_map.roads);
    junctions = length_junctions turned_mended.junctions
        ∙ ap (λ (k : ℕ). k * 5) counted_repair.junctions
        ∙ sym (length_junctions mended_map.junctions);
    connections = length_connections turned_mended.junctions
        ∙ ap (λ (k : ℕ). k * 7) counted_repair.connections
        ∙ sym (length_connections mended_map.junctions);
    pairs = length_pairs turned_mended.junctions
        ∙ ap (λ (k : ℕ). k * 2) counted_repair.pairs
        ∙ sym (length_pairs mended_map.junctions);
    warnings = rows turned_map.roads (warnings alike turned_map)
        ∙ ap (λ (k : ℕ). k * 4) warned
        ∙ sym (rows m.roads (warnings alike m));
  }
    where
      width : (rs : List Road) (w : Warning) → length (warn_row text rs w) ≡ 4
      width rs w = unfold warn_row in refl

      rows : (rs : List Road) (ws : List Warning) → length (gather (warn_row text rs) ws) ≡ length ws * 4
      rows rs ws = length_even 4 (warn_row text rs) ws (each (width rs) ws)

      warned : length (warnings alike turned_map) ≡ length (warnings alike m)
      warned = unfold repair_sizes in size_at 4

  pub even_content : EvenRepaired (repair_content turned) (repair_content plain)
  even_content =
      let turned-is = repaired_is text turned_map turned_lanes turned_sound in
      let plain_is = repaired_is text m xs h in
      rw (turned-is, plain_is) even_repaired

  -- ---- repair's refusal
  even_before : Even turned plain
  even_before =
      even_tables text turned_map m turned_lanes xs turned_sound.six h.six (counted_reversed alike s m xs)

  repair_rules_reversed : repair_rules turned ≡ repair_rules plain
  repair_rules_reversed =
      repair_rules_even turned plain even_before (passed text turned_map turned_lanes turned_sound) (passed text m xs h)

  pub repair_refusal_reversed : (lengths : List ℕ) → repair_refusal turned lengths ≡ repair_refusal plain lengths
  unfolding repair_refusal
  repair_refusal_reversed lengths =
      let lengths-same = lengths_even (repair_content turned) (repair_content plain) even_content in
      λ i. first_broken (repair_rules_reversed i ++ long_enough (lengths-same i) lengths)

  -- ---- succession, on the tables repaired
  even_after : Even turned_then_mended mended
  even_after =
      even_tables text turned_mended mended_map turned_lanes xs turned_sound.six h.six counted_repair

  turned_passed : Passed turned_then_mended
  turned_passed = passed text turned_mended turned_lanes turned_mended_sound

  mended_passed : Passed mended
  mended_passed = passed text mended_map xs mended_sound

  pub lists_reversed : list_content turned_then_mended ≡ list_content mended
  unfolding list_content tables_of
  lists_reversed =
      ap (λ n. from (successor_lists alike n) (predecessor_lists alike n))
      (is_map text turned_mended turned_lanes turned_mended_sound)
      ∙ ap₂ from (successors_held alike (alike_in text) m s H) (predecessors_held alike (alike_in text) m s H)
      ∙ ap (λ n. from (successor_lists alike n) (predecessor_lists alike n))
      (sym (is_map text mended_map xs mended_sound))
    where
      from : List (List ℕ) → List (List ℕ) → ListOutputs
      from onward before =
          record {
            successor_offsets = offsets_from 0 onward;
            successor_ids = packed onward;
            predecessor_offsets = offsets_from 0 before;
            predecessor_ids = packed before;
          }

  pub succession_call_reversed : (o : ListOutputs) → succession_call turned_then_mended o ≡ succession_call mended o
  unfolding succession_call
  succession_call_reversed o =
      let rules = succession_rules_even turned_then_mended mended even_after turned_passed mended_passed in
      λ i. called list_writing (rules i) (lists_reversed i) o

  -- ---- the gap check
  turned_lanes_lem : lanes_of turned_then_mended ≡ map (reverse_lane alike s m.roads) m.lanes
  turned_lanes_lem = is_lanes text turned_mended turned_lanes turned_mended_sound ∙ (unfold repair reverse_map in refl)

  mended_lanes : lanes_of mended ≡ m.lanes
  mended_lanes = is_lanes text mended_map xs mended_sound ∙ (unfold repair in refl)

  pub lists_fit_reversed : (offsets ids : List ℕ)
      → lists_fit turned_then_mended offsets ids ≡ lists_fit mended offsets ids
  unfolding lists_fit borne
  lists_fit_reversed offsets ids =
      λ i. eqb (length offsets) (suc (even_after.lanes i / 10)) && climbs (length ids) offsets && all_borne i
    where
      one : (n : ℕ)
          → some? (λ l. eqb l.identity n) (map (reverse_lane alike s m.roads) m.lanes)
          ≡ some? (λ l. eqb l.identity n) m.lanes
      one n = some?_map (reverse_lane alike s m.roads) (λ l. eqb l.identity n) m.lanes
          ∙ some?_ext (λ l. eqb (reverse_lane alike s m.roads l).identity n)
          (λ l. eqb l.identity n) m.lanes (each (reversed_id n) m.lanes)
        where
          reversed_id : (n : ℕ) (l : Lane)
              → eqb (reverse_lane alike s m.roads l).identity n ≡ eqb l.identity n
          reversed_id n l = unfold reverse_lane in refl

      all_borne : every (λ n. some? (λ l. eqb l.identity n) (lanes_of turned_then_mended)) ids
          ≡ every (λ n. some? (λ l. eqb l.identity n) (lanes_of mended)) ids
      all_borne = ap (λ (ls : List Lane). every (λ n. some? (λ l. eqb l.identity n) ls) ids) turned_lanes_lem
          ∙ every_ext
          (λ n. some? (λ l. eqb l.identity n) (map (reverse_lane alike s m.roads) m.lanes))
          (λ n. some? (λ l. eqb l.identity n) m.lanes) ids (each one ids)
          ∙ ap (λ (ls : List Lane). every (λ n. some? (λ l. eqb l.identity n) ls) ids) (sym mended_lanes)

  pub gap_content_reversed : (offsets ids : List ℕ)
      → gap_content turned_then_mended offsets ids ≡ gap_content mended offsets ids
  unfolding gap_content
  gap_content_reversed offsets ids =
      ap (λ ls. gather gap_words (link_gaps ls (lists_in offsets ids)))
      (is_edged text turned_mended turned_lanes turned_mended_sound)
      ∙ ap (gather gap_words) (link_gaps_reversed alike s m.roads xs (lists_in offsets ids))
      ∙ ap (λ ls. gather gap_words (link_gaps ls (lists_in offsets ids)))
      (sym (is_edged text mended_map xs mended_sound))

  pub gap_call_reversed : (offsets ids o : List ℕ)
      → gap_call turned_then_mended offsets ids o ≡ gap_call mended offsets ids o
  unfolding gap_call
  gap_call_reversed offsets ids o =
      let fit = lists_fit_reversed offsets ids in
      let rules = gap_rules_even turned_then_mended mended even_after turned_passed mended_passed offsets ids fit in
      λ i. called (table_writing gap_width) (rules i) (gap_content_reversed offsets ids i) o

  -- ---- all three calls
  module _ (q : Buffers) where
    from_reversed : (counts : List ℕ) → from_repaired q counts turned_then_mended ≡ from_repaired q counts mended
    unfolding from_repaired
    from_reversed counts =
        ap (λ (r : Outcome ListOutputs). by_lists q counts turned_then_mended r.answer r.outs)
        (succession_call_reversed q.for_lists)
        ∙ go (succession_call mended q.for_lists).answer (succession_call mended q.for_lists).outs
      where
        go : (a : Answer) (o : ListOutputs) → by_lists q counts turned_then_mended a o ≡ by_lists q counts mended a o
        go (refused n) o = refl
        go (wrote ns) o =
            ap (lists counts (outcome (wrote ns) o))
            (gap_call_reversed (take (word ns 0) o.successor_offsets) (take (word ns 1) o.successor_ids)
            q.for_gaps)

    -- what is found where repair's refusal is r
    found_by : Tables → Option ℕ → Found
    found_by t r =
        let done = outcome_by repair_writing (repair_content t) q.for_repair r in
        by_repair q t done.answer done.outs

    rows_written : (n : Map) (ys : List EdgedLane) → Sound text n ys
        → with_repaired (tables_of text n ys) (repair_counts (repair_content (tables_of text n ys)))
        (put_repaired (repair_content (tables_of text n ys)) q.for_repair)
        ≡ tables_of text (repair alike n) ys
    rows_written n ys sound =
        ap (λ c. with_repaired (tables_of text n ys) (repair_counts c) (put_repaired c q.for_repair))
        (repaired_is text n ys sound)
        ∙ repaired_rows text n ys sound q.for_repair

    pub found_reversed : found q turned ≡ found q plain
    unfolding found found_by repair_call repair_refusal
    found_reversed =
        ap (found_by turned) (repair_refusal_reversed (repair_lengths q.for_repair))
        ∙ go (repair_refusal plain (repair_lengths q.for_repair))
      where
        go : (r : Option ℕ) → found_by turned r ≡ found_by plain r
        go (some n) = refl
        go none =
            ap₂ (from_repaired q) (counts_even (repair_content turned) (repair_content plain) even_content)
            (rows_written turned_map turned_lanes turned_sound)
            ∙ from_reversed (repair_counts (repair_content plain))
            ∙ ap (from_repaired q (repair_counts (repair_content plain))) (sym (rows_written m xs h))

  pub same_lists : list_content (repaired_tables turned) ≡ list_content (repaired_tables plain)
  same_lists =
      ap list_content (repaired_tables_lem text turned_map turned_lanes turned_sound)
      ∙ lists_reversed
      ∙ ap list_content (sym (repaired_tables_lem text m xs h))

  pub same_gaps : (offsets ids : List ℕ)
      → gap_content (repaired_tables turned) offsets ids ≡ gap_content (repaired_tables plain) offsets ids
  same_gaps offsets ids =
      ap (λ t. gap_content t offsets ids) (repaired_tables_lem text turned_map turned_lanes turned_sound)
      ∙ gap_content_reversed offsets ids
      ∙ ap (λ t. gap_content t offsets ids) (sym (repaired_tables_lem text m xs h))

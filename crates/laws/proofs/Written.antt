-- An accepted reversal writes words, where the tables are words.
use mathlib.Core.Path.{◌≡◌, sym, ◌∙◌, ap}
use mathlib.Core.List.{List}
use Prim.Native.Nat.{ℕ, ◌*◌, ◌≤◌}
use native.Mathlib.Omega.{arith}
use lib.ListN.{length}
use Rattle.model.specs.Calls.{ReversalOutputs, marked_by, reversal_content}
use Rattle.model.specs.Records.{Map}
use Rattle.model.specs.Reversal.{reverse_map}
use Rattle.model.specs.Rules.{edges_sized, lanes_sized, map_sized}
use Rattle.model.specs.Tables.{Tables, all_pairs, edged_lanes_of, map_of, section_words, tables_of}
use Rattle.model.specs.Text.{same_in}
use Rattle.laws.proofs.Admitted.{sized_most, sizes_of_lem}
use Rattle.laws.proofs.AllWords.{MapW, TablesW, connections_written, lanes_written, means_words}
use Rattle.laws.proofs.AllWords.{pairs_written, roads_written, sections_written}
use Rattle.laws.proofs.Decoded.{and3}
use Rattle.laws.proofs.Numbers.{Word}
use Rattle.laws.proofs.RulesReversed.{good_valid}
use Rattle.laws.proofs.Valid.{Each, Valid}
use Rattle.laws.proofs.WordsKept.{reverse_words}
use Rattle.laws.proofs.WordsReversed.{Fine, counted_reversed, fine_sound, fine_words, length_pairs, model_of}

pub record ReversedW (c : ReversalOutputs) : Type 0 where
  pub roads : Each Word c.roads
  pub sections : Each Word c.sections
  pub connections : Each Word c.connections
  pub pairs : Each Word c.pairs
  pub lanes : Each Word c.lanes

module _ (t : Tables) (f : Fine t) (w : TablesW t) (marks : List ℕ) where
  abbrev n : Map
  n = reverse_map (same_in t.text) (marked_by t marks) (map_of t)

  valid : Valid (same_in t.text) (map_of t)
  valid = unfold model_of in good_valid (same_in t.text) (model_of t).map (fine_sound t f).good

  reversed_words : MapW (reverse_map (same_in t.text) (marked_by t marks) (map_of t))
  reversed_words = reverse_words (same_in t.text) (marked_by t marks) (map_of t) valid (means_words t w)

  limits : (length t.sections ≤ 16384 * 1)
      × (length t.connections ≤ 16384 * 7)
      × (length t.pairs ≤ 16384 * 2)
  limits =
      let p = sizes_of_lem 16384 t (and3 (map_sized 16384 t) (lanes_sized t) (edges_sized t) f.sizes).0 in (
        sized_most 1 16384 (length t.sections) p.2,
        sized_most 7 16384 (length t.connections) p.4,
        sized_most 2 16384 (length t.pairs) p.5,
      )

  words_are : tables_of t.text (map_of t) (edged_lanes_of t) ≡ t
  unfolding model_of
  words_are = fine_words t f

  sections_are : length (section_words (map_of t).roads) ≡ length t.sections
  unfolding tables_of
  sections_are = ap (λ (u : Tables). length u.sections) words_are

  pairs_are : length t.pairs ≡ length (all_pairs (map_of t).junctions) * 2
  unfolding tables_of
  pairs_are = sym (ap (λ (u : Tables). length u.pairs) words_are) ∙ length_pairs (map_of t).junctions

  -- the five tables of words; the edges are the floats that were read
  pub reversal_words : ReversedW (reversal_content t marks)
  unfolding reversal_content
  reversal_words = record {
    roads = roads_written n reversed_words
        (
        omega (
          arith,
          (counted_reversed (same_in t.text) (marked_by t marks) (map_of t) (edged_lanes_of t)).sections,
          sections_are,
          limits.0,
        ));
    sections = sections_written n reversed_words;
    connections = connections_written n reversed_words
        (
        omega (
          arith,
          (counted_reversed (same_in t.text) (marked_by t marks) (map_of t) (edged_lanes_of t)).pairs,
          pairs_are,
          limits.2,
        ));
    pairs = pairs_written n reversed_words;
    lanes = lanes_written n reversed_words;
  }

-- The laws on a reversed map, said of tables: what reversal and repair write mean the map reversed and the map
-- repaired, and the lists, gap rows and warning rows of reversed tables are those of the tables.
use mathlib.Core.Path.{◌≡◌, sym, ◌∙◌, ap, ap₂}
use mathlib.Core.Bool.{true, not}
use mathlib.Core.Option.{Option, none, some}
use mathlib.Core.List.{List, map}
use Prim.Native.Nat.{ℕ}
use Rattle.model.specs.Calls.{repair_content, repaired_map, reversal_refusal, reversed_map, table_rules, warning_width}
use Rattle.model.specs.Claim.{repaired_tables, reversed_warning}
use Rattle.model.specs.Gaps.{GapRow, link_gaps}
use Rattle.model.specs.Lists.{is_some}
use Rattle.model.specs.Records.{Road, Span}
use Rattle.model.specs.Repair.{repair}
use Rattle.model.specs.Reversal.{reverse_map}
use Rattle.model.specs.Rows.{table}
use Rattle.model.specs.Rules.{marks_fit, same}
use Rattle.model.specs.Sequence.{reversed_once_by, with_reversed}
use Rattle.model.specs.Succession.{predecessor_lists, successor_lists}
use Rattle.model.specs.Tables.{Tables, edged_lanes_of, is_absent, map_of, name_size, name_start, road_words, tables_of}
use Rattle.laws.proofs.ByBytes.{alike_in}
use Rattle.laws.proofs.Encoded.{Plain, PlainName}
use Rattle.laws.proofs.ForEach.{each_map}
use Rattle.laws.proofs.Held.{Held, predecessors_held, successors_held}
use Rattle.laws.proofs.MarkRules.{marks_form}
use Rattle.laws.proofs.RulesReversed.{unbroken_append}
use Rattle.laws.proofs.SameFound.{repaired_tables_lem}
use Rattle.laws.proofs.SameGaps.{link_gaps_reversed}
use Rattle.laws.proofs.SameWarnings.{warned_reversed}
use Rattle.laws.proofs.SoundMaps.{is_map}
use Rattle.laws.proofs.StaySound.{sound_repair}
use Rattle.laws.proofs.Valid.{Each, mark_for, reverse_model}
use Rattle.laws.proofs.WordsReversed.{Fine, call_rules, fine, fine_sound, fine_words, length_roads}
use Rattle.laws.proofs.WordsReversed.{model_of, refusal_split}
use Rattle.laws.proofs.Sequences as seq

-- the gap rows of the tables, from the lists of the map after repair
abbrev pub gaps_of : Tables → List GapRow
gaps_of t = link_gaps (edged_lanes_of t) (successor_lists (same t) (repaired_map t))

-- a junction name whose words mean absent just where it is absent
pub plain_names : (rs : List Road)
    → Each
    (λ (r : Road). is_absent (name_start r.junction) (name_size r.junction) ≡ not (is_some r.junction)) rs
    → Each Plain rs
plain_names rs h = each_map (λ (r : Road) q. plain r.junction q) rs h
  where
    plain : (o : Option Span) → is_absent (name_start o) (name_size o) ≡ not (is_some o) → PlainName o
    plain none q = tt
    plain (some s) q = q

-- the tables of an accepted reversal pass rules 1 to 8 and 10
pub accepted_fine : (t : Tables) (marks lengths : List ℕ) → reversal_refusal t marks lengths ≡ none → Fine t
accepted_fine t marks lengths q =
    fine t
    (unbroken_append (table_rules t) (call_rules t marks lengths) (sym (refusal_split t marks lengths) ∙ q)).0

-- ---- tables that pass rules 1 to 8 and 10
module _ (t : Tables) (f : Fine t) where
  -- rule 12, road by road
  pub marks_each : (marks : List ℕ) → marks_fit t.roads marks ≡ true → mark_for (model_of t).map.roads marks ≡ true
  marks_each marks k =
      sym (ap (λ rs. marks_fit rs marks) (sym words)
      ∙ marks_form (model_of t).map.roads marks (length_roads (model_of t).map.roads))
      ∙ k
    where
      words : road_words (model_of t).map.roads ≡ t.roads
      words = unfold tables_of in ap (λ (u : Tables). u.roads) (fine_words t f)

  pub reversed_means : (marks : List ℕ) → map_of (reversed_once_by marks t) ≡ reversed_map t marks
  unfolding model_of map_of
  reversed_means marks = seq.reversed_map_lem t f marks

  pub repaired_means : map_of (repaired_tables t) ≡ repaired_map t
  unfolding model_of
  repaired_means =
      ap (λ u. map_of (repaired_tables u)) (sym (fine_words t f))
      ∙ ap map_of (repaired_tables_lem t.text (map_of t) (edged_lanes_of t) (fine_sound t f))
      ∙ is_map t.text (repaired_map t) (edged_lanes_of t)
      (sound_repair t.text (map_of t) (edged_lanes_of t) (fine_sound t f))

  pub warnings_over : (marks : List ℕ) → marks_fit t.roads marks ≡ true →
      table warning_width (repair_content (reversed_once_by marks t)).warnings
      ≡ map (reversed_warning marks) (table warning_width (repair_content t).warnings)
  unfolding model_of reverse_model
  warnings_over marks k =
      ap (λ u. table warning_width (repair_content u).warnings) (seq.reversed_once_by_words t f marks)
      ∙ warned_reversed t.text (map_of t) (edged_lanes_of t) (fine_sound t f) marks (marks_each marks k)
      ∙ ap (λ u. map (reversed_warning marks) (table warning_width (repair_content u).warnings)) (fine_words t f)

-- ---- an accepted reversal
module _ (t : Tables) (marks lengths : List ℕ) (q : reversal_refusal t marks lengths ≡ none) where
  f : Fine t
  f = accepted_fine t marks lengths q

  held : Held (same t) (map_of t) (seq.in_set t f marks)
  unfolding model_of
  held = seq.held_accepted t f marks lengths q

  reversed : map_of (reversed_once_by marks t) ≡ reverse_map (same t) (seq.in_set t f marks) (map_of t)
  unfolding model_of
  reversed = seq.reversed_map_lem t f marks

  pub successors_over : successor_lists (same t) (repaired_map (reversed_once_by marks t))
      ≡ successor_lists (same t) (repaired_map t)
  unfolding with_reversed reversed_once_by
  successors_over =
      ap (λ m. successor_lists (same t) (repair (same t) m)) reversed
      ∙ successors_held (same t) (alike_in t.text) (map_of t) (seq.in_set t f marks) held

  pub predecessors_over : predecessor_lists (same t) (repaired_map (reversed_once_by marks t))
      ≡ predecessor_lists (same t) (repaired_map t)
  unfolding with_reversed reversed_once_by
  predecessors_over =
      ap (λ m. predecessor_lists (same t) (repair (same t) m)) reversed
      ∙ predecessors_held (same t) (alike_in t.text) (map_of t) (seq.in_set t f marks) held

  pub gaps_over : gaps_of (reversed_once_by marks t) ≡ gaps_of t
  unfolding model_of with_reversed reversed_once_by
  gaps_over =
      ap₂ link_gaps (seq.reversed_edged t f marks) successors_over
      ∙ link_gaps_reversed (same t) (seq.in_set t f marks) (map_of t).roads (edged_lanes_of t)
      (successor_lists (same t) (repaired_map t))

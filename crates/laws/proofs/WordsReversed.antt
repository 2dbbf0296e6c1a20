-- Reversal at the word level: what a reversed map's words are, that the rules judge them as the map's, and what
-- an accepted call leaves.
use mathlib.Core.Path.{◌≡◌, refl, sym, ◌∙◌, ap, ap₂}
use mathlib.Core.Bool.{Bool, true, ◌&&◌}
use mathlib.Core.Option.{Option, none, some}
use mathlib.Core.List.{List, [], ◌∷◌, ◌++◌, map, append_assoc}
use Prim.Native.Nat.{ℕ, ◌+◌, ◌*◌, ◌/◌, ◌<◌}
use native.Mathlib.Nat.{mul-div_cancel}
use native.Mathlib.Omega.{arith}
use lib.Dec.{leb}
use lib.ListN.{length, take, get_or, length-map}
use Rattle.model.specs.Calls.{Outcome, ReversalOutputs, Writing, lane_rules, long_enough, mark_rules, put_reversed}
use Rattle.model.specs.Calls.{reversal_call, reversal_content, reversal_counts, reversal_lengths, reversal_refusal}
use Rattle.model.specs.Calls.{reversal_rules, reversal_writing, rules_to5, settled, succession_rules, table_rules}
use Rattle.model.specs.Lists.{every, gather}
use Rattle.model.specs.Records.{Connection, EdgedLane, Junction, Lane, Map, Road, Span}
use Rattle.model.specs.Reversal.{marked, reverse_connection, reverse_edged, reverse_junction, reverse_lane}
use Rattle.model.specs.Reversal.{reverse_map, reverse_road}
use Rattle.model.specs.Rows.{rows_from, written}
use Rattle.model.specs.Rules.{Rule, connections_fit, edges_sized, first_broken, fits, identities_once, keys_once}
use Rattle.model.specs.Rules.{lane_fine, lanes_listed, lanes_sized, lanes_worded, map_sized, map_worded, numbers_fine}
use Rattle.model.specs.Rules.{one_ended, one_ended_in, pair_fine, roads_once, rule, sections_fit, sized}
use Rattle.model.specs.Sequence.{Call, after, next, reversed_once_by, reversed_rows, with_reversed}
use Rattle.model.specs.Tables.{Tables, all_connections, all_pairs, connection_row, connection_words, edge_row}
use Rattle.model.specs.Tables.{edge_words, edged_lanes_of, junction_row, junction_words, kind_word, lane_row}
use Rattle.model.specs.Tables.{lane_words, map_of, pair_row, pair_words, pairs_in, road_row, road_words, section_words}
use Rattle.model.specs.Tables.{tables_of}
use Rattle.model.specs.Text.{same_in}
use Rattle.laws.proofs.Admitted.{Whole, forth, is_sound, whole}
use Rattle.laws.proofs.ByBytes.{alike_in}
use Rattle.laws.proofs.Decoded.{and3}
use Rattle.laws.proofs.Encoded.{Six, connection_width_lem, edge_width_lem, junction_width_lem, lane_width_lem}
use Rattle.laws.proofs.Encoded.{pair_width_lem, pairs_back, road_width_lem}
use Rattle.laws.proofs.ForEach.{each, each_map}
use Rattle.laws.proofs.Lay.{length_even, length_rows_from, take_written}
use Rattle.laws.proofs.MarkRules.{ends_form, marks_form, pairs_form}
use Rattle.laws.proofs.RulesReversed.{all_pass, broken_append, ends_reversed, marked_steady}
use Rattle.laws.proofs.RulesReversed.{marks_reversed, numbers_reversed, pass_all, sizes, sizes_reversed}
use Rattle.laws.proofs.SoundMaps.{Passed, Sound, is_edged, is_junctions, is_lanes, is_map, is_roads, passed}
use Rattle.laws.proofs.StaySound.{sound_reversed}
use Rattle.laws.proofs.Valid.{Each, Model, Steady, junction_fine, mark_for, none_twice, reverse_model}

-- ---- tables of the same lengths
pub record Even (t u : Tables) : Type 0 where
  pub text : length t.text ≡ length u.text
  pub roads : length t.roads ≡ length u.roads
  pub sections : length t.sections ≡ length u.sections
  pub junctions : length t.junctions ≡ length u.junctions
  pub connections : length t.connections ≡ length u.connections
  pub pairs : length t.pairs ≡ length u.pairs
  pub lanes : length t.lanes ≡ length u.lanes
  pub edges : length t.edges ≡ length u.edges

module _ (t u : Tables) (e : Even t u) where
  pub map_sized_even : (most : ℕ) → map_sized most t ≡ map_sized most u
  unfolding map_sized
  map_sized_even most =
      λ i.
      leb (e.text i) 1048576 && sized 20 16384 (e.roads i) && sized 1 16384 (e.sections i) && sized 5 16384
      (e.junctions i) && sized 7 most (e.connections i) && sized 2 most (e.pairs i)

  pub lanes_sized_even : lanes_sized t ≡ lanes_sized u
  unfolding lanes_sized
  lanes_sized_even = ap (sized 10 16384) e.lanes

  pub edges_sized_even : edges_sized t ≡ edges_sized u
  unfolding edges_sized
  edges_sized_even = ap (sized 12 16384) e.edges

-- maps with the same counts
pub record Counted (m n : Map) (xs ys : List EdgedLane) : Type 0 where
  pub roads : length m.roads ≡ length n.roads
  pub sections : length (section_words m.roads) ≡ length (section_words n.roads)
  pub junctions : length m.junctions ≡ length n.junctions
  pub connections : length (all_connections m.junctions) ≡ length (all_connections n.junctions)
  pub pairs : length (all_pairs m.junctions) ≡ length (all_pairs n.junctions)
  pub lanes : length m.lanes ≡ length n.lanes
  pub ends : length xs ≡ length ys

pub length_roads : (rs : List Road) → length (road_words rs) ≡ length rs * 20
unfolding road_words
length_roads rs = length_rows_from 20 road_row (λ r. r.sections) road_width_lem 0 rs

pub length_junctions : (js : List Junction) → length (junction_words js) ≡ length js * 5
unfolding junction_words
length_junctions js = length_rows_from 5 junction_row (λ j. j.connections) junction_width_lem 0 js

pub length_connections : (js : List Junction) → length (connection_words js) ≡ length (all_connections js) * 7
unfolding connection_words
length_connections js = length_rows_from 7 connection_row (λ c. c.pairs) connection_width_lem 0 (all_connections js)

pub length_pairs : (js : List Junction) → length (pair_words js) ≡ length (all_pairs js) * 2
unfolding pair_words
length_pairs js = length_even 2 pair_row (all_pairs js) (each pair_width_lem (all_pairs js))

pub length_lanes : (ls : List Lane) → length (lane_words ls) ≡ length ls * 10
unfolding lane_words
length_lanes ls = length_even 10 lane_row ls (each lane_width_lem ls)

pub length_edges : (xs : List EdgedLane) → Each Six xs → length (edge_words xs) ≡ length xs * 12
unfolding edge_words
length_edges xs h = length_even 12 edge_row xs (each_map edge_width_lem xs h)

pub even_tables : (text : List ℕ) (m n : Map) (xs ys : List EdgedLane) → Each Six xs → Each Six ys
    → Counted m n xs ys → Even (tables_of text m xs) (tables_of text n ys)
unfolding tables_of
even_tables text m n xs ys p q c = record {
  text = refl;
  roads = length_roads m.roads ∙ ap (λ (k : ℕ). k * 20) c.roads ∙ sym (length_roads n.roads);
  sections = c.sections;
  junctions = length_junctions m.junctions
      ∙ ap (λ (k : ℕ). k * 5) c.junctions
      ∙ sym (length_junctions n.junctions);
  connections = length_connections m.junctions
      ∙ ap (λ (k : ℕ). k * 7) c.connections
      ∙ sym (length_connections n.junctions);
  pairs = length_pairs m.junctions ∙ ap (λ (k : ℕ). k * 2) c.pairs ∙ sym (length_pairs n.junctions);
  lanes = length_lanes m.lanes ∙ ap (λ (k : ℕ). k * 10) c.lanes ∙ sym (length_lanes n.lanes);
  edges = length_edges xs p ∙ ap (λ (k : ℕ). k * 12) c.ends ∙ sym (length_edges ys q);
}

pub gather_append : {A B : Type 0} (f : A → List B) (xs ys : List A)
    → gather f (xs ++ ys) ≡ gather f xs ++ gather f ys
gather_append f [] ys = refl
gather_append {B = B} f (x ∷ xs) ys =
    ap (λ (l : List B). f x ++ l) (gather_append f xs ys) ∙ sym (append_assoc (f x) (gather f xs) (gather f ys))

pub gather_gather : {A B C : Type 0} (f : A → List B) (g : B → List C) (xs : List A)
    → gather g (gather f xs) ≡ gather (λ x. gather g (f x)) xs
gather_gather f g [] = refl
gather_gather {C = C} f g (x ∷ xs) =
    gather_append g (f x) (gather f xs) ∙ ap (λ (l : List C). gather g (f x) ++ l) (gather_gather f g xs)

pub all_pairs_nested : (js : List Junction) → all_pairs js ≡ gather (λ j. gather (λ c. c.pairs) j.connections) js
unfolding all_pairs all_connections
all_pairs_nested js = gather_gather (λ j. j.connections) (λ c. c.pairs) js

pub counted_reversed : (alike : Span → Span → Bool) (s : Span → Bool) (m : Map) (xs : List EdgedLane)
    → Counted (reverse_map alike s m) m (map (reverse_edged alike s m.roads) xs) xs
counted_reversed alike s m xs = record {
  roads = at 0;
  sections = (unfold section_words in at 1);
  junctions = (unfold reverse_map in length-map m.junctions (reverse_junction s));
  connections = (unfold all_connections in at 2);
  pairs = ap length (all_pairs_nested (reverse_map alike s m).junctions)
      ∙ at 3
      ∙ sym (ap length (all_pairs_nested m.junctions));
  lanes = at 4;
  ends = length-map xs (reverse_edged alike s m.roads);
}
  where
    at : (k : ℕ)
        → get_or (length (reverse_map alike s m).roads
        ∷ length (gather (λ (r : Road). r.sections) (reverse_map alike s m).roads)
        ∷ length (gather (λ (j : Junction). j.connections) (reverse_map alike s m).junctions)
        ∷ length (gather (λ (j : Junction). gather (λ (c : Connection). c.pairs) j.connections)
        (reverse_map alike s m).junctions) ∷ length (reverse_map alike s m).lanes
        ∷ length (reverse_map alike s m).lanes ∷ []) k 0
        ≡ get_or (length m.roads ∷ length (gather (λ (r : Road). r.sections) m.roads)
        ∷ length (gather (λ (j : Junction). j.connections) m.junctions)
        ∷ length (gather (λ (j : Junction). gather (λ (c : Connection). c.pairs) j.connections)
        m.junctions) ∷ length m.lanes ∷ length m.lanes ∷ []) k 0
    at k = unfold sizes in ap (λ (l : List ℕ). get_or l k 0) (sizes_reversed alike s m)

-- ---- the junction table of a reversed map
junction_rows_lem : (s : Span → Bool) (i : ℕ) (js : List Junction)
    → rows_from junction_row (λ j. j.connections) i (map (reverse_junction s) js)
    ≡ rows_from junction_row (λ j. j.connections) i js
unfolding reverse_junction junction_row
junction_rows_lem s i [] = refl
junction_rows_lem s i (j ∷ js) =
    λ k.
    (j.name.start ∷ j.name.size ∷ kind_word j.kind ∷ i
    ∷ length-map j.connections (reverse_connection s) k ∷ [])
    ++ (ap
    (λ (n : ℕ). rows_from junction_row (λ (j : Junction). j.connections) (i + n) (map (reverse_junction s) js))
    (length-map j.connections (reverse_connection s))
    ∙ junction_rows_lem s (i + length j.connections) js) k

pub junction_words_reversed : (s : Span → Bool) (js : List Junction)
    → junction_words (map (reverse_junction s) js) ≡ junction_words js
unfolding junction_words
junction_words_reversed s js = junction_rows_lem s 0 js

-- ---- the words of a map with its edges
abbrev pub words_of : List ℕ → Model → Tables
words_of text x = tables_of text x.map x.edged

abbrev pub SoundModel : List ℕ → Model → Type 0
SoundModel text x = Sound text x.map x.edged

pub sound_model : (text : List ℕ) (s : Span → Bool) → Steady (same_in text) s → (x : Model) → SoundModel text x
    → SoundModel text (reverse_model (same_in text) s x)
unfolding reverse_model
sound_model text s S x h = sound_reversed text s S x.map x.edged h

pub even_model : (text : List ℕ) (s : Span → Bool) → Steady (same_in text) s → (x : Model) → SoundModel text x
    → Even (words_of text (reverse_model (same_in text) s x)) (words_of text x)
unfolding reverse_model
even_model text s S x h =
    even_tables text (reverse_map (same_in text) s x.map) x.map
    (map (reverse_edged (same_in text) s x.map.roads) x.edged) x.edged
    (sound_reversed text s S x.map x.edged h).six h.six
    (counted_reversed (same_in text) s x.map x.edged)

-- the roads that marks name on a map
abbrev pub named : List ℕ → Model → List ℕ → Span → Bool
named text x marks = marked (same_in text) x.map.roads marks

unfoldable pub reversed_of : Model → ReversalOutputs
reversed_of y =
    record {
      roads = road_words y.map.roads;
      sections = section_words y.map.roads;
      connections = connection_words y.map.junctions;
      pairs = pair_words y.map.junctions;
      lanes = lane_words y.map.lanes;
      edges = edge_words y.edged;
    }

module _ (text : List ℕ) (x : Model) (h : SoundModel text x) (marks : List ℕ) where
  pub content_is : reversal_content (words_of text x) marks
      ≡ reversed_of (reverse_model (same_in text) (named text x marks) x)
  unfolding reversal_content reversed_of reverse_model tables_of
  content_is =
      λ i.
      from (is_map text x.map x.edged h i) (is_roads text x.map x.edged h i)
      (is_edged text x.map x.edged h i)
    where
      from : Map → List Road → List EdgedLane → ReversalOutputs
      from m rs ys = record {
        roads = road_words (reverse_map (same_in text) (marked (same_in text) rs marks) m).roads;
        sections = section_words (reverse_map (same_in text) (marked (same_in text) rs marks) m).roads;
        connections = connection_words (reverse_map (same_in text) (marked (same_in text) rs marks) m).junctions;
        pairs = pair_words (reverse_map (same_in text) (marked (same_in text) rs marks) m).junctions;
        lanes = lane_words (reverse_map (same_in text) (marked (same_in text) rs marks) m).lanes;
        edges = edge_words (map (reverse_edged (same_in text) (marked (same_in text) rs marks) rs) ys);
      }

  -- reversal by marks, as words
  pub reversed_once_by_is : reversed_once_by marks (words_of text x)
      ≡ words_of text (reverse_model (same_in text) (named text x marks) x)
  unfolding reversed_once_by
  reversed_once_by_is = ap (with_reversed (words_of text x)) content_is
      ∙ (unfold with_reversed reversed_of tables_of reverse_model reverse_map in λ i. record {
        text = text;
        roads = road_words (map (reverse_road (named text x marks)) x.map.roads);
        sections = section_words (map (reverse_road (named text x marks)) x.map.roads);
        junctions = sym (junction_words_reversed (named text x marks) x.map.junctions) i;
        connections = connection_words (map (reverse_junction (named text x marks)) x.map.junctions);
        pairs = pair_words (map (reverse_junction (named text x marks)) x.map.junctions);
        lanes = lane_words (map (reverse_lane (same_in text) (named text x marks) x.map.roads) x.map.lanes);
        edges = edge_words (map (reverse_edged (same_in text) (named text x marks) x.map.roads) x.edged);
      })

-- ---- rules 1 to 8 and 10 as facts
pub record Fine (t : Tables) : Type 0 where
  pub sizes : map_sized 16384 t && lanes_sized t && edges_sized t ≡ true
  pub rest : Passed t

pub fine : (t : Tables) → first_broken (table_rules t) ≡ none → Fine t
unfolding table_rules rules_to5 lane_rules
fine t h =
    let p = all_pass (table_rules t) h in
    record {
      sizes = p.0;
      rest = record {
        worded = p.1.0;
        once = p.1.1.0;
        sections = p.1.1.1.0;
        connections = p.1.1.1.1.0;
        identities = p.1.1.1.1.1.0;
        listed = p.1.1.1.1.1.1.0;
        keys = p.1.1.1.1.1.1.1.0;
        edges = p.1.1.1.1.1.1.1.1.0;
      };
    }

pub fine_rules : (t : Tables) → Fine t → first_broken (table_rules t) ≡ none
unfolding table_rules rules_to5 lane_rules
fine_rules t f =
    pass_all (table_rules t) (
      f.sizes,
      (
        f.rest.worded,
        (
          f.rest.once,
          (
            f.rest.sections,
            (
              f.rest.connections,
              (f.rest.identities, (f.rest.listed, (f.rest.keys, (f.rest.edges, tt)))),
            ),
          ),
        ),
      ),
    )

pub fine_whole : (t : Tables) → Fine t → Whole t
fine_whole t f =
    let w = and3 (map_sized 16384 t) (lanes_sized t) (edges_sized t) f.sizes in
    whole 16384 t w.0 w.1 w.2

-- rules 1 to 8 as facts: what succession asks, but for 9
pub record Listable (t : Tables) : Type 0 where
  pub sizes : map_sized 16384 t && lanes_sized t ≡ true
  pub worded : map_worded t && lanes_worded t ≡ true
  pub once : roads_once t ≡ true
  pub sections : sections_fit t ≡ true
  pub connections : connections_fit t ≡ true
  pub identities : identities_once t ≡ true
  pub listed : lanes_listed t ≡ true
  pub keys : keys_once t ≡ true

pub listable : (t : Tables) → first_broken (succession_rules t) ≡ none → Listable t
unfolding succession_rules rules_to5 lane_rules
listable t unbroken =
    let p = all_pass (succession_rules t) unbroken in
    record {
      sizes = p.0;
      worded = p.1.0;
      once = p.1.1.0;
      sections = p.1.1.1.0;
      connections = p.1.1.1.1.0;
      identities = p.1.1.1.1.1.0;
      listed = p.1.1.1.1.1.1.0;
      keys = p.1.1.1.1.1.1.1.0;
    }

-- tables that pass are the words of a sound map
unfoldable pub model_of : Tables → Model
model_of t = record { map = map_of t; edged = edged_lanes_of t }

pub fine_sound : (t : Tables) → Fine t → SoundModel t.text (model_of t)
unfolding model_of
fine_sound t f = is_sound t (fine_whole t f) f.rest

pub fine_words : (t : Tables) → Fine t → words_of t.text (model_of t) ≡ t
unfolding model_of
fine_words t f = forth t (fine_whole t f) f.rest

-- ---- rules 12 to 14 and 9
unfoldable pub six_lengths : Tables → List ℕ
six_lengths t =
    length t.roads ∷ length t.sections ∷ length t.connections ∷ length t.pairs ∷ length t.lanes
    ∷ length t.edges ∷ []

pub six_even : (t u : Tables) → Even t u → six_lengths t ≡ six_lengths u
unfolding six_lengths
six_even t u e = λ i. e.roads i ∷ e.sections i ∷ e.connections i ∷ e.pairs i ∷ e.lanes i ∷ e.edges i ∷ []

six_of : (text : List ℕ) (y : Model) → reversal_lengths (reversed_of y) ≡ six_lengths (words_of text y)
unfolding six_lengths reversal_lengths reversed_of tables_of
six_of text y = refl

unfoldable pub model_rules : List ℕ → Model → List ℕ → List ℕ → List Rule
model_rules text x marks lengths =
    rule 12 (mark_for x.map.roads marks)
    ∷ rule 13 (every lane_fine x.map.lanes && every junction_fine x.map.junctions)
    ∷ rule 14 (none_twice (same_in text) (named text x marks) x.map)
    ∷ rule 9 (fits (six_lengths (words_of text x)) lengths) ∷ []

-- 12 to 14 and 9 of a call, and that the call's rules are those on the tables and then these
unfoldable pub call_rules : Tables → (marks lengths : List ℕ) → List Rule
call_rules t marks lengths = mark_rules t marks ++ long_enough (reversal_lengths (reversal_content t marks)) lengths

pub refusal_split : (t : Tables) (marks lengths : List ℕ)
    → reversal_refusal t marks lengths ≡ first_broken (table_rules t ++ call_rules t marks lengths)
unfolding reversal_refusal reversal_rules call_rules table_rules rules_to5 lane_rules
refusal_split t marks lengths = refl

module _ (text : List ℕ) (x : Model) (h : SoundModel text x) (marks : List ℕ) where
  pub lengths_are : reversal_lengths (reversal_content (words_of text x) marks) ≡ six_lengths (words_of text x)
  lengths_are =
      ap reversal_lengths (content_is text x h marks)
      ∙ six_of text (reverse_model (same_in text) (named text x marks) x)
      ∙ six_even (words_of text (reverse_model (same_in text) (named text x marks) x)) (words_of text x)
      (even_model text (named text x marks) (marked_steady (same_in text) (alike_in text) x.map.roads marks)
      x h)

  pub call_rules_are : (lengths : List ℕ)
      → call_rules (words_of text x) marks lengths ≡ model_rules text x marks lengths
  unfolding call_rules mark_rules model_rules numbers_fine tables_of
  call_rules_are lengths = λ i.
      rule 12 (marks_form x.map.roads marks (length_roads x.map.roads) i)
      ∷ rule 13 ((ap₂ (λ ls ps. every lane_fine ls && every pair_fine ps) (is_lanes text x.map x.edged h) pairs_are
      ∙ ap (λ b. every lane_fine x.map.lanes && b) (pairs_form x.map.junctions)) i)
      ∷ rule 14 ((ends_are ∙ ends_form (same_in text) (named text x marks) x.map) i)
      ∷ rule 9 (fits (lengths_are i) lengths) ∷ []
    where
      pairs_are : pairs_in (pair_words x.map.junctions) ≡ all_pairs x.map.junctions
      pairs_are = unfold pairs_in in pairs_back x.map.junctions

      ends_are : one_ended (words_of text x) marks
          ≡ one_ended_in (same_in text) (named text x marks) x.map.junctions x.map.roads
      ends_are =
          unfold tables_of in ap₂ (λ js rs. one_ended_in (same_in text) (marked (same_in text) rs marks) js rs)
          (is_junctions text x.map x.edged h) (is_roads text x.map x.edged h)

pub model_rules_reversed : (text : List ℕ) (s : Span → Bool) → Steady (same_in text) s → (x : Model)
    → SoundModel text x → (marks lengths : List ℕ) →
    model_rules text (reverse_model (same_in text) s x) marks lengths ≡ model_rules text x marks lengths
unfolding model_rules
model_rules_reversed text s S x h marks lengths = λ i.
    rule 12 (at12 i) ∷ rule 13 (at13 i) ∷ rule 14 (at14 i)
    ∷ rule 9 (ap (λ l. fits l lengths)
    (six_even (words_of text (reverse_model (same_in text) s x)) (words_of text x) (even_model text s S x h)) i)
    ∷ []
  where
    at12 : mark_for (reverse_model (same_in text) s x).map.roads marks ≡ mark_for x.map.roads marks
    at12 = unfold reverse_model in marks_reversed (same_in text) s x.map marks

    at13 : every lane_fine (reverse_model (same_in text) s x).map.lanes && every junction_fine
        (reverse_model (same_in text) s x).map.junctions
        ≡ every lane_fine x.map.lanes && every junction_fine x.map.junctions
    at13 = unfold reverse_model in numbers_reversed (same_in text) s x.map

    at14 : none_twice (same_in text) (named text (reverse_model (same_in text) s x) marks)
        (reverse_model (same_in text) s x).map ≡ none_twice (same_in text) (named text x marks) x.map
    at14 = unfold reverse_model in ends_reversed (same_in text) s x.map marks

-- ---- a sound map that passes, reversed
module _ (text : List ℕ) (s : Span → Bool) (S : Steady (same_in text) s) (x : Model) (h : SoundModel text x)
    (f : Fine (words_of text x)) where
  abbrev turned : Model
  turned = reverse_model (same_in text) s x

  pub fine_reversed : Fine (words_of text turned)
  fine_reversed = record {
    sizes =
        ap₂ (λ a b. a && b) (ap₂ (λ a b. a && b)
        (map_sized_even (words_of text turned) (words_of text x) even 16384)
        (lanes_sized_even (words_of text turned) (words_of text x) even))
        (edges_sized_even (words_of text turned) (words_of text x) even) ∙ f.sizes;
    rest = passed text turned.map turned.edged
        (sound_model text s S x h);
  }
    where
      even : Even (words_of text turned) (words_of text x)
      even = even_model text s S x h

  -- a call is refused on the reversed map as on the map
  pub refusal_reversed : (marks lengths : List ℕ)
      → reversal_refusal (words_of text turned) marks lengths
      ≡ reversal_refusal (words_of text x) marks lengths
  refusal_reversed marks lengths =
      own_rules (words_of text turned) fine_reversed
      ∙ ap first_broken (call_rules_are text turned (sound_model text s S x h) marks lengths
      ∙ model_rules_reversed text s S x h marks lengths
      ∙ sym (call_rules_are text x h marks lengths))
      ∙ sym (own_rules (words_of text x) f)
    where
      -- where rules 1 to 8 and 10 pass, the call's own decide
      own_rules : (t : Tables) → Fine t
          → reversal_refusal t marks lengths ≡ first_broken (call_rules t marks lengths)
      own_rules t fine-t =
          refusal_split t marks lengths
          ∙ broken_append (table_rules t) (call_rules t marks lengths) (fine_rules t fine-t)

-- ---- what a call leaves
pub whole_count : (w n k : ℕ) → 0 < w → n ≡ k * w → n / w * w ≡ n
whole_count w n k p e = ap (λ (a : ℕ). a / w * w) e ∙ ap (λ (a : ℕ). a * w) (mul-div_cancel k p) ∙ sym e

-- whole rows that were written are taken back
pub rows_taken : {A : Type 0} (w : ℕ) (content out : List A) (n : ℕ) → 0 < w → length content ≡ n * w
    → take (length content / w * w) (written content out) ≡ content
rows_taken w content out n above_zero whole =
    take_written content out (length content / w * w) (whole_count w (length content) n above_zero whole)

module _ (text : List ℕ) (y : Model) (six : Each Six y.edged) (o : ReversalOutputs) where
  pub rows_back : reversed_rows (reversal_counts (reversed_of y)) (put_reversed (reversed_of y) o) ≡ reversed_of y
  unfolding reversed_rows reversal_counts put_reversed reversed_of
  rows_back =
      let js = y.map.junctions in
      λ i. record {
        roads = rows_taken 20 (road_words y.map.roads) o.roads _ (omega arith) (length_roads y.map.roads) i;
        sections = take_written (section_words y.map.roads) o.sections _ refl i;
        connections = rows_taken 7 (connection_words js) o.connections _ (omega arith) (length_connections js) i;
        pairs = rows_taken 2 (pair_words js) o.pairs _ (omega arith) (length_pairs js) i;
        lanes = rows_taken 10 (lane_words y.map.lanes) o.lanes _ (omega arith) (length_lanes y.map.lanes) i;
        edges = rows_taken 12 (edge_words y.edged) o.edges _ (omega arith) (length_edges y.edged six) i;
      }

-- a call's outcome by its refusal, and the tables after a reversal
abbrev pub outcome_by : {O : Type 0} → Writing O → (content outs : O) → Option ℕ → Outcome O
outcome_by w content outs refusal = settled refusal (w.rows content) (w.put content outs) outs

left_by : Tables → Call → Option ℕ → Tables
left_by t c refusal =
    let done = outcome_by reversal_writing (reversal_content t c.marks) c.outs refusal in
    next t done.answer done.outs

-- an accepted call's rows are the map reversed by its marks; a refused one leaves the tables
pub accepted_leaves : (text : List ℕ) (x : Model) → SoundModel text x → (c : Call)
    → reversal_refusal (words_of text x) c.marks (reversal_lengths c.outs) ≡ none
    → after (words_of text x) c ≡ reversed_once_by c.marks (words_of text x)
unfolding after reversal_call reversal_refusal reversed_once_by left_by
accepted_leaves text x h c accepted =
    ap (left_by (words_of text x) c) accepted
    ∙ ap (with_reversed (words_of text x))
    (ap (λ content. reversed_rows (reversal_counts content) (put_reversed content c.outs)) content_reversed
    ∙ rows_back text (reverse_model (same_in text) (named text x c.marks) x) six c.outs
    ∙ sym content_reversed)
  where
    content_reversed : reversal_content (words_of text x) c.marks
        ≡ reversed_of (reverse_model (same_in text) (named text x c.marks) x)
    content_reversed = content_is text x h c.marks

    six : Each Six (reverse_model (same_in text) (named text x c.marks) x).edged
    six =
        let steady = marked_steady (same_in text) (alike_in text) x.map.roads c.marks in
        (sound_model text (named text x c.marks) steady x h).six

pub refused_leaves : (t : Tables) (c : Call) (k : ℕ)
    → reversal_refusal t c.marks (reversal_lengths c.outs) ≡ some k → after t c ≡ t
unfolding after reversal_call reversal_refusal left_by
refused_leaves t c k refused = ap (left_by t c) refused

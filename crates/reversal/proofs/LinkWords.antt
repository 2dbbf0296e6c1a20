-- Connections and pairs by row numbers are the model's.
use Prim.Native.Nat.{ℕ, ◌+◌, ◌*◌, ◌/◌, ◌%◌, ◌<◌, ◌≤◌}
use mathlib.Core.Bool.{Bool, true}
use mathlib.Core.List.{List, [], ◌∷◌, map, map-map}
use mathlib.Core.Path.{◌≡◌, refl, sym, ap, ap₂, ◌∙◌}
use native.Mathlib.Nat.{add-zero}
use native.Mathlib.Omega.{arith}
use lib.ListN.{length, get_or, take, drop, length-drop, length-map}
use lib.Seq.{get_or-drop, get_or-take, length-take-le}
use Rattle.model.specs.Lists.{◌⊕◌, every, gather}
use Rattle.model.specs.Records.{Connection, Junction, Pair, Span}
use Rattle.model.specs.Reversal.{reverse_connection, reverse_junction, reverse_pair, signed}
use Rattle.model.specs.Rows.{part, parts_fit, rows_from, table, word}
use Rattle.model.specs.Rules.{junction_worded}
use Rattle.model.specs.Tables.{all_connections, bit, connection_in, connection_row, connections_in, flag, junction_in}
use Rattle.model.specs.Tables.{junctions_in, pair_in, pair_row, pairs_in, span_in}
use Rattle.laws.proofs.Basics.{gather_map, map_gather}
use Rattle.laws.proofs.Decoded.{junctions_forth}
use Rattle.laws.proofs.Lay.{length_table}
use Rattle.laws.proofs.WordsReversed.{gather_gather}
use Rattle.words.specs.Rows.{from, joined}
use Rattle.words.proofs.KeyLaws.{rows_in}
use Rattle.words.proofs.Laws.{tab_at}
use Rattle.words.proofs.Scans.{Local, map_rows, table_tab}
use Rattle.rules.proofs.Fits.{part_in}
use Rattle.rules.proofs.Locals.{short}
use Rattle.reversal.specs.Turned.{mark_of, pairs_turned, row, reversed_connection, turned_pair, turned_pairs}
use Rattle.words.proofs.Joins.{gather_all, gather_tab, joined_same}
use Rattle.reversal.proofs.Places.{row_word}
use Rattle.reversal.proofs.RoadWords.{rows_by}

-- ---- all connections of the reversed junctions
connections_turned : (mk : Span → Bool) (js : List Junction)
    → all_connections (map (reverse_junction mk) js) ≡ map (reverse_connection mk) (all_connections js)
unfolding all_connections reverse_junction
connections_turned mk js =
    gather_map (reverse_junction mk) (λ j. j.connections) js
    ∙ sym (map_gather (λ j. j.connections) (reverse_connection mk) js)

module _ (text : List ℕ) (mk : Span → Bool) (pairs connections junctions : List ℕ)
    (whole : length junctions % 5 ≡ 0) (worded : every (junction_worded text) (table 5 junctions) ≡ true)
    (fit : parts_fit 3 4 0 (length connections / 7) (table 5 junctions) ≡ true) where
  count : length connections / 7 ≡ length (connections_in pairs connections)
  unfolding connections_in
  count = sym (length-map (table 7 connections) (connection_in (pairs_in pairs)) ∙ length_table 7 connections)

  pub all_turned : all_connections (map (reverse_junction mk) (junctions_in pairs connections junctions))
      ≡ map (λ r. reverse_connection mk (connection_in (pairs_in pairs) r)) (table 7 connections)
  unfolding junctions_in connections_in
  all_turned = connections_turned mk (map (junction_in (connections_in pairs connections)) (table 5 junctions))
      ∙ ap (map (reverse_connection mk))
      (junctions_forth text junctions (connections_in pairs connections) whole worded
      (ap (λ (k : ℕ). parts_fit 3 4 0 k (table 5 junctions)) (sym count) ∙ fit)).1
      ∙ map-map (reverse_connection mk) (connection_in (pairs_in pairs)) (table 7 connections)

-- ---- rows read by their first words
pair_local : Local 2 pair_in
unfolding pair_in
pair_local l = simp (short 2 l)

-- ---- a part of a list
gather_part : {X B : Type 0} (g : X → List B) (d : X) (xs : List X) (f c : ℕ) → f + c ≤ length xs
    → gather g (part f c xs) ≡ joined c (λ j. g (get_or xs (f + j) d))
gather_part g d xs f c h =
    let len : length (part f c xs) ≡ c = length-take-le c (drop f xs) (let z = length-drop f xs in omega arith) in
    gather_all g d (part f c xs) ∙ ap (λ (m : ℕ). joined m (λ k. g (get_or (part f c xs) k d))) len
    ∙ joined_same c (λ k. g (get_or (part f c xs) k d)) (λ j. g (get_or xs (f + j) d))
    (λ k l. ap g (get_or-take c (drop f xs) k d l ∙ get_or-drop f xs k d))

module _ (text roads marks connections pairs : List ℕ)
    (fit : parts_fit 5 6 0 (length pairs / 2) (table 7 connections) ≡ true) where
  mk : Span → Bool
  mk = mark_of text roads marks

  by : List ℕ → Connection
  by r = reverse_connection mk (connection_in (pairs_in pairs) r)

  pairs_count : length (pairs_in pairs) ≡ length pairs / 2
  unfolding pairs_in
  pairs_count = length-map (table 2 pairs) pair_in ∙ length_table 2 pairs

  part_count : (r : List ℕ) → word r 5 + word r 6 ≤ length pairs / 2 → length (by r).pairs ≡ word r 6
  unfolding by reverse_connection connection_in
  part_count r h =
      let left = length-drop (word r 5) (pairs_in pairs) in
      length-map (part (word r 5) (word r 6) (pairs_in pairs)) (reverse_pair mk (span_in r 0) (span_in r 2))
      ∙ length-take-le (word r 6) (drop (word r 5) (pairs_in pairs)) (omega (arith, left, pairs_count))

  row_by : List ℕ → List ℕ
  row_by r = connection_row (word r 5) (by r)

  within : (i : ℕ) → i < length connections / 7
      → word (row 7 connections i) 5 + word (row 7 connections i) 6 ≤ length pairs / 2
  within i on =
      let listed = part_in 7 5 6 (length pairs / 2) connections (omega arith) (omega arith) fit i on in
      omega (arith, listed, row_word 7 5 connections i refl, row_word 7 6 connections i refl)

  row_is : (i : ℕ) → i < length connections / 7
      → row_by (take 7 (drop (i * 7) connections)) ≡ reversed_connection text roads marks connections i
  unfolding row_by reversed_connection mk by connection_row reverse_connection connection_in
  row_is i h =
      let r = row 7 connections i in
      let count = part_count r (within i h) in
      λ j.
      word r 0 ∷ word r 1 ∷ word r 2 ∷ word r 3 ∷ bit (mark_of text roads marks (span_in r 2) ⊕ flag (word r 4))
      ∷ word r 5 ∷ count j ∷ []

  pub connections_are : rows_from connection_row (λ c. c.pairs) 0
      (map (λ r. reverse_connection (mark_of text roads marks) (connection_in (pairs_in pairs) r))
      (table 7 connections)) ≡ joined (length connections / 7) (reversed_connection text roads marks connections)
  unfolding row_by by mk
  connections_are =
      rows_by 5 6 connection_row (λ c. c.pairs) by (length pairs / 2) part_count 0 (table 7 connections) fit
      ∙ ap (gather row_by) (table_tab 7 connections)
      ∙ gather_tab row_by (length connections / 7) (λ i. take 7 (drop (i * 7) connections))
      ∙ joined_same (length connections / 7) (λ i. row_by (take 7 (drop (i * 7) connections)))
      (reversed_connection text roads marks connections) row_is

  -- ---- pairs
  pairs_by : Connection → List ℕ
  pairs_by c = gather pair_row c.pairs

  pair_row_lem : (m n : Bool) (p : ℕ) → p < length pairs / 2
      → signed m (get_or (pairs_in pairs) p (pair_in [])).from ∷ signed n (get_or (pairs_in pairs) p (pair_in [])).to
      ∷ [] ≡ turned_pair m n pairs p
  unfolding turned_pair pairs_in
  pair_row_lem m n p h =
      ap (λ (q : Pair). signed m q.from ∷ signed n q.to ∷ [])
      (ap (λ (l : List Pair). get_or l p (pair_in [])) (map_rows 2 pairs pair_in pair_local)
      ∙ tab_at (length pairs / 2) (λ i. pair_in (from 2 pairs i)) p (pair_in []) h)
      ∙ (unfold pair_in in ap₂ (λ (a b : ℕ). signed m a ∷ signed n b ∷ [])
      (get_or-drop (p * 2) pairs 0 0 ∙ ap (λ (k : ℕ). get_or pairs k 0) (add-zero (p * 2)))
      (get_or-drop (p * 2) pairs 1 0))

  part_is : (m n : Bool) (i c : Span) → mk i ≡ m → mk c ≡ n → (f k : ℕ) → f + k ≤ length pairs / 2
      → gather pair_row (map (reverse_pair mk i c) (part f k (pairs_in pairs)))
      ≡ pairs_turned m n (part (f * 2) (k * 2) pairs)
  unfolding pairs_turned reverse_pair pair_row turned_pair
  part_is m n i c incoming connecting f k listed =
      let words = part (f * 2) (k * 2) pairs in
      let left = length-drop (f * 2) pairs in
      let size : length words ≡ k * 2 =
      length-take-le (k * 2) (drop (f * 2) pairs) (omega (arith, left, listed, rows_in (length pairs) 2)) in
      let count : k ≡ length words / 2 = omega (arith, size) in
      let each : (j : ℕ) → j < k
      → signed m (get_or pairs ((f + j) * 2) 0) ∷ signed n (get_or pairs ((f + j) * 2 + 1) 0) ∷ []
      ≡ turned_pair m n words j =
      λ j l.
      let at : (p : ℕ) → p < 2 → get_or pairs ((f + j) * 2 + p) 0 ≡ get_or words (j * 2 + p) 0 =
      λ p h.
      ap (λ (q : ℕ). get_or pairs q 0) (let z : (f + j) * 2 + p ≡ f * 2 + (j * 2 + p) = omega arith in z)
      ∙ sym (get_or-drop (f * 2) pairs (j * 2 + p) 0)
      ∙ sym (get_or-take (k * 2) (drop (f * 2) pairs) (j * 2 + p) 0 (omega arith)) in
      let from = ap (λ (q : ℕ). get_or pairs q 0) (sym (add-zero ((f + j) * 2)))
      ∙ at 0 (omega arith)
      ∙ ap (λ (q : ℕ). get_or words q 0) (add-zero (j * 2)) in
      λ t. signed m (from t) ∷ signed n (at 1 (omega arith) t) ∷ [] in
      gather_map (reverse_pair mk i c) pair_row (part f k (pairs_in pairs))
      ∙ gather_part (λ q. signed (mk i) q.from ∷ signed (mk c) q.to ∷ []) (pair_in []) (pairs_in pairs) f k
      (omega (arith, listed, pairs_count))
      ∙ joined_same k (λ j.
      signed (mk i) (get_or (pairs_in pairs) (f + j) (pair_in [])).from
      ∷ signed (mk c) (get_or (pairs_in pairs) (f + j) (pair_in [])).to ∷ []) (turned_pair m n words)
      (λ j l.
      ap₂ (λ (a b : Bool).
      signed a (get_or (pairs_in pairs) (f + j) (pair_in [])).from
      ∷ signed b (get_or (pairs_in pairs) (f + j) (pair_in [])).to ∷ []) incoming connecting
      ∙ pair_row_lem m n (f + j) (omega arith)
      ∙ each j l)
      ∙ ap (λ (m' : ℕ). joined m' (turned_pair m n words)) count

  pairs_at_lem : (i : ℕ) → i < length connections / 7
      → pairs_by (by (take 7 (drop (i * 7) connections))) ≡ turned_pairs text roads marks connections pairs i
  unfolding pairs_by by reverse_connection connection_in turned_pairs mk
  pairs_at_lem i h =
      let r = row 7 connections i in
      part_is (mk (span_in r 0)) (mk (span_in r 2)) (span_in r 0) (span_in r 2) refl refl (word r 5) (word r 6)
      (within i h)

  pub pairs_are : gather pair_row (gather (λ c. c.pairs) (map
      (λ r. reverse_connection (mark_of text roads marks) (connection_in (pairs_in pairs) r))
      (table 7 connections))) ≡ joined (length connections / 7) (turned_pairs text roads marks connections pairs)
  unfolding by mk pairs_by
  pairs_are =
      gather_gather (λ c. c.pairs) pair_row (map by (table 7 connections))
      ∙ gather_map by pairs_by (table 7 connections)
      ∙ ap (gather (λ r. pairs_by (by r))) (table_tab 7 connections)
      ∙ gather_tab (λ r. pairs_by (by r)) (length connections / 7) (λ i. take 7 (drop (i * 7) connections))
      ∙ joined_same (length connections / 7) (λ i. pairs_by (by (take 7 (drop (i * 7) connections))))
      (turned_pairs text roads marks connections pairs) pairs_at_lem

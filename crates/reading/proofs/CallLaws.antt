-- The reading of junctions: its refusals in their order, what an admission says, and its outcome.
use Prim.Native.Nat.{ℕ, ◌*◌, ◌/◌, ◌≤◌}
use mathlib.Core.Path.{◌≡◌, sym, ap, ◌∙◌}
use mathlib.Core.List.{List, [], ◌∷◌}
use mathlib.Core.Bool.{Bool, true, false, ◌&&◌}
use mathlib.Core.Option.{none, some}
use native.Mathlib.Omega.{arith}
use lib.Dec.{leb}
use lib.ListN.{length}
use borrow.Author.Tests.{leb-true}
use Rattle.model.specs.Calls.{outcome, refused, written_or9, wrote}
use Rattle.model.specs.Reading.{RawTables, read_junctions, read_warnings}
use Rattle.model.specs.ReadingCalls.{JunctionOutputs, junction_content, junction_counts, junction_lengths}
use Rattle.model.specs.ReadingCalls.{junction_writing, put_junctions, raw_junction_rules, raw_parts_fit, raw_sized}
use Rattle.model.specs.Rows.{parts_fit, table}
use Rattle.model.specs.Rules.{first_broken, fits, sized}
use Rattle.model.specs.Tables.{all_connections, all_pairs, connection_words, junction_words, pair_words}
use Rattle.laws.proofs.RulesReversed.{all_pass}
use Rattle.rules.proofs.Counts.{sized_few}
use Rattle.words.proofs.Scans.{left_on, right_on}
use Rattle.tables.proofs.Called.{all_written, too_short}
use Rattle.rules.proofs.Fits.{fit_of}
use Rattle.reading.specs.JunctionAnswers.{outputs, words_of}
use Rattle.reading.specs.declared.junctions.Rows.{Rows}
use Rattle.reading.specs.Laid.{JunctionsRead, Ready, junction_outs, named, parted, sizes}
use Rattle.reading.proofs.RunLaws.{run_rows, run_wide, run_written}

four_fit : (a b c d x y z u : ℕ) → fits (a ∷ b ∷ c ∷ d ∷ []) (x ∷ y ∷ z ∷ u ∷ []) ≡ true
    → (a ≤ x) × (b ≤ y) × (c ≤ z) × (d ≤ u)
four_fit a b c d x y z u all =
    let after-a = right_on (leb a x) (leb b y && (leb c z && (leb d u && true))) all in
    let after-b = right_on (leb b y) (leb c z && (leb d u && true)) after-a in
    let after-c = right_on (leb c z) (leb d u && true) after-b in (
      leb-true a x (left_on (leb a x) (leb b y && (leb c z && (leb d u && true))) all),
      leb-true b y (left_on (leb b y) (leb c z && (leb d u && true)) after-a),
      leb-true c z (left_on (leb c z) (leb d u && true) after-b),
      leb-true d u (left_on (leb d u) true after-c),
    )

-- ---- refusals
module _ (t : RawTables) where
  pub junctions_1 : sizes t ≡ false → some 1 ≡ first_broken (raw_junction_rules t)
  unfolding raw_junction_rules
  junctions_1 a = rw a

  pub junctions_2 : sizes t ≡ true → named t ≡ false → some 2 ≡ first_broken (raw_junction_rules t)
  unfolding raw_junction_rules
  junctions_2 a b = rw (a, b)

  pub junctions_5 : sizes t ≡ true → named t ≡ true → parted t ≡ false → some 5 ≡ first_broken (raw_junction_rules t)
  unfolding raw_junction_rules raw_parts_fit
  junctions_5 a b c = rw (a, b, c)

  pub junctions_0 : sizes t ≡ true → named t ≡ true → parted t ≡ true → none ≡ first_broken (raw_junction_rules t)
  unfolding raw_junction_rules raw_parts_fit
  junctions_0 a b c = rw (a, b, c)

  -- ---- the limits that 1 sets
  abbrev junctions_sized : Bool
  junctions_sized = raw_sized t.text 8 (length t.junctions)

  abbrev connections_sized : Bool
  connections_sized = sized 14 16384 (length t.connections)

  abbrev links_sized : Bool
  links_sized = sized 4 16384 (length t.lane_links)

  pub few_junctions : sizes t ≡ true → length t.junctions / 8 ≤ 16384
  unfolding raw_sized
  few_junctions all =
      let two = left_on (junctions_sized && connections_sized) links_sized all in
      let first = left_on junctions_sized connections_sized two in
      sized_few 8 16384 _ (right_on (leb (length t.text) 1048576) (sized 8 16384 (length t.junctions)) first)

  pub few_connections : sizes t ≡ true → length t.connections / 14 ≤ 16384
  few_connections all =
      sized_few 14 16384 _
      (right_on junctions_sized connections_sized (left_on (junctions_sized && connections_sized) links_sized all))

  pub few_links : sizes t ≡ true → length t.lane_links / 4 ≤ 16384
  few_links all = sized_few 4 16384 _ (right_on (junctions_sized && connections_sized) links_sized all)

  -- what an admission says
  pub ready : none ≡ first_broken (raw_junction_rules t) → Ready t.junctions t.connections t.lane_links
  unfolding raw_junction_rules raw_parts_fit
  ready unbroken =
      let passed = all_pass (raw_junction_rules t) (sym unbroken) in
      let connections = parts_fit 6 7 0 (length t.connections / 14) (table 8 t.junctions) in
      let links = parts_fit 12 13 0 (length t.lane_links / 4) (table 14 t.connections) in
      record {
        few_junctions = few_junctions passed.0;
        few_connections = few_connections passed.0;
        few_links = few_links passed.0;
        connection_parts = fit_of 8 6 7 (length t.connections / 14) t.junctions (omega arith) (omega arith)
            (left_on connections links passed.1.1.0);
        link_parts = fit_of 14 12 13 (length t.lane_links / 4) t.connections (omega arith) (omega arith)
            (right_on connections links passed.1.1.0);
      }

-- ---- 'written, or 9'
module _ (t : RawTables) where
  -- how much there is to write, by the rows counted or written, from nothing, into any outputs
  module _ {m n p w : ℕ} {jo co po wo jo' co' po' wo' : List ℕ}
      (r : JunctionsRead (read_junctions t) (read_warnings t) (junction_outs jo 0 co 0 po 0 wo 0)
      (junction_outs jo' m co' n po' p wo' w))
    where
      pub lengths_are : junction_lengths (junction_content t) ≡ m * 5 ∷ n * 7 ∷ p * 2 ∷ w * 4 ∷ []
      unfolding junction_lengths junction_content junction_words connection_words pair_words all_connections all_pairs
      lengths_are =
          let junctions = run_wide r.rows in
          let connections = run_wide r.rest.rows in
          let pairs = run_wide r.rest.rest.pairs in
          let warnings = run_wide r.rest.rest.warnings in
          λ i. junctions i ∷ connections i ∷ pairs i ∷ warnings i ∷ []

      counts_are : junction_counts (junction_content t) ≡ m ∷ n ∷ p ∷ w ∷ []
      unfolding junction_counts junction_content junction_words connection_words pair_words all_connections all_pairs
      counts_are =
          let junctions = run_rows r.rows (omega arith) in
          let connections = run_rows r.rest.rows (omega arith) in
          let pairs = run_rows r.rest.rest.pairs (omega arith) in
          let warnings = run_rows r.rest.rest.warnings (omega arith) in
          λ i. junctions i ∷ connections i ∷ pairs i ∷ warnings i ∷ []

  module _ (jo co po wo : List ℕ) where
    abbrev outs : JunctionOutputs
    outs = outputs jo co po wo

    -- whether the outputs are long enough for so many rows
    abbrev room_for : Rows → Bool
    room_for n = fits (words_of n) (length jo ∷ length co ∷ length po ∷ length wo ∷ [])

    -- how much there is to write, as it was counted
    module _ (n : Rows) (lengths : junction_lengths (junction_content t) ≡ words_of n) where
      room_is : {b : Bool} → room_for n ≡ b
          → fits (junction_lengths (junction_content t)) (junction_lengths outs) ≡ b
      unfolding junction_lengths
      room_is room = ap (λ (l : List ℕ). fits l (length jo ∷ length co ∷ length po ∷ length wo ∷ [])) lengths ∙ room

      pub counted_short : room_for n ≡ false
          → outcome (refused 9) outs ≡ written_or9 junction_writing (junction_content t) outs
      counted_short short = too_short junction_writing (junction_content t) outs (room_is short)

      -- a run that wrote to them
      module _ {m' n' p' w' : ℕ} {jo' co' po' wo' : List ℕ}
          (r : JunctionsRead (read_junctions t) (read_warnings t) (junction_outs jo 0 co 0 po 0 wo 0)
          (junction_outs jo' m' co' n' po' p' wo' w'))
        where
          put_is : fits (junction_lengths (junction_content t)) (junction_lengths outs) ≡ true
              → outputs jo' co' po' wo' ≡ put_junctions (junction_content t) outs
          unfolding junction_lengths junction_content put_junctions junction_words connection_words pair_words
              all_connections all_pairs
          put_is room =
              let long = four_fit _ _ _ _ (length jo) (length co) (length po) (length wo) room in
              let junctions = run_written r.rows long.0 in
              let connections = run_written r.rest.rows long.1 in
              let pairs = run_written r.rest.rest.pairs long.2 in
              let warnings = run_written r.rest.rest.warnings long.3 in
              λ i. outputs (junctions i) (connections i) (pairs i) (warnings i)

          pub counted_written : room_for n ≡ true
              → outcome (wrote (m' ∷ n' ∷ p' ∷ w' ∷ [])) (outputs jo' co' po' wo')
              ≡ written_or9 junction_writing (junction_content t) outs
          counted_written room =
              let long = room_is room in
              all_written junction_writing (junction_content t) outs long (sym (counts_are r)) (put_is long)

-- THE COUNTS OF AN ACCEPTED READING are words, since where no rule is broken the content's rows are.
use mathlib.Core.Path.{◌≡◌, sym, ap, ◌∙◌}
use mathlib.Core.Bool.{Bool, true, false, cond}
use mathlib.Core.Option.{Option, none, some}
use mathlib.Core.List.{List, [], ◌∷◌, ◌++◌, append-nil, map}
use Prim.Native.Nat.{ℕ, zero, suc, ◌+◌, ◌/◌, ◌≤◌, ◌<◌}
use native.Mathlib.Nat.{add-zero}
use native.Mathlib.Omega.{arith}
use lib.ListN.{length, length-append, length-map}
use Rattle.model.specs.Calls.{Answer, outcome, table_writing}
use Rattle.model.specs.Lists.{bind_o, gather, is_some, map_o}
use Rattle.model.specs.Reading.{RawTables, ReadWarning, connection_dropped, connection_loose, connection_warnings}
use Rattle.model.specs.Reading.{connections_at, contact_at, contact_warnings, junction_warnings, kept_connections}
use Rattle.model.specs.Reading.{kind_at}
use Rattle.model.specs.Reading.{lane_link_dropped, lane_link_warnings, lane_links_at, leads_into, part_rows}
use Rattle.model.specs.Reading.{passed_over}
use Rattle.model.specs.Reading.{raw_connection, raw_junction, read_connection, read_junction, read_junctions, read_pair}
use Rattle.model.specs.Reading.{read_warning_row, read_warnings, to_list}
use Rattle.model.specs.ReadingCalls.{JunctionOutputs, TargetOutputs, junction_content, junction_counts}
use Rattle.model.specs.ReadingCalls.{junction_writing, raw_junction_rules, raw_lane_content, raw_lane_rules}
use Rattle.model.specs.ReadingCalls.{read_junctions_call, read_lanes_call, read_targets_call, target_content}
use Rattle.model.specs.ReadingCalls.{target_rules}
use Rattle.model.specs.ReadingCalls.{target_writing}
use Rattle.model.specs.Records.{Connection, Junction, Pair, Span}
use Rattle.model.specs.Rows.{word}
use Rattle.model.specs.Rules.{first_broken}
use Rattle.model.specs.Tables.{all_connections, all_pairs, name_in}
use Rattle.laws.proofs.Bound.{gather_most}
use Rattle.laws.proofs.WordsReversed.{gather_gather, length_connections, length_junctions, length_pairs}
use Rattle.words.specs.Rows.{total}
use Rattle.words.proofs.Laws.{total_le, total_more, total_none}
use Rattle.rules.specs.Parts.{counts}
use Rattle.reading.specs.Laid.{Ready, connections_of, pairs_of}
use Rattle.reading.proofs.CallLaws.{ready}
use Rattle.reading.proofs.LaneLaws.{lanes_few, lanes_length}
use Rattle.reading.proofs.NameLaws.{word_of}
use Rattle.reading.proofs.RowLaws.{part_length}
use Rattle.reading.proofs.TargetLaws.{at_most_four, at_most_one, targets_few, targets_length, warnings_few}
use Rattle.vorzhyket.specs.Exported.{Counted, Words}
use Rattle.vorzhyket.proofs.Left.{counted}

-- ---- targets and lanes
target_words_lem : (text raw : List ℕ) → first_broken (target_rules text raw) ≡ none
    → Words (target_writing.rows (target_content text raw))
target_words_lem text raw unbroken =
    let few = targets_few text raw (sym unbroken) in
    let rows = targets_length text raw in
    let warned = warnings_few text raw in (omega arith, (omega arith, tt))

lane_words_lem : (text raw : List ℕ) → first_broken (raw_lane_rules text raw) ≡ none
    → Words (length (raw_lane_content text raw) / 4 ∷ [])
lane_words_lem text raw unbroken =
    let rows = lanes_length text raw in (omega (arith, lanes_few text raw (sym unbroken)), tt)

pub targets_counted : (text raw : List ℕ) (o : TargetOutputs) {y : Answer} {after : TargetOutputs}
    → outcome y after ≡ read_targets_call text raw o → Counted y
unfolding read_targets_call
targets_counted text raw o e =
    counted target_writing (target_rules text raw) (target_content text raw) o e (target_words_lem text raw)

pub lanes_counted : (text raw o : List ℕ) {y : Answer} {after : List ℕ} → outcome y after ≡ read_lanes_call text raw o
    → Counted y
unfolding read_lanes_call
lanes_counted text raw o e =
    counted (table_writing 4) (raw_lane_rules text raw) (raw_lane_content text raw) o e (lane_words_lem text raw)

-- ---- rows of a part, each adding at most what g grows by
rows_most : {A : Type 0} (f : ℕ → List A) (g : ℕ → ℕ) (n : ℕ)
    → ((k : ℕ) → k < n → g k + length (f k) ≤ g (k + 1))
    → (first count : ℕ) → first + count ≤ n
    → g first + length (gather f (part_rows first count)) ≤ g (first + count)
rows_most f g n each first zero within = omega (arith, ap g (add-zero first))
rows_most f g n each first (suc m) within =
    let joined = length-append (f first) (gather f (part_rows (suc first) m)) in
    let here = each first (omega arith) in
    let rest = rows_most f g n each (suc first) m (omega arith) in
    let next : first + 1 ≡ suc first = omega arith in
    let end : suc first + m ≡ first + suc m = omega arith in
    omega (arith, ap g next, ap g end)

one_most : {A : Type 0} (o : Option A) → length (to_list o) ≤ 1
one_most none = omega arith
one_most (some a) = omega arith

module _ (t : RawTables) where
  -- how many lane links a connection has, and how many connections a junction
  abbrev links_of : ℕ → ℕ
  links_of = counts 14 13 t.connections

  abbrev sizes_of : ℕ → ℕ
  sizes_of = counts 8 7 t.junctions

  -- ---- a connection: as many pairs as it has lane links, and a warning more
  module _ (j c : ℕ) where
    links : length (lane_links_at t c) ≡ links_of c
    links =
        part_length (word (raw_connection t c) 12) (word (raw_connection t c) 13)
        ∙ word_of 14 c t.connections 13 (omega arith)

    kept_one : length (kept_connections t j c) ≤ 1
    unfolding kept_connections
    kept_one = go (passed_over t j c)
      where
        go : (b : Bool) → length (cond b [] (to_list (read_connection t j c))) ≤ 1
        go true = omega arith
        go false = one_most (read_connection t j c)

    -- its pairs, the connection with them, and its lane links' warnings
    abbrev pairs : List Pair
    pairs = gather (λ l. to_list (read_pair t l)) (lane_links_at t c)

    abbrev made : Bool → Span → Span → Connection
    made contact incoming connecting =
        record { incoming = incoming; connecting = connecting; contact = contact; pairs = pairs }

    abbrev dropped : List ReadWarning
    dropped = gather (lane_link_warnings t j c) (lane_links_at t c)

    kept_pairs : length (pairs_of (kept_connections t j c)) ≤ links_of c
    unfolding kept_connections read_connection
    kept_pairs =
        go (passed_over t j c) (name_in (raw_connection t c) 4) (leads_into t j c) (contact_at t c).contact
      where
        few : length pairs ≤ links_of c
        few =
            let one_each =
            gather_most 1 (λ l. to_list (read_pair t l)) (lane_links_at t c) (λ l. one_most (read_pair t l)) in
            omega (arith, links)

        go : (b : Bool) (x y : Option Span) (e : Bool)
            → length (pairs_of (cond b [] (to_list (bind_o x λ incoming. map_o (made e incoming) y)))) ≤ links_of c
        go true x y e = omega arith
        go false none y e = omega arith
        go false (some x) none e = omega arith
        go false (some x) (some y) e = omega (arith, length-append pairs [], few)

    warned : length (connection_warnings t j c) ≤ links_of c + 1
    unfolding connection_warnings
    warned = go (passed_over t j c) (is_some (read_connection t j c))
      where
        drop_one : (l : ℕ) → length (lane_link_warnings t j c l) ≤ 1
        drop_one l = one (is_some (read_pair t l))
          where
            one : (b : Bool) → length (cond b [] (lane_link_dropped j c l ∷ [])) ≤ 1
            one true = omega arith
            one false = omega arith

        go : (b d : Bool)
            → length (cond b [] (cond d (contact_warnings t j c ++ dropped) (connection_dropped j c ∷ [])))
            ≤ links_of c + 1
        go true d = omega arith
        go false true =
            let contact = at_most_one (contact_at t c).loose (connection_loose j c) in
            let one_each = gather_most 1 (lane_link_warnings t j c) (lane_links_at t c) drop_one in
            omega (arith, length-append (contact_warnings t j c) dropped, links)
        go false false = omega arith

  -- ---- a junction: as many connections as its part has, their pairs, and a warning for each of both
  abbrev pairs_to : ℕ → ℕ
  pairs_to c = total c links_of

  abbrev warned_to : ℕ → ℕ
  warned_to c = c + total c links_of

  module _ (j : ℕ) where
    abbrev first : ℕ
    first = word (raw_junction t j) 6

    abbrev count : ℕ
    count = word (raw_junction t j) 7

    abbrev kept : List Connection
    kept = gather (kept_connections t j) (connections_at t j)

    abbrev junction_by : Option Span → Option Junction
    junction_by o = map_o (λ n. record { name = n; kind = kind_at t j; connections = kept }) o

    connections_most : length (connections_of (to_list (read_junction t j))) ≤ count
    unfolding read_junction
    connections_most = go (name_in (raw_junction t j) 0)
      where
        go : (o : Option Span) → length (connections_of (to_list (junction_by o))) ≤ count
        go none = omega arith
        go (some n) =
            let one_each = gather_most 1 (kept_connections t j) (connections_at t j) (kept_one j) in
            omega (arith, length-append kept [], part_length first count)

    pairs_most : pairs_to first + length (pairs_of (connections_of (to_list (read_junction t j))))
        ≤ pairs_to (first + count)
    unfolding read_junction
    pairs_most = go (name_in (raw_junction t j) 0)
      where
        each : (c : ℕ) → c < first + count → pairs_to c + length (pairs_of (kept_connections t j c)) ≤ pairs_to (c + 1)
        each c within = omega (arith, kept_pairs j c, total_more c links_of)

        go : (o : Option Span)
            → pairs_to first + length (pairs_of (connections_of (to_list (junction_by o)))) ≤ pairs_to (first + count)
        go none = omega (arith, total_le first (first + count) links_of (omega arith))
        go (some n) =
            let pairs =
            ap pairs_of (append-nil kept)
            ∙ gather_gather (kept_connections t j) (λ (c : Connection). c.pairs) (part_rows first count) in
            let most =
            rows_most (λ c. pairs_of (kept_connections t j c)) pairs_to (first + count) each first count
            (omega arith) in
            omega (arith, ap length pairs)

    -- the warnings of its connections, read or not
    abbrev read : List ReadWarning
    read = gather (connection_warnings t j) (part_rows first count)

    abbrev unread : List ReadWarning
    unread = map (connection_dropped j) (part_rows first count)

    warnings_most : warned_to first + length (junction_warnings t j) ≤ warned_to (first + count)
    unfolding junction_warnings
    warnings_most = go (is_some (name_in (raw_junction t j) 0))
      where
        each : (c : ℕ) → c < first + count → warned_to c + length (connection_warnings t j c) ≤ warned_to (c + 1)
        each c within = omega (arith, warned j c, total_more c links_of)

        go : (b : Bool) → warned_to first + length (cond b read unread) ≤ warned_to (first + count)
        go true = rows_most (connection_warnings t j) warned_to (first + count) each first count (omega arith)
        go false =
            let one_each = length-map (part_rows first count) (connection_dropped j) in
            omega (arith, part_length first count, total_le first (first + count) links_of (omega arith))

  -- ---- all of them
  module _ (r : Ready t.junctions t.connections t.lane_links) where
    -- a junction's part ends where the next begins
    begins : (j : ℕ) → j < length t.junctions / 8
        → (first j ≡ total j sizes_of) × (first j + count j ≡ total (j + 1) sizes_of)
    begins j there =
        let first_is = word_of 8 j t.junctions 6 (omega arith) in
        let count_is = word_of 8 j t.junctions 7 (omega arith) in
        let next = total_more j sizes_of in
        let part = r.connection_parts.begins j there in (omega arith, omega arith)

    -- what every junction adds, by what it adds to its part
    all_most : {A : Type 0} (f : ℕ → List A) (g : ℕ → ℕ)
        → ((j : ℕ) → g (first j) + length (f j) ≤ g (first j + count j))
        → g 0 + length (gather f (part_rows 0 (length t.junctions / 8))) ≤ g (length t.connections / 14)
    all_most f g each =
        let n = length t.junctions / 8 in
        let from_front : 0 + n ≡ n = omega arith in
        let most = rows_most f (λ j. g (total j sizes_of)) n at 0 n (omega arith) in
        let start = ap g (sym (total_none sizes_of)) in
        let end = ap (λ (k : ℕ). g (total k sizes_of)) from_front in
        omega (arith, ap g r.connection_parts.whole)
      where
        at : (j : ℕ) → j < length t.junctions / 8
            → g (total j sizes_of) + length (f j) ≤ g (total (j + 1) sizes_of)
        at j there =
            let part = begins j there in
            omega (arith, ap g part.0, ap g part.1, each j)

    few : (length (read_junctions t) ≤ 16384) × (length (all_connections (read_junctions t)) ≤ 16384)
        × (length (all_pairs (read_junctions t)) ≤ 16384) × (length (read_warnings t) ≤ 32768)
    unfolding read_junctions read_warnings all_connections all_pairs
    few =
        let rows = part_rows 0 (length t.junctions / 8) in
        let read : ℕ → List Junction = λ j. to_list (read_junction t j) in
        let junctions = gather_most 1 read rows (λ j. one_most (read_junction t j)) in
        let parts = gather_gather read (λ (j : Junction). j.connections) rows in
        let connections =
        all_most (λ j. connections_of (read j)) (λ k. k) (λ j. let most = connections_most j in omega arith) in
        let part-pairs =
        ap pairs_of parts
        ∙ gather_gather (λ j. connections_of (read j)) (λ (c : Connection). c.pairs) rows in
        let pairs = all_most (λ j. pairs_of (connections_of (read j))) pairs_to pairs_most in
        let warnings = all_most (junction_warnings t) warned_to warnings_most in (
          omega (arith, part_length 0 (length t.junctions / 8), r.few_junctions),
          omega (arith, ap length parts, r.few_connections),
          omega (arith, ap length part-pairs, r.link_parts.whole, r.few_links),
          omega (arith, r.link_parts.whole, r.few_links, r.few_connections),
        )

words_of_junctions : (t : RawTables) → first_broken (raw_junction_rules t) ≡ none
    → Words (junction_counts (junction_content t))
unfolding junction_counts junction_content
words_of_junctions t unbroken =
    let few-rows = few t (ready t (sym unbroken)) in
    let few_junctions = few-rows.0 in
    let few_connections = few-rows.1 in
    let few_pairs = few-rows.2 in
    let few-warnings = few-rows.3 in
    let junctions = length_junctions (read_junctions t) in
    let connections = length_connections (read_junctions t) in
    let pairs = length_pairs (read_junctions t) in
    let warnings = gather_most 4 read_warning_row (read_warnings t) at_most_four in
    (omega arith, (omega arith, (omega arith, (omega arith, tt))))

pub junctions_counted : (t : RawTables) (o : JunctionOutputs) {y : Answer} {after : JunctionOutputs}
    → outcome y after ≡ read_junctions_call t o → Counted y
unfolding read_junctions_call
junctions_counted t o e =
    counted junction_writing (raw_junction_rules t) (junction_content t) o e (words_of_junctions t)

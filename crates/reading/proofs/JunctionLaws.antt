-- A junction read: dropped with a warning for each connection, or kept with those that it keeps.
use Prim.Native.Nat.{ℕ, ◌+◌, ◌*◌}
use mathlib.Core.Path.{◌≡◌, refl, sym, ap, ◌∙◌, subst}
use mathlib.Core.List.{List, [], ◌∷◌, append-nil, map}
use mathlib.Core.Bool.{cond}
use mathlib.Core.Option.{Option, none, some}
use native.Mathlib.Omega.{arith}
use lib.ListN.{length, get_or, length-map}
use Rattle.model.specs.Lists.{gather, is_some, map_o}
use Rattle.model.specs.Reading.{RawTables, ReadWarning, connection_dropped, connection_warnings, junction_warnings}
use Rattle.model.specs.Reading.{connections_at, kept_connections, kind_at, part_rows, raw_junction, read_junction}
use Rattle.model.specs.Reading.{read_warning_row, to_list, kind_read}
use Rattle.model.specs.Records.{Junction, JunctionKind, Span}
use Rattle.model.specs.Tables.{junction_row, kind_word, name_in}
use Rattle.laws.proofs.Basics.{gather_map}
use Rattle.reading.specs.Laid.{ConnectionOuts, ConnectionsRead, JunctionOuts, JunctionsRead, Output, Run}
use Rattle.reading.specs.Laid.{output, raw_tables}
use Rattle.reading.proofs.RowLaws.{part_length, part_more}
use Rattle.reading.proofs.RunLaws.{connections_as, junctions_as, run_as, run_join, run_none}
use native.Mathlib.Nat.{add-zero}
use Rattle.reading.proofs.NameLaws.{name_of}

-- the words of warning 1
abbrev pub dropped : ℕ → ℕ → List ℕ
dropped j c = read_warning_row (connection_dropped j c)

pub drop_begin : (j first w : ℕ) (wo : List ℕ)
    → Run 4 (gather (dropped j) (part_rows first 0)) 0 (output wo w) (output wo (w + 0))
drop_begin j first w wo =
    subst (λ (m : ℕ). Run 4 [] 0 (output wo w) (output wo m)) (sym (add-zero w)) (run_none 4 (output wo w))

pub drop_turn : (j first k : ℕ) {x y z : Output} → Run 4 (gather (dropped j) (part_rows first k)) k x y
    → Run 4 (dropped j (first + k)) 1 y z → Run 4 (gather (dropped j) (part_rows first (k + 1))) (k + 1) x z
drop_turn j first k r s = run_as (run_join r s) (sym (part_more (dropped j) first k)) refl

-- its kind, by the words of the table
pub kind_word_lem : (text junctions connections links : List ℕ) (j : ℕ) {kind : ℕ}
    → kind ≡ kind_word (kind_read text (name_in junctions (j * 8 + 2)))
    → kind ≡ kind_word (kind_at (raw_tables text junctions connections links) j)
kind_word_lem text junctions connections links j e =
    e ∙ sym (ap (λ (n : Option Span). kind_word (kind_read text n)) (name_of 8 j junctions 2 (omega arith)))

module _ (t : RawTables) (j : ℕ) {row : List ℕ} (row_is : row ≡ raw_junction t j) {first count : ℕ}
    (first_is : first ≡ get_or row 6 0) (count_is : count ≡ get_or row 7 0) where
  -- a junction by its name and its connections, and its warnings
  abbrev junction_by : List ℕ → Option Span → Option Junction
  junction_by part o =
      map_o (λ n. record { name = n; kind = kind_at t j; connections = gather (kept_connections t j) part }) o

  abbrev warned_by : List ℕ → Option Span → List ReadWarning
  warned_by part o = cond (is_some o) (gather (connection_warnings t j) part) (map (connection_dropped j) part)

  part_is : part_rows first count ≡ connections_at t j
  part_is =
      let begins = first_is ∙ ap (λ (r : List ℕ). get_or r 6 0) row_is in
      let size = count_is ∙ ap (λ (r : List ℕ). get_or r 7 0) row_is in
      λ z. part_rows (begins z) (size z)

  -- what was read, by the junction's name
  read_as : {o : Option Span} {old new : JunctionOuts} → o ≡ name_in row 0
      → JunctionsRead (to_list (junction_by (part_rows first count) o)) (warned_by (part_rows first count) o) old new
      → JunctionsRead (to_list (read_junction t j)) (junction_warnings t j) old new
  unfolding read_junction junction_warnings
  read_as named r =
      let name_is = named ∙ ap (λ (r : List ℕ). name_in r 0) row_is in
      let part = part_is in
      junctions_as r (λ z. to_list (junction_by (part z) (name_is z))) (λ z. warned_by (part z) (name_is z))

  pub read_unnamed : {x n p w w' : Output} → none ≡ name_in row 0
      → Run 4 (gather (dropped j) (part_rows first count)) count w w'
      → JunctionsRead (to_list (read_junction t j)) (junction_warnings t j)
      (record { junctions = x; rest = record { connections = n; rest = record { pairs = p; warnings = w } } })
      (record { junctions = x; rest = record { connections = n; rest = record { pairs = p; warnings = w' } } })
  read_unnamed {x} {n} {p} absent dropped-all =
      read_as absent
      (record {
        rows = run_none 5 x;
        rest = record {
          rows = run_none 7 n;
          rest = record {
            pairs = run_none 2 p;
            warnings = run_as dropped-all
                (sym (gather_map (connection_dropped j) read_warning_row (part_rows first count)))
                (sym (length-map (part_rows first count) (connection_dropped j) ∙ part_length first count));
          };
        };
      })

  pub read_named : (size : ℕ) {kind : JunctionKind} {n : Span} {x x' : Output} {o o' : ConnectionOuts}
      → some n ≡ name_in row 0 → kind ≡ kind_at t j
      → ConnectionsRead (gather (kept_connections t j) (part_rows first count))
      (gather (connection_warnings t j) (part_rows first count)) o o'
      → o'.connections.rows ≡ o.connections.rows + size
      → Run 5 (n.start ∷ n.size ∷ kind_word kind ∷ o.connections.rows ∷ size ∷ []) 1 x x'
      → JunctionsRead (to_list (read_junction t j)) (junction_warnings t j) (record { junctions = x; rest = o })
      (record { junctions = x'; rest = o' })
  unfolding junction_row
  read_named size {n = n} {o = o} there kind_is r sized put =
      let part = gather (kept_connections t j) (part_rows first count) in
      let size_is : size ≡ length part = omega (arith, r.rows.count) in
      read_as there
      (record {
        rows = run_as put
            ((λ z. n.start ∷ n.size ∷ kind_word (kind_is z) ∷ o.connections.rows ∷ size_is z ∷ [])
            ∙ sym (append-nil _)) refl;
        rest = connections_as r (sym (append-nil part)) refl;
      })

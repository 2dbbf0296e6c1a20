-- Runs of rows one after the other: of one table, and of lane links, connections and junctions.
use Prim.Native.Nat.{ℕ, ◌+◌, ◌*◌, ◌/◌, ◌≤◌, ◌<◌}
use mathlib.Core.Path.{◌≡◌, refl, sym, ap, ap₂, ◌∙◌, subst}
use mathlib.Core.Bool.{Bool, true, false, cond}
use mathlib.Core.List.{List, [], ◌∷◌, ◌++◌, append-nil}
use native.Mathlib.Nat.{add-mul, add-zero, mul-div_cancel, zero-mul}
use native.Mathlib.Omega.{arith}
use lib.ListN.{length, take, drop, length-append, take-append-drop}
use Rattle.model.specs.Lists.{gather}
use Rattle.model.specs.Reading.{ReadWarning, part_rows, read_warning_row}
use Rattle.model.specs.Records.{Connection, Junction, Pair}
use Rattle.model.specs.Rows.{rows_from, written}
use Rattle.model.specs.Tables.{connection_row, junction_row, pair_row, bit}
use Rattle.laws.proofs.WordsReversed.{gather_append}
use Rattle.words.specs.Rows.{spliced}
use Rattle.words.proofs.Laws.{put_all, spliced_twice}
use Rattle.reading.specs.Laid.{ConnectionOuts, ConnectionsRead, JunctionOuts, JunctionsRead, LinkOuts}
use Rattle.reading.specs.Laid.{LinksRead, Output, Run, Warned, junction_outs, output}
use Rattle.reading.proofs.RowLaws.{part_more, part_next}
use Rattle.laws.proofs.RowTests.{rows_from_append}

-- ---- rows of one table
pub run_none : (w : ℕ) (o : Output) → Run w [] 0 o o
unfolding spliced
run_none w o = record {
  same = refl;
  count = sym (add-zero o.rows);
  wide = sym (zero-mul w);
  put = λ _. sym (ap₂ (λ (l : List ℕ) (k : ℕ). l ++ drop k o.words) (append-nil (take (o.rows * w) o.words))
      (add-zero (o.rows * w))
      ∙ take-append-drop (o.rows * w) o.words);
  kept = refl;
}

pub run_join : {w k l : ℕ} {a b : List ℕ} {x y z : Output} → Run w a k x y → Run w b l y z
    → Run w (a ++ b) (k + l) x z
run_join {w} {k} {l} {a} {b} {x} {y} {z} r s =
    let both = length-append a b in
    let begins : y.rows * w ≡ x.rows * w + length a =
    ap (λ (m : ℕ). m * w) r.count ∙ add-mul x.rows k w ∙ ap (λ (m : ℕ). x.rows * w + m) (sym r.wide) in
    record {
      same = s.same ∙ r.same;
      count = omega (arith, r.count, s.count);
      wide = both ∙ ap₂ ◌+◌ r.wide s.wide ∙ sym (add-mul k l w);
      put = λ room. s.put (omega (arith, r.kept))
          ∙ ap₂ (λ (at : ℕ) (o : List ℕ). spliced at b o) begins (r.put (omega arith))
          ∙ spliced_twice (x.rows * w) a b x.words (omega arith);
      kept = s.kept ∙ r.kept;
    }

pub run_as : {w k l : ℕ} {a b : List ℕ} {x y : Output} → Run w a k x y → a ≡ b → k ≡ l → Run w b l x y
run_as {w} {k} {l} {a} {b} {x} {y} r e f =
    subst (λ (c : List ℕ). Run w c l x y) e (subst (λ (m : ℕ). Run w a m x y) f r)

-- a run from the front: its words, its rows, and the output where it has room
module _ {w k n : ℕ} {rows out after : List ℕ} (r : Run w rows k (output out 0) (output after n)) where
  pub run_wide : length rows ≡ n * w
  run_wide =
      let all : k ≡ n = omega (arith, r.count) in
      r.wide ∙ ap (λ (m : ℕ). m * w) all

  pub run_rows : 0 < w → length rows / w ≡ n
  run_rows positive = ap (λ (m : ℕ). m / w) run_wide ∙ mul-div_cancel n positive

  pub run_written : length rows ≤ length out → after ≡ written rows out
  run_written room =
      let front = zero-mul w in
      r.put (omega arith) ∙ ap (λ (at : ℕ). spliced at rows out) front ∙ put_all rows out

-- ---- a row for each element
rows_join : {A : Type 0} (row : A → List ℕ) (xs ys : List A) {w : ℕ} {x y z : Output}
    → Run w (gather row xs) (length xs) x y → Run w (gather row ys) (length ys) y z
    → Run w (gather row (xs ++ ys)) (length (xs ++ ys)) x z
rows_join row xs ys r s = run_as (run_join r s) (sym (gather_append row xs ys)) (sym (length-append xs ys))

pub bit_most : (b : Bool) → bit b ≤ 1
bit_most true = omega arith
bit_most false = omega arith

-- a warning that is given where a test holds
pub warned_on : {holds : Bool} (v : ReadWarning) {x y : Output} → holds ≡ true → Run 4 (read_warning_row v) 1 x y
    → Warned (cond holds (v ∷ []) []) x y
warned_on v e r = rw e (run_as r (sym (append-nil (read_warning_row v))) refl)

pub warned_off : {holds : Bool} (v : ReadWarning) (x : Output) → holds ≡ false → Warned (cond holds (v ∷ []) []) x x
warned_off v x e = rw e (run_none 4 x)

-- warnings by row: those of row k after those of the k rows before it
pub warned_turn : (g : ℕ → List ReadWarning) (k : ℕ) {x y z : Output} → Warned (gather g (part_rows 0 k)) x y
    → Warned (g k) y z → Warned (gather g (part_rows 0 (k + 1))) x z
warned_turn g k {x} {z = z} r s =
    subst (λ (ws : List ReadWarning). Warned ws x z) (part_next g k)
    (rows_join read_warning_row (gather g (part_rows 0 k)) (g k) r s)

-- ---- lane links
pub links_as : {ps qs : List Pair} {ws vs : List ReadWarning} {old new : LinkOuts} → LinksRead ps ws old new
    → ps ≡ qs → ws ≡ vs → LinksRead qs vs old new
links_as {ps} {qs} {ws} {vs} {old} {new} r e f =
    subst (λ (x : List Pair). LinksRead x vs old new) e
    (subst (λ (x : List ReadWarning). LinksRead ps x old new) f r)

pub links_none : (o : LinkOuts) → LinksRead [] [] o o
links_none o = record { pairs = run_none 2 o.pairs; warnings = run_none 4 o.warnings }

pub links_join : {ps qs : List Pair} {ws vs : List ReadWarning} {x y z : LinkOuts} → LinksRead ps ws x y
    → LinksRead qs vs y z → LinksRead (ps ++ qs) (ws ++ vs) x z
links_join {ps} {qs} {ws} {vs} r s = record {
  pairs = rows_join pair_row ps qs r.pairs s.pairs;
  warnings = rows_join read_warning_row ws vs r.warnings s.warnings;
}

-- ---- connections, and junctions: each part begins where those before it end
-- runs of rows with parts, the second beginning at k
parts_join : {X A : Type 0} (row : ℕ → X → List ℕ) (f : X → List A) (i : ℕ) (xs ys : List X) {w k : ℕ}
    {x y z : Output} → k ≡ i + length (gather f xs) → Run w (rows_from row f i xs) (length xs) x y
    → Run w (rows_from row f k ys) (length ys) y z
    → Run w (rows_from row f i (xs ++ ys)) (length (xs ++ ys)) x z
parts_join row f i xs ys ends r s =
    run_as (run_join r s)
    (ap (λ (k : ℕ). rows_from row f i xs ++ rows_from row f k ys) ends ∙ sym (rows_from_append row f i xs ys))
    (sym (length-append xs ys))

pub connections_as : {cs ds : List Connection} {ws vs : List ReadWarning} {old new : ConnectionOuts}
    → ConnectionsRead cs ws old new → cs ≡ ds → ws ≡ vs → ConnectionsRead ds vs old new
connections_as {cs} {ds} {ws} {vs} {old} {new} r e f =
    subst (λ (x : List Connection). ConnectionsRead x vs old new) e
    (subst (λ (x : List ReadWarning). ConnectionsRead cs x old new) f r)

pub connections_none : (o : ConnectionOuts) → ConnectionsRead [] [] o o
connections_none o = record { rows = run_none 7 o.connections; rest = links_none o.rest }

pub connections_join : {cs ds : List Connection} {ws vs : List ReadWarning} {x y z : ConnectionOuts}
    → ConnectionsRead cs ws x y → ConnectionsRead ds vs y z → ConnectionsRead (cs ++ ds) (ws ++ vs) x z
connections_join {cs} {ds} r s = record {
  rows = parts_join connection_row (λ c. c.pairs) _ cs ds r.rest.pairs.count r.rows s.rows;
  rest = links_as (links_join r.rest s.rest) (sym (gather_append (λ c. c.pairs) cs ds)) refl;
}

pub junctions_as : {js ks : List Junction} {ws vs : List ReadWarning} {old new : JunctionOuts}
    → JunctionsRead js ws old new → js ≡ ks → ws ≡ vs → JunctionsRead ks vs old new
junctions_as {js} {ks} {ws} {vs} {old} {new} r e f =
    subst (λ (x : List Junction). JunctionsRead x vs old new) e
    (subst (λ (x : List ReadWarning). JunctionsRead js x old new) f r)

pub junctions_none : (o : JunctionOuts) → JunctionsRead [] [] o o
junctions_none o = record { rows = run_none 5 o.junctions; rest = connections_none o.rest }

pub junctions_join : {js ks : List Junction} {ws vs : List ReadWarning} {x y z : JunctionOuts}
    → JunctionsRead js ws x y → JunctionsRead ks vs y z → JunctionsRead (js ++ ks) (ws ++ vs) x z
junctions_join {js} {ks} r s = record {
  rows = parts_join junction_row (λ j. j.connections) _ js ks r.rest.rows.count r.rows s.rows;
  rest = connections_as (connections_join r.rest s.rest) (sym (gather_append (λ j. j.connections) js ks)) refl;
}

-- ---- a turn of each loop: row first + k after the k rows before it
module _ (f : ℕ → List Pair) (g : ℕ → List ReadWarning) (first k : ℕ) where
  pub links_turn : {x y z : LinkOuts} → LinksRead (gather f (part_rows first k)) (gather g (part_rows first k)) x y
      → LinksRead (f (first + k)) (g (first + k)) y z
      → LinksRead (gather f (part_rows first (k + 1))) (gather g (part_rows first (k + 1))) x z
  links_turn r s = links_as (links_join r s) (sym (part_more f first k)) (sym (part_more g first k))

module _ (f : ℕ → List Connection) (g : ℕ → List ReadWarning) (first k : ℕ) where
  pub connections_turn : {x y z : ConnectionOuts}
      → ConnectionsRead (gather f (part_rows first k)) (gather g (part_rows first k)) x y
      → ConnectionsRead (f (first + k)) (g (first + k)) y z
      → ConnectionsRead (gather f (part_rows first (k + 1))) (gather g (part_rows first (k + 1))) x z
  connections_turn r s = connections_as (connections_join r s) (sym (part_more f first k)) (sym (part_more g first k))

module _ (f : ℕ → List Junction) (g : ℕ → List ReadWarning) (k : ℕ) where
  pub junctions_turn : {x y z : JunctionOuts}
      → JunctionsRead (gather f (part_rows 0 k)) (gather g (part_rows 0 k)) x y → JunctionsRead (f k) (g k) y z
      → JunctionsRead (gather f (part_rows 0 (k + 1))) (gather g (part_rows 0 (k + 1))) x z
  junctions_turn r s = junctions_as (junctions_join r s) (part_next f k) (part_next g k)

-- ---- whichever slices the outputs are
run_of_words : {w k : ℕ} {rows : List ℕ} {x y : Output} → Run w rows k x y
    → Run w rows k (output x.words x.rows) (output y.words y.rows)
run_of_words r = record { same = refl; count = r.count; wide = r.wide; put = r.put; kept = r.kept }

-- a run, as its output is called before and after
pub output_as : {w k n : ℕ} {rows out after : List ℕ} {x y : Output} → Run w rows k x y → x.words ≡ out → x.rows ≡ n
    → y.words ≡ after → Run w rows k (output out n) (output after y.rows)
output_as r a m b = rw (← a, ← m, ← b) (run_of_words r)

-- junctions read into outputs, as they are called before and after
pub laid_as : {js : List Junction} {ws : List ReadWarning} {x y : JunctionOuts} {jo co po wo jo' co' po' wo' : List ℕ}
    {j k p w : ℕ}
    → JunctionsRead js ws x y
    → x.junctions.words ≡ jo → x.junctions.rows ≡ j
    → x.rest.connections.words ≡ co → x.rest.connections.rows ≡ k
    → x.rest.rest.pairs.words ≡ po → x.rest.rest.pairs.rows ≡ p
    → x.rest.rest.warnings.words ≡ wo → x.rest.rest.warnings.rows ≡ w
    → y.junctions.words ≡ jo' → y.rest.connections.words ≡ co'
    → y.rest.rest.pairs.words ≡ po' → y.rest.rest.warnings.words ≡ wo'
    → JunctionsRead js ws (junction_outs jo j co k po p wo w)
    (junction_outs jo' y.junctions.rows co' y.rest.connections.rows po' y.rest.rest.pairs.rows wo'
    y.rest.rest.warnings.rows)
laid_as r a m b n d q e v a' b' d' e' =
    rw (← a, ← m, ← b, ← n, ← d, ← q, ← e, ← v, ← a', ← b', ← d', ← e') (record {
      rows = run_of_words r.rows;
      rest = record {
        rows = run_of_words r.rest.rows;
        rest = record {
          pairs = run_of_words r.rest.rest.pairs;
          warnings = run_of_words r.rest.rest.warnings;
        };
      };
    })

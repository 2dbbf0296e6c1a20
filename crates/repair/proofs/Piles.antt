-- Connections laid one after the other, and the parts that they come from.
use mathlib.Core.Path.{◌≡◌, sym, ap, ap₂, ◌∙◌, subst}
use mathlib.Core.Bool.{Bool}
use mathlib.Core.List.{List, [], ◌∷◌, ◌++◌, map, append-nil, append_assoc}
use Prim.Native.Nat.{ℕ, ◌+◌, ◌*◌, ◌/◌, ◌≤◌, ◌<◌}
use native.Mathlib.Nat.{add-zero}
use native.Mathlib.Omega.{arith}
use lib.ListN.{length, get_or, take, drop, length-append, length-drop}
use lib.Seq.{length-take-le, get_or-take, get_or-drop, ext_get_or, take_at}
use Rattle.std.specs.Prelude.{Option, Some, None}
use Rattle.model.specs.Lists.{gather}
use Rattle.model.specs.Records.{Pair, Connection}
use Rattle.model.specs.Repair.{back_at, swapped}
use Rattle.model.specs.Rows.{part, rows_from}
use Rattle.model.specs.Tables.{bit, flag, connection_in, connection_row, pair_in, pair_row, pairs_in}
use Rattle.laws.proofs.WordsReversed.{gather_append}
use Rattle.words.specs.Rows.{spliced, tab}
use Rattle.words.proofs.Laws.{map_tab, tab_at, tab_length, tab_more, total_le}
use Rattle.words.proofs.Scans.{map_rows}
use Rattle.rules.specs.Parts.{counts}
use Rattle.rules.proofs.Fits.{fit_in, fit_next}
use Rattle.rules.proofs.Locals.{short}
use Rattle.repair.specs.Now.{run, connection_at}
use Rattle.repair.specs.Laying.{Laid, RoomFor, RoomForAll, laid_words, pair_at, row_words, turned_connection}
use Rattle.repair.specs.Laying.{turned_pair, turned_pairs}
use Rattle.repair.specs.Ready.{Small, pair_count, pairs_before}
use Rattle.repair.specs.declared.laying.Pile.{Pile}
use Rattle.laws.proofs.RowTests.{rows_from_append}

-- ---- rows one after the other
-- a row put after what is there
pub put_on : (row buf : List ℕ) {buf' : List ℕ} {a a' : ℕ} → buf' ≡ spliced a row buf → a ≤ length buf
    → a' ≡ a + length row → take a' buf' ≡ take a buf ++ row
unfolding spliced
put_on row buf {a = a} e h l = ap₂ (λ (n : ℕ) (b : List ℕ). take n b) l e
    ∙ take_at (take a buf ++ row) (drop (a + length row) buf) (a + length row)
    (length-append (take a buf) row ∙ ap (λ (n : ℕ). n + length row) (length-take-le a buf h))

-- ---- lists by row numbers
pub gather_tab : {A B : Type 0} (f : A → List B) (g : ℕ → A) (i : ℕ)
    → gather f (tab (i + 1) g) ≡ gather f (tab i g) ++ f (g i)
gather_tab {B = B} f g i =
    ap (gather f) (tab_more i g)
    ∙ gather_append f (tab i g) (g i ∷ [])
    ∙ ap (λ (l : List B). gather f (tab i g) ++ l) (append-nil (f (g i)))

-- words after those of the rows so far
pub grown_more : {A : Type 0} (f : A → List ℕ) (g : ℕ → A) (i : ℕ) (start : List ℕ) {words words' : List ℕ}
    → words ≡ start ++ gather f (tab i g) → words' ≡ words ++ f (g i)
    → words' ≡ start ++ gather f (tab (i + 1) g)
grown_more f g i start e h =
    h
    ∙ ap (λ (l : List ℕ). l ++ f (g i)) e
    ∙ append_assoc start (gather f (tab i g)) (f (g i))
    ∙ ap (λ (l : List ℕ). start ++ l) (sym (gather_tab f g i))

-- a part of a list by rows
pub part_tab : {A : Type 0} (n : ℕ) (g : ℕ → A) (f m : ℕ) → f + m ≤ n → part f m (tab n g) ≡ run g f m
part_tab n g f m h = ext_get_or (g f) (part f m (tab n g)) (run g f m) (len ∙ sym (tab_length m (λ j. g (f + j)))) go
  where
    len : length (part f m (tab n g)) ≡ m
    len =
        length-take-le m (drop f (tab n g))
        (let d = length-drop f (tab n g) in let e = tab_length n g in omega arith)

    go : (i : ℕ) → i < length (part f m (tab n g)) → get_or (part f m (tab n g)) i (g f) ≡ get_or (run g f m) i (g f)
    go i l = let lt : i < m = subst (λ (k : ℕ). i < k) len l in
        get_or-take m (drop f (tab n g)) i (g f) lt
        ∙ get_or-drop f (tab n g) i (g f)
        ∙ tab_at n g (f + i) (g f) (omega arith)
        ∙ sym (tab_at m (λ j. g (f + j)) i (g f) lt)

-- the first word of what begins at word a
pub first_of : (ws : List ℕ) (a : ℕ) → get_or (drop a ws) 0 0 ≡ get_or ws a 0
first_of ws a = get_or-drop a ws 0 0 ∙ ap (λ (k : ℕ). get_or ws k 0) (add-zero a)

-- ---- pairs
pub pair_plain : (pairs : List ℕ) (q : ℕ)
    → get_or pairs (q * 2) 0 ∷ get_or pairs (q * 2 + 1) 0 ∷ [] ≡ pair_row (pair_at pairs q)
unfolding pair_row pair_at pair_in
pair_plain pairs q =
    ap₂ (λ (x y : ℕ). x ∷ y ∷ [])
    (sym (first_of pairs (q * 2)))
    (sym (get_or-drop (q * 2) pairs 1 0))

pub pair_turned : (pairs : List ℕ) (q : ℕ)
    → get_or pairs (q * 2 + 1) 0 ∷ get_or pairs (q * 2) 0 ∷ [] ≡ pair_row (swapped (pair_at pairs q))
unfolding pair_row pair_at pair_in swapped
pair_turned pairs q =
    ap₂ (λ (x y : ℕ). x ∷ y ∷ []) (sym (get_or-drop (q * 2) pairs 1 0))
    (sym (first_of pairs (q * 2)))

pairs_tab : (pairs : List ℕ) → pairs_in pairs ≡ tab (length pairs / 2) (pair_at pairs)
unfolding pairs_in pair_at pair_in
pairs_tab pairs = map_rows 2 pairs pair_in (λ l. simp (short 2 l))

-- ---- a connection's row and its pairs
module _ (pairs ws : List ℕ) (s : Small pairs ws) (c : ℕ) (h : c < length ws / 7) where
  own_pairs : (connection_at pairs ws c).pairs ≡ run (pair_at pairs) (get_or ws (c * 7 + 5) 0) (get_or ws (c * 7 + 6) 0)
  unfolding connection_at connection_in
  own_pairs =
      ap₂ (λ (a b : ℕ). part a b (pairs_in pairs)) (get_or-drop (c * 7) ws 5 0) (get_or-drop (c * 7) ws 6 0)
      ∙ ap (part (get_or ws (c * 7 + 5) 0) (get_or ws (c * 7 + 6) 0)) (pairs_tab pairs)
      ∙ part_tab (length pairs / 2) (pair_at pairs) (get_or ws (c * 7 + 5) 0) (get_or ws (c * 7 + 6) 0)
      (fit_in 7 5 6 ws (length pairs / 2) s.fit c h)

  turned_pairs_lem : (b : Option Bool)
      → (turned_connection b (connection_at pairs ws c)).pairs
      ≡ run (λ q. turned_pair b (pair_at pairs q)) (get_or ws (c * 7 + 5) 0) (get_or ws (c * 7 + 6) 0)
  unfolding back_at
  turned_pairs_lem None = own_pairs
  turned_pairs_lem (Some e) =
      ap (map swapped) own_pairs
      ∙ map_tab swapped (get_or ws (c * 7 + 6) 0) (λ j. pair_at pairs (get_or ws (c * 7 + 5) 0 + j))

  turned_count : (b : Option Bool)
      → length (turned_connection b (connection_at pairs ws c)).pairs ≡ get_or ws (c * 7 + 6) 0
  turned_count b =
      ap length (turned_pairs_lem b)
      ∙ tab_length (get_or ws (c * 7 + 6) 0) (λ j. turned_pair b (pair_at pairs (get_or ws (c * 7 + 5) 0 + j)))

  turned_row : (b : Option Bool) (p : ℕ)
      → connection_row p (turned_connection b (connection_at pairs ws c)) ≡ row_words b ws c p
  unfolding connection_row connection_at connection_in back_at
  turned_row None p =
      λ i.
      first_of ws (c * 7) i ∷ get_or-drop (c * 7) ws 1 0 i ∷ get_or-drop (c * 7) ws 2 0 i ∷ get_or-drop (c * 7) ws 3 0 i
      ∷ bit (flag (get_or-drop (c * 7) ws 4 0 i)) ∷ p ∷ turned_count None i ∷ []
  turned_row (Some e) p =
      λ i.
      get_or-drop (c * 7) ws 2 0 i ∷ get_or-drop (c * 7) ws 3 0 i ∷ first_of ws (c * 7) i ∷ get_or-drop (c * 7) ws 1 0 i
      ∷ bit e ∷ p ∷ turned_count (Some e) i ∷ []

  -- one connection laid
  pub lay_one : (b : Option Bool) (f m : ℕ) {before after : Pile} → f ≡ get_or ws (c * 7 + 5) 0
      → m ≡ get_or ws (c * 7 + 6) 0 → after.connections.rows ≡ before.connections.rows + 1
      → laid_words after.connections ≡ laid_words before.connections ++ row_words b ws c before.pairs.rows
      → after.pairs.rows ≡ before.pairs.rows + m
      → laid_words after.pairs ≡ laid_words before.pairs ++ gather pair_row (turned_pairs b pairs f m)
      → Laid (turned_connection b (connection_at pairs ws c) ∷ []) before after
  lay_one b f m {before} first count rows row pair_rows row_laid = record {
    rows = rows;
    pair_rows = pair_rows ∙ ap (λ (k : ℕ). before.pairs.rows + k)
        (count ∙ sym (ap length (append-nil (turned_connection b (connection_at pairs ws c)).pairs) ∙ turned_count b));
    words = row
        ∙ ap (λ (x : List ℕ). laid_words before.connections ++ x)
        (sym (append-nil (connection_row before.pairs.rows (turned_connection b (connection_at pairs ws c)))
        ∙ turned_row b before.pairs.rows));
    words_of_pairs = row_laid
        ∙ ap (λ (x : List Pair). laid_words before.pairs ++ gather pair_row x)
        (ap₂ (turned_pairs b pairs) first count
        ∙ sym (append-nil (turned_connection b (connection_at pairs ws c)).pairs ∙ turned_pairs_lem b));
  }

-- ---- connections one after the other
abbrev pairs_of : Connection → List Pair
pairs_of c = c.pairs

pub laid_none : (x : Pile) → Laid [] x x
laid_none x =
    record {
      rows = omega arith;
      pair_rows = omega arith;
      words = sym (append-nil (laid_words x.connections));
      words_of_pairs = sym (append-nil (laid_words x.pairs));
    }

pub laid_on : (xs ys : List Connection) {a b c : Pile} → Laid xs a b → Laid ys b c → Laid (xs ++ ys) a c
laid_on xs ys {a} first second = record {
  rows = let both = length-append xs ys in omega (arith, both, first.rows, second.rows);
  pair_rows = let both = ap length (gather_append pairs_of xs ys)
      ∙ length-append (gather pairs_of xs) (gather pairs_of ys) in
      omega (arith, both, first.pair_rows, second.pair_rows);
  words =
      second.words
      ∙ ap₂ (λ (x : List ℕ) (k : ℕ). x ++ rows_from connection_row pairs_of k ys) first.words first.pair_rows
      ∙ append_assoc (laid_words a.connections) (rows_from connection_row pairs_of a.pairs.rows xs)
      (rows_from connection_row pairs_of (a.pairs.rows + length (gather pairs_of xs)) ys)
      ∙ ap (λ (x : List ℕ). laid_words a.connections ++ x)
      (sym (rows_from_append connection_row pairs_of a.pairs.rows xs ys));
  words_of_pairs =
      second.words_of_pairs
      ∙ ap (λ (x : List ℕ). x ++ gather pair_row (gather pairs_of ys)) first.words_of_pairs
      ∙ append_assoc (laid_words a.pairs) (gather pair_row (gather pairs_of xs))
      (gather pair_row (gather pairs_of ys))
      ∙ ap (λ (x : List ℕ). laid_words a.pairs ++ x)
      (sym (ap (gather pair_row) (gather_append pairs_of xs ys)
      ∙ gather_append pair_row (gather pairs_of xs) (gather pairs_of ys)));
}

pub laid_same : {xs ys : List Connection} {a b : Pile} → xs ≡ ys → Laid xs a b → Laid ys a b
laid_same {a = a} {b = b} e laid = subst (λ (l : List Connection). Laid l a b) e laid

-- a connection more, as read
pub laid_own : (f : ℕ → Connection) (i : ℕ) {a b c : Pile} → Laid (tab i f) a b → Laid (f i ∷ []) b c
    → Laid (tab (i + 1) f) a c
laid_own f i before one = laid_same (sym (tab_more i f)) (laid_on (tab i f) (f i ∷ []) before one)

-- what each gives
pub laid_more : (F : Connection → List Connection) (f : ℕ → Connection) (i : ℕ) {xs : List Connection}
    {a b c : Pile} → Laid (gather F (tab i f)) a b → Laid xs b c → xs ≡ F (f i)
    → Laid (gather F (tab (i + 1) f)) a c
laid_more F f i before one given =
    laid_same (sym (gather_tab F f i)) (laid_on (gather F (tab i f)) (F (f i)) before (laid_same given one))

-- ---- the i-th of m connections from first on
pub pairs_next : (connections : List ℕ) (first i : ℕ)
    → pairs_before connections (first + (i + 1))
    ≡ pairs_before connections (first + i) + pair_count connections (first + i)
pairs_next connections first i =
    let on : first + (i + 1) ≡ first + i + 1 = omega arith in
    ap (pairs_before connections) on ∙ fit_next 7 6 connections (first + i)

-- it has room where all have
pub room_at : {connections : List ℕ} {first m n p : ℕ} → RoomForAll connections first m n p → (i x y : ℕ) → i < m
    → x ≤ n + i → y + pairs_before connections first ≤ p + pairs_before connections (first + i)
    → RoomFor connections (first + i) x y
room_at {connections} {first} {m} {n} {p} room i x y turn rows pair_rows =
    let next = pairs_next connections first i in
    let rest = total_le (first + (i + 1)) (first + m) (counts 7 6 connections) (omega arith) in
    record {
      inside = omega (arith, turn, room.inside);
      rows = omega (arith, turn, rows, room.rows);
      pair_rows = omega (arith, next, rest, pair_rows, room.pair_rows);
    }

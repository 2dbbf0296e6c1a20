-- Parts in their places, and the numbers of a part mirrored.
use Prim.Native.Nat.{ℕ, zero, suc, ◌+◌, ◌*◌, ◌-◌, ◌/◌, ◌<◌, ◌≤◌}
use mathlib.Core.Bool.{Bool, true, false, cond}
use mathlib.Core.List.{List, [], ◌∷◌, ◌++◌, map, reverse, reverse-cons}
use mathlib.Core.Path.{◌≡◌, refl, sym, ap, ap₂, ◌∙◌, subst}
use native.Mathlib.Nat.{le_of_suc-le-suc, not-suc-le-zero, eq-or-lt_of_le, add-zero, le_trans, add-mul}
use native.Mathlib.Omega.{arith}
use lib.Dec.{eqb, ltb}
use lib.Ieee.{Float}
use lib.ListN.{length, get_or, take, drop, length-append, length-map, length-reverse, length-drop}
use lib.ListN.{take-append-drop}
use lib.Seq.{get_or-drop, length-take-le}
use borrow.Author.Tests.{ltb-true}
use Rattle.std.specs.List.{enumerate_from}
use Rattle.std.proofs.lemmas.List.{get_or-reverse}
use Rattle.std.proofs.lemmas.List.FromFn.{get_or-enumerate_from, length-enumerate_from}
use Rattle.geometry.specs.Edges.{ends_at}
use Rattle.geometry.specs.Gap.{swapped}
use Rattle.geometry.specs.declared.segment.Point.{Point}
use Rattle.model.specs.Lists.{ascends, every, last_or}
use Rattle.model.specs.Records.{Lane, Span}
use Rattle.model.specs.Reversal.{mirror, mirrored}
use Rattle.model.specs.Rows.{part, parts_fit, table, word}
use Rattle.model.specs.Tables.{lane_in, lane_row, span_in}
use Rattle.laws.proofs.Lay.{fit_first, fit_rest, length_table}
use Rattle.laws.proofs.RowTests.{word_at}
use Rattle.words.specs.Rows.{from, joined, spliced}
use Rattle.words.proofs.KeyLaws.{rows_in}
use Rattle.words.proofs.Laws.{map_at}
use Rattle.words.proofs.Scans.{left_on, right_on, take_word}
use Rattle.rules.specs.ByRow.{numbers_at}
use Rattle.rules.proofs.Fits.{part_in}
use Rattle.reversal.specs.Turned.{Kept, Within, mark_of, pairs_turned, row, turned_pair, turned_pairs, turned_sections}
use Rattle.reversal.specs.Turned.{mark_at, reversed_on, reversed_lane, turned_edges, floats_of}
use Rattle.words.proofs.Joins.{joined_even, joined_none}
use Rattle.reversal.proofs.Leaves.{pair_2}

-- ---- words of a row
pub row_word : (w k : ℕ) (ws : List ℕ) (i : ℕ) → ltb k w ≡ true → word (row w ws i) k ≡ get_or ws (i * w + k) 0
row_word w k ws i h = take_word w k (from w ws i) h ∙ get_or-drop (i * w) ws k 0

pub read_word : (w k : ℕ) (ws : List ℕ) (i : ℕ) {r : List ℕ} → r ≡ row w ws i → ltb k w ≡ true
    → word r k ≡ get_or ws (i * w + k) 0
read_word w k ws i read h = ap (λ (r : List ℕ). word r k) read ∙ row_word w k ws i h

-- ---- where a part begins
fits_next : (kf kc i n : ℕ) (rs : List (List ℕ)) → parts_fit kf kc i n rs ≡ true → (r : ℕ) → suc r < length rs
    → word (get_or rs (suc r) []) kf ≡ word (get_or rs r []) kf + word (get_or rs r []) kc
fits_next kf kc i n [] e r h = absurd (not-suc-le-zero h)
fits_next kf kc i n (x ∷ []) e r h = absurd (not-suc-le-zero (le_of_suc-le-suc h))
fits_next kf kc i n (x ∷ y ∷ rs) e zero h =
    let first = fit_first kf kc i n x (y ∷ rs) e in
    let second = fit_first kf kc (i + word x kc) n y rs (fit_rest kf kc i n x (y ∷ rs) e) in
    omega (arith, first, second)
fits_next kf kc i n (x ∷ y ∷ rs) e (suc r) h =
    fits_next kf kc (i + word x kc) n (y ∷ rs) (fit_rest kf kc i n x (y ∷ rs) e) r (le_of_suc-le-suc h)

fits_zero : (kf kc i n : ℕ) (rs : List (List ℕ)) → parts_fit kf kc i n rs ≡ true → 0 < length rs
    → word (get_or rs 0 []) kf ≡ i
fits_zero kf kc i n [] e h = absurd (not-suc-le-zero h)
fits_zero kf kc i n (x ∷ rs) e h = fit_first kf kc i n x rs e

module _ (w kf kc n : ℕ) (ws : List ℕ) (lf : kf < w) (lc : kc < w)
    (fit : parts_fit kf kc 0 n (table w ws) ≡ true) where
  -- the joined parts before row i end where its part begins; v words a row of the part
  pub place : {A : Type 0} (v : ℕ) (f : ℕ → List A)
      → ((i : ℕ) → i < length ws / w → length (f i) ≡ get_or ws (i * w + kc) 0 * v) → (i : ℕ) → i < length ws / w
      → length (joined i f) ≡ get_or ws (i * w + kf) 0 * v
  unfolding joined
  place v f count zero on =
      let begins = fits_zero kf kc 0 n (table w ws) fit (subst (λ (m : ℕ). 0 < m) (sym (length_table w ws)) on) in
      let first : get_or ws (0 * w + kf) 0 ≡ 0 = sym (word_at w ws 0 kf on lf) ∙ begins in
      sym (ap (λ (m : ℕ). m * v) first ∙ native.Mathlib.Nat.zero-mul v)
  place v f count (suc i) on =
      let before : i < length ws / w = le_trans (native.Mathlib.Nat.le_step (native.Mathlib.Nat.le_refl (suc i))) on in
      let follows = fits_next kf kc 0 n (table w ws) fit i
      (subst (λ (m : ℕ). suc i < m) (sym (length_table w ws)) on) in
      let first : get_or ws (suc i * w + kf) 0 ≡ get_or ws (i * w + kf) 0 + get_or ws (i * w + kc) 0 =
      sym (word_at w ws (suc i) kf on lf)
      ∙ follows
      ∙ ap₂ ◌+◌ (word_at w ws i kf before lf) (word_at w ws i kc before lc) in
      length-append (joined i f) (f i)
      ∙ ap₂ ◌+◌ (place v f count i before) (count i before)
      ∙ sym (add-mul (get_or ws (i * w + kf) 0) (get_or ws (i * w + kc) 0) v)
      ∙ ap (λ (m : ℕ). m * v) (sym first)

-- ---- what is put nowhere
pub spliced_none : {A : Type 0} (at : ℕ) (f : ℕ → List A) (out : List A) → out ≡ spliced at (joined 0 f) out
unfolding spliced
spliced_none {A} at f out =
    sym (ap (λ (l : List A). take at out ++ l ++ drop (at + length l) out) (joined_none f)
    ∙ ap₂ (λ (l : List A) (k : ℕ). l ++ drop k out) (mathlib.Core.List.append-nil (take at out)) (add-zero at)
    ∙ take-append-drop at out)

-- ---- a part's numbers
every_at : (p : ℕ → Bool) (xs : List ℕ) (k : ℕ) → every p xs ≡ true → k < length xs → p (get_or xs k 0) ≡ true
every_at p [] k e h = absurd (not-suc-le-zero h)
every_at p (x ∷ xs) zero e h = left_on (p x) (every p xs) e
every_at p (x ∷ xs) (suc k) e h = every_at p xs k (right_on (p x) (every p xs) e) (le_of_suc-le-suc h)

last_high : (x : ℕ) (xs : List ℕ) (k : ℕ) → ascends (x ∷ xs) ≡ true → k < suc (length xs)
    → get_or (x ∷ xs) k 0 ≤ last_or x xs
last_high x [] zero e h = omega arith
last_high x [] (suc k) e h = absurd (not-suc-le-zero (le_of_suc-le-suc h))
last_high x (y ∷ ys) zero e h =
    let rises = left_on (every (ltb x) (y ∷ ys)) (ascends (y ∷ ys)) e in
    let less = ltb-true x y (left_on (ltb x y) (every (ltb x) ys) rises) in
    let rest = last_high y ys 0 (right_on (every (ltb x) (y ∷ ys)) (ascends (y ∷ ys)) e) (omega arith) in
    omega (arith, less, rest)
last_high x (y ∷ ys) (suc k) e h =
    last_high y ys k (right_on (every (ltb x) (y ∷ ys)) (ascends (y ∷ ys)) e) (le_of_suc-le-suc h)

pub between : (xs : List ℕ) (k : ℕ) → ascends xs ≡ true → k < length xs → Within xs (get_or xs k 0)
between [] k e h = absurd (not-suc-le-zero h)
between (x ∷ xs) k e h = record { low = low k h; high = last_high x xs k e h }
  where
    low : (k : ℕ) → k < suc (length xs) → x ≤ get_or (x ∷ xs) k 0
    low zero h = omega arith
    low (suc k) h =
        let rises = left_on (every (ltb x) xs) (ascends xs) e in
        let less = ltb-true x (get_or xs k 0) (every_at (ltb x) xs k rises (le_of_suc-le-suc h)) in
        omega (arith, less)

pub mirrored_length : (ss : List ℕ) → length (mirrored ss) ≡ length ss
unfolding mirrored
mirrored_length ss = length-reverse (map (mirror ss) ss) ∙ length-map ss (mirror ss)

pub mirrored_at : (ss : List ℕ) (k : ℕ) → k < length ss
    → get_or (mirrored ss) k 0 ≡ mirror ss (get_or ss (length ss - 1 - k) 0)
unfolding mirrored
mirrored_at ss k h =
    let n = length-map ss (mirror ss) in
    get_or-reverse (map (mirror ss) ss) k 0 (subst (λ (m : ℕ). k < m) (sym n) h)
    ∙ ap (λ (m : ℕ). get_or (map (mirror ss) ss) (m - 1 - k) 0) n
    ∙ map_at (mirror ss) ss (length ss - 1 - k) (omega arith)

-- the numbers of a part from its last on, each with its place: number n of them
any_default : (xs : List ℕ) (k d e : ℕ) → k < length xs → get_or xs k d ≡ get_or xs k e
any_default [] k d e h = absurd (not-suc-le-zero h)
any_default (x ∷ xs) zero d e h = refl
any_default (x ∷ xs) (suc k) d e h = any_default xs k d e (le_of_suc-le-suc h)

pub from_last : (ss : List ℕ) (n k x : ℕ) → n < length (enumerate_from 0 (reverse ss))
    → (k, x) ≡ get_or (enumerate_from 0 (reverse ss)) n (k, x)
    → (k ≡ n) × (n < length ss) × (x ≡ get_or ss (length ss - 1 - n) 0)
from_last ss n k x turn is =
    let size = length-enumerate_from 0 (reverse ss) in
    let here : n < length (reverse ss) = omega (arith, turn, size) in
    let there : n < length ss = omega (arith, here, length-reverse ss) in
    let e = is ∙ get_or-enumerate_from 0 (reverse ss) n (k, x) here in
    let place : k ≡ 0 + n = ap {A = ℕ × ℕ} (λ p. p.0) e in (
      omega (arith, place),
      there,
      ap {A = ℕ × ℕ} (λ p. p.1) e
          ∙ get_or-reverse ss n x there
          ∙ any_default ss (length ss - 1 - n) x 0 (omega arith),
    )

-- ---- sections
module _ (roads sections : List ℕ) (fit : parts_fit 18 19 0 (length sections) (table 20 roads) ≡ true) (i : ℕ)
    (h : i < length roads / 20) where
  pub numbers_length : length (numbers_at roads sections i) ≡ get_or roads (i * 20 + 19) 0
  numbers_length =
      let listed = part_in 20 18 19 (length sections) roads (omega arith) (omega arith) fit i h in
      let left = length-drop (get_or roads (i * 20 + 18) 0) sections in
      length-take-le (get_or roads (i * 20 + 19) 0) (drop (get_or roads (i * 20 + 18) 0) sections)
      (omega (arith, listed, left))

  pub sections_length : (marks : List ℕ)
      → length (turned_sections roads sections marks i) ≡ get_or roads (i * 20 + 19) 0 * 1
  unfolding turned_sections
  sections_length marks =
      go (eqb (get_or marks i 0) 1)
      ∙ numbers_length
      ∙ sym (native.Mathlib.Nat.mul-one (get_or roads (i * 20 + 19) 0))
    where
      go : (b : Bool)
          → length (cond b (mirrored (numbers_at roads sections i)) (numbers_at roads sections i))
          ≡ length (numbers_at roads sections i)
      go true = mirrored_length (numbers_at roads sections i)
      go false = refl

  pub sections_room : (out : ℕ) → length sections ≤ out
      → get_or roads (i * 20 + 18) 0 + length (numbers_at roads sections i) ≤ out
  sections_room out l =
      let listed = part_in 20 18 19 (length sections) roads (omega arith) (omega arith) fit i h in
      omega (arith, listed, numbers_length)

-- a road's numbers in their place, the road marked or not
pub numbers_put : (roads sections marks : List ℕ) (i : ℕ) (out : List ℕ) (m : Bool) {at : ℕ} {part new : List ℕ}
    → at ≡ get_or roads (i * 20 + 18) 0 → part ≡ numbers_at roads sections i → eqb (get_or marks i 0) 1 ≡ m
    → new ≡ spliced at (cond m (mirrored part) part) out
    → new ≡ spliced (get_or roads (i * 20 + 18) 0) (turned_sections roads sections marks i) out
unfolding turned_sections
numbers_put roads sections marks i out m place numbers is put =
    put ∙ (λ j. spliced (place j) (cond (sym is j) (mirrored (numbers j)) (numbers j)) out)

-- the parts fit over the same roads
pub fit_over : (sections : List ℕ) {roads other : List ℕ} → other ≡ roads
    → parts_fit 18 19 0 (length sections) (table 20 other) ≡ true
    → parts_fit 18 19 0 (length sections) (table 20 roads) ≡ true
fit_over sections same fit =
    ap (λ (ws : List ℕ). parts_fit 18 19 0 (length sections) (table 20 ws)) (sym same) ∙ fit

-- ---- lanes
pub lane_turned : (text roads sections marks lanes owner : List ℕ) (i r : ℕ) {words p : List ℕ} {m : Bool}
    {read turned : Lane} → words ≡ lane_row turned → turned ≡ reversed_on text roads marks read r m p
    → read ≡ lane_in (row 10 lanes i) → m ≡ mark_at marks (suc r) → p ≡ numbers_at roads sections r
    → suc r ≡ get_or owner i 0 → words ≡ reversed_lane text roads sections marks lanes owner i
unfolding reversed_lane
lane_turned text roads sections marks lanes owner i r laid turned read marked numbers owned =
    let back : r ≡ get_or owner i 0 - 1 = omega arith in
    let mark = marked ∙ ap (mark_at marks) owned in
    let part = numbers ∙ ap (numbers_at roads sections) back in
    laid ∙ ap lane_row (turned ∙ (λ j. reversed_on text roads marks (read j) (back j) (mark j) (part j)))

-- its section lies in its road's
pub lane_within : (roads sections lanes owner : List ℕ) (i r : ℕ) {part : List ℕ} {read : Lane}
    → Kept roads sections lanes owner i → read ≡ lane_in (row 10 lanes i) → part ≡ numbers_at roads sections r
    → suc r ≡ get_or owner i 0 → Within part read.section
unfolding lane_in
lane_within roads sections lanes owner i r kept read numbers owned =
    let back : r ≡ get_or owner i 0 - 1 = omega arith in
    let part = numbers ∙ ap (numbers_at roads sections) back in
    let section = ap (λ (l : Lane). l.section) read ∙ row_word 10 3 lanes i refl in
    rw (part, section) kept.within

pub edges_turned : (owner marks : List ℕ) (edges : List Float) (i : ℕ) {row : List Float}
    {ends : List (List Point)} {o : ℕ} {m : Bool} → row ≡ floats_of ends
    → ends ≡ cond m (swapped (ends_at edges i)) (ends_at edges i) → m ≡ mark_at marks o → o ≡ get_or owner i 0
    → row ≡ turned_edges owner marks edges i
unfolding turned_edges
edges_turned owner marks edges i laid turned marked owned =
    let mark = marked ∙ ap (mark_at marks) owned in
    laid ∙ ap floats_of (turned ∙ ap (λ (b : Bool). cond b (swapped (ends_at edges i)) (ends_at edges i)) mark)

-- the pairs of connection i
module _ (ws pairs : List ℕ) (fit : parts_fit 5 6 0 (length pairs / 2) (table 7 ws) ≡ true) (i : ℕ)
    (h : i < length ws / 7) where
  -- the pairs that its row places
  abbrev pub placed : List ℕ → List ℕ
  placed r = part (word r 5 * 2) (word r 6 * 2) pairs

  pub pairs_listed : get_or ws (i * 7 + 5) 0 + get_or ws (i * 7 + 6) 0 ≤ length pairs / 2
  pairs_listed = part_in 7 5 6 (length pairs / 2) ws (omega arith) (omega arith) fit i h

  pub placed_within : {r : List ℕ} → r ≡ row 7 ws i → word r 5 + word r 6 ≤ length pairs / 2
  placed_within read = omega (arith, pairs_listed, read_word 7 5 ws i read refl, read_word 7 6 ws i read refl)

  placed_length : {r p : List ℕ} → r ≡ row 7 ws i → p ≡ placed r → length p ≡ word r 6 * 2
  placed_length {r} read is =
      let left = length-drop (word r 5 * 2) pairs in
      ap length is
      ∙ length-take-le (word r 6 * 2) (drop (word r 5 * 2) pairs)
      (omega (arith, left, placed_within read, rows_in (length pairs) 2))

  pub placed_room : {r p : List ℕ} {a : ℕ} (out : ℕ) → r ≡ row 7 ws i → p ≡ placed r → a ≡ word r 5
      → length pairs ≤ out → a * 2 + length p ≤ out
  placed_room out read is first room =
      omega (arith, placed_within read, placed_length read is, first, rows_in (length pairs) 2, room)

  module _ (text roads marks : List ℕ) where
    abbrev pub mark : Span → Bool
    mark = mark_of text roads marks

    pub pairs_count : length (turned_pairs text roads marks ws pairs i) ≡ get_or ws (i * 7 + 6) 0 * 2
    unfolding turned_pairs pairs_turned
    pairs_count =
        let r = row 7 ws i in
        let size = placed_length {r = r} refl refl in
        joined_even 2 (length (placed r) / 2) (turned_pair (mark (span_in r 0)) (mark (span_in r 2)) (placed r))
        (λ j. pair_2 _ _ (placed r) j)
        ∙ omega (arith, size, row_word 7 6 ws i refl)

    pub pairs_put : (out : List ℕ) {new r p : List ℕ} {m n : Bool} {a : ℕ} → r ≡ row 7 ws i → m ≡ mark (span_in r 0)
        → n ≡ mark (span_in r 2) → p ≡ placed r → a ≡ word r 5 → new ≡ spliced (a * 2) (pairs_turned m n p) out
        → new ≡ spliced (get_or ws (i * 7 + 5) 0 * 2) (turned_pairs text roads marks ws pairs i) out
    unfolding turned_pairs
    pairs_put out {new} {r} read incoming connecting part_is first put =
        put
        ∙ (λ t. spliced (first t * 2) (pairs_turned (incoming t) (connecting t) (part_is t)) out)
        ∙ (λ t.
        spliced (read_word 7 5 ws i read refl t * 2)
        (pairs_turned (mark (span_in (read t) 0)) (mark (span_in (read t) 2)) (placed (read t))) out)

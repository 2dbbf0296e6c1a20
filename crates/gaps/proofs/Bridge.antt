-- The words of the links by row numbers are the model's gap rows.
use Prim.Native.Nat.{ℕ, zero, suc, ◌+◌, ◌*◌, ◌-◌, ◌/◌, ◌<◌, ◌≤◌}
use mathlib.Core.Path.{◌≡◌, refl, sym, ap, ap₂, ◌∙◌}
use mathlib.Core.List.{List, [], ◌∷◌, ◌++◌, map}
use mathlib.Core.Bool.{true, false}
use mathlib.Core.Option.{some}
use native.Mathlib.Nat.{add-zero, zero-add, add_assoc, le_of_suc-le-suc, not-suc-le-zero}
use native.Mathlib.Numerals.{add-one}
use native.Mathlib.Omega.{arith}
use lib.ListN.{length, get_or, take, drop, length-drop}
use lib.Seq.{get_or-take, get_or-drop, length-take-le}
use lib.Ieee.{Float, nan}
use Rattle.geometry.specs.Edges.{ends_at, point_at}
use Rattle.geometry.specs.Gap.{closest_ends, decision_of, place_bits, row_bits, seen_of}
use Rattle.geometry.specs.declared.gap.Decision.{Decision}
use Rattle.geometry.specs.declared.gap.Decision.TheVariants.{Passed, Wide}
use Rattle.geometry.proofs.Promises.{gap_of_choice}
use Rattle.model.specs.Calls.{gap_content, gap_words}
use Rattle.model.specs.Gaps.{GapRow, closest_between, ends_of, gap_between, gap_row, gaps_from, link_gaps}
use Rattle.model.specs.Gaps.{row_of_identity}
use Rattle.model.specs.Lists.{gather, list_o}
use Rattle.model.specs.Lookup.{lists_after, lists_in}
use Rattle.model.specs.Records.{EdgedLane}
use Rattle.model.specs.Rows.{part}
use Rattle.model.specs.Tables.{Tables, direction_of, edged_lanes_of, lane_in}
use Rattle.laws.proofs.WordsReversed.{gather_gather}
use Rattle.words.specs.Keys.{id_before, is_id}
use Rattle.words.specs.Rows.{any, joined, last_of}
use Rattle.words.proofs.Laws.{tab_at, tab_length}
use Rattle.tables.specs.Found.{edged_at}
use Rattle.tables.proofs.Identities.{all, lanes_are, row_is}
use Rattle.gaps.specs.Links.{lane_rows, link_row, lists_right, row_of, rows_at, rows_below, seen_at}
use Rattle.gaps.proofs.Climbs.{bearer, right_at, right_borne, right_count}
use Rattle.words.proofs.Joins.{gather_all, joined_first, joined_gather, joined_none, joined_same}

-- ---- its two ends
module _ (edges : List Float) (a : ℕ) where
  at_start_lem : (m : ℕ) → m < 6 → get_or (take 6 (take 12 (drop a edges))) m nan ≡ get_or edges (a + m) nan
  at_start_lem m h =
      get_or-take 6 (take 12 (drop a edges)) m nan h
      ∙ get_or-take 12 (drop a edges) m nan (omega arith)
      ∙ get_or-drop a edges m nan

  at_end_lem : (m : ℕ) → m < 6 → get_or (drop 6 (take 12 (drop a edges))) m nan ≡ get_or edges (a + (6 + m)) nan
  at_end_lem m h =
      get_or-drop 6 (take 12 (drop a edges)) m nan
      ∙ get_or-take 12 (drop a edges) (6 + m) nan (omega arith)
      ∙ get_or-drop a edges (6 + m) nan

  start_point : (k : ℕ) → k + 2 < 6 → point_at (take 6 (take 12 (drop a edges))) k ≡ point_at edges (a + k)
  start_point k h =
      let p = at_start_lem k (omega arith) in
      let q = at_start_lem (k + 1) (omega arith) ∙ ap (λ (m : ℕ). get_or edges m nan) (sym (add_assoc a k 1)) in
      let r = at_start_lem (k + 2) (omega arith) ∙ ap (λ (m : ℕ). get_or edges m nan) (sym (add_assoc a k 2)) in
      λ i. record { x = p i; y = q i; z = r i }

  end_point : (k : ℕ) → k + 2 < 6 → point_at (drop 6 (take 12 (drop a edges))) k ≡ point_at edges (a + (6 + k))
  end_point k h =
      let p = at_end_lem k (omega arith) in
      let q =
      at_end_lem (k + 1) (omega arith)
      ∙ ap (λ (m : ℕ). get_or edges m nan) (let z : a + (6 + (k + 1)) ≡ a + (6 + k) + 1 = omega arith in z) in
      let r =
      at_end_lem (k + 2) (omega arith)
      ∙ ap (λ (m : ℕ). get_or edges m nan) (let z : a + (6 + (k + 2)) ≡ a + (6 + k) + 2 = omega arith in z) in
      λ i. record { x = p i; y = q i; z = r i }

ends_are : (lanes : List ℕ) (edges : List Float) (i : ℕ) → ends_of (edged_at lanes edges i) ≡ ends_at edges i
unfolding edged_at
ends_are lanes edges i =
    let a = i * 12 in
    let p = start_point edges a 0 (omega arith) ∙ ap (point_at edges) (add-zero a) in
    let q = start_point edges a 3 (omega arith) in
    let r = end_point edges a 0 (omega arith) in
    let s = end_point edges a 3 (omega arith) in
    λ j. (p j ∷ q j ∷ []) ∷ (r j ∷ s j ∷ []) ∷ []

way_is : (lanes : List ℕ) (edges : List Float) (i : ℕ)
    → (edged_at lanes edges i).lane.direction ≡ direction_of (get_or lanes (i * 10 + 5) 0)
unfolding edged_at lane_in
way_is lanes edges i = ap direction_of (get_or-drop (i * 10) lanes 5 0)

seen_is : (lanes : List ℕ) (edges : List Float) (i r : ℕ)
    → seen_of (closest_between (edged_at lanes edges i) (edged_at lanes edges r)) ≡ seen_at lanes edges i r
unfolding closest_between seen_at
seen_is lanes edges i r =
    let a = ends_are lanes edges i in
    let b = way_is lanes edges i in
    let c = ends_are lanes edges r in
    let d = way_is lanes edges r in
    λ j. seen_of (closest_ends (a j) (b j) (c j) (d j))

-- ---- its row
-- the gap shown with the places is the gap
same_gap : (a b : EdgedLane) → gap_between a b ≡ (closest_between a b).gap
unfolding gap_between closest_between
same_gap a b = sym (gap_of_choice (ends_of a) a.lane.direction (ends_of b) b.lane.direction)

row_words_lem : (i r : ℕ) (u v : Float) (d : Decision)
    → gather gap_words
    (map (λ g. record { lane_row = i; next_row = r; gap = g; u = place_bits u; v = place_bits v }) (row_bits d))
    ≡ row_of i r (record { decision = d; u = u; v = v })
unfolding gap_words
row_words_lem i r u v Passed = refl
row_words_lem i r u v (Wide w) = refl

words_of : (i r : ℕ) (a b : EdgedLane)
    → gather gap_words (gap_row i a (r, b)) ≡ row_of i r (seen_of (closest_between a b))
unfolding gap_row
words_of i r a b =
    let at = closest_between a b in
    row_words_lem i r at.u at.v (decision_of (gap_between a b))
    ∙ ap (λ (g : Float). row_of i r (record { decision = decision_of g; u = at.u; v = at.v })) (same_gap a b)

module _ (lanes : List ℕ) (edges : List Float) (once : any (length lanes / 10) (id_before lanes) ≡ false) where
  -- the words of one link
  link_is : (i k : ℕ) → 0 < last_of (length lanes / 10) (is_id lanes k)
      → last_of (length lanes / 10) (is_id lanes k) ≤ length lanes / 10
      → gather gap_words (list_o (row_of_identity k 0 (all lanes edges once)) (gap_row i (edged_at lanes edges i)))
      ≡ link_row lanes edges i k
  unfolding link_row
  link_is i k p q = go (last_of (length lanes / 10) (is_id lanes k)) refl p q
    where
      go : (m : ℕ) → last_of (length lanes / 10) (is_id lanes k) ≡ m → 0 < m → m ≤ length lanes / 10
          → gather gap_words
          (list_o (row_of_identity k 0 (all lanes edges once)) (gap_row i (edged_at lanes edges i)))
          ≡ link_row lanes edges i k
      go zero e p q = absurd (not-suc-le-zero p)
      go (suc r) e p q =
          let found : row_of_identity k 0 (all lanes edges once) ≡ some (r, edged_at lanes edges r) =
          row_is lanes edges once k r e q in
          let at : last_of (length lanes / 10) (is_id lanes k) - 1 ≡ r = omega arith in
          ap (λ o. gather gap_words (list_o o (gap_row i (edged_at lanes edges i)))) found
          ∙ one r
          ∙ sym (ap (λ (m : ℕ). row_of i m (seen_at lanes edges i m)) at)
        where
          one : (r : ℕ)
              → gather gap_words (gap_row i (edged_at lanes edges i) (r, edged_at lanes edges r))
              ≡ row_of i r (seen_at lanes edges i r)
          one r =
              words_of i r (edged_at lanes edges i) (edged_at lanes edges r)
              ∙ ap (row_of i r) (seen_is lanes edges i r)

-- ---- the lists of successors
lists_after_lem : (ids : List ℕ) (o : ℕ) (os : List ℕ) (j : ℕ) → j < length os
    → get_or (lists_after ids o os) j [] ≡ part (get_or (o ∷ os) j 0) (get_or os j 0 - get_or (o ∷ os) j 0) ids
lists_after_lem ids o [] j h = absurd (not-suc-le-zero h)
lists_after_lem ids o (p ∷ os) zero h = refl
lists_after_lem ids o (p ∷ os) (suc j) h = lists_after_lem ids p os j (le_of_suc-le-suc h)

lists_count : (ids : List ℕ) (o : ℕ) (os : List ℕ) → length (lists_after ids o os) ≡ length os
lists_count ids o [] = refl
lists_count ids o (p ∷ os) = ap suc (lists_count ids p os)

list_at_lem : (offsets ids : List ℕ) (j : ℕ) → j + 1 < length offsets
    → get_or (lists_in offsets ids) j [] ≡ part (get_or offsets j 0) (get_or offsets (j + 1) 0 - get_or offsets j 0) ids
list_at_lem [] ids j h = absurd (not-suc-le-zero h)
list_at_lem (o ∷ os) ids j h = rw (add-one j) (lists_after_lem ids o os j (le_of_suc-le-suc (rw (add-one j) at h)))

lists_are : (offsets ids : List ℕ) (n : ℕ) → length offsets ≡ suc n → length (lists_in offsets ids) ≡ n
lists_are [] ids n e = absurd (let z : 0 ≡ suc n = e in omega arith)
lists_are (o ∷ os) ids n e = lists_count ids o os ∙ (let z : suc (length os) ≡ suc n = e in omega arith)

-- ---- lane by lane
module _ (ls : List EdgedLane) (d : EdgedLane) where
  rows_of : ℕ → EdgedLane → List ℕ → List GapRow
  rows_of i a n = gather (λ k. list_o (row_of_identity k 0 ls) (gap_row i a)) n

  gaps_joined : (i : ℕ) (xs : List EdgedLane) (ns : List (List ℕ)) → length ns ≡ length xs
      → gaps_from ls i xs ns ≡ joined (length xs) (λ j. rows_of (i + j) (get_or xs j d) (get_or ns j []))
  unfolding rows_of
  gaps_joined i [] ns e = sym (joined_none (λ j. rows_of (i + j) (get_or [] j d) (get_or ns j [])))
  gaps_joined i (a ∷ more) [] e = absurd (let z : 0 ≡ suc (length more) = e in omega arith)
  gaps_joined i (a ∷ more) (n ∷ ns) e =
      ap (λ l. rows_of i a n ++ l)
      (gaps_joined (suc i) more ns (let z : suc (length ns) ≡ suc (length more) = e in omega arith))
      ∙ ap₂ (λ (m : ℕ) (l : List GapRow). rows_of m a n ++ l) (sym (add-zero i))
      (joined_same (length more) (λ j. rows_of (suc i + j) (get_or more j d) (get_or ns j []))
      (λ j. rows_of (i + suc j) (get_or more j d) (get_or ns j []))
      (λ j l.
      ap (λ (m : ℕ). rows_of m (get_or more j d) (get_or ns j []))
      (let z : suc i + j ≡ i + suc j = omega arith in z)))
      ∙ sym (joined_first (length more) (λ j. rows_of (i + j) (get_or (a ∷ more) j d) (get_or (n ∷ ns) j [])))

module _ (lanes : List ℕ) (edges : List Float) (offsets ids : List ℕ)
    (once : any (length lanes / 10) (id_before lanes) ≡ false) (right : lists_right lanes offsets ids ≡ true)
  where
    -- the words of one lane's links
    lane_is : (i : ℕ) → i < length lanes / 10
        → gather gap_words (rows_of (all lanes edges once) (edged_at lanes edges 0) i (edged_at lanes edges i)
        (get_or (lists_in offsets ids) i [])) ≡ rows_at lanes edges offsets ids i
    unfolding rows_of rows_at lane_rows
    lane_is i in_table =
        let first = get_or offsets i 0 in
        let count = get_or offsets (i + 1) 0 - first in
        let climb = right_at lanes offsets ids right i in_table in
        let rises = climb.0 in
        let within = climb.1 in
        let counted = right_count lanes offsets ids right in
        let here = part first count ids in
        let found : ℕ → List GapRow =
        λ k. list_o (row_of_identity k 0 (all lanes edges once)) (gap_row i (edged_at lanes edges i)) in
        let words : ℕ → List ℕ = λ k. gather gap_words (found k) in
        let long : length here ≡ count =
        length-take-le count (drop first ids) (let left = length-drop first ids in omega arith) in
        let link : (k : ℕ) → k < count → words (get_or here k 0) ≡ link_row lanes edges i (get_or ids (first + k) 0) =
        λ k below.
        let same_id : get_or here k 0 ≡ get_or ids (first + k) 0 =
        get_or-take count (drop first ids) k 0 below ∙ get_or-drop first ids k 0 in
        let bears = bearer lanes ids (right_borne lanes offsets ids right) (first + k) (omega arith) in
        ap words same_id ∙ link_is lanes edges once i (get_or ids (first + k) 0) bears.0 bears.1 in
        ap (λ (l : List ℕ). gather gap_words (gather found l)) (list_at_lem offsets ids i (omega arith))
        ∙ gather_gather found gap_words here
        ∙ gather_all words 0 here
        ∙ ap (λ (m : ℕ). joined m (λ k. words (get_or here k 0))) long
        ∙ joined_same count (λ k. words (get_or here k 0)) (λ k. link_row lanes edges i (get_or ids (first + k) 0)) link

-- THE GAP ROWS of the tables, as the loops write them
pub content_is : (t : Tables) (offsets ids : List ℕ) → length t.edges ≡ 12 * (length t.lanes / 10)
    → any (length t.lanes / 10) (id_before t.lanes) ≡ false → lists_right t.lanes offsets ids ≡ true →
    rows_below t.lanes t.edges offsets ids (length t.lanes / 10) ≡ gap_content t offsets ids
unfolding gap_content link_gaps edged_lanes_of rows_below all
content_is t offsets ids even once right =
    let n = length t.lanes / 10 in
    let ls = all t.lanes t.edges once in
    let d = edged_at t.lanes t.edges 0 in
    let ns = lists_in offsets ids in
    let count : length ls ≡ n = tab_length n (edged_at t.lanes t.edges) in
    sym (ap (λ l. gather gap_words (gaps_from l 0 l ns)) (lanes_are t.lanes t.edges even)
    ∙ ap (gather gap_words)
    (gaps_joined ls d 0 ls ns (lists_are offsets ids n (right_count t.lanes offsets ids right) ∙ sym count))
    ∙ joined_gather gap_words (length ls) (λ j. rows_of ls d (0 + j) (get_or ls j d) (get_or ns j []))
    ∙ ap (λ (m : ℕ). joined m (λ j. gather gap_words (rows_of ls d (0 + j) (get_or ls j d) (get_or ns j [])))) count
    ∙ joined_same n (λ j. gather gap_words (rows_of ls d (0 + j) (get_or ls j d) (get_or ns j [])))
    (rows_at t.lanes t.edges offsets ids)
    (λ j l.
    ap₂ (λ (m : ℕ) (x : EdgedLane). gather gap_words (rows_of ls d m x (get_or ns j []))) (zero-add j)
    (tab_at n (edged_at t.lanes t.edges) j d l)
    ∙ lane_is t.lanes t.edges offsets ids once right j l))

-- The words of the links, lane by lane and link by link.
use Prim.Native.Nat.{ℕ, zero, suc, ◌+◌, ◌*◌, ◌-◌, ◌/◌, ◌<◌, ◌≤◌}
use mathlib.Core.Path.{◌≡◌, sym, ap, ◌∙◌}
use mathlib.Core.List.{List, [], ◌++◌}
use mathlib.Core.Bool.{true}
use native.Mathlib.Numerals.{add-one}
use native.Mathlib.Omega.{arith}
use lib.ListN.{length, get_or, drop, length-append, length-drop}
use lib.Seq.{get_or-drop, get_or-take, length-take-le}
use lib.Ieee.{Float}
use Rattle.geometry.specs.declared.gap.Seen.{Seen}
use Rattle.model.specs.Calls.{gap_width}
use Rattle.words.specs.Keys.{is_id}
use Rattle.words.specs.Rows.{joined, last_of}
use Rattle.gaps.specs.Lent.{lane_count, link_words, next_ids, words_at, words_below}
use Rattle.gaps.specs.declared.links.Links.{Links}
use Rattle.gaps.specs.Links.{is_borne, lane_rows, link_row, lists_right, row_of, rows_at, rows_below, seen_at}
use Rattle.gaps.proofs.Climbs.{bearer, right_at, right_borne, right_count}
use Rattle.words.proofs.Joins.{joined_le, joined_more, joined_most, joined_none}
use Rattle.gaps.proofs.RowLaws.{row_most}

module _ (lanes : List ℕ) (edges : List Float) where
  link_most : (i k : ℕ) → length (link_row lanes edges i k) ≤ gap_width
  unfolding link_row
  link_most i k =
      row_most i (last_of (length lanes / 10) (is_id lanes k) - 1)
      (seen_at lanes edges i (last_of (length lanes / 10) (is_id lanes k) - 1))

  -- the row of a link to the lane in row r
  pub link_row_lem : (i k : ℕ) {f r : ℕ} {s : Seen} → f ≡ last_of (length lanes / 10) (is_id lanes k) → f ≡ suc r
      → s ≡ seen_at lanes edges i r → row_of i r s ≡ link_row lanes edges i k
  unfolding link_row
  link_row_lem i k {f} {r} {s} e g h =
      ap (row_of i r) h
      ∙ ap (λ (m : ℕ). row_of i m (seen_at lanes edges i m))
      (let z : r ≡ last_of (length lanes / 10) (is_id lanes k) - 1 = omega arith in z)

  -- ---- a lane's links
  module _ (ids : List ℕ) (i a : ℕ) where
    pub lane_none : [] ≡ lane_rows lanes edges ids i a 0
    unfolding lane_rows
    lane_none = sym (joined_none (λ k. link_row lanes edges i (get_or ids (a + k) 0)))

    pub lane_most : (n : ℕ) → length (lane_rows lanes edges ids i a n) ≤ gap_width * n
    unfolding lane_rows
    lane_most n =
        joined_most gap_width n (λ k. link_row lanes edges i (get_or ids (a + k) 0))
        (λ k. link_most i (get_or ids (a + k) 0))

    pub lane_le : (n m : ℕ) → n ≤ m
        → length (lane_rows lanes edges ids i a n) ≤ length (lane_rows lanes edges ids i a m)
    unfolding lane_rows
    lane_le n m h = joined_le n m (λ k. link_row lanes edges i (get_or ids (a + k) 0)) h

    -- the row that a turn puts
    pub lane_more : (k : ℕ) {id : ℕ} → id ≡ get_or ids (a + k) 0
        → lane_rows lanes edges ids i a (k + 1) ≡ lane_rows lanes edges ids i a k ++ link_row lanes edges i id
    unfolding lane_rows
    lane_more k e =
        joined_more k (λ k. link_row lanes edges i (get_or ids (a + k) 0))
        ∙ ap (λ (m : ℕ). joined k (λ k. link_row lanes edges i (get_or ids (a + k) 0)) ++ link_row lanes edges i m)
        (sym e)

  -- ---- all lanes' links
  module _ (offsets ids : List ℕ) where
    pub below_none : [] ≡ rows_below lanes edges offsets ids 0
    unfolding rows_below
    below_none = sym (joined_none (rows_at lanes edges offsets ids))

    pub below_le : (n m : ℕ) → n ≤ m
        → length (rows_below lanes edges offsets ids n) ≤ length (rows_below lanes edges offsets ids m)
    unfolding rows_below
    below_le n m h = joined_le n m (rows_at lanes edges offsets ids) h

    pub below_more : (i : ℕ)
        → rows_below lanes edges offsets ids (i + 1)
        ≡ rows_below lanes edges offsets ids i ++ rows_at lanes edges offsets ids i
    unfolding rows_below
    below_more i = joined_more i (rows_at lanes edges offsets ids)

    below_longer : (i : ℕ)
        → length (rows_below lanes edges offsets ids (i + 1))
        ≡ length (rows_below lanes edges offsets ids i) + length (rows_at lanes edges offsets ids i)
    below_longer i =
        ap length (below_more i)
        ∙ length-append (rows_below lanes edges offsets ids i) (rows_at lanes edges offsets ids i)

    at_most : (i : ℕ)
        → length (rows_at lanes edges offsets ids i) ≤ gap_width * (get_or offsets (i + 1) 0 - get_or offsets i 0)
    unfolding rows_at
    at_most i = lane_most ids i (get_or offsets i 0) (get_or offsets (i + 1) 0 - get_or offsets i 0)

    module _ (right : lists_right lanes offsets ids ≡ true) where
      pub below_most : (i : ℕ) → i ≤ length lanes / 10
          → length (rows_below lanes edges offsets ids i) ≤ gap_width * get_or offsets i 0
      below_most zero h =
          let empty : length (rows_below lanes edges offsets ids 0) ≡ 0 = ap length (sym below_none) in omega arith
      below_most (suc i) h =
          let below = below_most i (omega arith) in
          let step = rw (add-one i) at (below_longer i) in
          let added = rw (add-one i) at (at_most i) in
          let climb = rw (add-one i) at (right_at lanes offsets ids right i (omega arith)) in
          let rises = climb.0 in
          omega arith

      -- the words of the first lanes' links, a row for each link at most
      pub total_within : (i : ℕ) → i ≤ length lanes / 10
          → length (rows_below lanes edges offsets ids i) ≤ gap_width * length ids
      total_within zero h =
          let empty : length (rows_below lanes edges offsets ids 0) ≡ 0 = ap length (sym below_none) in omega arith
      total_within (suc i) h =
          let most = below_most (suc i) h in
          let climb = rw (add-one i) at (right_at lanes offsets ids right i h) in
          let within = climb.1 in
          omega arith

-- the words of all rows, one for each link at most
pub all_most : (k : Links) → length (words_below k (lane_count k)) ≤ gap_width * length k.lists.ids.now
all_most k =
    total_within k.lanes.lanes.now k.edges.now k.lists.offsets.now k.lists.ids.now k.right (lane_count k)
    (native.Mathlib.Nat.le_refl (lane_count k))

-- a lane's list lies in the identities
pub list_lies : (k : Links) (i : ℕ) → i < lane_count k
    → (get_or k.lists.offsets.now i 0 ≤ get_or k.lists.offsets.now (i + 1) 0)
    × (get_or k.lists.offsets.now (i + 1) 0 ≤ length k.lists.ids.now)
    × (i + 1 < length k.lists.offsets.now)
list_lies k i there =
    let climb = right_at k.lanes.lanes.now k.lists.offsets.now k.lists.ids.now k.right i there in
    let count = right_count k.lanes.lanes.now k.lists.offsets.now k.lists.ids.now k.right in
    (climb.0, climb.1, omega (arith, count))

-- ---- a turn over the lanes
pub record LaneTurn (k : Links) (i : ℕ) : Type 0 where
  pub more : words_below k (i + 1) ≡ words_below k i ++ words_at k i
  pub longer : length (words_below k (i + 1)) ≡ length (words_below k i) + length (words_at k i)
  pub within : length (words_below k (i + 1)) ≤ length (words_below k (lane_count k))

-- the words of a lane's links, read from the lane
pub same_words : {k l : Links} {i j : ℕ} → l ≡ k → j ≡ i → words_at l j ≡ words_at k i
same_words links row = λ n. words_at (links n) (row n)

pub lanes_none : (k : Links) → [] ≡ words_below k 0
lanes_none k = below_none k.lanes.lanes.now k.edges.now k.lists.offsets.now k.lists.ids.now

pub lane_turn : (k : Links) (i : ℕ) → i < lane_count k → LaneTurn k i
lane_turn k i there =
    record {
      more = below_more k.lanes.lanes.now k.edges.now k.lists.offsets.now k.lists.ids.now i;
      longer = below_longer k.lanes.lanes.now k.edges.now k.lists.offsets.now k.lists.ids.now i;
      within = below_le k.lanes.lanes.now k.edges.now k.lists.offsets.now k.lists.ids.now (i + 1) (lane_count k)
          (omega arith);
    }

-- ---- a turn over the identities of a lane's successors
-- the words of the first n links of the lane in row i
abbrev pub first_words : Links → (i n : ℕ) → List ℕ
first_words k i n = lane_rows k.lanes.lanes.now k.edges.now k.lists.ids.now i (get_or k.lists.offsets.now i 0) n

pub record LinkTurn (k : Links) (i n id : ℕ) : Type 0 where
  pub borne : is_borne k.lanes.lanes.now id
  pub more : first_words k i (n + 1) ≡ first_words k i n ++ link_words k i id
  pub longer : length (first_words k i (n + 1)) ≡ length (first_words k i n) + length (link_words k i id)
  pub within : length (first_words k i (n + 1)) ≤ length (words_at k i)
  pub low : length (first_words k i n) ≤ gap_width * length k.lists.ids.now

pub links_none : (k : Links) (i : ℕ) → [] ≡ first_words k i 0
links_none k i = lane_none k.lanes.lanes.now k.edges.now k.lists.ids.now i (get_or k.lists.offsets.now i 0)

module _ (k : Links) (i : ℕ) (h : i < lane_count k) {next : List ℕ} (is : next ≡ next_ids k i) where
  abbrev lanes : List ℕ
  lanes = k.lanes.lanes.now

  abbrev offsets : List ℕ
  offsets = k.lists.offsets.now

  abbrev ids : List ℕ
  ids = k.lists.ids.now

  abbrev first : ℕ
  first = get_or offsets i 0

  abbrev count : ℕ
  count = get_or offsets (i + 1) 0 - first

  next_length : length next ≡ count
  next_length =
      let climb = right_at lanes offsets ids k.right i h in
      let left = length-drop first ids in
      ap length is ∙ length-take-le count (drop first ids) (omega (arith, climb.0, climb.1))

  -- after the last
  pub links_all : (n : ℕ) → n ≡ length next → first_words k i n ≡ words_at k i
  unfolding rows_at
  links_all n past = ap (lane_rows lanes k.edges.now ids i first) (past ∙ next_length)

  -- one link more, of no more than all
  pub link_turn : (n : ℕ) → n < length next → LinkTurn k i n (get_or next n 0)
  unfolding rows_at
  link_turn n turn =
      let climb = right_at lanes offsets ids k.right i h in
      let inside : first + n < length ids = omega (arith, climb.0, climb.1, next_length) in
      let at : get_or next n 0 ≡ get_or ids (first + n) 0 =
      ap (λ (l : List ℕ). get_or l n 0) is
      ∙ get_or-take count (drop first ids) n 0 (omega (arith, next_length))
      ∙ get_or-drop first ids n 0 in
      let more = lane_more lanes k.edges.now ids i first n at in
      let most = lane_most lanes k.edges.now ids i first n in
      record {
        borne = rw at (bearer lanes ids (right_borne lanes offsets ids k.right) (first + n) inside).0;
        more = more;
        longer = ap length more ∙ length-append (first_words k i n) (link_words k i (get_or next n 0));
        within = lane_le lanes k.edges.now ids i first (n + 1) count (omega (arith, next_length));
        low = omega (arith, inside, most);
      }

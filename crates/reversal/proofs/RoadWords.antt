-- Roads and sections by row numbers are the model's.
use Prim.Native.Nat.{ℕ, ◌+◌, ◌*◌, ◌/◌, ◌<◌, ◌≤◌}
use mathlib.Core.Bool.{Bool, true, false, not, cond}
use mathlib.Core.List.{List, [], ◌∷◌, ◌++◌, map, map-map}
use mathlib.Core.Path.{◌≡◌, refl, sym, ap, ap₂, ◌∙◌}
use native.Mathlib.Omega.{arith}
use lib.Dec.{eqb}
use lib.ListN.{length, get_or, take, drop, length-drop}
use lib.Seq.{length-take-le}
use Rattle.model.specs.Lists.{gather, map_o, every}
use Rattle.model.specs.Records.{Road, Span, target_at}
use Rattle.model.specs.Reversal.{mirrored, reverse_road, reverse_target}
use Rattle.model.specs.Rows.{part, parts_fit, rows_from, table, word}
use Rattle.model.specs.Tables.{flag, name_in, name_words, road_in, road_row, road_words, roads_in}
use Rattle.model.specs.Tables.{section_words, span_in, target_words}
use Rattle.laws.proofs.Basics.{gather_map}
use Rattle.laws.proofs.Lay.{fit_first, fit_le, fit_rest}
use Rattle.words.specs.Keys.{name_before}
use Rattle.words.specs.Rows.{any, from, joined, tab}
use Rattle.words.proofs.Scans.{table_tab, all_at, every_rows}
use Rattle.rules.proofs.Fits.{part_in}
use Rattle.rules.proofs.Forms.{numbers_at_lem, road_in_local, roads_tab}
use Rattle.reversal.specs.Turned.{mark_of, road_turned, row, reversed_road, turned_sections}
use Rattle.words.proofs.Joins.{gather_tab, joined_same}
use Rattle.reversal.proofs.MarkLaws.{mark_is, mark_own}
use Rattle.reversal.proofs.Places.{mirrored_length, row_word}
use Rattle.laws.proofs.Decoded.{name_forth}
use Rattle.model.specs.Rules.{road_worded}
use Rattle.rules.proofs.Locals.{road_local}

-- ---- rows that keep the places of their parts
pub rows_by : {X A : Type 0} (kf kc : ℕ) (row : ℕ → X → List ℕ) (f : X → List A) (h : List ℕ → X) (n : ℕ)
    → ((r : List ℕ) → word r kf + word r kc ≤ n → length (f (h r)) ≡ word r kc) →
    (i : ℕ) (rs : List (List ℕ)) → parts_fit kf kc i n rs ≡ true
    → rows_from row f i (map h rs) ≡ gather (λ r. row (word r kf) (h r)) rs
rows_by kf kc row f h n c i [] e = refl
rows_by kf kc row f h n c i (r ∷ rs) e =
    let first = fit_first kf kc i n r rs e in
    let rest = fit_rest kf kc i n r rs e in
    let count = c r (omega (arith, first, fit_le kf kc (i + word r kc) n rs rest)) in
    ap₂ (λ (x y : List ℕ). x ++ y) (ap (λ (k : ℕ). row k (h r)) (sym first))
    (ap (λ (k : ℕ). rows_from row f (i + k) (map h rs)) count ∙ rows_by kf kc row f h n c (i + word r kc) rs rest)

-- ---- a road's row
road_row_lem : (mk : Span → Bool) (ss r : List ℕ) → length (part (word r 18) (word r 19) ss) ≡ word r 19
    → (m : Bool) → mk (span_in r 0) ≡ m → road_row (word r 18) (reverse_road mk (road_in ss r)) ≡ road_turned mk r m
unfolding road_in road_row reverse_road
road_row_lem mk ss r count m marked = ap laid marked ∙ go m
  where
    sections : List ℕ
    sections = part (word r 18) (word r 19) ss

    target : Bool → List ℕ
    target e = target_words (map_o (reverse_target mk) (target_at e (road_in ss r)))

    laid : Bool → List ℕ
    laid b = (word r 0 ∷ word r 1 ∷ []) ++ name_words (name_in r 2) ++ target b ++ target (not b)
        ++ (word r 18 ∷ length (cond b (mirrored sections) sections) ∷ [])

    name : name_words (name_in r 2) ≡ word r 2 ∷ word r 3 ∷ []
    name = name_forth (word r 2) (word r 3)

    go : (m : Bool) → laid m ≡ road_turned mk r m
    go true =
        λ i.
        (word r 0 ∷ word r 1 ∷ []) ++ name i ++ target true ++ target false
        ++ (word r 18 ∷ (mirrored_length sections ∙ count) i ∷ [])
    go false =
        λ i. (word r 0 ∷ word r 1 ∷ []) ++ name i ++ target false ++ target true ++ (word r 18 ∷ count i ∷ [])

-- the words of a road among those that all keep the rule of words
pub worded_at : (text roads : List ℕ) → every (road_worded text) (table 20 roads) ≡ true
    → (i : ℕ) → i < length roads / 20 → road_worded text (from 20 roads i) ≡ true
worded_at text roads worded i h =
    all_at (length roads / 20) i (λ i. road_worded text (from 20 roads i))
    (sym (every_rows 20 roads (road_worded text) (road_local text)) ∙ worded) h

-- ---- the tables
module _ (text roads sections marks : List ℕ)
    (once : any (length roads / 20) (name_before text 20 0 roads) ≡ false) (even : length marks ≡ length roads / 20)
    (fit : parts_fit 18 19 0 (length sections) (table 20 roads) ≡ true) where
  own : (i : ℕ) → i < length roads / 20
      → mark_of text roads marks (road_in sections (from 20 roads i)).name ≡ eqb (get_or marks i 0) 1
  own i h =
      sym (mark_is text roads sections once marks even (road_in sections (from 20 roads i)).name)
      ∙ mark_own text roads sections once marks even i h

  marked : (i : ℕ) → i < length roads / 20
      → mark_of text roads marks (span_in (row 20 roads i) 0) ≡ flag (get_or marks i 0)
  unfolding road_in
  marked i h = ap (λ (r : Road). mark_of text roads marks r.name) (road_in_local sections (from 20 roads i)) ∙ own i h

  part_length : (r : List ℕ) → word r 18 + word r 19 ≤ length sections
      → length (part (word r 18) (word r 19) sections) ≡ word r 19
  part_length r h =
      length-take-le (word r 19) (drop (word r 18) sections)
      (let d = length-drop (word r 18) sections in omega arith)

  turned_count : (r : List ℕ) → word r 18 + word r 19 ≤ length sections
      → length (reverse_road (mark_of text roads marks) (road_in sections r)).sections ≡ word r 19
  unfolding reverse_road road_in
  turned_count r h = go (mark_of text roads marks (span_in r 0)) ∙ part_length r h
    where
      go : (b : Bool)
          → length
          (cond b (mirrored (part (word r 18) (word r 19) sections)) (part (word r 18) (word r 19) sections))
          ≡ length (part (word r 18) (word r 19) sections)
      go true = mirrored_length (part (word r 18) (word r 19) sections)
      go false = refl

  row_by : List ℕ → List ℕ
  row_by r = road_row (word r 18) (reverse_road (mark_of text roads marks) (road_in sections r))

  row_is : (i : ℕ) → i < length roads / 20 → row_by (row 20 roads i) ≡ reversed_road text roads marks i
  unfolding row_by reversed_road
  row_is i h =
      let listed = part_in 20 18 19 (length sections) roads (omega arith) (omega arith) fit i h in
      let r = row 20 roads i in
      let counted = part_length r
      (omega (arith, listed, row_word 20 18 roads i refl, row_word 20 19 roads i refl)) in
      road_row_lem (mark_of text roads marks) sections r counted (flag (get_or marks i 0)) (marked i h)

  pub roads_are : road_words (map (reverse_road (mark_of text roads marks)) (roads_in sections roads))
      ≡ joined (length roads / 20) (reversed_road text roads marks)
  unfolding road_words roads_in row_by
  roads_are =
      ap (rows_from road_row (λ r. r.sections) 0)
      (map-map (reverse_road (mark_of text roads marks)) (road_in sections) (table 20 roads))
      ∙ rows_by 18 19 road_row (λ r. r.sections)
      (λ r. reverse_road (mark_of text roads marks) (road_in sections r)) (length sections) turned_count 0
      (table 20 roads) fit
      ∙ ap (gather row_by) (table_tab 20 roads)
      ∙ gather_tab row_by (length roads / 20) (λ i. take 20 (drop (i * 20) roads))
      ∙ joined_same (length roads / 20) (λ i. row_by (take 20 (drop (i * 20) roads)))
      (reversed_road text roads marks) row_is

  pub sections_are : section_words (map (reverse_road (mark_of text roads marks)) (roads_in sections roads))
      ≡ joined (length roads / 20) (turned_sections roads sections marks)
  unfolding section_words turned_sections reverse_road
  sections_are =
      ap (λ rs. gather (λ r. r.sections) (map (reverse_road (mark_of text roads marks)) rs)) (roads_tab roads sections)
      ∙ gather_map (reverse_road (mark_of text roads marks)) (λ r. r.sections)
      (tab (length roads / 20) (λ i. road_in sections (from 20 roads i)))
      ∙ gather_tab (λ r. (reverse_road (mark_of text roads marks) r).sections) (length roads / 20)
      (λ i. road_in sections (from 20 roads i))
      ∙ joined_same (length roads / 20)
      (λ i. (reverse_road (mark_of text roads marks) (road_in sections (from 20 roads i))).sections)
      (turned_sections roads sections marks)
      (λ i h. ap₂ (λ (b : Bool) (ss : List ℕ). cond b (mirrored ss) ss) (own i h) (numbers_at_lem roads sections i))

-- Each rule of the model's specs/Rules by row numbers.
use native.Mathlib.Numerals.{add-one}
use mathlib.Core.Logic.{⊎_elim}
use Prim.Native.Nat.{ℕ, zero, suc, ◌+◌, ◌*◌, ◌/◌, ◌<◌, ◌≤◌}
use mathlib.Core.Path.{◌≡◌, refl, sym, ap, ap₂, ◌∙◌, subst}
use mathlib.Core.List.{List, [], ◌∷◌, ◌++◌, map}
use mathlib.Core.Option.{Option, none, some}
use mathlib.Core.Bool.{Bool, true, false, not, ◌&&◌, cond, true≢false}
use native.Mathlib.Nat.{add-zero, add_assoc, le_refl, le_step, eq-or-lt_of_le, le_of_suc-le-suc}
use native.Mathlib.Nat.{not-suc-le-zero}
use native.Mathlib.Omega.{arith}
use lib.ListN.{length, get_or, set, length-set}
use lib.Seq.{get_or-drop, get_or-set_same, get_or-set_other}
use lib.Dec.{eqb}
use Rattle.model.specs.Lists.{ascends, distinct, every, first, member, or_else}
use Rattle.model.specs.Records.{Road, Span}
use Rattle.model.specs.Repair.{road_of}
use Rattle.model.specs.Rows.{part, table}
use Rattle.model.specs.Rules.{ids_once, listed_in, names_once, sections_ascend}
use Rattle.model.specs.Succession.{sections_from, sections_of}
use Rattle.model.specs.Tables.{lane_in, lanes_in, road_in, roads_in, span_in}
use Rattle.model.specs.Text.{bytes_of, equal_bytes, same_in}
use Rattle.words.specs.Keys.{bears, id_before, is_id, name_before}
use Rattle.words.specs.Rows.{all, any, from, last_of, name_at, span, tab}
use Rattle.words.proofs.Chains as chains
use Rattle.words.proofs.Chains.{last_any, last_hit, last_le, last_miss, last_none}
use Rattle.words.proofs.KeyLaws.{equal_refl, equal_sound}
use Rattle.words.proofs.Laws.{any_at, any_same}
use Rattle.words.proofs.Scans.{Local, all_more, all_none, all_same, distinct_tab, every_tab, map_rows}
use Rattle.rules.specs.ByRow.{Owned, known_in, listed_at, listed_by, numbers_at, road_row_of}
use Rattle.rules.proofs.Locals.{short}

-- ---- records of a row look at its words only
pub road_in_local : (ss : List ℕ) → Local 20 (road_in ss)
unfolding road_in
road_in_local ss l = simp (short 20 l)

pub lane_in_local : Local 10 lane_in
unfolding lane_in
lane_in_local l = simp (short 10 l)

pub name_at_lem : (w k : ℕ) (ws : List ℕ) (r : ℕ) → span_in (from w ws r) k ≡ name_at w k ws r
name_at_lem w k ws r =
    ap₂ span (get_or-drop (r * w) ws k 0)
    (get_or-drop (r * w) ws (k + 1) 0 ∙ ap (λ (m : ℕ). get_or ws m 0) (sym (add_assoc (r * w) k 1)))

pub roads_tab : (roads sections : List ℕ)
    → roads_in sections roads ≡ tab (length roads / 20) (λ i. road_in sections (from 20 roads i))
unfolding roads_in
roads_tab roads sections = map_rows 20 roads (road_in sections) (road_in_local sections)

pub lanes_tab : (lanes : List ℕ)
    → map lane_in (table 10 lanes) ≡ tab (length lanes / 10) (λ i. lane_in (from 10 lanes i))
lanes_tab lanes = map_rows 10 lanes lane_in lane_in_local

module _ {R : Type 0} where
  distinct_by : (q : R → R → Bool) (xs : List R) (n : ℕ) (f : ℕ → R) (B : ℕ → Bool) → xs ≡ tab n f
      → ((i : ℕ) → any i (λ j. q (f j) (f i)) ≡ B i) → distinct q xs ≡ not (any n B)
  distinct_by q xs n f B e h =
      ap (distinct q) e
      ∙ distinct_tab q n f
      ∙ ap not (any_same n (λ i. any i (λ j. q (f j) (f i))) B (λ i lt. h i))

-- 3
pub roads_once_lem : (text roads sections : List ℕ)
    → names_once (same_in text) (roads_in sections roads)
    ≡ not (any (length roads / 20) (name_before text 20 0 roads))
unfolding names_once name_before bears road_in
roads_once_lem text roads sections =
    distinct_by (λ a b. same_in text a.name b.name) (roads_in sections roads) (length roads / 20)
    (λ i. road_in sections (from 20 roads i)) (name_before text 20 0 roads) (roads_tab roads sections)
    (λ i.
    any_same i (λ j. same_in text (span_in (from 20 roads j) 0) (span_in (from 20 roads i) 0))
    (λ j. same_in text (name_at 20 0 roads j) (name_at 20 0 roads i))
    (λ j lt. ap₂ (same_in text) (name_at_lem 20 0 roads j) (name_at_lem 20 0 roads i)))

pub first_word : (w : ℕ) (ws : List ℕ) (i : ℕ) → get_or (from w ws i) 0 0 ≡ get_or ws (i * w) 0
first_word w ws i = get_or-drop (i * w) ws 0 0 ∙ ap (λ (m : ℕ). get_or ws m 0) (add-zero (i * w))

-- 6
pub identities_once_lem : (lanes : List ℕ) → ids_once (lanes_in lanes) ≡ not (any (length lanes / 10) (id_before lanes))
unfolding ids_once lanes_in id_before is_id lane_in
identities_once_lem lanes =
    distinct_by (λ a b. eqb a.identity b.identity) (map lane_in (table 10 lanes)) (length lanes / 10)
    (λ i. lane_in (from 10 lanes i)) (id_before lanes) (lanes_tab lanes)
    (λ i.
    any_same i (λ j. eqb (get_or (from 10 lanes j) 0 0) (get_or (from 10 lanes i) 0 0))
    (λ j. eqb (get_or lanes (j * 10) 0) (get_or lanes (i * 10) 0))
    (λ j lt. ap₂ eqb (first_word 10 lanes j) (first_word 10 lanes i)))

-- 4
pub numbers_at_lem : (roads sections : List ℕ) (i : ℕ)
    → (road_in sections (from 20 roads i)).sections ≡ numbers_at roads sections i
unfolding road_in
numbers_at_lem roads sections i =
    ap₂ (λ (a b : ℕ). part a b sections) (get_or-drop (i * 20) roads 18 0) (get_or-drop (i * 20) roads 19 0)

pub sections_ascend_lem : (roads sections : List ℕ)
    → sections_ascend (roads_in sections roads)
    ≡ all (length roads / 20) (λ i. ascends (numbers_at roads sections i))
unfolding sections_ascend
sections_ascend_lem roads sections =
    ap (every (λ r. ascends r.sections)) (roads_tab roads sections)
    ∙ every_tab (λ r. ascends r.sections) (length roads / 20) (λ i. road_in sections (from 20 roads i))
    ∙ all_same (length roads / 20) (λ i. ascends (road_in sections (from 20 roads i)).sections)
    (λ i. ascends (numbers_at roads sections i)) (λ i lt. ap ascends (numbers_at_lem roads sections i))

-- 7
pub lanes_listed_lem : (text roads sections lanes : List ℕ)
    → listed_in (same_in text) (roads_in sections roads) (lanes_in lanes)
    ≡ all (length lanes / 10) (listed_at text roads sections lanes)
unfolding listed_in lanes_in lane_in known_in
lanes_listed_lem text roads sections lanes =
    ap (every (λ l. member l.section (sections_of (same_in text) (roads_in sections roads) l.road)))
    (lanes_tab lanes)
    ∙ every_tab (λ l. member l.section (sections_of (same_in text) (roads_in sections roads) l.road))
    (length lanes / 10) (λ i. lane_in (from 10 lanes i))
    ∙ all_same (length lanes / 10)
    (λ i.
    member (get_or (from 10 lanes i) 3 0)
    (sections_of (same_in text) (roads_in sections roads) (span_in (from 10 lanes i) 1)))
    (listed_at text roads sections lanes)
    (λ i lt.
    ap₂ (λ (s : ℕ) (n : Span). member s (sections_of (same_in text) (roads_in sections roads) n))
    (get_or-drop (i * 10) lanes 3 0) (name_at_lem 10 1 lanes i))

-- ---- the first that passes is the last, where only one does
module _ {R : Type 0} where
  first_snoc : (p : R → Bool) (xs : List R) (y : R)
      → first p (xs ++ (y ∷ [])) ≡ or_else (first p xs) (cond (p y) (some y) none)
  first_snoc p [] y = refl
  first_snoc p (x ∷ xs) y = go (p x) (first_snoc p xs y)
    where
      go : (b : Bool) → first p (xs ++ (y ∷ [])) ≡ or_else (first p xs) (cond (p y) (some y) none)
          → cond b (some x) (first p (xs ++ (y ∷ [])))
          ≡ or_else (cond b (some x) (first p xs)) (cond (p y) (some y) none)
      go true e = refl
      go false e = e

  pub first_none : (p : R → Bool) (n : ℕ) (f : ℕ → R) → ((i : ℕ) → i < n → p (f i) ≡ false) → first p (tab n f) ≡ none
  unfolding tab
  first_none p zero f h = refl
  first_none p (suc n) f h =
      first_snoc p (tab n f) (f n)
      ∙ ap₂ (λ a b. or_else a (cond b (some (f n)) none)) (first_none p n f (λ i lt. h i (le_step lt)))
      (h n (le_refl (suc n)))

  pub first_last : (p : R → Bool) (n : ℕ) (f : ℕ → R)
      → ((i j : ℕ) → i < n → j < i → p (f i) ≡ true → p (f j) ≡ false) → (r : ℕ)
      → last_of n (λ i. p (f i)) ≡ suc r → first p (tab n f) ≡ some (f r)
  unfolding tab
  first_last p zero f u r e = let z = last_none (λ i. p (f i)) in absurd (omega arith)
  first_last p (suc n) f u r e =
      first_snoc p (tab n f) (f n)
      ∙ go (p (f n)) refl (first_last p n f (λ i j lt l q. u i j (le_step lt) l q) r)
    where
      go : (b : Bool) → p (f n) ≡ b → (last_of n (λ i. p (f i)) ≡ suc r → first p (tab n f) ≡ some (f r))
          → or_else (first p (tab n f)) (cond (p (f n)) (some (f n)) none) ≡ some (f r)
      go true q ih =
          let z : suc n ≡ suc r = sym (last_hit n (λ i. p (f i)) q) ∙ e in
          let y : n ≡ r = omega arith in
          ap₂ (λ a b. or_else a (cond b (some (f n)) none))
          (first_none p n f (λ i lt. u n i (le_refl (suc n)) lt q)) q
          ∙ ap (λ (k : ℕ). some (f k)) y
      go false q ih =
          ap (λ a. or_else a (cond (p (f n)) (some (f n)) none)) (ih (sym (last_miss n (λ i. p (f i)) q) ∙ e))

-- ---- 7: what a lookup of the road's name gives
same_both : (text : List ℕ) (a b m : Span) → same_in text a m ≡ true → same_in text b m ≡ true → same_in text b a ≡ true
unfolding same_in
same_both text a b m e f =
    subst (λ (l : List ℕ). equal_bytes (bytes_of text b) l ≡ true)
    (equal_sound (bytes_of text b) (bytes_of text m) f ∙ sym (equal_sound (bytes_of text a) (bytes_of text m) e))
    (equal_refl (bytes_of text b))

pub two_alike : (text roads : List ℕ) (m : Span) (i j : ℕ) → bears text 20 0 roads m i ≡ true
    → bears text 20 0 roads m j ≡ true → bears text 20 0 roads (name_at 20 0 roads i) j ≡ true
unfolding bears
two_alike text roads m i j a b = same_both text (name_at 20 0 roads i) (name_at 20 0 roads j) m a b

pub last_same : (n : ℕ) (p q : ℕ → Bool) → ((i : ℕ) → p i ≡ q i) → last_of n p ≡ last_of n q
last_same n p q h = chains.last_same n p q (λ i lt. h i)

-- the record of a row plus 1
abbrev pub record_at : {R : Type 0} → (ℕ → R) → ℕ → Option R
record_at f zero = none
record_at f (suc r) = some (f r)

module _ (text roads sections : List ℕ) (m : Span) where
  abbrev rows : ℕ
  rows = length roads / 20

  abbrev road_at : ℕ → Road
  road_at i = road_in sections (from 20 roads i)

  -- the row plus 1 of the last road that bears the name
  abbrev found : ℕ
  found = last_of rows (bears text 20 0 roads m)

  -- the model's road of the name
  abbrev meant : Option Road
  meant = road_of (same_in text) (roads_in sections roads) m

  road_test : (i : ℕ) → same_in text (road_at i).name m ≡ bears text 20 0 roads m i
  unfolding road_in bears
  road_test i = ap (λ (n : Span). same_in text n m) (name_at_lem 20 0 roads i)

  roads_first : meant ≡ first (λ r. same_in text r.name m) (tab rows road_at)
  unfolding road_of
  roads_first = ap (first (λ r. same_in text r.name m)) (roads_tab roads sections)

  road_none : found ≡ 0 → meant ≡ none
  road_none e =
      let no-bearer = last_any rows (bears text 20 0 roads m) e in
      roads_first
      ∙ first_none (λ r. same_in text r.name m) rows road_at
      (λ i lt. road_test i ∙ any_at rows i (bears text 20 0 roads m) no-bearer lt)

  -- where no road name is borne twice, the road of a name is that of the row found
  pub road_row_lem : any rows (name_before text 20 0 roads) ≡ false → meant ≡ record_at road_at found
  unfolding name_before
  road_row_lem once = go found refl
    where
      -- a road before one that bears the name does not
      one : (i j : ℕ) → i < rows → j < i → same_in text (road_at i).name m ≡ true
          → same_in text (road_at j).name m ≡ false
      one i j li lj bears-i = away (same_in text (road_at j).name m) refl
        where
          away : (b : Bool) → same_in text (road_at j).name m ≡ b → same_in text (road_at j).name m ≡ false
          away false e = e
          away true e =
              let i-has = sym (road_test i) ∙ bears-i in
              let j-has = sym (road_test j) ∙ e in
              let none_before = any_at rows i (λ r. any r (bears text 20 0 roads (name_at 20 0 roads r))) once li in
              absurd (true≢false (sym (two_alike text roads m i j i-has j-has)
              ∙ any_at i j (bears text 20 0 roads (name_at 20 0 roads i)) none_before lj))

      go : (k : ℕ) → found ≡ k → meant ≡ record_at road_at k
      go zero e = road_none e
      go (suc r) e =
          roads_first
          ∙ first_last (λ r. same_in text r.name m) rows road_at one r
          (last_same rows (λ i. same_in text (road_at i).name m) (bears text 20 0 roads m) road_test ∙ e)

  pub known_none : (s : ℕ) → found ≡ 0 → known_in text roads sections m s ≡ false
  unfolding known_in sections_of
  known_none s e = ap (λ o. member s (sections_from o)) (road_none e)

  pub known_some : (s r : ℕ) → any rows (name_before text 20 0 roads) ≡ false → found ≡ suc r
      → known_in text roads sections m s ≡ member s (numbers_at roads sections r)
  unfolding known_in sections_of
  known_some s r once e =
      ap (λ o. member s (sections_from o)) (road_row_lem once ∙ ap (record_at road_at) e)
      ∙ ap (member s) (numbers_at_lem roads sections r)

-- ---- 7: the road found by its row
pub road_row_le : (text roads : List ℕ) (m : Span) → road_row_of text roads m ≤ length roads / 20
unfolding road_row_of
road_row_le text roads m = last_le (length roads / 20) (bears text 20 0 roads m)

pub listed_row : (text roads sections : List ℕ) (m : Span) (s road : ℕ)
    → any (length roads / 20) (name_before text 20 0 roads) ≡ false → road ≡ road_row_of text roads m
    → listed_by roads sections road s ≡ known_in text roads sections m s
unfolding road_row_of
listed_row text roads sections m s zero once e = sym (known_none text roads sections m s (sym e))
listed_row text roads sections m s (suc r) once e = sym (known_some text roads sections m s r once (sym e))

-- an owner more
pub owned_more : (text roads lanes owner : List ℕ) (i : ℕ) {f : ℕ} → Owned text roads lanes i owner → i < length owner
    → f ≡ road_row_of text roads (name_at 10 1 lanes i) → Owned text roads lanes (i + 1) (set owner i f)
owned_more text roads lanes owner i {f} owned room found = record { at = go }
  where
    go : (k : ℕ) → k < i + 1 → get_or (set owner i f) k 0 ≡ road_row_of text roads (name_at 10 1 lanes k)
    go k lt = ⊎_elim
        (λ same. rw same (get_or-set_same owner i f 0 room ∙ found))
        (λ less. get_or-set_other owner i k f 0 (λ same. omega arith) ∙ owned.at k less)
        (eq-or-lt_of_le (le_of_suc-le-suc (rw add-one at lt)))

-- what 7 keeps before lane i: whether the sections of the lanes below i are listed, and these lanes' roads
pub record Listing (text roads sections lanes owner : List ℕ) (every : Bool) (i : ℕ) : Type 0 where
  pub listed : every ≡ all i (listed_at text roads sections lanes)
  pub room : length owner ≡ 16384
  pub owned : Owned text roads lanes i owner

module _ {text roads sections lanes : List ℕ} where
  pub listing_none : {owner : List ℕ} → length owner ≡ 16384 → Listing text roads sections lanes owner true 0
  listing_none room = record {
    listed = sym (all_none _);
    room = room;
    owned = record { at = λ k lt. absurd (not-suc-le-zero lt) };
  }

  -- lane i's road was looked for by its name, and its section in that road
  pub listing_more : {owner : List ℕ} {every : Bool} {i word : ℕ} {known : Bool} (road : ℕ)
      → Listing text roads sections lanes owner every i → i < 16384
      → any (length roads / 20) (name_before text 20 0 roads) ≡ false
      → road ≡ road_row_of text roads (name_at 10 1 lanes i) → word ≡ road
      → known ≡ listed_by roads sections road (get_or lanes (i * 10 + 3) 0)
      → Listing text roads sections lanes (set owner i word) (every && known) (i + 1)
  listing_more {owner} {every} {i} road listing few once found word_is known_is =
      let room : i < length owner = omega (arith, listing.room) in
      let section_is = known_is ∙ listed_row text roads sections (name_at 10 1 lanes i) _ road once found in
      record {
        listed = ap₂ ◌&&◌ listing.listed section_is ∙ sym (all_more i _);
        room = simp length-set listing.room;
        owned = owned_more text roads lanes owner i listing.owned room (word_is ∙ found);
      }

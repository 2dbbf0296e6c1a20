-- 8 by road rows: where road names are single and each lane's road is known, two lanes' road names are equal
-- just where their roads' rows are.
use Prim.Native.Nat.{ℕ, zero, suc, ◌+◌, ◌*◌, ◌/◌, ◌<◌}
use mathlib.Core.Path.{◌≡◌, refl, sym, ap, ap₂, ◌∙◌}
use mathlib.Core.List.{List}
use mathlib.Core.Bool.{Bool, true, false, not, ◌&&◌, true≢false}
use native.Mathlib.Nat.{lt_trans}
use lib.ListN.{length, get_or}
use lib.Seq.{get_or-drop}
use lib.Dec.{eqb}
use borrow.Author.Tests.{eq-eqb, ne_eqb}
use Rattle.model.specs.Lists.{distinct}
use Rattle.model.specs.Records.{Span}
use Rattle.model.specs.Rules.{places_once, same_key}
use Rattle.model.specs.Tables.{lane_in, lanes_in}
use Rattle.model.specs.Text.{same_in}
use Rattle.laws.proofs.ByBytes.{alike_in}
use Rattle.laws.proofs.Names.{same_right}
use Rattle.words.specs.Keys.{bears, is_key, key_before}
use Rattle.words.specs.Rows.{all, any, from, name_at}
use Rattle.words.proofs.Chains.{last_has}
use Rattle.words.proofs.Laws.{any_same}
use Rattle.words.proofs.Scans.{all_at, distinct_tab}
use Rattle.rules.specs.ByRow.{Owned, listed_at, road_row_of}
use Rattle.rules.proofs.Forms.{known_none, lanes_tab, last_same, name_at_lem}
use Rattle.model.specs.Succession.{stands_at}

-- names of known roads are equal just where their rows are
module _ (text roads : List ℕ) where
  -- one name is found in one row
  one_row_lem : (a b : Span) → same_in text a b ≡ true → road_row_of text roads a ≡ road_row_of text roads b
  unfolding road_row_of bears
  one_row_lem a b e =
      last_same (length roads / 20) (λ q. same_in text (name_at 20 0 roads q) a)
      (λ q. same_in text (name_at 20 0 roads q) b)
      (λ q. same_right (same_in text) (alike_in text) a b (name_at 20 0 roads q) e)

  named_so : (m : Span) (r : ℕ) → road_row_of text roads m ≡ suc r → same_in text (name_at 20 0 roads r) m ≡ true
  unfolding road_row_of bears
  named_so m r e = last_has (length roads / 20) r (λ q. same_in text (name_at 20 0 roads q) m) e

  pub same_row : (a b : Span) → (road_row_of text roads a ≡ 0 → ⊥)
      → same_in text a b ≡ eqb (road_row_of text roads a) (road_row_of text roads b)
  same_row a b known = go (same_in text a b) refl
    where
      -- one row has one name
      one_name : (w : ℕ) → road_row_of text roads a ≡ w → road_row_of text roads b ≡ w → same_in text a b ≡ true
      one_name zero p q = absurd (known p)
      one_name (suc r) p q =
          (alike_in text).same_trans a (name_at 20 0 roads r) b
          ((alike_in text).same_sym (name_at 20 0 roads r) a (named_so a r p)) (named_so b r q)

      go : (t : Bool) → same_in text a b ≡ t → t ≡ eqb (road_row_of text roads a) (road_row_of text roads b)
      go true e = sym (eq-eqb (road_row_of text roads a) (road_row_of text roads b) (one_row_lem a b e))
      go false e =
          sym (ne_eqb (road_row_of text roads a) (road_row_of text roads b)
          (λ z. true≢false (sym (one_name (road_row_of text roads b) z refl) ∙ e)))

module _ (text roads sections lanes owner : List ℕ)
    (listed : all (length lanes / 10) (listed_at text roads sections lanes) ≡ true)
    (o : Owned text roads lanes (length lanes / 10) owner) where
  known : (i : ℕ) → i < length lanes / 10 → road_row_of text roads (name_at 10 1 lanes i) ≡ 0 → ⊥
  unfolding road_row_of
  known i lt e = true≢false (sym (all_at (length lanes / 10) i (listed_at text roads sections lanes) listed lt)
      ∙ known_none text roads sections (name_at 10 1 lanes i) (get_or lanes (i * 10 + 3) 0) e)

  same_road : (i j : ℕ) → i < length lanes / 10 → j < length lanes / 10
      → same_in text (name_at 10 1 lanes j) (name_at 10 1 lanes i) ≡ eqb (get_or owner j 0) (get_or owner i 0)
  same_road i j li lj =
      same_row text roads (name_at 10 1 lanes j) (name_at 10 1 lanes i) (known j lj)
      ∙ ap₂ eqb (sym (o.at j lj)) (sym (o.at i li))

  same_key_lem : (i j : ℕ) → i < length lanes / 10 → j < length lanes / 10
      → same_key (same_in text) (lane_in (from 10 lanes j)) (lane_in (from 10 lanes i))
      ≡ is_key lanes owner (get_or owner i 0) (get_or lanes (i * 10 + 3) 0) (get_or lanes (i * 10 + 4) 0) j
  unfolding same_key lane_in is_key
  same_key_lem i j li lj =
      ap₂ ◌&&◌ (ap₂ ◌&&◌
      (ap₂ (same_in text) (name_at_lem 10 1 lanes j) (name_at_lem 10 1 lanes i) ∙ same_road i j li lj)
      (ap₂ eqb (get_or-drop (j * 10) lanes 3 0) (get_or-drop (i * 10) lanes 3 0)))
      (ap₂ eqb (get_or-drop (j * 10) lanes 4 0) (get_or-drop (i * 10) lanes 4 0))

  -- rule 8
  pub keys_once_lem : places_once (same_in text) (lanes_in lanes)
      ≡ not (any (length lanes / 10) (key_before lanes owner))
  unfolding places_once lanes_in key_before
  keys_once_lem =
      ap (distinct (same_key (same_in text))) (lanes_tab lanes)
      ∙ distinct_tab (same_key (same_in text)) (length lanes / 10) (λ i. lane_in (from 10 lanes i))
      ∙ ap not (any_same (length lanes / 10)
      (λ i. any i (λ j. same_key (same_in text) (lane_in (from 10 lanes j)) (lane_in (from 10 lanes i))))
      (λ i. any i (is_key lanes owner (get_or owner i 0) (get_or lanes (i * 10 + 3) 0) (get_or lanes (i * 10 + 4) 0)))
      (λ i li.
      any_same i (λ j. same_key (same_in text) (lane_in (from 10 lanes j)) (lane_in (from 10 lanes i)))
      (is_key lanes owner (get_or owner i 0) (get_or lanes (i * 10 + 3) 0) (get_or lanes (i * 10 + 4) 0))
      (λ j lj. same_key_lem i j li (lt_trans lj li))))

  -- a lane stands at a place of a known road just where its road's row, section and number are those of the place
  pub stands_at_lem : (m : Span) (s k i : ℕ) → i < length lanes / 10
      → stands_at (same_in text) m s k (lane_in (from 10 lanes i))
      ≡ is_key lanes owner (road_row_of text roads m) s k i
  unfolding stands_at lane_in is_key
  stands_at_lem m s k i li =
      ap₂ ◌&&◌ (ap₂ ◌&&◌ (ap (λ (n : Span). same_in text n m) (name_at_lem 10 1 lanes i)
      ∙ same_row text roads (name_at 10 1 lanes i) m (known i li)
      ∙ ap (λ (w : ℕ). eqb w (road_row_of text roads m)) (sym (o.at i li)))
      (ap (λ (x : ℕ). eqb x s) (get_or-drop (i * 10) lanes 3 0)))
      (ap (λ (x : ℕ). eqb x k) (get_or-drop (i * 10) lanes 4 0))

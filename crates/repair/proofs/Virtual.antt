-- The roads in virtual junctions: their ends with the along flag are made absent.
use mathlib.Core.Path.{◌≡◌, refl, sym, ap, ap₂, ◌∙◌}
use mathlib.Core.Bool.{Bool, true, false, not, ◌&&◌, ◌||◌, cond}
use mathlib.Core.Option.{Option, none, some}
use mathlib.Core.List.{List, [], ◌∷◌, map}
use Prim.Native.Nat.{ℕ, ◌+◌, ◌*◌, ◌/◌, ◌≤◌, ◌<◌}
use native.Mathlib.Omega.{arith}
use lib.ListN.{length, get_or, set, length-set}
use lib.Seq.{get_or-drop, get_or-set_same, get_or-set_other}
use lib.Dec.{eqb}
use borrow.Author.Tests.{eqb-true, eqb-false}
use Rattle.model.specs.Lists.{pick, is_some, first, some?, bind_o}
use Rattle.model.specs.Records.{JunctionKind, Road, Span, Target, common, direct, virtual}
use Rattle.model.specs.Repair.{drop_along, in_virtual, is_virtual, linked, without_along}
use Rattle.model.specs.Rows.{part, word}
use Rattle.model.specs.Tables.{bit, is_absent, map_tables, name_in, road_in, span_in, target_in, target_of}
use Rattle.model.specs.Text.{same_in}
use Rattle.words.specs.Keys.{is_kind, is_kind_of}
use Rattle.words.specs.Rows.{any, from, name_at, name_from, span, tab}
use Rattle.words.proofs.Laws.{any_same, map_tab, tab_same}
use Rattle.words.proofs.Scans.{some_tab}
use Rattle.rules.proofs.Forms.{roads_tab}
use Rattle.repair.specs.Now.{end_now, junction_at, road_now, roads_now, target_now}
use Rattle.repair.specs.Along.{Marked, along_word, roads_begun, virtual_row}

-- whether a road is in a virtual junction, by its junction's name
pub virtual_by : (text roads junctions : List ℕ) (r : ℕ) {start size : ℕ} {absent met : Bool}
    → span start size ≡ name_from roads (r * 20 + 2) → absent ≡ is_absent start size
    → met ≡ any (length junctions / 5) (is_kind_of virtual text junctions (span start size))
    → not absent && met ≡ virtual_row text roads junctions r
unfolding virtual_row
virtual_by text roads junctions r named absent met =
    let size-at : r * 20 + 2 + 1 ≡ r * 20 + 3 = omega arith in
    let inside : Span → Bool = λ n.
    not (is_absent n.start n.size) && any (length junctions / 5) (is_kind_of virtual text junctions n) in
    (λ i. not (absent i) && met i)
    ∙ ap inside named
    ∙ ap (λ (k : ℕ). inside (span (get_or roads (r * 20 + 2) 0) (get_or roads k 0))) size-at

first_some : {A : Type 0} (p : A → Bool) (xs : List A) → is_some (first p xs) ≡ some? p xs
first_some p [] = refl
first_some p (x ∷ xs) = go (p x) (first_some p xs)
  where
    go : (b : Bool) → is_some (first p xs) ≡ some? p xs → is_some (cond b (some x) (first p xs)) ≡ (b || some? p xs)
    go true e = refl
    go false e = e

found_if : {A : Type 0} (b : Bool) (n : Span) (K : Span → Option A)
    → is_some (bind_o (cond b none (some n)) K) ≡ not b && is_some (K n)
found_if true n K = refl
found_if false n K = refl

virtual_is : (k : JunctionKind) → is_virtual k ≡ is_kind virtual k
virtual_is common = refl
virtual_is direct = refl
virtual_is virtual = refl

module _ (text roads junctions ss ps cs : List ℕ) (r : ℕ) where
  in_virtual_is : in_virtual (same_in text) (tab (length junctions / 5) (junction_at ps cs junctions))
      (road_in ss (from 20 roads r)) ≡ virtual_row text roads junctions r
  unfolding in_virtual road_in virtual_row is_kind_of junction_at
  in_virtual_is =
      ap₂ (λ (a b : ℕ).
      is_some (bind_o (cond (is_absent a b) none (some (span a b)))
      (λ n.
      first (λ j. is_virtual j.kind && same_in text j.name n)
      (tab (length junctions / 5) (junction_at ps cs junctions))))) (get_or-drop (r * 20) roads 2 0)
      (get_or-drop (r * 20) roads 3 0)
      ∙ found_if (is_absent (get_or roads (r * 20 + 2) 0) (get_or roads (r * 20 + 3) 0))
      (span (get_or roads (r * 20 + 2) 0) (get_or roads (r * 20 + 3) 0))
      (λ n.
      first (λ j. is_virtual j.kind && same_in text j.name n)
      (tab (length junctions / 5) (junction_at ps cs junctions)))
      ∙ ap (λ b. not (is_absent (get_or roads (r * 20 + 2) 0) (get_or roads (r * 20 + 3) 0)) && b)
      (any_of (span (get_or roads (r * 20 + 2) 0) (get_or roads (r * 20 + 3) 0)))
    where
      any_of : (n : Span)
          → is_some (first (λ j. is_virtual j.kind && same_in text j.name n)
          (tab (length junctions / 5) (junction_at ps cs junctions)))
          ≡ any (length junctions / 5) (is_kind_of virtual text junctions n)
      any_of n =
          first_some (λ j. is_virtual j.kind && same_in text j.name n)
          (tab (length junctions / 5) (junction_at ps cs junctions))
          ∙ some_tab (λ j. is_virtual j.kind && same_in text j.name n) (length junctions / 5)
          (junction_at ps cs junctions)
          ∙ any_same (length junctions / 5)
          (λ q. is_virtual (junction_at ps cs junctions q).kind && same_in text (name_at 5 0 junctions q) n)
          (is_kind_of virtual text junctions n)
          (λ q lt.
          ap (λ b. b && same_in text (name_at 5 0 junctions q) n) (virtual_is (junction_at ps cs junctions q).kind))

-- an end by its along flag
drop_is : (p k s n c g a : ℕ) → cond (eqb a 1) none (target_of p k s n c g a) ≡ drop_along (target_of p k s n c g a)
drop_is p k s n c g a = go (eqb p 1) (eqb a 1)
  where
    go : (b d : Bool)
        → cond d none (cond b
        (some (record { is_junction = eqb k 1; name = span s n; contact = eqb c 1; given = eqb g 1; along = d }))
        none)
        ≡ drop_along (cond b
        (some (record { is_junction = eqb k 1; name = span s n; contact = eqb c 1; given = eqb g 1; along = d }))
        none)
    go true true = refl
    go true false = refl
    go false true = refl
    go false false = refl

end_word : (x : Bool) (t : Option Target) (l : ℕ → Target) → end_now (bit x) t l ≡ cond x none t
end_word true t l = refl
end_word false t l = refl

module _ (text roads junctions ends : List ℕ) (n : ℕ) (m : Marked text roads junctions n ends) (r : ℕ)
    (h : r < n) where
  end_is : (b : Bool)
      → target_now roads junctions ends r b
      ≡ cond (virtual_row text roads junctions r && eqb (get_or roads (r * 20 + pick b 10 17) 0) 1) none
      (target_in (from 20 roads r) (pick b 4 11))
  unfolding target_now
  end_is b =
      ap
      (λ (w : ℕ). end_now w (target_in (from 20 roads r) (pick b 4 11)) (λ k. linked (name_at 5 0 junctions k) b))
      (m.at r h b)
      ∙ end_word (virtual_row text roads junctions r && eqb (get_or roads (r * 20 + pick b 10 17) 0) 1)
      (target_in (from 20 roads r) (pick b 4 11)) (λ k. linked (name_at 5 0 junctions k) b)

  end_dropped : (b : Bool) → virtual_row text roads junctions r ≡ true
      → target_now roads junctions ends r b ≡ drop_along (target_in (from 20 roads r) (pick b 4 11))
  end_dropped b v =
      end_is b
      ∙ ap₂ (λ x (y : ℕ). cond (x && eqb y 1) none (target_in (from 20 roads r) (pick b 4 11))) v
      (sym (get_or-drop (r * 20) roads (pick b 10 17) 0))
      ∙ go b
    where
      go : (b : Bool)
          → cond (eqb (get_or (from 20 roads r) (pick b 10 17) 0) 1) none
          (target_in (from 20 roads r) (pick b 4 11)) ≡ drop_along (target_in (from 20 roads r) (pick b 4 11))
      go true =
          drop_is (word (from 20 roads r) 11) (word (from 20 roads r) 12) (word (from 20 roads r) 13)
          (word (from 20 roads r) 14) (word (from 20 roads r) 15) (word (from 20 roads r) 16)
          (word (from 20 roads r) 17)
      go false =
          drop_is (word (from 20 roads r) 4) (word (from 20 roads r) 5) (word (from 20 roads r) 6)
          (word (from 20 roads r) 7) (word (from 20 roads r) 8) (word (from 20 roads r) 9)
          (word (from 20 roads r) 10)

  end_kept : (b : Bool) → virtual_row text roads junctions r ≡ false
      → target_now roads junctions ends r b ≡ target_in (from 20 roads r) (pick b 4 11)
  end_kept b v =
      end_is b
      ∙ ap (λ x.
      cond (x && eqb (get_or roads (r * 20 + pick b 10 17) 0) 1) none (target_in (from 20 roads r) (pick b 4 11)))
      v

  -- the road of this row, with those targets at its ends
  abbrev with_ends : List ℕ → Option Target → Option Target → Road
  with_ends ss before after = record {
    name = span_in (from 20 roads r) 0;
    junction = name_in (from 20 roads r) 2;
    predecessor = before;
    successor = after;
    sections = part (word (from 20 roads r) 18) (word (from 20 roads r) 19) ss;
  }

  -- its along links dropped
  abbrev dropped : List ℕ → Road
  dropped ss =
      with_ends ss (drop_along (target_in (from 20 roads r) 4)) (drop_along (target_in (from 20 roads r) 11))

  road_start : (ss ps cs : List ℕ)
      → road_now ss roads junctions ends r
      ≡ without_along (same_in text) (tab (length junctions / 5) (junction_at ps cs junctions))
      (road_in ss (from 20 roads r))
  unfolding road_now without_along road_in
  road_start ss ps cs = go (virtual_row text roads junctions r) refl
    where
      -- as the model has it: dropped where it is in a virtual junction
      meant : (b : Bool) → virtual_row text roads junctions r ≡ b
          → cond b (dropped ss) (road_in ss (from 20 roads r))
          ≡ without_along (same_in text) (tab (length junctions / 5) (junction_at ps cs junctions))
          (road_in ss (from 20 roads r))
      meant b v =
          sym (ap (λ x. cond x (dropped ss) (road_in ss (from 20 roads r)))
          (in_virtual_is text roads junctions ss ps cs r ∙ v))

      go : (b : Bool) → virtual_row text roads junctions r ≡ b
          → road_now ss roads junctions ends r
          ≡ without_along (same_in text) (tab (length junctions / 5) (junction_at ps cs junctions))
          (road_in ss (from 20 roads r))
      go true v = (λ i. with_ends ss (end_dropped false v i) (end_dropped true v i)) ∙ meant true v
      go false v = (λ i. with_ends ss (end_kept false v i) (end_kept true v i)) ∙ meant false v

pub roads_start : (text roads junctions ends : List ℕ) → Marked text roads junctions (length roads / 20) ends
    → (ss ps cs : List ℕ) → roads_now ss roads junctions ends ≡ roads_begun (map_tables text roads ss junctions cs ps)
unfolding roads_now
roads_start text roads junctions ends marked ss ps cs =
    let begun = without_along (same_in text) (tab (length junctions / 5) (junction_at ps cs junctions)) in
    tab_same (length roads / 20) (road_now ss roads junctions ends) (λ i. begun (road_in ss (from 20 roads i)))
    (λ i inside. road_start text roads junctions ends (length roads / 20) marked i inside ss ps cs)
    ∙ sym (ap (map begun) (roads_tab roads ss)
    ∙ map_tab begun (length roads / 20) (λ i. road_in ss (from 20 roads i)))

-- one road more is marked
pub marked_more : (text roads junctions : List ℕ) (i : ℕ) (ends : List ℕ) {ends' : List ℕ}
    → Marked text roads junctions i ends → length ends ≡ 32768 → i < 16384
    → ends'
    ≡ set (set ends (i * 2 + 0) (along_word text roads junctions i false)) (i * 2 + 1)
    (along_word text roads junctions i true) → Marked text roads junctions (i + 1) ends'
marked_more text roads junctions i ends m len few e =
    record { at = λ r h b. ap (λ (l : List ℕ). get_or l (r * 2 + bit b) 0) e ∙ go r h b (eqb r i) refl }
  where
    this : (b : Bool)
        → get_or (set (set ends (i * 2 + 0) (along_word text roads junctions i false)) (i * 2 + 1)
        (along_word text roads junctions i true)) (i * 2 + bit b) 0 ≡ along_word text roads junctions i b
    this true =
        get_or-set_same (set ends (i * 2 + 0) (along_word text roads junctions i false)) (i * 2 + 1)
        (along_word text roads junctions i true) 0
        (let z = length-set ends (i * 2 + 0) (along_word text roads junctions i false) in omega arith)
    this false =
        get_or-set_other (set ends (i * 2 + 0) (along_word text roads junctions i false)) (i * 2 + 1) (i * 2 + 0)
        (along_word text roads junctions i true) 0 (λ z. omega arith)
        ∙ get_or-set_same ends (i * 2 + 0) (along_word text roads junctions i false) 0 (omega arith)

    apart : (r : ℕ) (b : Bool) → (r ≡ i → ⊥) → (k : ℕ) → k ≤ 1 → r * 2 + bit b ≡ i * 2 + k → ⊥
    apart r true ne k l z = ne (omega arith)
    apart r false ne k l z = ne (omega arith)

    go : (r : ℕ) → r < i + 1 → (b q : Bool) → eqb r i ≡ q
        → get_or (set (set ends (i * 2 + 0) (along_word text roads junctions i false)) (i * 2 + 1)
        (along_word text roads junctions i true)) (r * 2 + bit b) 0 ≡ along_word text roads junctions r b
    go r h b true q =
        let z = eqb-true r i q in
        ap (λ (k : ℕ).
        get_or (set (set ends (i * 2 + 0) (along_word text roads junctions i false)) (i * 2 + 1)
        (along_word text roads junctions i true)) (k * 2 + bit b) 0) z
        ∙ this b
        ∙ ap (λ (k : ℕ). along_word text roads junctions k b) (sym z)
    go r h b false q = let ne = eqb-false r i q in
        get_or-set_other (set ends (i * 2 + 0) (along_word text roads junctions i false)) (i * 2 + 1)
        (r * 2 + bit b) (along_word text roads junctions i true) 0 (apart r b ne 1 (omega arith))
        ∙ get_or-set_other ends (i * 2 + 0) (r * 2 + bit b) (along_word text roads junctions i false) 0
        (apart r b ne 0 (omega arith))
        ∙ m.at r (near r i h ne) b
      where
        near : (r i : ℕ) → r < i + 1 → (r ≡ i → ⊥) → r < i
        near r i h ne = omega arith

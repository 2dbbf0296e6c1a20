-- The words of a place are the part.
use mathlib.Core.Path.{◌≡◌, refl, sym, ap, ◌∙◌}
use mathlib.Core.Bool.{Bool, true, false, cond, ◌&&◌}
use mathlib.Core.List.{List, [], ◌∷◌}
use Prim.Native.Nat.{ℕ, zero, suc, ◌-◌, ◌≤◌, ◌<◌}
use native.Mathlib.Omega.{arith}
use lib.ListN.{length, take, drop, length-take}
use Rattle.model.specs.Lists.{pick}
use Rattle.model.specs.Lookup.{list_lookup, list_part, row_listed}
use Rattle.model.specs.Rows.{part, word}
use Rattle.model.specs.Text.{bytes_of, name_bytes, placed}
use Rattle.words.specs.Rows.{span}
use Rattle.vorzhyket.specs.Places.{list_place, lookup_place, name_place, part_at, place_of}
use lib.Dec.{leb, ltb}
use borrow.Author.Tests.{ltb-true}
use Rattle.words.proofs.Scans.{left_on}

-- ---- a place read back
module _ {A : Type 0} where
  take_again : (c : ℕ) (xs : List A) → take (length (take c xs)) xs ≡ take c xs
  take_again zero xs = refl
  take_again (suc c) [] = refl
  take_again (suc c) (x ∷ xs) = ap {B = List A} (λ l. x ∷ l) (take_again c xs)

  no_length : (xs : List A) → length xs ≡ 0 → [] ≡ xs
  no_length [] e = refl
  no_length (x ∷ xs) e = absurd (let z : suc (length xs) ≡ 0 = e in omega arith)

  place_there : (first c : ℕ) (xs : List A)
      → part_at (place_of first (length (part first c xs))) xs ≡ part first c xs
  place_there first c xs = go (length (part first c xs)) refl
    where
      go : (n : ℕ) → length (part first c xs) ≡ n → part_at (place_of first n) xs ≡ part first c xs
      go zero e = no_length (part first c xs) e
      go (suc n) e = ap (λ (k : ℕ). part first k xs) (sym e) ∙ take_again c (drop first xs)

  -- the part, or none
  place_if : (b : Bool) (first c : ℕ) (xs : List A)
      → part_at (place_of first (length (cond b (part first c xs) []))) xs ≡ cond b (part first c xs) []
  place_if true first c xs = place_there first c xs
  place_if false first c xs = refl

-- THE LIST: its place names the lanes that list lookup gives, in the identities that are asked
pub list_there : (so si po pi : List ℕ) (row : ℕ) (before : Bool)
    → part_at (lookup_place so si po pi row before) (pick before si pi) ≡ list_lookup so si po pi row before
unfolding lookup_place list_lookup list_place list_part
list_there so si po pi row false =
    place_if (row_listed so si row) (word so row) (word so (suc row) - word so row) si
list_there so si po pi row true =
    place_if (row_listed po pi row) (word po row) (word po (suc row) - word po row) pi

-- THE NAME: its place names the name's bytes
pub name_there : (text : List ℕ) (start size : ℕ)
    → part_at (name_place text start size) text ≡ name_bytes text (span start size)
unfolding name_place name_bytes bytes_of
name_there text start size = place_if (placed text (span start size)) start size text

-- ---- a part is no longer than words say
pub list_long : (offsets ids : List ℕ) (row : ℕ) → length (list_part offsets ids row) ≤ word offsets (suc row)
unfolding list_part
list_long offsets ids row = go (word offsets row) (word offsets (suc row)) (row_listed offsets ids row)
  where
    go : (begins ends : ℕ) (b : Bool) → length (cond b (part begins (ends - begins) ids) []) ≤ ends
    go begins ends false = omega arith
    go begins ends true = omega (arith, length-take (ends - begins) (drop begins ids))

-- ---- what a part that is not empty says
module _ (offsets ids : List ℕ) (row : ℕ) where
  abbrev begins : ℕ
  begins = word offsets row

  abbrev ends : ℕ
  ends = word offsets (suc row)

  abbrev list : Bool → List ℕ
  list listed = cond listed (part begins (ends - begins) ids) []

  inside : row_listed offsets ids row ≡ true → suc row < length offsets
  unfolding row_listed
  inside listed =
      let there = ltb (suc row) (length offsets) in
      let ordered = leb begins ends in
      ltb-true (suc row) (length offsets)
      (left_on there ordered (left_on (there && ordered) (leb ends (length ids)) listed))

  pub list_full : (length (list_part offsets ids row) ≡ 0 → ⊥)
      → (suc row < length offsets) × (length (list_part offsets ids row) ≤ ends)
  unfolding list_part
  list_full = go (row_listed offsets ids row) refl
    where
      go : (b : Bool) → row_listed offsets ids row ≡ b → (length (list b) ≡ 0 → ⊥)
          → (suc row < length offsets) × (length (list b) ≤ ends)
      go false listed full = absurd (full refl)
      go true listed full = (inside listed, omega (arith, length-take (ends - begins) (drop begins ids)))

pub name_long : (text : List ℕ) (start size : ℕ) → length (name_bytes text (span start size)) ≤ size
unfolding name_bytes bytes_of
name_long text start size = go (placed text (span start size))
  where
    go : (b : Bool) → length (cond b (take size (drop start text)) []) ≤ size
    go true = omega (arith, length-take size (drop start text))
    go false = omega arith

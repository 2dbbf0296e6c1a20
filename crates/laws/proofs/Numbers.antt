-- Changing a sign and mirroring a section give words, numbers below 2^32, from words.
use mathlib.Core.Path.{◌≡◌}
use mathlib.Core.Bool.{Bool, true, false, cond}
use mathlib.Core.List.{List, [], ◌∷◌, map}
use Prim.Native.Nat.{ℕ, ◌-◌, ◌%◌, ◌<◌, ◌≤◌}
use native.Mathlib.Nat.{mod-lt}
use native.Mathlib.Omega.{arith}
use lib.Dec.{ltb}
use Rattle.model.specs.Lists.{last_or, member}
use Rattle.model.specs.Reversal.{mirror, mirrored, negated, signed}
use Rattle.laws.proofs.ForEach.{each_map, each_member, each_of_map, each_reverse}
use Rattle.laws.proofs.Valid.{Ascends, Each}

abbrev pub Word : ℕ → Type 0
Word n = n < 4294967296

pub negated_word : (n : ℕ) → Word n → Word (negated n)
unfolding negated
negated_word n h = go (ltb n 4294967296)
  where
    go : (b : Bool) → Word (cond b ((4294967296 - n) % 4294967296) n)
    go true = mod-lt (4294967296 - n) (omega arith)
    go false = h

pub signed_word : (b : Bool) (n : ℕ) → Word n → Word (signed b n)
signed_word false n h = h
signed_word true n h = negated_word n h

-- a section number that is not below the first is mirrored to one not above the last
head_low : (x : ℕ) (xs : List ℕ) → Ascends (x ∷ xs) → Each (λ i. x ≤ i) (x ∷ xs)
head_low x xs h = (omega arith, each_map (λ i (k : x < i). omega arith) xs h.0)

last_of : (x : ℕ) (xs : List ℕ) → Each Word (x ∷ xs) → Word (last_or x xs)
last_of x [] h = h.0
last_of x (y ∷ ys) h = last_of y ys h.1

mirror_low : (x : ℕ) (xs : List ℕ) (i : ℕ) → x ≤ i → mirror (x ∷ xs) i ≤ last_or x xs
unfolding mirror
mirror_low x xs i h = omega arith

pub mirror_word : (ss : List ℕ) (i : ℕ) → Ascends ss → Each Word ss → member i ss ≡ true → Word (mirror ss i)
mirror_word [] i a w k = absurd (mathlib.Core.Bool.false≢true k)
mirror_word (x ∷ xs) i a w k =
    let low : x ≤ i = each_member (λ i. x ≤ i) i (x ∷ xs) (head_low x xs a) k in
    omega (arith, mirror_low x xs i low, last_of x xs w)

pub mirrored_words : (ss : List ℕ) → Ascends ss → Each Word ss → Each Word (mirrored ss)
unfolding mirrored
mirrored_words [] a w = tt
mirrored_words (x ∷ xs) a w =
    each_reverse Word (map (mirror (x ∷ xs)) (x ∷ xs))
    (each_of_map (mirror (x ∷ xs)) Word (x ∷ xs) (each_map one (x ∷ xs) (head_low x xs a)))
  where
    one : (i : ℕ) → x ≤ i → Word (mirror (x ∷ xs) i)
    one i low = omega (arith, mirror_low x xs i low, last_of x xs w)

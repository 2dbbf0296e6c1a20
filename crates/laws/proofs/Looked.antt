-- List lookup finds on the offsets and identities that succession writes just the list of the row that is asked.
use mathlib.Core.Path.{◌≡◌, refl, sym, ◌∙◌, ap, ap₂, subst}
use mathlib.Core.Bool.{Bool, true, false, ◌&&◌, cond}
use mathlib.Core.List.{List, [], ◌∷◌, ◌++◌, append_assoc}
use Prim.Native.Nat.{ℕ, zero, suc, ◌+◌, ◌-◌, ◌<◌, ◌≤◌}
use native.Mathlib.Nat.{le_of_suc-le-suc, not-suc-le-zero}
use native.Mathlib.Omega.{arith}
use lib.Dec.{leb, ltb}
use lib.ListN.{length, take, drop, get_or, length-append, length-map}
use lib.Seq.{drop-append_seam, take-append_seam}
use borrow.Author.Tests.{le-leb, le-ltb, lt-ltb}
use Rattle.model.specs.Calls.{list_content}
use Rattle.model.specs.Lists.{pick}
use Rattle.model.specs.Lookup.{list_lookup, list_part, offsets_from, packed, row_listed}
use Rattle.model.specs.Rows.{part, word}
use Rattle.model.specs.Rules.{same}
use Rattle.model.specs.Succession.{predecessor_lists, predecessors, successor_lists, successors}
use Rattle.model.specs.Tables.{Tables, lanes_of, map_of}
use Rattle.laws.proofs.Eleven.{offsets_count}
use Rattle.laws.proofs.ListTests.{and_both}

offset_head : (k : ℕ) (ls : List (List ℕ)) → word (offsets_from k ls) 0 ≡ k
offset_head k [] = refl
offset_head k (l ∷ ls) = refl

-- where list i stands in what is packed: after head, and its two offsets are where it begins and ends
record Between (pre : List ℕ) (ls : List (List ℕ)) (i : ℕ) : Type 0 where
  head : List ℕ
  tail : List ℕ
  split : pre ++ packed ls ≡ head ++ (get_or ls i [] ++ tail)
  begins : word (offsets_from (length pre) ls) i ≡ length head
  ends : word (offsets_from (length pre) ls) (suc i) ≡ length head + length (get_or ls i [])

between : (pre : List ℕ) (ls : List (List ℕ)) (i : ℕ) → i < length ls → Between pre ls i
between pre [] i h = absurd (not-suc-le-zero h)
between pre (l ∷ ls) zero h =
    record
    { head = pre; tail = packed ls; split = refl; begins = refl; ends = offset_head (length pre + length l) ls }
between pre (l ∷ ls) (suc i) h =
    let b : Between (pre ++ l) ls i = between (pre ++ l) ls i (le_of_suc-le-suc h) in
    record {
      head = b.head;
      tail = b.tail;
      split = sym (append_assoc pre l (packed ls)) ∙ b.split;
      begins = ap (λ (n : ℕ). word (offsets_from n ls) i) (sym (length-append pre l)) ∙ b.begins;
      ends = ap (λ (n : ℕ). word (offsets_from n ls) (suc i)) (sym (length-append pre l)) ∙ b.ends;
    }

-- the part of row i is list i
pub list_part_of : (ls : List (List ℕ)) (i : ℕ) → i < length ls
    → list_part (offsets_from 0 ls) (packed ls) i ≡ get_or ls i []
unfolding list_part row_listed
list_part_of ls i h =
    ap (λ c. cond c (take (hi - lo) (drop lo (packed ls))) []) listed
    ∙ ap₂ (λ (a c : ℕ). take (a - c) (drop c (packed ls))) b.ends b.begins
    ∙ ap₂ (λ (n : ℕ) (ws : List ℕ). take n (drop (length b.head) ws))
    (minus (length b.head) (length (get_or ls i []))) b.split
    ∙ ap (take (length (get_or ls i []))) (drop-append_seam b.head (get_or ls i [] ++ b.tail))
    ∙ take-append_seam (get_or ls i []) b.tail
  where
    b : Between [] ls i
    b = between [] ls i h

    lo : ℕ
    lo = word (offsets_from 0 ls) i

    hi : ℕ
    hi = word (offsets_from 0 ls) (suc i)

    minus : (a c : ℕ) → (a + c) - a ≡ c
    minus a c = omega arith

    total : length (packed ls) ≡ length b.head + (length (get_or ls i []) + length b.tail)
    total =
        ap length b.split
        ∙ length-append b.head (get_or ls i [] ++ b.tail)
        ∙ ap (λ (n : ℕ). length b.head + n) (length-append (get_or ls i []) b.tail)

    inside : suc i < length (offsets_from 0 ls)
    inside = omega (arith, offsets_count 0 ls)

    rising : lo ≤ hi
    rising =
        let from : lo ≡ length b.head = b.begins in
        let to : hi ≡ length b.head + length (get_or ls i []) = b.ends in
        omega arith

    within : hi ≤ length (packed ls)
    within =
        let to : hi ≡ length b.head + length (get_or ls i []) = b.ends in
        omega (arith, total)

    listed : ltb (suc i) (length (offsets_from 0 ls)) && leb lo hi && leb hi (length (packed ls)) ≡ true
    listed = and_both (ltb (suc i) (length (offsets_from 0 ls)) && leb lo hi) (leb hi (length (packed ls)))
        (and_both (ltb (suc i) (length (offsets_from 0 ls))) (leb lo hi)
        (lt-ltb (suc i) (length (offsets_from 0 ls)) inside) (le-leb lo hi rising))
        (le-leb hi (length (packed ls)) within)

-- a row past the last list has the empty part
pub list_part_past : (ls : List (List ℕ)) (i : ℕ) → length ls ≤ i → list_part (offsets_from 0 ls) (packed ls) i ≡ []
unfolding list_part row_listed
list_part_past ls i h =
    ap (λ c.
    cond (c && leb (word (offsets_from 0 ls) i) (word (offsets_from 0 ls) (suc i))
    && leb (word (offsets_from 0 ls) (suc i)) (length (packed ls)))
    (part (word (offsets_from 0 ls) i) (word (offsets_from 0 ls) (suc i) - word (offsets_from 0 ls) i)
    (packed ls)) []) (le-ltb (suc i) (length (offsets_from 0 ls)) (omega (arith, offsets_count 0 ls)))

-- lookup picks the list onward or the list before
pub list_lookup_of : (onward before : List (List ℕ)) (i : ℕ) (asked : Bool) → i < length onward → i < length before →
    list_lookup (offsets_from 0 onward) (packed onward) (offsets_from 0 before) (packed before) i asked
    ≡ pick asked (get_or onward i []) (get_or before i [])
unfolding list_lookup
list_lookup_of onward before i false p q = list_part_of onward i p
list_lookup_of onward before i true p q = list_part_of before i q

-- on what succession writes
pub list_content_looked : (t : Tables) (row : ℕ) (before : Bool) → row < length (lanes_of t) →
    list_lookup (list_content t).successor_offsets (list_content t).successor_ids
    (list_content t).predecessor_offsets (list_content t).predecessor_ids row before
    ≡ pick before (get_or (successor_lists (same t) (map_of t)) row [])
    (get_or (predecessor_lists (same t) (map_of t)) row [])
unfolding list_content
list_content_looked t row before h =
    list_lookup_of (successor_lists (same t) (map_of t)) (predecessor_lists (same t) (map_of t)) row before
    (unfold successor_lists map_of in subst (λ (n : ℕ). row < n)
    (sym (length-map (lanes_of t) (successors (same t) (map_of t)))) h)
    (unfold predecessor_lists map_of in subst (λ (n : ℕ). row < n)
    (sym (length-map (lanes_of t) (predecessors (same t) (map_of t)))) h)

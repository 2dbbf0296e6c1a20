-- Lane numbers with their sign changed, directions swapped, and section numbers mirrored: done twice they are
-- as before, and they keep order and equality.
use mathlib.Core.Path.{◌≡◌, refl, sym, ◌∙◌, ap}
use mathlib.Core.Bool.{Bool, true, false, not, false≢true}
use mathlib.Core.Option.{some}
use mathlib.Core.List.{List, [], ◌∷◌, map, reverse, reverse-reverse, map-map}
use Prim.Native.Nat.{ℕ, ◌+◌, ◌-◌, ◌%◌, ◌<◌, ◌≤◌}
use native.Mathlib.Omega.{arith}
use lib.Dec.{eqb, ltb}
use borrow.Author.Tests.{ltb-true, ltb-false, lt-ltb, le-ltb}
use Rattle.geometry.specs.declared.gap.Direction.{Direction}
use Rattle.geometry.specs.declared.gap.Direction.TheVariants.{Backward, Both, Forward}
use Rattle.model.specs.Lists.{◌⊕◌, head_or, last_or, map_o, member}
use Rattle.model.specs.Reversal.{mirror, mirrored, negated, reverse_direction, signed}
use Rattle.model.specs.Succession.{away, end_section, is_both, next_section}
use Rattle.laws.proofs.Basics.{bool_ext, eqb_ext, final_ext, final_map, final_reverse, first_ext}
use Rattle.laws.proofs.Basics.{first_map_lem, first_reverse, head_or_reverse, last_or_map, last_or_reverse}
use Rattle.laws.proofs.Basics.{map_id, reverse_map_lem}
use Rattle.laws.proofs.ForEach.{each_map, final_each, first_each}
use Rattle.laws.proofs.Valid.{Ascends, Each}

-- signs
pub negated_word : (n : ℕ) → n < 4294967296 → negated n ≡ (4294967296 - n) % 4294967296
unfolding negated
negated_word n h = rw (lt-ltb n 4294967296 h)

pub negated_other : (n : ℕ) → 4294967296 ≤ n → negated n ≡ n
unfolding negated
negated_other n h = rw (le-ltb n 4294967296 h)

pub negated_negated : (n : ℕ) → negated (negated n) ≡ n
negated_negated n = go (ltb n 4294967296) refl
  where
    go : (b : Bool) → ltb n 4294967296 ≡ b → negated (negated n) ≡ n
    go true e =
        let h : n < 4294967296 = ltb-true n 4294967296 e in
        let k : (4294967296 - n) % 4294967296 < 4294967296 = omega arith in
        rw (negated_word n h, negated_word ((4294967296 - n) % 4294967296) k) (omega arith)
    go false e =
        let h : 4294967296 ≤ n = ltb-false n 4294967296 e in
        rw (negated_other n h) (negated_other n h)

pub signed-⊕ : (a b : Bool) (n : ℕ) → signed a (signed b n) ≡ signed (b ⊕ a) n
signed-⊕ false false n = refl
signed-⊕ true false n = refl
signed-⊕ false true n = refl
signed-⊕ true true n = negated_negated n

pub signed_eqb : (b : Bool) (m n : ℕ) → eqb (signed b m) (signed b n) ≡ eqb m n
signed_eqb false m n = refl
signed_eqb true m n = eqb_ext (negated m) (negated n) m n
    (λ e. sym (negated_negated m) ∙ ap negated e ∙ negated_negated n)
    (λ e. ap negated e)

-- directions
pub reverseDirection-⊕ : (a b : Bool) (d : Direction)
    → reverse_direction a (reverse_direction b d) ≡ reverse_direction (b ⊕ a) d
reverseDirection-⊕ false false d = refl
reverseDirection-⊕ true false d = refl
reverseDirection-⊕ false true d = refl
reverseDirection-⊕ true true Forward = refl
reverseDirection-⊕ true true Backward = refl
reverseDirection-⊕ true true Both = refl

pub reverse_direction_both : (b : Bool) (d : Direction) → is_both (reverse_direction b d) ≡ is_both d
reverse_direction_both false d = refl
reverse_direction_both true Forward = refl
reverse_direction_both true Backward = refl
reverse_direction_both true Both = refl

pub reverse_direction_away : (b : Bool) (d : Direction) (e : Bool) → away (reverse_direction b d) (b ⊕ e) ≡ away d e
reverse_direction_away false d e = refl
reverse_direction_away true Forward e = refl
reverse_direction_away true Backward false = refl
reverse_direction_away true Backward true = refl
reverse_direction_away true Both e = refl

-- sections
abbrev pub Bounded : List ℕ → Type 0
Bounded ss = Each (λ i. i ≤ head_or 0 ss + last_or 0 ss) ss

pub below_last : (x : ℕ) (xs : List ℕ) → Ascends (x ∷ xs) → Each (λ i. i ≤ last_or x xs) (x ∷ xs)
below_last x [] h = (omega arith, tt)
below_last x (y ∷ ys) h =
    let t : Each (λ i. i ≤ last_or y ys) (y ∷ ys) = below_last y ys h.1 in
    let a : x < y = h.0.0 in
    let b : y ≤ last_or y ys = t.0 in
    (omega arith, t)

pub bounded : (ss : List ℕ) → Ascends ss → Bounded ss
bounded [] h = tt
bounded (x ∷ xs) h = each_map (λ i (k : i ≤ last_or x xs). omega arith) (x ∷ xs) (below_last x xs h)

mirror_at : (ss : List ℕ) (i : ℕ) → mirror ss i ≡ (head_or 0 ss + last_or 0 ss) - i
unfolding mirror
mirror_at ss i = refl

-- mirrored sections have the first and the last section that they had
mirrored_head : (x : ℕ) (xs : List ℕ) → head_or 0 (mirrored (x ∷ xs)) ≡ x
unfolding mirrored
mirrored_head x xs =
    head_or_reverse 0 (map (mirror (x ∷ xs)) (x ∷ xs))
    ∙ last_or_map (mirror (x ∷ xs)) x xs
    ∙ mirror_at (x ∷ xs) (last_or x xs)
    ∙ omega arith

mirrored_last : (x : ℕ) (xs : List ℕ) → last_or 0 (mirrored (x ∷ xs)) ≡ last_or x xs
unfolding mirrored
mirrored_last x xs =
    last_or_reverse 0 (map (mirror (x ∷ xs)) (x ∷ xs)) ∙ mirror_at (x ∷ xs) x ∙ omega arith

pub mirror_mirrored : (ss : List ℕ) (i : ℕ) → mirror (mirrored ss) i ≡ mirror ss i
unfolding mirror
mirror_mirrored [] i = unfold mirrored in refl
mirror_mirrored (x ∷ xs) i = rw (mirrored_head x xs, mirrored_last x xs)

pub mirror_mirror : (ss : List ℕ) (i : ℕ) → i ≤ head_or 0 ss + last_or 0 ss → mirror ss (mirror ss i) ≡ i
unfolding mirror
mirror_mirror ss i h = omega arith

pub mirrored_mirrored : (ss : List ℕ) → Bounded ss → mirrored (mirrored ss) ≡ ss
unfolding mirrored
mirrored_mirrored ss h =
    ap reverse (map_fun (mirrored ss))
    ∙ ap reverse (sym (reverse_map_lem (mirror ss) (map (mirror ss) ss)))
    ∙ reverse-reverse (map (mirror ss) (map (mirror ss) ss))
    ∙ map-map (mirror ss) (mirror ss) ss
    ∙ map_id (λ i. mirror ss (mirror ss i)) ss (each_map (mirror_mirror ss) ss h)
  where
    map_fun : (xs : List ℕ) → map (mirror (mirrored ss)) xs ≡ map (mirror ss) xs
    map_fun [] = refl
    map_fun (x ∷ xs) = rw (mirror_mirrored ss x, map_fun xs)

pub mirror_eqb : (ss : List ℕ) (a b : ℕ) → a ≤ head_or 0 ss + last_or 0 ss → b ≤ head_or 0 ss + last_or 0 ss
    → eqb (mirror ss a) (mirror ss b) ≡ eqb a b
mirror_eqb ss a b h k = eqb_ext (mirror ss a) (mirror ss b) a b
    (λ e. sym (mirror_mirror ss a h) ∙ ap (mirror ss) e ∙ mirror_mirror ss b k)
    (λ e. ap (mirror ss) e)

pub mirror_ltb : (ss : List ℕ) (a b : ℕ) → a ≤ head_or 0 ss + last_or 0 ss → b ≤ head_or 0 ss + last_or 0 ss
    → ltb (mirror ss a) (mirror ss b) ≡ ltb b a
unfolding mirror
mirror_ltb ss a b h k = bool_ext (ltb (mirror ss a) (mirror ss b)) (ltb b a)
    (λ e. lt-ltb b a (omega (arith, ltb-true (mirror ss a) (mirror ss b) e)))
    (λ e. lt-ltb (mirror ss a) (mirror ss b) (omega (arith, ltb-true b a e)))

-- the next section
pub next_section_mirrored : (ss : List ℕ) (s : ℕ) (e : Bool) → Bounded ss → s ≤ head_or 0 ss + last_or 0 ss →
    next_section (mirrored ss) (mirror ss s) (not e) ≡ map_o (mirror ss) (next_section ss s e)
unfolding next_section mirrored
next_section_mirrored ss s false h k =
    first_reverse (λ i. ltb (mirror ss s) i) (map (mirror ss) ss)
    ∙ final_map (mirror ss) (λ i. ltb (mirror ss s) i) ss
    ∙ ap (map_o (mirror ss)) (final_ext (λ i. ltb (mirror ss s) (mirror ss i)) (λ i. ltb i s) ss
    (each_map (λ i b. mirror_ltb ss s i k b) ss h))
next_section_mirrored ss s true h k =
    final_reverse (λ i. ltb i (mirror ss s)) (map (mirror ss) ss)
    ∙ first_map_lem (mirror ss) (λ i. ltb i (mirror ss s)) ss
    ∙ ap (map_o (mirror ss)) (first_ext (λ i. ltb (mirror ss i) (mirror ss s)) (λ i. ltb s i) ss
    (each_map (λ i b. mirror_ltb ss i s b k) ss h))

-- the section at an end
pub end_section_mirrored : (ss : List ℕ) (s : ℕ) (e : Bool) → member s ss ≡ true →
    end_section (mirrored ss) (not e) ≡ mirror ss (end_section ss e)
unfolding end_section
end_section_mirrored [] s e m = absurd (false≢true m)
end_section_mirrored (x ∷ xs) s false m = mirrored_last x xs ∙ sym (mirror_at (x ∷ xs) x ∙ omega arith)
end_section_mirrored (x ∷ xs) s true m = mirrored_head x xs ∙ sym (mirror_at (x ∷ xs) (last_or x xs) ∙ omega arith)

pub end_section_bound : (ss : List ℕ) (e : Bool) → end_section ss e ≤ head_or 0 ss + last_or 0 ss
unfolding end_section
end_section_bound ss false = omega arith
end_section_bound ss true = omega arith

pub next_section_bound : (ss : List ℕ) (s : ℕ) (e : Bool) (n : ℕ) → Bounded ss → next_section ss s e ≡ some n
    → n ≤ head_or 0 ss + last_or 0 ss
unfolding next_section
next_section_bound ss s false n h q = final_each (λ i. i ≤ head_or 0 ss + last_or 0 ss) (λ i. ltb i s) ss n h q
next_section_bound ss s true n h q = first_each (λ i. i ≤ head_or 0 ss + last_or 0 ss) (λ i. ltb s i) ss n h q

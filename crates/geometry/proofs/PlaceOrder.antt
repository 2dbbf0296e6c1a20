-- The choice among the pairs of ends. Gaps and places compare as their bits in rows do, so that `better` compares one
-- number, the key, of which gap, u and v are the digits (`better_key`), and the choice has the least key
-- (`best_from_lem`).
-- So what a row shows of it does not depend on the order of the pairs (`any_order`) nor on which way a lane is turned
-- (`from_turned_shown`, `to_turned_shown`). Its gap is `gap_of` (`ends_gap`), its places lie from 0 to 1
-- (`ends_within`), and with an infinite gap both are 0 (`infinite_nought`). Only `better_key` looks into `better`.
-- Assumes nothing.
use mathlib.Core.Path.{◌≡◌, refl, sym, ap, ◌∙◌}
use mathlib.Core.Logic.{◌⊎◌, inl, inr}
use mathlib.Core.List.{List, [], ◌∷◌, ◌++◌, map, Memᴰ}
use mathlib.Core.Bool.{Bool, true, false, not, cond, ◌&&◌, ◌||◌}
use Prim.Native.Nat.{ℕ, suc, ◌+◌, ◌*◌, ◌≤◌, ◌<◌, min}
use native.Mathlib.Nat.{suc-mul, mul-le-mul_right, le_of_lt, min-eq_left, min-eq_right}
use native.Mathlib.Omega.{arith}
use lib.Dec.{T, ltb, eqb}
use lib.Ieee.{Float, nan, inf, binary32, le, is_nan, fits, to_bits}
use borrow.Author.Tests.{ltb-true, ltb-false, eqb-true, eqb-false, lt-ltb, le-ltb}
use Rattle.geometry.specs.declared.segment.Point.{Point}
use Rattle.geometry.specs.declared.segment.Closest.{Closest}
use Rattle.geometry.specs.declared.gap.Direction.{Direction}
use Rattle.geometry.specs.Segment.{nought, distance_of, closest_of}
use Rattle.geometry.specs.Gap.{min_of, least_from, exits_of, entries_of, distances_of, gap_of, flipped, swapped}
use Rattle.geometry.specs.Gap.{better, chosen_of, best_from, unmet, end_pairs, closest_ends, place_bits, Rearranged}
use Rattle.geometry.proofs.Values.{pattern_top}
use Rattle.geometry.proofs.FloatOrder.{nan_or_not, nan_lt, nan_eq}
use Rattle.geometry.proofs.GapOrder.{Each, each_pair_lem, still_each, least_by, by_rearranged, from_turned, to_turned}
use Rattle.geometry.proofs.GapOrder.{Plain, nan_pattern, by_bits, bits_min, min_plain, min_no_nan}
use Rattle.geometry.proofs.GapOrder.{distance_plain, inf_plain, inf_no_nan}
use Rattle.geometry.proofs.PlaceBits.{Stands, as_bits, stands_lt, stands_eq, place_stands}
use Rattle.geometry.proofs.PlaceBits.{place_low, nought_shown}
use Rattle.geometry.proofs.Places.{Within, PlacesWithin, places_within, places_held}

-- ---- the key of a pair
-- u and v bits as a row shows them, two digits
abbrev places_key : Closest → ℕ
places_key c = place_bits c.u * 0x1_0000_0000 + place_bits c.v

-- the gap bits before them
abbrev pub key_of : Closest → ℕ
key_of c = to_bits binary32 c.gap * 0x1_0000_0000_0000_0000 + places_key c

-- two digits are in order where the numbers are
two_digits : (base h l k m : ℕ) → l < base → m < base
    → ltb h k || (eqb h k && ltb l m) ≡ ltb (h * base + l) (k * base + m)
two_digits base h l k m l-low m-low = go (ltb h k) (eqb h k) (ltb l m) refl refl refl
  where
    rises : (h l k m : ℕ) → l < base → h < k → h * base + l < k * base + m
    rises h l k m l-low less =
        let next : suc h ≤ k = omega arith in
        omega (arith, mul-le-mul_right base next, suc-mul h base)

    go : (s t r : Bool) → ltb h k ≡ s → eqb h k ≡ t → ltb l m ≡ r
        → s || (t && r) ≡ ltb (h * base + l) (k * base + m)
    go true t r less either below = sym (lt-ltb (h * base + l) (k * base + m) (rises h l k m l-low (ltb-true h k less)))
    go false true true not-less same below =
        let level = ap (λ (n : ℕ). n * base) (eqb-true h k same) in
        sym (lt-ltb (h * base + l) (k * base + m) (omega (arith, level, ltb-true l m below)))
    go false true false not-less same not_below =
        let level = ap (λ (n : ℕ). n * base) (eqb-true h k same) in
        sym (le-ltb (h * base + l) (k * base + m) (omega (arith, level, ltb-false l m not_below)))
    go false false r not-less other below =
        let more : k < h = omega (arith, ltb-false h k not-less, eqb-false h k other) in
        sym (le-ltb (h * base + l) (k * base + m) (le_of_lt (rises k m h l m-low more)))

-- what the choice is among: a gap without a sign, places of the format, from 0 to 1 where the gap is a number
pub record Fair (c : Closest) : Type 0 where
  plain : Plain c.gap
  held : T (fits binary32 c.u) × T (fits binary32 c.v)
  within : PlacesWithin c

-- what is kept from choice to choice: the gap is a number
pub record Choice (c : Closest) : Type 0 where
  fair : Fair c
  number : T (not (is_nan c.gap))

pub pair_fair : (exit entry : List Point) → Fair (closest_of exit entry)
pair_fair exit entry =
    record { plain = distance_plain exit entry; held = places_held exit entry; within = places_within exit entry }

unmet_choice : Choice unmet
unfolding fits le
unmet_choice = record {
  fair = record { plain = inf_plain; held = (tt, tt); within = λ number. ((tt, tt), (tt, tt)) };
  number = inf_no_nan;
}

v_low : {c : Closest} → Fair c → place_bits c.v < 0x1_0000_0000
v_low {c} fair = place_low c.v fair.held.1

places_low : {c : Closest} → Fair c → places_key c < 0x1_0000_0000_0000_0000
places_low {c} fair = omega (arith, place_low c.u fair.held.0, v_low fair)

-- where the gap is a number, all three compare as their bits do
record ByBits (c : Closest) : Type 0 where
  gap : Stands c.gap (to_bits binary32 c.gap)
  u : Stands c.u (place_bits c.u)
  v : Stands c.v (place_bits c.v)

fair_stands : {c : Closest} → Fair c → T (not (is_nan c.gap)) → ByBits c
fair_stands {c} fair number =
    let within = fair.within number in
    record {
      gap = as_bits fair.plain number;
      u = place_stands c.u fair.held.0 within.0;
      v = place_stands c.v fair.held.1 within.1;
    }

module _ {a x : Closest} (choice : Choice a) (fair : Fair x) where
  -- ---- the better pair has the lower key
  pub better_key : better x a ≡ ltb (key_of x) (key_of a)
  unfolding better
  better_key = go (nan_or_not x.gap)
    where
      a_top : to_bits binary32 a.gap ≤ 0x7f80_0000
      a_top = pattern_top a.gap choice.fair.plain.held choice.fair.plain.no_sign choice.number

      go : (x.gap ≡ nan) ⊎ T (not (is_nan x.gap)) → better x a ≡ ltb (key_of x) (key_of a)
      go (inl gap-nan) =
          let nan-bits : to_bits binary32 x.gap ≡ 0x7fc0_0000 = rw gap-nan nan_pattern in
          let not_below = le-ltb (key_of x) (key_of a) (omega (arith, a_top, nan-bits, places_low choice.fair)) in
          rw (gap-nan, nan_lt, nan_eq, ← gap-nan) (sym not_below)
      go (inr number) =
          let of-x = fair_stands fair number in
          let of-a = fair_stands choice.fair choice.number in
          let gap-lt = stands_lt of-x.gap of-a.gap in
          let gap-eq = stands_eq of-x.gap of-a.gap in
          let u-lt = stands_lt of-x.u of-a.u in
          let u_eq = stands_eq of-x.u of-a.u in
          let v-lt = stands_lt of-x.v of-a.v in
          (λ i. gap-lt i || (gap-eq i && (u-lt i || (u_eq i && v-lt i))))
          ∙ rw (two_digits 0x1_0000_0000 _ _ _ _ (v_low fair) (v_low choice.fair))
          (two_digits 0x1_0000_0000_0000_0000 _ _ _ _ (places_low fair) (places_low choice.fair))

  -- ---- so the choice of two has the lower key and the lesser gap
  chosen_one : ((chosen_of a x ≡ a) × (key_of a ≤ key_of x)) ⊎ ((chosen_of a x ≡ x) × (key_of x < key_of a))
  unfolding chosen_of
  chosen_one = go (better x a) better_key
    where
      go : (t : Bool) → t ≡ ltb (key_of x) (key_of a)
          → ((cond t x a ≡ a) × (key_of a ≤ key_of x)) ⊎ ((cond t x a ≡ x) × (key_of x < key_of a))
      go true lower = inr (refl, ltb-true (key_of x) (key_of a) (sym lower))
      go false not_lower = inl (refl, ltb-false (key_of x) (key_of a) (sym not_lower))

  chosen_key : key_of (chosen_of a x) ≡ min (key_of a) (key_of x)
  chosen_key = elim chosen_one [
    | inl (is-a, up_to_lem) ↦ rw is-a (sym (min-eq_left up_to_lem))
    | inr (is_x, lower) ↦ rw is_x (sym (min-eq_right (le_of_lt lower)))
  ]

  chosen_fair : Fair (chosen_of a x)
  chosen_fair = elim chosen_one [
    | inl (is-a, up_to_lem) ↦ rw is-a choice.fair
    | inr (is_x, lower) ↦ rw is_x fair
  ]

  chosen_gap : (chosen_of a x).gap ≡ min_of a.gap x.gap
  chosen_gap =
      let same_bits : to_bits binary32 (chosen_of a x).gap ≡ min (to_bits binary32 a.gap) (to_bits binary32 x.gap) =
      omega (arith, chosen_key, places_low chosen_fair, places_low fair, places_low choice.fair) in
      by_bits _ _ chosen_fair.plain (min_plain _ _ choice.fair.plain fair.plain)
      (same_bits ∙ sym (bits_min _ _ choice.fair.plain fair.plain))

  chosen_choice : Choice (chosen_of a x)
  chosen_choice = record { fair = chosen_fair; number = rw chosen_gap (min_no_nan _ _ choice.number) }

-- ---- and the choice among a list
-- the gaps of some pairs
abbrev gaps : List Closest → List Float
gaps cs = map (λ (c : Closest). c.gap) cs

-- what is known of the choice among a and the list: its key is the least, and it is a, or a pair with a lower key
pub record Best (a : Closest) (cs : List Closest) : Type 0 where
  pub choice : Choice (best_from a cs)
  pub gap : (best_from a cs).gap ≡ least_from a.gap (gaps cs)
  pub key : key_of (best_from a cs) ≡ least_by key_of (key_of a) cs
  pub one_of : (best_from a cs ≡ a) ⊎ ((key_of (best_from a cs) < key_of a) × Memᴰ (best_from a cs) cs)

pub best_from_lem : (a : Closest) (cs : List Closest) → Choice a → Each Fair cs → Best a cs
unfolding best_from least_from
best_from_lem a [] choice fair = record { choice = choice; gap = refl; key = refl; one_of = inl refl }
best_from_lem a (x ∷ cs) choice fair =
    let rest = best_from_lem (chosen_of a x) cs (chosen_choice choice fair.0) fair.1 in
    record {
      choice = rest.choice;
      gap = rest.gap ∙ ap (λ (g : Float). least_from g (gaps cs)) (chosen_gap choice fair.0);
      key = rest.key ∙ ap (λ (k : ℕ). least_by key_of k cs) (chosen_key choice fair.0);
      one_of = from rest.one_of (chosen_one choice fair.0);
    }
  where
    from : {b : Closest}
        → (b ≡ chosen_of a x) ⊎ ((key_of b < key_of (chosen_of a x)) × Memᴰ b cs)
        → ((chosen_of a x ≡ a) × (key_of a ≤ key_of x)) ⊎ ((chosen_of a x ≡ x) × (key_of x < key_of a))
        → (b ≡ a) ⊎ ((key_of b < key_of a) × Memᴰ b (x ∷ cs))
    from (inl is-chosen) (inl (chosen-a, up_to_lem)) = inl (is-chosen ∙ chosen-a)
    from (inl is-chosen) (inr (chosen-x, lower)) =
        let is_x = is-chosen ∙ chosen-x in
        inr (rw is_x lower, Memᴰ.head is_x)
    from (inr (lower, among)) either =
        inr (omega (arith, lower, chosen_key choice fair.0), Memᴰ.tail among)

-- ---- in any order
-- the places as a row shows them
abbrev pub places_shown : Closest → ℕ × ℕ
places_shown c = (place_bits c.u, place_bits c.v)

key_shows : {c d : Closest} → Fair c → Fair d → key_of c ≡ key_of d
    → (c.gap ≡ d.gap) × (places_shown c ≡ places_shown d)
key_shows {c} {d} fair-c fair-d same =
    let same_gap : to_bits binary32 c.gap ≡ to_bits binary32 d.gap =
    omega (arith, same, places_low fair-c, places_low fair-d) in
    let same-u : place_bits c.u ≡ place_bits d.u = omega (arith, same, same_gap, v_low fair-c, v_low fair-d) in
    let same-v : place_bits c.v ≡ place_bits d.v = omega (arith, same, same_gap, same-u) in
    (by_bits _ _ fair-c.plain fair-d.plain same_gap, rw (same-u, same-v))

pub any_order : {cs ds : List Closest} → Each Fair cs → Rearranged Closest cs ds
    → ((best_from unmet cs).gap ≡ (best_from unmet ds).gap)
    × (places_shown (best_from unmet cs) ≡ places_shown (best_from unmet ds))
any_order {cs} {ds} fair order =
    let first = best_from_lem unmet cs unmet_choice fair in
    let second = best_from_lem unmet ds unmet_choice (still_each Fair order fair) in
    key_shows first.choice.fair second.choice.fair
    (first.key ∙ by_rearranged key_of (key_of unmet) order ∙ sym second.key)

-- ---- the ends of a link
pub ends_fair : (from : List (List Point)) (df : Direction) (to : List (List Point)) (dt : Direction)
    → Each Fair (end_pairs (exits_of df from) (entries_of dt to))
ends_fair from df to dt = each_pair_lem Fair closest_of pair_fair (exits_of df from) (entries_of dt to)

gaps_of_pairs : (exits entries : List (List Point)) → gaps (end_pairs exits entries) ≡ distances_of exits entries
gaps_of_pairs [] entries = refl
gaps_of_pairs (exit ∷ exits) entries = row entries (gaps_of_pairs exits entries)
  where
    row : (left : List (List Point)) → gaps (end_pairs exits entries) ≡ distances_of exits entries
        → gaps (map (closest_of exit) left ++ end_pairs exits entries)
        ≡ map (distance_of exit) left ++ distances_of exits entries
    row [] rest = rest
    row (entry ∷ left) rest = ap (λ (ds : List Float). distance_of exit entry ∷ ds) (row left rest)

module _ (from : List (List Point)) (df : Direction) (to : List (List Point)) (dt : Direction) where
  -- turned round, either lane shows the same places
  pub from_turned_shown : places_shown (closest_ends (swapped from) (flipped df) to dt)
      ≡ places_shown (closest_ends from df to dt)
  unfolding closest_ends
  from_turned_shown = (any_order (ends_fair (swapped from) (flipped df) to dt) (from_turned closest_of from to df dt)).1

  pub to_turned_shown : places_shown (closest_ends from df (swapped to) (flipped dt))
      ≡ places_shown (closest_ends from df to dt)
  unfolding closest_ends
  to_turned_shown = (any_order (ends_fair from df (swapped to) (flipped dt)) (to_turned closest_of from to df dt)).1

  pub ends_best : Best unmet (end_pairs (exits_of df from) (entries_of dt to))
  ends_best =
      best_from_lem unmet (end_pairs (exits_of df from) (entries_of dt to)) unmet_choice (ends_fair from df to dt)

  pub ends_gap : (closest_ends from df to dt).gap ≡ gap_of from df to dt
  unfolding closest_ends gap_of
  ends_gap = ends_best.gap ∙ ap (least_from (inf false)) (gaps_of_pairs (exits_of df from) (entries_of dt to))

  -- the places of the choice lie from 0 to 1, always
  pub ends_within : Within (closest_ends from df to dt).u × Within (closest_ends from df to dt).v
  unfolding closest_ends
  ends_within = ends_best.choice.fair.within ends_best.choice.number

  -- "with an infinite gap both are 0": no pair with an infinite gap is better than none
  pub infinite_nought : (closest_ends from df to dt).gap ≡ inf false
      → ((closest_ends from df to dt).u ≡ nought) × ((closest_ends from df to dt).v ≡ nought)
  unfolding closest_ends
  infinite_nought infinite = elim ends_best.one_of [
    | inl is-unmet ↦ rw is-unmet (refl, refl)
    | inr (lower, among) ↦
        let never : ⊥ = omega (arith, lower, ap (to_bits binary32) infinite, nought_shown) in
        absurd never
  ]

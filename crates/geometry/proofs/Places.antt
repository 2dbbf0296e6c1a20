-- Where a distance is a number, its two places lie from 0 to 1 (`places_within`): whatever is not clamped is tested,
-- and a place that is a NaN makes the distance one. The format holds them always (`places_held`). Assumes nothing.
use mathlib.Core.Path.{◌≡◌, refl, sym, ap, ◌∙◌, subst}
use mathlib.Core.Logic.{inl, inr}
use mathlib.Core.List.{List}
use mathlib.Core.Bool.{Bool, true, false, not, cond, ◌&&◌}
use lib.Dec.{T}
use lib.Ieee.{Float, nan, inf, fin, binary32, add, sub, mul, div, neg, lt, le, is_nan, fits}
use lib.Ieee.Fits.{div-fits}
use lib.Ieee.Bits.{is_true}
use borrow.Author.Tests.{not-true}
use Rattle.geometry.specs.declared.segment.Point.{Point}
use Rattle.geometry.specs.declared.segment.Vector.{Vector}
use Rattle.geometry.specs.declared.segment.Places.{Places}
use Rattle.geometry.specs.declared.segment.Closest.{Closest}
use Rattle.geometry.specs.Root.{root_of}
use Rattle.geometry.specs.Segment.{nought, one, epsilon, minus_of, plus_of, times_of, dot_of, clamp_of, free_place}
use Rattle.geometry.specs.Segment.{places_at, places_apart, places_of, places_for, square_at, apart_of}
use Rattle.geometry.specs.Segment.{closest_of}
use Rattle.geometry.proofs.FloatOrder.{nan_or_not, le_is}
use Rattle.geometry.proofs.SegmentLaws.{apart_root}
use Rattle.geometry.proofs.SquareOrder.{root_nan}

-- ---- from 0 to 1
abbrev pub Within : Float → Type 0
Within x = T (le nought x) × T (le x one)

numbers : T (not (is_nan nought)) × T (not (is_nan one))
unfolding is_nan
numbers = (tt, tt)

-- such a value is a number
pub within_number : (x : Float) → Within x → T (not (is_nan x))
unfolding is_nan le
within_number nan within = absurd within.0
within_number (inf s) within = tt
within_number (fin s m e) within = tt

-- it is not below 0
pub within_not_below : (x : Float) → Within x → lt x nought ≡ false
within_not_below x within =
    not-true _ (sym (le_is nought x numbers.0 (within_number x within)) ∙ is_true _ within.0)

-- a value of the format from 0 to 1, or a NaN
record Tame (x : Float) : Type 0 where
  held : T (fits binary32 x)
  within : T (not (is_nan x)) → Within x

tame_nought : Tame nought
unfolding fits le
tame_nought = record { held = tt; within = λ number. (tt, tt) }

tame_one : Tame one
unfolding fits le
tame_one = record { held = tt; within = λ number. (tt, tt) }

-- what is neither below 0 nor above 1
tame_between : (x : Float) → T (fits binary32 x) → lt x nought ≡ false → lt one x ≡ false → Tame x
tame_between x held not_below not_above = record {
  held = held;
  within = λ number.
      let at_least : le nought x ≡ true = le_is nought x numbers.0 number ∙ ap not not_below in
      let at_most : le x one ≡ true = le_is x one number numbers.1 ∙ ap not not_above in
      (subst T (sym at_least) tt, subst T (sym at_most) tt);
}

-- ---- the cases of the definitions, for any property P
module _ {A : Type 0} (P : A → Type 0) where
  either : (t : Bool) {a b : A} → P a → P b → P (cond t a b)
  either true p q = p
  either false p q = q

  between : (x : Float) {low high inside : A} → P low → P high → (lt x nought ≡ false → lt one x ≡ false → P inside)
      → P (cond (lt x nought) low (cond (lt one x) high inside))
  between x {low} {high} {inside} at_low at_high at-inside = go (lt x nought) (lt one x) refl refl
    where
      go : (s t : Bool) → lt x nought ≡ s → lt one x ≡ t → P (cond s low (cond t high inside))
      go true t below above = at_low
      go false true below above = at_high
      go false false not_below not_above = at-inside not_below not_above

-- ---- the two places
abbrev TamePlaces : Places → Type 0
TamePlaces at = Tame at.u × Tame at.v

tame_clamp : (x y : Float) → Tame (clamp_of (div binary32 x y))
unfolding clamp_of
tame_clamp x y = between Tame _ tame_nought tame_one (tame_between _ (div-fits binary32 x y))

tame_free : (a b c e f denom : Float) → Tame (free_place a b c e f denom)
unfolding free_place
tame_free a b c e f denom =
    let wide = lt (mul binary32 (mul binary32 epsilon a) e) denom in
    either Tame wide (tame_clamp _ _) tame_nought

tame_apart : (a b c e f : Float) → TamePlaces (places_apart a b c e f)
unfolding places_apart
tame_apart a b c e f =
    let denom = sub binary32 (mul binary32 a e) (mul binary32 b b) in
    let u = free_place a b c e f denom in
    let v = div binary32 (add binary32 (mul binary32 b u) f) e in
    let inside = tame_between v (div-fits binary32 (add binary32 (mul binary32 b u) f) e) in
    between TamePlaces v (tame_clamp _ _, tame_nought) (tame_clamp _ _, tame_one)
    (λ not_below not_above. (tame_free a b c e f denom, inside not_below not_above))

tame_on : (d1 d2 w : Vector) → TamePlaces (places_of d1 d2 w)
unfolding places_of
tame_on d1 d2 w =
    let first = le (dot_of d1 d1) epsilon in
    let second = le (dot_of d2 d2) epsilon in
    either TamePlaces (first && second) (tame_nought, tame_nought)
    (either TamePlaces first (tame_nought, tame_clamp _ _)
    (either TamePlaces second (tame_clamp _ _, tame_nought) (tame_apart _ _ _ _ _)))

tame_places : (p q r s : Point) → TamePlaces (places_for p q r s)
unfolding places_for
tame_places p q r s = tame_on _ _ _

-- ---- a place that is a NaN makes the distance one
mul_nan : (x : Float) → mul binary32 x nan ≡ nan
unfolding mul
mul_nan nan = refl
mul_nan (inf s) = refl
mul_nan (fin s m e) = refl

add_nan : (x : Float) → add binary32 x nan ≡ nan
unfolding add
add_nan nan = refl
add_nan (inf s) = refl
add_nan (fin s m e) = refl

nan_sub : (x : Float) → sub binary32 nan x ≡ nan
unfolding sub add
nan_sub x = refl

sub_nan : (x : Float) → sub binary32 x nan ≡ nan
unfolding sub neg
sub_nan x = add_nan x

dot_nan : (w : Vector) → w.x ≡ nan → dot_of w w ≡ nan
unfolding dot_of add mul
dot_nan w x-nan = rw x-nan

u_nan : (p q r s : Point) (v : Float) → square_at p q r s (places_at nan v) ≡ nan
unfolding square_at minus_of plus_of times_of
u_nan p q r s v = dot_nan _ (rw (mul_nan, add_nan) (nan_sub _))

v_nan : (p q r s : Point) (u : Float) → square_at p q r s (places_at u nan) ≡ nan
unfolding square_at minus_of plus_of times_of
v_nan p q r s u = dot_nan _ (rw (mul_nan, add_nan) (sub_nan _))

nan_no_number : T (not (is_nan nan)) → ⊥
unfolding is_nan
nan_no_number h = h

-- x is a number if y is, which would be a NaN with it
number_with : (x y : Float) → (x ≡ nan → root_of y ≡ nan) → T (not (is_nan (root_of y))) → T (not (is_nan x))
number_with x y with_it number = elim (nan_or_not x) [
  | inl x-nan ↦ absurd (nan_no_number (rw (with_it x-nan) at number))
  | inr x-number ↦ x-number
]

places_number : (p q r s : Point) (at : Places) → T (not (is_nan (root_of (square_at p q r s at))))
    → T (not (is_nan at.u)) × T (not (is_nan at.v))
places_number p q r s at number = (
  number_with at.u (square_at p q r s at) (λ u-is. rw (u-is, u_nan p q r s at.v, root_nan)) number,
  number_with at.v (square_at p q r s at) (λ v-is. rw (v-is, v_nan p q r s at.u, root_nan)) number,
)

-- ---- so where the distance is a number, 0 <= u <= 1 and 0 <= v <= 1
apart_within : (p q r s : Point) → T (not (is_nan (apart_of p q r s)))
    → Within (places_for p q r s).u × Within (places_for p q r s).v
apart_within p q r s number =
    let tame = tame_places p q r s in
    let numbers = places_number p q r s (places_for p q r s) (rw (apart_root p q r s) at number) in
    (tame.0.within numbers.0, tame.1.within numbers.1)

-- where its gap is a number, the places of a pair lie from 0 to 1
abbrev pub PlacesWithin : Closest → Type 0
PlacesWithin c = T (not (is_nan c.gap)) → Within c.u × Within c.v

pub places_within : (first second : List Point) → PlacesWithin (closest_of first second)
places_within first second number = apart_within _ _ _ _ number

-- and the format always holds them
pub places_held : (first second : List Point)
    → T (fits binary32 (closest_of first second).u) × T (fits binary32 (closest_of first second).v)
places_held first second = let tame = tame_places _ _ _ _ in (tame.0.held, tame.1.held)

-- What is seen of a link, and its row.
use Prim.Native.Nat.{ℕ, ◌≤◌}
use mathlib.Core.Path.{◌≡◌, sym, ◌∙◌, subst}
use mathlib.Core.List.{List, []}
use mathlib.Core.Bool.{Bool, true, false, not, cond, true≢false}
use native.Mathlib.Omega.{arith}
use lib.Dec.{T}
use lib.ListN.{length}
use lib.Ieee.{Float, is_nan, le}
use Rattle.std.specs.Option.{is_some}
use Rattle.geometry.specs.Gap.{closest_ends, decision_of, row_bits, seen_of, tolerance}
use Rattle.std.specs.Prelude.{Option, None, Some}
use Rattle.geometry.specs.declared.gap.Decision.{Decision}
use Rattle.geometry.specs.declared.gap.Decision.TheVariants.{Passed, Wide}
use Rattle.geometry.specs.declared.gap.Direction.{Direction}
use Rattle.geometry.specs.declared.gap.Seen.{Seen}
use Rattle.geometry.specs.declared.segment.Point.{Point}
use Rattle.geometry.proofs.Promises.{gap_never_nan, gap_of_choice, places_are_numbers}
use Rattle.model.specs.Calls.{gap_width}
use Rattle.gaps.specs.Lent.{Gives}
use Rattle.gaps.specs.Links.{Numbers, is_number, row_of, row_with}

-- ---- what is seen has bits
decision_number : (g : Float) → T (not (is_nan g)) → T (is_number (decision_of g))
decision_number g h = go (le g tolerance)
  where
    go : (b : Bool) → T (is_number (cond b Passed (Wide g)))
    go true = tt
    go false = h

ends_numbers : (from : List (List Point)) (leaves : Direction) (to : List (List Point)) (enters : Direction)
    → Numbers (seen_of (closest_ends from leaves to enters))
ends_numbers from leaves to enters =
    let places = places_are_numbers from leaves to enters in
    let gap-number = rw (sym (gap_of_choice from leaves to enters)) at (gap_never_nan from leaves to enters) in
    record { width = decision_number _ gap-number; u = places.0; v = places.1 }

-- what is seen of a link, from what is read of its two lanes
pub link_seen : {s : Seen} {a b c d : List (List Point)} {p q r t : Direction} → s ≡ seen_of (closest_ends a p c q)
    → a ≡ b → p ≡ r → c ≡ d → q ≡ t → (s ≡ seen_of (closest_ends b r d t)) × Numbers s
link_seen {s} {a} {b} {c} {d} {p} {q} {r} {t} seen from leaves to enters =
    let same : s ≡ seen_of (closest_ends b r d t) =
    seen ∙ (λ i. seen_of (closest_ends (from i) (leaves i) (to i) (enters i))) in
    (same, subst Numbers (sym same) (ends_numbers b r d t))

pub wide_number : {s : Seen} {w : Float} → s.decision ≡ Wide w → Numbers s → T (not (is_nan w))
wide_number wide numbers = subst (λ (d : Decision). T (is_number d)) wide numbers.width

-- ---- its row
-- what is given has the words of one row, or none
pub gives_some : (r : Option (List ℕ)) (ws : List ℕ) {b : Bool} → b ≡ is_some r → b ≡ true → Gives r ws
    → length ws ≡ gap_width
gives_some None ws is some given = absurd (true≢false (sym some ∙ is))
gives_some (Some row) ws is some given = given.1

pub gives_none : (r : Option (List ℕ)) (ws : List ℕ) {b : Bool} → b ≡ is_some r → b ≡ false → Gives r ws → ws ≡ []
gives_none None ws is none given = given
gives_none (Some row) ws is none given = absurd (true≢false (sym is ∙ none))

pub row_most : (lane next : ℕ) (s : Seen) → length (row_of lane next s) ≤ gap_width
row_most lane next s = go s.decision
  where
    go : (d : Decision) → length (row_with lane next s.u s.v (row_bits d)) ≤ gap_width
    go Passed = omega arith
    go (Wide w) = omega arith

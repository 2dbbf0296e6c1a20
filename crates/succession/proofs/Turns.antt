-- What the code reads, case by case, as the entries that it stands for.
use Prim.Native.Nat.{ℕ, suc, ◌+◌, ◌-◌, ◌*◌, ◌<◌, ◌≤◌}
use mathlib.Core.Path.{◌≡◌, sym, ap, ap₂, ◌∙◌}
use mathlib.Core.Bool.{Bool, true, false, not}
use mathlib.Core.Option.{Option, none, some}
use mathlib.Core.List.{List}
use native.Mathlib.Nat.{not-suc-le-zero}
use native.Mathlib.Omega.{arith}
use lib.ListN.{length, get_or, length-append}
use Rattle.geometry.specs.declared.gap.Direction.{Direction}
use Rattle.geometry.specs.declared.gap.Direction.TheVariants.{Backward, Both, Forward}
use Rattle.model.specs.Lists.{pick}
use Rattle.model.specs.Succession.{next_section, Entry}
use Rattle.rules.specs.ByRow.{numbers_at}
use Rattle.succession.specs.ByRow.{Room, Rows, cross_by_row, direction_at, exits_at_row, exits_by_row, exits_from_row}
use Rattle.succession.specs.ByRow.{link_by_row, own_exits_by_row, own_exits_from_row, step_by_row}

-- ---- off a lane at one end
module _ (R : Rows) (l : ℕ) (e : Bool) (w : ℕ) (link o : Option ℕ) (own : w ≡ get_or R.owner l 0)
    (known : 0 < w) (at : link ≡ link_by_row R.lanes l e)
    (next : o ≡ next_section (numbers_at R.roads R.sections (w - 1)) (get_or R.lanes (l * 10 + 3) 0) e) where
  exits_cases : exits_by_row R l e ≡ exits_from_row R l (w - 1) e link o
  unfolding exits_by_row
  exits_cases =
      ap (exits_at_row R l e) (sym own ∙ (let q : w ≡ suc (w - 1) = omega arith in q))
      ∙ ap₂ (λ (k p : Option ℕ). exits_from_row R l (w - 1) e k p) (sym at) (sym next)

  pub exits_within : (s : ℕ) → o ≡ some s → (f : Bool) → f ≡ not e
      → exits_by_row R l e ≡ step_by_row R.lanes R.owner l s link f
  exits_within s p f g =
      exits_cases
      ∙ ap (exits_from_row R l (w - 1) e link) p
      ∙ ap (λ (b : Bool). step_by_row R.lanes R.owner l s link b) (sym g)

  pub exits_past : o ≡ none
      → exits_by_row R l e
      ≡ cross_by_row R l (pick e ((w - 1) * 20 + 4) ((w - 1) * 20 + 11))
      (pick e (get_or R.ends ((w - 1) * 2) 0) (get_or R.ends ((w - 1) * 2 + 1) 0)) link
  exits_past p = exits_cases ∙ ap (exits_from_row R l (w - 1) e link) p

-- ---- a lane's own list
module _ (R : Rows) (l : ℕ) where
  pub own_most : length (own_exits_by_row R l) ≤ length (exits_by_row R l true) + length (exits_by_row R l false)
  unfolding own_exits_by_row
  own_most = go (direction_at R.lanes l)
    where
      go : (d : Direction)
          → length (own_exits_from_row R l d) ≤ length (exits_by_row R l true) + length (exits_by_row R l false)
      go Forward = omega arith
      go Backward = omega arith
      go Both = omega (arith, length-append (exits_by_row R l true) (exits_by_row R l false))

  -- an empty run has room for it
  pub room_own : {old : List ℕ} → length (exits_by_row R l true) + length (exits_by_row R l false) ≤ length old
      → Room 0 (own_exits_by_row R l) old
  room_own h = record { rising = λ i j a b. absurd (not-suc-le-zero b); fits = omega (arith, own_most) }

pub room_none : (es : List Entry) (old : List ℕ) → length es ≤ length old → Room 0 es old
room_none es old h = record { rising = λ i j a b. absurd (not-suc-le-zero b); fits = omega arith }

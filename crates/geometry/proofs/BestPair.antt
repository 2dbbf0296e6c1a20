-- THE BEST PAIR: the choice is one of the pairs, or none (`ends_one_of`), and no pair is better (`ends_none_better`).
-- Assumes nothing.
use mathlib.Core.Path.{◌≡◌, ◌∙◌}
use mathlib.Core.Logic.{◌⊎◌, inl, inr}
use mathlib.Core.List.{List, [], ◌∷◌, Memᴰ}
use mathlib.Core.Bool.{false}
use Prim.Native.Nat.{ℕ, ◌≤◌, min}
use native.Mathlib.Nat.{le_refl}
use native.Mathlib.Omega.{arith}
use borrow.Author.Tests.{le-ltb}
use Rattle.geometry.specs.declared.segment.Point.{Point}
use Rattle.geometry.specs.declared.segment.Closest.{Closest}
use Rattle.geometry.specs.declared.gap.Direction.{Direction}
use Rattle.geometry.specs.Gap.{exits_of, entries_of, better, unmet, end_pairs, closest_ends}
use Rattle.geometry.proofs.GapOrder.{Each, least_by}
use Rattle.geometry.proofs.PlaceOrder.{Fair, Choice, key_of, better_key, ends_fair, ends_best}

-- no pair of the list is better than c
abbrev pub NoneBetter : Closest → List Closest → Type 0
NoneBetter c pairs = Each (λ (x : Closest). better x c ≡ false) pairs

least_most : (k : ℕ) (cs : List Closest) → least_by key_of k cs ≤ k
least_most k [] = le_refl k
least_most k (x ∷ cs) = omega (arith, least_most (min k (key_of x)) cs)

none_better : {c : Closest} (k : ℕ) (cs : List Closest) → Choice c → Each Fair cs → key_of c ≡ least_by key_of k cs
    → NoneBetter c cs
none_better k [] choice fair least = tt
none_better {c} k (x ∷ cs) choice fair least =
    let low : key_of c ≤ key_of x = omega (arith, least, least_most (min k (key_of x)) cs) in
    (better_key choice fair.0 ∙ le-ltb _ _ low, none_better (min k (key_of x)) cs choice fair.1 least)

module _ (from : List (List Point)) (df : Direction) (to : List (List Point)) (dt : Direction) where
  pub ends_one_of : (closest_ends from df to dt ≡ unmet)
      ⊎ Memᴰ (closest_ends from df to dt) (end_pairs (exits_of df from) (entries_of dt to))
  unfolding closest_ends
  ends_one_of = elim (ends_best from df to dt).one_of [
    | inl is-unmet ↦ inl is-unmet
    | inr (lower, among) ↦ inr among
  ]

  pub ends_none_better : NoneBetter (closest_ends from df to dt) (end_pairs (exits_of df from) (entries_of dt to))
  unfolding closest_ends
  ends_none_better =
      let best = ends_best from df to dt in
      none_better (key_of unmet) (end_pairs (exits_of df from) (entries_of dt to))
      best.choice (ends_fair from df to dt) best.key

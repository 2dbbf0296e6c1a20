-- The notions that the laws are stated with: what a map must be for its reversal to mean anything, sets of
-- roads as tests on names, and a map with its edges.
use mathlib.Core.Path.{◌≡◌}
use mathlib.Core.Bool.{Bool, true, false, not, ◌&&◌, ◌||◌}
use mathlib.Core.List.{List, [], ◌∷◌, map}
use Prim.Native.Nat.{ℕ, ◌<◌}
use lib.Dec.{leb}
use Rattle.model.specs.Lists.{◌⊕◌, every, member}
use Rattle.model.specs.Records.{EdgedLane, Junction, Lane, Map, Road, Span}
use Rattle.model.specs.Reversal.{reverse_edged, reverse_map}
use Rattle.model.specs.Rules.{is_direct, names_twice, pair_fine}
use Rattle.model.specs.Succession.{sections_of}

-- P of every element
abbrev pub Each : {A : Type 0} → (A → Type 0) → List A → Type 0
Each P [] = Unit {0}
Each P (x ∷ xs) = P x × Each P xs

-- strictly ascending, as a fact
abbrev pub Ascends : List ℕ → Type 0
Ascends [] = Unit {0}
Ascends (x ∷ xs) = Each (λ y. x < y) xs × Ascends xs

-- names are the same as an equivalence
pub record Alike (same : Span → Span → Bool) : Type 0 where
  pub same_refl : (a : Span) → same a a ≡ true
  pub same_sym : (a b : Span) → same a b ≡ true → same b a ≡ true
  pub same_trans : (a b c : Span) → same a b ≡ true → same b c ≡ true → same a c ≡ true

-- a set of road names: the same names are both in it or both out
abbrev pub Steady : (Span → Span → Bool) → (Span → Bool) → Type 0
Steady same mk = (a b : Span) → same a b ≡ true → mk a ≡ mk b

abbrev pub Placed : (Span → Span → Bool) → List Road → Lane → Type 0
Placed same rs l = member l.section (sections_of same rs l.road) ≡ true

pub record Valid (same : Span → Span → Bool) (m : Map) : Type 0 where
  pub ascending : Each (λ r. Ascends r.sections) m.roads
  pub placed : Each (Placed same m.roads) m.lanes

-- no marked road names junction j at both ends
abbrev pub Single : (Span → Span → Bool) → (Span → Bool) → List Road → Span → Type 0
Single same mk rs j = Each (λ r. mk r.name ≡ true → names_twice same j r ≡ false) rs

-- no marked road names one direct junction at both ends
abbrev pub Reversible : (Span → Span → Bool) → (Span → Bool) → Map → Type 0
Reversible same mk m = Each (λ j. is_direct j.kind ≡ true → Single same mk m.roads j.name) m.junctions

-- the same, as a test by junctions
unfoldable pub none_twice : (Span → Span → Bool) → (Span → Bool) → Map → Bool
none_twice same mk m =
    every
    (λ j. not (is_direct j.kind) || every (λ r. not (mk r.name && names_twice same j.name r)) m.roads)
    m.junctions

-- rule 13 on the pairs of a junction
unfoldable pub junction_fine : Junction → Bool
junction_fine j = every (λ c. every pair_fine c.pairs) j.connections

-- one mark for each road, 0 or 1, road by road
abbrev pub mark_for : List Road → List ℕ → Bool
mark_for [] [] = true
mark_for [] (k ∷ ks) = false
mark_for (r ∷ rs) [] = false
mark_for (r ∷ rs) (k ∷ ks) = leb k 1 && mark_for rs ks

-- a set of roads after a reversal: each marked road goes in, or out if it is there
unfoldable pub toggled : (Span → Bool) → (Span → Bool) → Span → Bool
toggled s t n = s n ⊕ t n

-- the empty set
unfoldable pub nobody : Span → Bool
nobody n = false

-- a map, and its lanes with their edges
pub record Model : Type 0 where
  pub map : Map
  pub edged : List EdgedLane

-- and reversed
unfoldable pub reverse_model : (Span → Span → Bool) → (Span → Bool) → Model → Model
reverse_model same mk x =
    record { map = reverse_map same mk x.map; edged = map (reverse_edged same mk x.map.roads) x.edged }

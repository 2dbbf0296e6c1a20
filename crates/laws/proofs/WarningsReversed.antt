-- Repair's warnings on the reversed map: the same, but for the end of a marked road.
use mathlib.Core.Path.{◌≡◌, refl, sym, ◌∙◌, ap, ap₂}
use mathlib.Core.Bool.{Bool}
use mathlib.Core.Option.{Option, none, some}
use mathlib.Core.List.{List, [], ◌∷◌, ◌++◌, map, map-append}
use Prim.Native.Nat.{ℕ, suc}
use Rattle.model.specs.Lists.{◌⊕◌, list_o, map_o}
use Rattle.model.specs.Records.{Connection, Junction, JunctionKind, Map, Road, Span, common, direct, virtual}
use Rattle.model.specs.Repair.{missing_end, missing_link, repair_roads, start_roads, warn_after, warn_all, warn_one}
use Rattle.model.specs.Repair.{warn_over, warnings}
use Rattle.model.specs.Reversal.{reverse_connection, reverse_junction, reverse_map, reverse_warning}
use Rattle.laws.proofs.RepairReversed.{AsReversed, missing_end_both, missing_link_both, repair_roads_both}
use Rattle.laws.proofs.RepairReversed.{start_roads_both}
use Rattle.laws.proofs.Valid.{Alike, Steady}

module _ (same : Span → Span → Bool) (A : Alike same) (mk : Span → Bool) (S : Steady same mk) where
  one_both : (i : ℕ) (j : Span) (c : Connection) (rs turned : List Road) → AsReversed same A mk S rs turned
      → warn_one same i j (reverse_connection mk c) turned ≡ map (reverse_warning mk) (warn_one same i j c rs)
  unfolding warn_one reverse_connection reverse_warning
  one_both i j c rs turned T =
      ap (λ o. list_o o (λ e. record { junction_row = i; road = c.incoming; at_end = e } ∷ []))
      (missing_end_both same A mk S rs turned j c T)
      ∙ go (missing_end same rs j c)
    where
      go : (o : Option Bool)
          → list_o (map_o (λ e. mk c.incoming ⊕ e) o)
          (λ e. record { junction_row = i; road = c.incoming; at_end = e } ∷ [])
          ≡ map (reverse_warning mk)
          (list_o o (λ e. record { junction_row = i; road = c.incoming; at_end = e } ∷ []))
      go none = refl
      go (some e) = refl

  all_both : (i : ℕ) (j : Span) (cs : List Connection) (rs turned : List Road) → AsReversed same A mk S rs turned
      → warn_all same i j (map (reverse_connection mk) cs) turned ≡ map (reverse_warning mk) (warn_all same i j cs rs)
  all_both i j [] rs turned T = refl
  all_both i j (c ∷ cs) rs turned T =
      ap₂ (λ x y. x ++ y) (one_both i j c rs turned T)
      (all_both i j cs (missing_link same j c rs) (missing_link same j (reverse_connection mk c) turned)
      (missing_link_both same A mk S rs turned j c T))
      ∙ sym (map-append (reverse_warning mk) (warn_one same i j c rs) (warn_all same i j cs (missing_link same j c rs)))

  over_both : (i : ℕ) (js : List Junction) (rs turned : List Road) → AsReversed same A mk S rs turned
      → warn_over same i (map (reverse_junction mk) js) turned ≡ map (reverse_warning mk) (warn_over same i js rs)
  unfolding reverse_junction
  over_both i [] rs turned T = refl
  over_both i (j ∷ js) rs turned T =
      ap₂ (λ x y. x ++ y) (go j.kind)
      (over_both (suc i) js (repair_roads same j rs) (repair_roads same (reverse_junction mk j) turned)
      (repair_roads_both same A mk S j rs turned T))
      ∙ sym (map-append (reverse_warning mk) (warn_after same i j.kind j.name j.connections rs)
      (warn_over same (suc i) js (repair_roads same j rs)))
    where
      go : (k : JunctionKind)
          → warn_after same i k j.name (map (reverse_connection mk) j.connections) turned
          ≡ map (reverse_warning mk) (warn_after same i k j.name j.connections rs)
      go common = all_both i j.name j.connections rs turned T
      go direct = refl
      go virtual = refl

  -- all warnings, in the order of repair
  pub warnings_reversed : (m : Map) → warnings same (reverse_map same mk m) ≡ map (reverse_warning mk) (warnings same m)
  unfolding warnings
  warnings_reversed m =
      unfold reverse_map in over_both 0 m.junctions (start_roads same m)
      (start_roads same (reverse_map same mk m)) (start_roads_both same A mk S m)

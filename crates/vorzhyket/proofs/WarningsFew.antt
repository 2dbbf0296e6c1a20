-- Repair warns at most once for each connection.
use mathlib.Core.Option.{Option, none, some}
use mathlib.Core.Bool.{Bool}
use mathlib.Core.List.{List, [], ◌∷◌}
use Prim.Native.Nat.{ℕ, suc, ◌≤◌}
use native.Mathlib.Omega.{arith}
use lib.ListN.{length, length-append}
use Rattle.model.specs.Lists.{gather, list_o}
use Rattle.model.specs.Records.{Connection, Junction, JunctionKind, Map, Road, Span, common, direct, virtual}
use Rattle.model.specs.Repair.{Warning, connections_after, junctions_over, missing_end, missing_link, repair}
use Rattle.model.specs.Repair.{repair_junction, repair_roads, start_roads, warn_after, warn_all, warn_one, warn_over}
use Rattle.model.specs.Repair.{warnings}
use Rattle.model.specs.Tables.{all_connections}

module _ (same : Span → Span → Bool) where
  one_few : (i : ℕ) (j : Span) (c : Connection) (rs : List Road) → length (warn_one same i j c rs) ≤ 1
  unfolding warn_one
  one_few i j c rs = go (missing_end same rs j c)
    where
      made : Bool → Warning
      made e = record { junction_row = i; road = c.incoming; at_end = e }

      go : (o : Option Bool) → length (list_o o (λ e. made e ∷ [])) ≤ 1
      go none = omega arith
      go (some e) = omega arith

  all_few : (i : ℕ) (j : Span) (cs : List Connection) (rs : List Road) → length (warn_all same i j cs rs) ≤ length cs
  all_few i j [] rs = omega arith
  all_few i j (c ∷ cs) rs =
      let joined = length-append (warn_one same i j c rs) (warn_all same i j cs (missing_link same j c rs)) in
      omega (arith, one_few i j c rs, all_few i j cs (missing_link same j c rs))

  after_few : (i : ℕ) (k : JunctionKind) (j : Span) (cs : List Connection) (rs : List Road)
      → length (warn_after same i k j cs rs) ≤ length (connections_after same k j cs rs)
  after_few i common j cs rs = all_few i j cs rs
  after_few i direct j cs rs = omega arith
  after_few i virtual j cs rs = omega arith

  over_few : (i : ℕ) (js : List Junction) (rs : List Road)
      → length (warn_over same i js rs) ≤ length (all_connections (junctions_over same js rs))
  unfolding all_connections repair_junction
  over_few i [] rs = omega arith
  over_few i (j ∷ js) rs =
      let after = repair_roads same j rs in
      let here = connections_after same j.kind j.name j.connections rs in
      let rest = gather (λ (j : Junction). j.connections) (junctions_over same js after) in
      let warned =
      length-append (warn_after same i j.kind j.name j.connections rs) (warn_over same (suc i) js after) in
      let kept = length-append here rest in
      omega (arith, after_few i j.kind j.name j.connections rs, over_few (suc i) js after)

  pub warnings_few : (m : Map) → length (warnings same m) ≤ length (all_connections (repair same m).junctions)
  unfolding warnings repair
  warnings_few m = over_few 0 m.junctions (start_roads same m)

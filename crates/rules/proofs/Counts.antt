-- What rule 1 says of the tables' counts.
use Prim.Native.Nat.{ℕ, ◌/◌, ◌≤◌, ◌*◌}
use mathlib.Core.Path.{◌≡◌, subst}
use mathlib.Core.Bool.{true, Bool}
use native.Mathlib.Nat.{div-le_of_le-mul, mul_comm, mul-le-mul}
use native.Mathlib.Omega.{arith}
use lib.ListN.{length}
use Rattle.model.specs.Rules.{lanes_sized, map_sized, sized}
use Rattle.model.specs.Tables.{Tables}
use Rattle.laws.proofs.Admitted.{sized_most, sizes_of_lem}
use Rattle.rules.specs.ByRow.{Few}
use mathlib.Core.List.{List}
use lib.Ieee.{Float}

-- ---- 1
pub sized_few : (w most n : ℕ) → sized w most n ≡ true → n / w ≤ most
sized_few w most n e = div-le_of_le-mul w (subst (λ (k : ℕ). n ≤ k) (mul_comm most w) (sized_most w most n e))

-- rule 1 of lanes and of edges
abbrev pub sized10 : List ℕ → Bool
sized10 lanes = sized 10 16384 (length lanes)

abbrev pub sized12 : List Float → Bool
sized12 edges = sized 12 16384 (length edges)

pub small : (a b : ℕ) → a ≤ 131072 → b ≤ 20 → a * b ≤ 2621440
small a b h l = mul-le-mul h l

pub few : (most : ℕ) (t : Tables) → most ≤ 16384 → map_sized most t ≡ true
    → Few t.roads t.sections t.connections t.pairs
few most t m e =
    let each = sizes_of_lem most t e in
    let sections_low = sized_most 1 16384 (length t.sections) each.2 in
    let connections_low = sized_few 7 most (length t.connections) each.4 in
    let pairs_low = sized_few 2 most (length t.pairs) each.5 in
    record {
      few_roads = sized_few 20 16384 (length t.roads) each.1;
      few_sections = omega arith;
      few_connections = omega arith;
      few_pairs = omega arith;
    }

pub lanes_few : (t : Tables) → lanes_sized t ≡ true → length t.lanes / 10 ≤ 16384
unfolding lanes_sized
lanes_few t e = sized_few 10 16384 (length t.lanes) e

pub junctions_few : (most : ℕ) (t : Tables) → map_sized most t ≡ true → length t.junctions / 5 ≤ 16384
junctions_few most t e = sized_few 5 16384 (length t.junctions) (sizes_of_lem most t e).3

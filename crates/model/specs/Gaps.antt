-- "Gap check": the lane links whose ends do not meet. The distance and its places, the ends where a lane is left and
-- entered, the choice among them and the decision are the geometry's. Definitions only.
use Rattle.std.proofs.Math.Option.{Option, none, some}
use Rattle.std.specs.Prelude.{cond, List, [], ◌∷◌, ◌++◌, map, ℕ, suc, eqb, Float}
use Rattle.geometry.specs.declared.segment.Point.{Point}
use Rattle.geometry.specs.Edges.{point_at}
use Rattle.geometry.specs.declared.segment.Closest.{Closest}
use Rattle.geometry.specs.Gap.{gap_of, decision_of, row_bits, closest_ends, place_bits}
use Rattle.model.specs.Lists.{gather, list_o}
use Rattle.model.specs.Records.{EdgedLane}

-- "A row (lane row, successor row, gap bits)", and the bits of u and v
pub record GapRow : Type 0 where
  pub lane_row : ℕ
  pub next_row : ℕ
  pub gap : ℕ
  pub u : ℕ
  pub v : ℕ

-- the two points of an end, by its six coordinates
abbrev pub points_of : List Float → List Point
points_of e = point_at e 0 ∷ point_at e 3 ∷ []

-- a lane's two ends, start and end, as two pairs of points
abbrev pub ends_of : EdgedLane → List (List Point)
ends_of x = points_of x.at_start ∷ points_of x.at_end ∷ []

-- the gap from lane a's exits to lane b's entries
unfoldable pub gap_between : EdgedLane → EdgedLane → Float
gap_between a b = gap_of (ends_of a) a.lane.direction (ends_of b) b.lane.direction

-- where they come closest
unfoldable pub closest_between : EdgedLane → EdgedLane → Closest
closest_between a b = closest_ends (ends_of a) a.lane.direction (ends_of b) b.lane.direction

-- the row and the lane of an identity, counted from row i
abbrev pub row_of_identity : ℕ → ℕ → List EdgedLane → Option (ℕ × EdgedLane)
row_of_identity n i [] = none
row_of_identity n i (x ∷ xs) = cond (eqb x.lane.identity n) (some (i, x)) (row_of_identity n (suc i) xs)

-- "is written unless gap <= 0.1f32": the row of a link from lane a in row i to lane b, if its gap is wide
unfoldable pub gap_row : ℕ → EdgedLane → ℕ × EdgedLane → List GapRow
gap_row i a b =
    let at = closest_between a b.1 in
    map (λ g. record { lane_row = i; next_row = b.0; gap = g; u = place_bits at.u; v = place_bits at.v })
    (row_bits (decision_of (gap_between a b.1)))

-- the lanes from row i on, each with its successors
abbrev pub gaps_from : List EdgedLane → ℕ → List EdgedLane → List (List ℕ) → List GapRow
gaps_from ls i [] ns = []
gaps_from ls i (a ∷ more) [] = []
gaps_from ls i (a ∷ more) (n ∷ ns) =
    gather (λ k. list_o (row_of_identity k 0 ls) (gap_row i a)) n ++ gaps_from ls (suc i) more ns

-- THE GAP ROWS of the lanes, each with its list of successors: "lanes in row order, successors in list order,
-- duplicates again"
unfoldable pub link_gaps : List EdgedLane → List (List ℕ) → List GapRow
link_gaps ls ns = gaps_from ls 0 ls ns

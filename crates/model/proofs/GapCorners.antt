-- Corner cases of the gap check, each worked out by antt.
use mathlib.Core.Path.{◌≡◌, refl}
use mathlib.Core.Bool.{false}
use mathlib.Core.Option.{none}
use mathlib.Core.List.{List, [], ◌∷◌}
use Prim.Native.Nat.{ℕ}
use lib.Ieee.{Float, binary32, inf, to_bits}
use Rattle.geometry.specs.declared.segment.Closest.{Closest}
use Rattle.geometry.specs.declared.gap.Direction.{Direction}
use Rattle.geometry.specs.declared.gap.Direction.TheVariants.{Backward, Both, Forward}
use Rattle.geometry.specs.Segment.{closest_of, distance_of}
use Rattle.model.specs.Gaps.{GapRow, closest_between, gap_between, points_of}
use Rattle.model.specs.Records.{EdgedLane}
use Rattle.model.proofs.CardMaps.{a, bits, end_at, lane}
use Rattle.model.proofs.Computed.{gap_rows}

-- a lane whose start lies at one point (x, 0, 0) and its end at another, by the bits of x
abbrev along : ℕ → Direction → ℕ → ℕ → EdgedLane
along identity direction start end =
    record { lane = lane identity a 0 1 direction none; at_start = end_at start; at_end = end_at end }

-- a row of lanes whose ends are points: both places are 0
abbrev row : ℕ → ℕ → ℕ → GapRow
row lane_row next_row gap = record { lane_row = lane_row; next_row = next_row; gap = gap; u = 0; v = 0 }

-- bits of 0, 1, 2, 4, 6 and 10, and of a NaN
abbrev at0 : ℕ
at0 = 0

abbrev at1 : ℕ
at1 = 0x3f80_0000

abbrev at2 : ℕ
at2 = 0x4000_0000

abbrev at4 : ℕ
at4 = 0x4080_0000

abbrev at6 : ℕ
at6 = 0x40c0_0000

abbrev at10 : ℕ
at10 = 0x4120_0000

abbrev at_nan : ℕ
at_nan = 0x7fc0_0000

-- the gap rows of two lanes, 7 from 0 to 4 and 9 from 6 to 10, where 7 leads into 9
abbrev between : Direction → Direction → List GapRow
between from to = gap_rows (along 7 from at0 at4 ∷ along 9 to at6 at10 ∷ []) ((9 ∷ []) ∷ [] ∷ [])

-- "Exits: a forward lane at its end, a backward lane at its start .. entries the opposite"
pub exits_and_entries : (between Forward Forward ≡ row 0 1 at2 ∷ []) × (between Backward Forward ≡ row 0 1 at6 ∷ [])
    × (between Forward Backward ≡ row 0 1 at6 ∷ []) × (between Backward Backward ≡ row 0 1 at10 ∷ [])
unfolding gap_rows
exits_and_entries = (refl, refl, refl, refl)

-- "a two-way lane at both .. The gap is the least of the one to four distances"
pub least_of_both_ends : (between Both Forward ≡ row 0 1 at2 ∷ [])
    × (between Both Backward ≡ row 0 1 at6 ∷ [])
    × (between Backward Both ≡ row 0 1 at6 ∷ [])
    × (between Both Both ≡ row 0 1 at2 ∷ [])
    × (gap_rows (along 7 Both at0 at4 ∷ along 9 Forward at1 at10 ∷ []) ((9 ∷ []) ∷ [] ∷ []) ≡ row 0 1 at1 ∷ [])
unfolding gap_rows
least_of_both_ends = (refl, refl, refl, refl, refl)

-- "infinity if all are NaN": the gap is infinite, and a row is written with its bits
pub all_nan : (gap_between (along 7 Forward at0 at_nan) (along 9 Forward at0 at4) ≡ inf false)
    × (gap_rows (along 7 Forward at0 at_nan ∷ along 9 Forward at0 at4 ∷ []) ((9 ∷ []) ∷ [] ∷ [])
    ≡ row 0 1 0x7f80_0000 ∷ [])
    × (gap_rows (along 7 Both at_nan at_nan ∷ along 9 Both at0 at4 ∷ []) ((9 ∷ []) ∷ [] ∷ []) ≡ row 0 1 0x7f80_0000
    ∷ [])
unfolding gap_rows
all_nan = (refl, refl, refl)

-- "NaN ignored": of a two-way lane's ends the other one counts
pub nan_ignored : (gap_rows (along 7 Both at4 at_nan ∷ along 9 Forward at6 at10 ∷ []) ((9 ∷ []) ∷ [] ∷ [])
    ≡ row 0 1 at2 ∷ [])
    × (gap_rows (along 7 Both at_nan at6 ∷ along 9 Forward at6 at10 ∷ []) ((9 ∷ []) ∷ [] ∷ []) ≡ [])
unfolding gap_rows
nan_ignored = (refl, refl)

-- "A row .. is written unless gap <= 0.1f32": that number itself gives none, the next one does, and so does infinity
pub tolerance : (gap_rows (along 7 Forward at0 at0 ∷ along 9 Forward 0x3dcc_cccd at4 ∷ []) ((9 ∷ []) ∷ [] ∷ []) ≡ [])
    × (gap_rows (along 7 Forward at0 at0 ∷ along 9 Forward 0x3dcc_ccce at4 ∷ []) ((9 ∷ []) ∷ [] ∷ [])
    ≡ row 0 1 0x3dcc_ccce ∷ [])
    × (gap_rows (along 7 Forward at0 at0 ∷ along 9 Forward 0x7f80_0000 at4 ∷ []) ((9 ∷ []) ∷ [] ∷ [])
    ≡ row 0 1 0x7f80_0000 ∷ [])
unfolding gap_rows
tolerance = (refl, refl, refl)

-- "lanes in row order, successors in list order, duplicates again": 7 leads to 9 twice and to 8, 8 to itself and to 7
pub rows_in_order : gap_rows (along 7 Forward at0 at0 ∷ along 8 Forward at2 at0 ∷ along 9 Forward at4 at4 ∷ [])
    ((9 ∷ 9 ∷ 8 ∷ []) ∷ (8 ∷ 7 ∷ []) ∷ [] ∷ [])
    ≡ row 0 2 at4 ∷ row 0 2 at4 ∷ row 0 1 at2 ∷ row 1 1 at2 ∷ []
unfolding gap_rows
rows_in_order = refl

-- ---- where along the two edges they come closest
-- an end of a lane, by the bits of its two points
abbrev edge : (x y z x' y' z' : ℕ) → List Float
edge x y z x' y' z' = bits x ∷ bits y ∷ bits z ∷ bits x' ∷ bits y' ∷ bits z' ∷ []

abbrev edged : ℕ → Direction → (start end : List Float) → EdgedLane
edged identity direction start end =
    record { lane = lane identity a 0 1 direction none; at_start = start; at_end = end }

-- bits of 1/4, 1/2, 4096, 2 to the power 64, -0, -1 and -2
abbrev quarter : ℕ
quarter = 0x3e80_0000

abbrev half : ℕ
half = 0x3f00_0000

abbrev at4096 : ℕ
at4096 = 0x4580_0000

abbrev huge : ℕ
huge = 0x5f80_0000

abbrev at_minus0 : ℕ
at_minus0 = 0x8000_0000

abbrev at_minus1 : ℕ
at_minus1 = 0xbf80_0000

abbrev at_minus2 : ℕ
at_minus2 = 0xc000_0000

-- an end that lies nowhere; (0,0,0)-(0,2,0); and one that runs on 1 beside its middle
abbrev unsurveyed : List Float
unsurveyed = end_at at_nan

abbrev upright : List Float
upright = edge at0 at0 at0 at0 at2 at0

abbrev middle : List Float
middle = edge at1 at1 at0 at1 at2 at0

-- the gap rows of two lanes, given by direction, start and end, where the first leads into the second
abbrev link : (from : Direction) (from_start from_end : List Float) (to : Direction) (to_start to_end : List Float)
    → List GapRow
link from from_start from_end to to_start to_end =
    gap_rows (edged 7 from from_start from_end ∷ edged 9 to to_start to_end ∷ []) ((9 ∷ []) ∷ [] ∷ [])

-- their one row
abbrev shown : (gap u v : ℕ) → List GapRow
shown gap u v = record { lane_row = 0; next_row = 1; gap = gap; u = u; v = v } ∷ []

-- u lies along the lane's exit and v along the successor's entry: eastward passes northward after a quarter of its own
-- length, and half of the other's
abbrev eastward : List Float
eastward = edge at0 at2 at0 at4 at2 at0

abbrev northward : List Float
northward = edge at1 at0 at1 at1 at4 at1

pub places_shown_lem : (link Forward unsurveyed eastward Forward northward unsurveyed ≡ shown at1 quarter half)
    × (link Forward unsurveyed upright Forward middle unsurveyed ≡ shown at1 half 0)
    × (link Backward middle unsurveyed Backward unsurveyed upright ≡ shown at1 0 half)
unfolding gap_rows
places_shown_lem = (refl, refl, refl)

-- "In rows -0 is written +0": here u is -0, then v
abbrev slant : List Float
slant = edge at1 at0 at0 at2 at1 at0

abbrev down : List Float
down = edge at0 at_minus0 at_minus0 at0 at_minus2 at0

abbrev beside : List Float
beside = edge at1 at0 at0 at1 at1 at0

abbrev closest : (exit entry : List Float) → Closest
closest exit entry = closest_between (edged 7 Forward unsurveyed exit) (edged 9 Forward entry unsurveyed)

pub minus_zero_lem : (to_bits binary32 (closest upright slant).u ≡ at_minus0)
    × (link Forward unsurveyed upright Forward slant unsurveyed ≡ shown at1 0 0)
    × (to_bits binary32 (closest down beside).v ≡ at_minus0)
    × (link Forward unsurveyed down Forward beside unsurveyed ≡ shown at1 0 0)
unfolding gap_rows
minus_zero_lem = (refl, refl, refl, refl)

-- as middle, but x beside upright
abbrev beyond : ℕ → List Float
beyond x = edge x at1 at0 x at2 at0

-- "with an infinite gap both are 0": where all distances are NaN; and where one is infinite, though its own u is a half
pub infinite_gap : (link Forward unsurveyed unsurveyed Both middle upright ≡ shown 0x7f80_0000 0 0)
    × (distance_of (points_of upright) (points_of (beyond huge)) ≡ inf false)
    × (to_bits binary32 (closest_of (points_of upright) (points_of (beyond huge))).u ≡ half)
    × (link Forward unsurveyed upright Forward (beyond huge) unsurveyed ≡ shown 0x7f80_0000 0 0)
unfolding gap_rows
infinite_gap = (refl, refl, refl, refl)

-- the places are those of the least pair, the first or not
pub of_the_least : (link Both middle (beyond at10) Forward upright unsurveyed ≡ shown at1 0 half)
    × (link Both middle unsurveyed Forward upright unsurveyed ≡ shown at1 0 half)
    × (link Forward unsurveyed upright Both middle (end_at at4) ≡ shown at1 half 0)
unfolding gap_rows
of_the_least = (refl, refl, refl)

-- ---- "Ties shall go to the smallest u, then the smallest v, compared as floats"
-- these are the rows of a link to a two-way lane, whichever of two ends is its start
abbrev EntriesTie : (exit entry other : List Float) → List GapRow → Type 0
EntriesTie exit entry other rows =
    (link Forward unsurveyed exit Both entry other ≡ rows) × (link Forward unsurveyed exit Both other entry ≡ rows)

-- and of a link from one
abbrev ExitsTie : (exit other entry : List Float) → List GapRow → Type 0
ExitsTie exit other entry rows =
    (link Both exit other Forward entry unsurveyed ≡ rows) × (link Both other exit Forward entry unsurveyed ≡ rows)

-- ends that lead to the point at height y 1 beside upright, and away from it
abbrev toward : ℕ → List Float
toward y = edge at2 y at0 at1 y at0

abbrev away : ℕ → List Float
away y = edge at1 y at0 at2 y at0

-- the smaller u, though with the larger v: (0, 1) before (1/2, 0), and (0, 1/2) before (1, 0)
pub tie_to_smaller_u : EntriesTie upright (away at1) (toward at0) (shown at1 0 at1)
    × ExitsTie (away at1) (toward at0) upright (shown at1 0 half)
unfolding gap_rows
tie_to_smaller_u = ((refl, refl), (refl, refl))

-- with equal u the smaller v: (1/2, 0) before (1/2, 1), and (0, 1/2) before (0, 1)
pub tie_to_smaller_v : EntriesTie upright (away at1) (toward at1) (shown at1 half 0)
    × ExitsTie (away at1) (away at2) upright (shown at1 0 half)
unfolding gap_rows
tie_to_smaller_v = ((refl, refl), (refl, refl))

-- -0 equals +0, so v decides: slant has (-0, 0), passing (+0, 1/2), inward (-0, 1). By bits passing would come before
-- slant, and with -0 below +0 inward before passing.
abbrev passing : List Float
passing = edge at1 at_minus2 at0 at1 at2 at0

abbrev inward : List Float
inward = edge at2 at0 at0 at1 at_minus0 at_minus0

pub minus_zero_ties : (to_bits binary32 (closest upright passing).u ≡ 0)
    × (to_bits binary32 (closest upright inward).u ≡ at_minus0)
    × EntriesTie upright slant passing (shown at1 0 0)
    × EntriesTie upright inward passing (shown at1 0 half)
unfolding gap_rows
minus_zero_ties = (refl, refl, (refl, refl), (refl, refl))

-- gaps are equal where their roots are: the squares are 4096 * 4096 at (1/2, 0), and 2 more at (0, 0)
pub equal_roots_tie : EntriesTie upright (beyond at4096) (edge at4096 at_minus1 at1 at4096 at_minus2 at1)
    (shown at4096 0 0)
unfolding gap_rows
equal_roots_tie = (refl, refl)

-- two two-way lanes whose ends are all 1 apart, at four different places
abbrev climbing : List Float
climbing = edge at0 at0 at0 at0 at1 at1

abbrev falling : List Float
falling = edge at1 at0 at1 at1 at1 at0

abbrev falling_on : List Float
falling_on = edge at1 at1 at1 at1 at2 at0

pub four_places : (link Forward unsurveyed upright Forward falling unsurveyed ≡ shown at1 half at1)
    × (link Forward unsurveyed upright Forward falling_on unsurveyed ≡ shown at1 at1 at1)
    × (link Forward unsurveyed climbing Forward falling unsurveyed ≡ shown at1 half half)
    × (link Forward unsurveyed climbing Forward falling_on unsurveyed ≡ shown at1 at1 0)
unfolding gap_rows
four_places = (refl, refl, refl, refl)

-- "The places shown must then survive every accepted reversal": with either lane turned round, or both, another pair
-- comes first, and the row is the same
pub same_row_turned : (link Both upright climbing Both falling falling_on ≡ shown at1 half half)
    × (link Both climbing upright Both falling falling_on ≡ shown at1 half half)
    × (link Both upright climbing Both falling_on falling ≡ shown at1 half half)
    × (link Both climbing upright Both falling_on falling ≡ shown at1 half half)
unfolding gap_rows
same_row_turned = (refl, refl, refl, refl)

-- "Length check (`road_length`): the f64 sum of the last start and last length, more than 0.01 off the road's
-- length, is reported and returned; no geometry or a NaN difference is not." Definitions only.
use Rattle.std.specs.Prelude.{Bool, false, cond, List, [], ◌∷◌, ℕ, Float, negsuc}
use Rattle.std.proofs.Math.Option.{Option, none, some}
use Rattle.std.specs.Float.{nan, inf, fin, binary64}
use Rattle.std.specs.Float.Ieee.{add, sub, lt}
use Rattle.model.specs.Lists.{last_or}
use Rattle.model.specs.Rules.{even_counts}

-- LENGTH_TOLERANCE of gaps.rs, the f64 nearest to 0.01
abbrev pub length_tolerance : Float
length_tolerance = fin false 5764607523034235 (negsuc 58)

-- Rust's f64::abs
abbrev pub absolute : Float → Float
absolute nan = nan
absolute (inf s) = inf false
absolute (fin s m e) = fin false m e

-- where the plan view ends: `last.s + last.length`; none with no geometry
abbrev pub plan_view : (starts lengths : List Float) → Option Float
plan_view [] lengths = none
plan_view (s ∷ ss) [] = none
plan_view (s ∷ ss) (l ∷ ls) = some (add binary64 (last_or s ss) (last_or l ls))

-- (road.length - plan_view).abs() > LENGTH_TOLERANCE, false of a NaN
unfoldable pub far_off : Float → Float → Bool
far_off road_length sum = lt length_tolerance (absolute (sub binary64 road_length sum))

-- the call's answer: refused, nothing to report, or the sum reported
pub data Checked : Type 0 where
  uneven : ℕ → Checked
  fine : Checked
  reported : Float → Checked

abbrev pub report : Float → Option Float → Checked
report road_length none = fine
report road_length (some sum) = cond (far_off road_length sum) (reported sum) fine

-- THE LENGTH CHECK'S WHOLE OUTCOME. "Length: 16 starts and lengths differ in count."
unfoldable pub length_call : (starts lengths : List Float) → Float → Checked
length_call starts lengths road_length =
    cond (even_counts starts lengths) (report road_length (plan_view starts lengths)) (uneven 16)

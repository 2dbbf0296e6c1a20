-- The record of a row. Definitions only.
use Rattle.std.specs.Prelude.{List, ℕ, ◌*◌, Float, take, drop}
use Rattle.model.specs.Records.{EdgedLane}
use Rattle.model.specs.Tables.{lane_in}
use Rattle.words.specs.Rows.{from}

-- the lane of row r, with its edges
unfoldable pub edged_at : List ℕ → List Float → ℕ → EdgedLane
edged_at lanes edges r = record {
  lane = lane_in (from 10 lanes r);
  at_start = take 6 (take 12 (drop (r * 12) edges));
  at_end = drop 6 (take 12 (drop (r * 12) edges));
}

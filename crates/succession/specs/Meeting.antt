-- The connections of a junction that come in from a road, chained by the two. Definitions only.
use Rattle.std.specs.Prelude.{ℕ, ◌+◌, ◌-◌, ◌*◌, ◌/◌, ◌%◌, ◌<◌, ◌≤◌, ◌≡◌, Bool, ◌&&◌, cond, List, [], eqb, leb, ltb}
use Rattle.std.specs.Prelude.{length, get_or}
use Rattle.model.specs.Succession.{Entry}
use Rattle.words.specs.Chain.{Chained}
use Rattle.words.specs.Rows.{last_of}
use Rattle.succession.specs.ByRow.{Rows, pairs_by_row}

-- junction j's connections: the first, and the one after the last
abbrev pub first_of : List ℕ → ℕ → ℕ
first_of junctions j = get_or junctions (j * 5 + 3) 0

abbrev pub end_of : List ℕ → ℕ → ℕ
end_of junctions j = first_of junctions j + get_or junctions (j * 5 + 4) 0

-- is connection c one of junction j's, from road w?
unfoldable pub meets : (junctions sides : List ℕ) → ℕ → ℕ → ℕ → Bool
meets junctions sides j w c =
    (leb (first_of junctions j) c && ltb c (end_of junctions j)) && eqb (get_or sides (c * 2) 0) w

-- what it leads lane number k to
unfoldable pub meeting_at : Rows → ℕ → ℕ → ℕ → ℕ → List Entry
meeting_at R j w k c = cond (meets R.junctions R.sides j w c) (pairs_by_row R c k) []

-- does junction j's part begin at connection c or before it?
abbrev pub begins_by : List ℕ → ℕ → ℕ → Bool
begins_by junctions c j = leb (first_of junctions j) c

-- the junction (row plus 1) whose part has connection c: parts follow one another, so the last that begins
-- there or before
unfoldable pub home_of : List ℕ → ℕ → ℕ
home_of junctions c = last_of (length junctions / 5) (begins_by junctions c)

-- the bucket of a junction and a road, each a row plus 1
unfoldable pub meeting_hash : ℕ → ℕ → ℕ
meeting_hash j w = (j * 1009 + w) % 16384

-- connections counted back from the last of n: a chain falls, and so meets them in row order
unfoldable pub connection_hash : (junctions sides : List ℕ) → ℕ → ℕ → ℕ
connection_hash junctions sides n i =
    meeting_hash (home_of junctions (n - (i + 1))) (get_or sides ((n - (i + 1)) * 2) 0)

-- n connections, those from c on chained: c counts down
pub record ChainedFrom (junctions sides : List ℕ) (n c : ℕ) (heads next : List ℕ) : Type 0 where
  pub buckets : length heads ≡ 16384
  pub rows : length next ≡ 16384
  pub chained : Chained (connection_hash junctions sides n) (n - c) heads next

-- every part's connections have their junction as home
abbrev pub Homes : List ℕ → Type 0
Homes junctions =
    (j c : ℕ) → j < length junctions / 5 → first_of junctions j ≤ c → c < end_of junctions j
    → home_of junctions c ≡ j + 1

-- the chains hold all connections
pub record Meeting (junctions connections sides heads next : List ℕ) : Type 0 where
  pub few : length connections / 7 ≤ 16384
  pub few_junctions : length junctions / 5 ≤ 16384
  pub homes : Homes junctions
  pub buckets : length heads ≡ 16384
  pub links : length connections / 7 ≤ length next
  pub chained : Chained (connection_hash junctions sides (length connections / 7)) (length connections / 7) heads next

-- The rules by row numbers: what the code's loops and indexes answer. proofs/ has each as the rule of the
-- model. Definitions only.
use Rattle.std.specs.Prelude.{ℕ, zero, suc, ◌+◌, ◌*◌, ◌/◌, ◌<◌, ◌≤◌, ◌≡◌, List, Bool, false, not, ◌&&◌, length, get_or}
use Rattle.std.specs.Prelude.{eqb}
use Rattle.model.specs.Lists.{member}
use Rattle.model.specs.Records.{Span, direct}
use Rattle.model.specs.Text.{same_in}
use Rattle.model.specs.Rows.{part}
use Rattle.model.specs.Succession.{sections_of}
use Rattle.model.specs.Tables.{roads_in}
use Rattle.model.specs.Rules.{target_worded, link_worded}
use Rattle.words.specs.Rows.{any, last_of, name_from, name_at}
use Rattle.words.specs.Chain.{Chained}
use Rattle.words.specs.Keys.{bears, is_kind_of, lane_hash, name_hash}

-- ---- 2: targets and links at word a of a row
abbrev pub target_fits : List ℕ → List ℕ → ℕ → Bool
target_fits text ws a =
    target_worded text (get_or ws a 0) (get_or ws (a + 1) 0) (get_or ws (a + 2) 0) (get_or ws (a + 3) 0)
    (get_or ws (a + 4) 0) (get_or ws (a + 5) 0) (get_or ws (a + 6) 0)

abbrev pub link_fits : List ℕ → ℕ → Bool
link_fits ws a = link_worded (get_or ws a 0) (get_or ws (a + 1) 0)

-- ---- 4: the section numbers of road i
abbrev pub numbers_at : List ℕ → List ℕ → ℕ → List ℕ
numbers_at roads sections i = part (get_or roads (i * 20 + 18) 0) (get_or roads (i * 20 + 19) 0) sections

-- ---- 7: is section s listed in the road of name n?
unfoldable pub known_in : List ℕ → List ℕ → List ℕ → Span → ℕ → Bool
known_in text roads sections n s = member s (sections_of (same_in text) (roads_in sections roads) n)

-- is lane i's section listed in its road?
abbrev pub listed_at : List ℕ → List ℕ → List ℕ → List ℕ → ℕ → Bool
listed_at text roads sections lanes i =
    known_in text roads sections (name_at 10 1 lanes i) (get_or lanes (i * 10 + 3) 0)

-- is it listed in the road with that row plus 1?
abbrev pub listed_by : List ℕ → List ℕ → ℕ → ℕ → Bool
listed_by roads sections zero s = false
listed_by roads sections (suc r) s = member s (numbers_at roads sections r)

-- the row plus 1 of the road of name n, 0 where no road bears it
unfoldable pub road_row_of : List ℕ → List ℕ → Span → ℕ
road_row_of text roads n = last_of (length roads / 20) (bears text 20 0 roads n)

-- owner has for each of the first n lanes its road's row plus 1
pub record Owned (text roads lanes : List ℕ) (n : ℕ) (owner : List ℕ) : Type 0 where
  pub at : (i : ℕ) → i < n → get_or owner i 0 ≡ road_row_of text roads (name_at 10 1 lanes i)

-- ---- 14: the target from word a on is a junction
abbrev pub to_junction : List ℕ → ℕ → Bool
to_junction ws a = eqb (get_or ws a 0) 1 && eqb (get_or ws (a + 1) 0) 1

-- the road whose row begins at word a names one direct junction at both ends
unfoldable pub twice_from : List ℕ → List ℕ → List ℕ → ℕ → Bool
twice_from text roads junctions a =
    to_junction roads (a + 4) && to_junction roads (a + 11) && same_in text (name_from roads (a + 13))
    (name_from roads (a + 6))
    && any (length junctions / 5) (is_kind_of direct text junctions (name_from roads (a + 6)))

-- road i is not marked, or does not
unfoldable pub turns_twice : List ℕ → List ℕ → List ℕ → List ℕ → ℕ → Bool
turns_twice text roads junctions marks i = not (eqb (get_or marks i 0) 1 && twice_from text roads junctions (i * 20))

-- what rule 1 says of the tables whose rows are counted
pub record Few (roads sections connections pairs : List ℕ) : Type 0 where
  pub few_roads : length roads / 20 ≤ 16384
  pub few_sections : length sections ≤ 16384
  pub few_connections : length connections / 7 ≤ 16384
  pub few_pairs : length pairs / 2 ≤ 16384

-- what the checks of 1 to 8 leave in the arrays that they are lent: the roads linked by name, each lane's road,
-- the lanes linked by road, section and number
pub record Linked (text roads lanes heads next owner key_heads key_next : List ℕ) : Type 0 where
  pub named : Chained (name_hash text 20 0 roads) (length roads / 20) heads next
  pub owned : Owned text roads lanes (length lanes / 10) owner
  pub keyed : Chained (lane_hash lanes owner) (length lanes / 10) key_heads key_next

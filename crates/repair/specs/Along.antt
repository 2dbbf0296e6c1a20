-- The roads in virtual junctions, and the words that a road's row has after repair. Definitions only.
use Rattle.std.specs.Prelude.{◌≡◌, Bool, true, false, not, ◌&&◌, List, [], ◌∷◌, ◌++◌, map, ℕ, ◌+◌, ◌*◌, ◌/◌, ◌<◌}
use Rattle.std.specs.Prelude.{length, get_or}
use Rattle.model.specs.Lists.{gather, pick}
use Rattle.model.specs.Records.{Road, virtual}
use Rattle.model.specs.Repair.{without_along}
use Rattle.model.specs.Rules.{same}
use Rattle.model.specs.Tables.{Tables, bit, flag, is_absent, roads_of, target_words}
use Rattle.words.specs.Keys.{is_kind_of}
use Rattle.words.specs.Rows.{any, span, tab}
use Rattle.repair.specs.Now.{row_junction, target_now}

-- is road r's junction name that of a virtual junction?
unfoldable pub virtual_row : (text roads junctions : List ℕ) → ℕ → Bool
virtual_row text roads junctions r =
    not (is_absent (get_or roads (r * 20 + 2) 0) (get_or roads (r * 20 + 3) 0)) && any (length junctions / 5)
    (is_kind_of virtual text junctions (span (get_or roads (r * 20 + 2) 0) (get_or roads (r * 20 + 3) 0)))

-- the word of an end before the first junction
abbrev pub along_word : (text roads junctions : List ℕ) → ℕ → Bool → ℕ
along_word text roads junctions r b =
    bit (virtual_row text roads junctions r && flag (get_or roads (r * 20 + pick b 10 17) 0))

-- the ends of the first n roads have it
pub record Marked (text roads junctions : List ℕ) (n : ℕ) (ends : List ℕ) : Type 0 where
  pub at : (r : ℕ) → r < n → (b : Bool) → get_or ends (r * 2 + bit b) 0 ≡ along_word text roads junctions r b

-- the words of road r
unfoldable pub road_now_words : (roads junctions ends : List ℕ) → ℕ → List ℕ
road_now_words roads junctions ends r =
    get_or roads (r * 20) 0 ∷ get_or roads (r * 20 + 1) 0 ∷ get_or roads (r * 20 + 2) 0 ∷ get_or roads (r * 20 + 3) 0
    ∷ (target_words (target_now roads junctions ends r false)
    ++ (target_words (target_now roads junctions ends r true)
    ++ (get_or roads (r * 20 + 18) 0 ∷ get_or roads (r * 20 + 19) 0 ∷ [])))

-- those of all roads
abbrev pub roads_now_words : (roads junctions ends : List ℕ) → List ℕ
roads_now_words roads junctions ends = gather (road_now_words roads junctions ends) (tab (length roads / 20) (λ r. r))

-- the roads before the first junction, with the junctions by their rows
abbrev pub roads_begun : Tables → List Road
roads_begun t = map (without_along (same t) (tab (length t.junctions / 5) (row_junction t))) (roads_of t)

-- The tests and records of a row look at its words only.
use Prim.Native.Nat.{ℕ, zero, suc, ◌≤◌, ◌+◌}
use mathlib.Core.Path.{◌≡◌, refl}
use mathlib.Core.List.{List, [], ◌∷◌}
use mathlib.Core.Bool.{Bool, true, false, cond, ◌&&◌, ◌||◌}
use native.Mathlib.Nat.{le_of_suc-le-suc, add-zero, add_assoc}
use lib.ListN.{get_or, take, drop}
use lib.Seq.{get_or-take, get_or-drop}
use lib.Dec.{ltb, leb}
use borrow.Author.Tests.{ltb-true}
use Rattle.model.specs.Rules.{connection_worded, junction_worded, lane_worded, road_worded}
use Rattle.words.proofs.Scans.{Local}
use Rattle.model.specs.Tables.{is_absent}
use Rattle.model.specs.Text.{placed}
use Rattle.words.specs.Rows.{name_from}
use Rattle.rules.specs.ByRow.{link_fits, target_fits}

-- word k of a row, where k is a numeral below w
pub short : (w : ℕ) (l : List ℕ) (k : ℕ) → get_or (take w l) k 0 ≡ cond (ltb k w) (get_or l k 0) 0
short w l k = go (ltb k w) refl
  where
    go : (b : Bool) → ltb k w ≡ b → get_or (take w l) k 0 ≡ cond b (get_or l k 0) 0
    go true e = get_or-take w l k 0 (ltb-true k w e)
    go false e = past w l k (borrow.Author.Tests.ltb-false k w e)
      where
        past : (w : ℕ) (l : List ℕ) (k : ℕ) → w ≤ k → get_or (take w l) k 0 ≡ 0
        past zero l k h = refl
        past (suc w) [] k h = refl
        past (suc w) (x ∷ xs) zero h = absurd (native.Mathlib.Nat.not-suc-le-zero h)
        past (suc w) (x ∷ xs) (suc k) h = past w xs k (le_of_suc-le-suc h)

pub road_local : (text : List ℕ) → Local 20 (road_worded text)
unfolding road_worded
road_local text l = simp (short 20 l)

pub junction_local : (text : List ℕ) → Local 5 (junction_worded text)
unfolding junction_worded
junction_local text l = simp (short 5 l)

pub connection_local : (text : List ℕ) → Local 7 (connection_worded text)
unfolding connection_worded
connection_local text l = simp (short 7 l)

pub lane_local : (text : List ℕ) → Local 10 (lane_worded text)
unfolding lane_worded
lane_local text l = simp (short 10 l)

-- ---- the same by the words that the code reads
pub road_words_lem : (text ws : List ℕ) (at : ℕ) → road_worded text (drop at ws) ≡ placed text (name_from ws at)
    && (is_absent (get_or ws (at + 2) 0) (get_or ws (at + 3) 0) || placed text (name_from ws (at + 2)))
    && target_fits text ws (at + 4) && target_fits text ws (at + 11)
unfolding road_worded
road_words_lem text ws at = simp (get_or-drop at ws, add-zero, add_assoc)

pub words_of_junctions : (text ws : List ℕ) (at : ℕ)
    → junction_worded text (drop at ws) ≡ placed text (name_from ws at) && leb (get_or ws (at + 2) 0) 2
unfolding junction_worded
words_of_junctions text ws at = simp (get_or-drop at ws, add-zero, add_assoc)

pub connection_words_lem : (text ws : List ℕ) (at : ℕ)
    → connection_worded text (drop at ws)
    ≡ placed text (name_from ws at) && placed text (name_from ws (at + 2)) && leb (get_or ws (at + 4) 0) 1
unfolding connection_worded
connection_words_lem text ws at = simp (get_or-drop at ws, add-zero, add_assoc)

pub lane_words_lem : (text ws : List ℕ) (at : ℕ)
    → lane_worded text (drop at ws) ≡ placed text (name_from ws (at + 1)) && leb (get_or ws (at + 5) 0) 2
    && link_fits ws (at + 6) && link_fits ws (at + 8)
unfolding lane_worded
lane_words_lem text ws at = simp (get_or-drop at ws, add-zero, add_assoc)

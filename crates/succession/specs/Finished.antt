-- All lanes' lists, from what each finds by its own links and from who finds it. Definitions only.
use Rattle.std.specs.Prelude.{ℕ, zero, suc, ◌+◌, ◌/◌, ◌≤◌, ◌≡◌, Bool, true, false, not, ◌&&◌, cond, List, [], ◌∷◌}
use Rattle.std.specs.Prelude.{length, take}
use Rattle.model.specs.Lists.{insert, member}
use Rattle.model.specs.Lookup.{list_part}
use Rattle.model.specs.Rows.{written}
use Rattle.model.specs.Succession.{is_both}
use Rattle.words.specs.Rows.{last_of}
use Rattle.words.specs.Keys.{is_id}
use Rattle.succession.specs.Runs.{Rising}
use Rattle.succession.specs.ByRow.{Rows, direction_at, exits_by_row}

-- how many lanes lane l is led into, before any is left out
abbrev pub exit_count : Rows → ℕ → ℕ
exit_count R l = length (exits_by_row R l true) + length (exits_by_row R l false)

-- is the lane with that row plus 1 two-way?
abbrev pub two_way_row : List ℕ → ℕ → Bool
two_way_row lanes zero = false
two_way_row lanes (suc r) = is_both (direction_at lanes r)

-- does a two-way lane that finds `mine` want a link back to the lane of identity x, which finds it?
unfoldable pub wants : (lanes mine : List ℕ) → ℕ → Bool
wants lanes mine x = two_way_row lanes (last_of (length lanes / 10) (is_id lanes x)) && not (member x mine)

-- the links back put in
abbrev pub back_into : (ℕ → Bool) → List ℕ → List ℕ → List ℕ
back_into p [] xs = xs
back_into p (y ∷ ys) xs = back_into p ys (cond (p y) (insert y xs) xs)

-- lane l's list: what it finds, and for a two-way lane the two-way lanes that find it
unfoldable pub finished_from : (lanes mine finders : List ℕ) → ℕ → List ℕ
finished_from lanes mine finders l = cond (two_way_row lanes (suc l)) (back_into (wants lanes mine) finders mine) mine

abbrev pub finished_at : (lanes offsets ids finder_offsets finder_ids : List ℕ) → ℕ → List ℕ
finished_at lanes offsets ids finder_offsets finder_ids l =
    finished_from lanes (list_part offsets ids l) (list_part finder_offsets finder_ids l) l

-- a run's first n words made the list xs, which has q words
pub record Made (xs old new : List ℕ) (q : ℕ) : Type 0 where
  pub list : new ≡ written xs old
  pub size : q ≡ length xs

-- a run of `start` words that ascend, with room for the links back from those of the finders that p wants
pub record Taking (p : ℕ → Bool) (finders : List ℕ) (start : ℕ) (run : List ℕ) : Type 0 where
  pub rising : Rising (take start run)
  pub begun : start ≤ length run
  pub room : length (back_into p finders (take start run)) ≤ length run

-- Repair's warning rows on a reversed map: the same, but for the end of a marked road.
use mathlib.Core.Path.{◌≡◌, refl, sym, ◌∙◌, ap}
use mathlib.Core.Bool.{Bool, true, false, cond, false≢true}
use mathlib.Core.List.{List, [], ◌∷◌, map, map-map}
use Prim.Native.Nat.{ℕ, zero, suc}
use native.Mathlib.Omega.{arith}
use lib.Dec.{eqb, leb}
use lib.ListN.{length}
use Rattle.model.specs.Calls.{repair_content, row_named, warning_row, warning_width}
use Rattle.model.specs.Claim.{reversed_warning}
use Rattle.model.specs.Lists.{◌⊕◌}
use Rattle.model.specs.Records.{EdgedLane, Map, Road, Span}
use Rattle.model.specs.Repair.{Warning, warnings}
use Rattle.model.specs.Reversal.{marked, reverse_edged, reverse_map, reverse_road, reverse_warning}
use Rattle.model.specs.Rows.{table, word}
use Rattle.model.specs.Rules.{same}
use Rattle.model.specs.Sequence.{toggled_mark}
use Rattle.model.specs.Tables.{Tables, bit, map_of, roads_of, tables_of}
use Rattle.model.specs.Text.{same_in}
use Rattle.laws.proofs.Basics.{map_ext, map_id}
use Rattle.laws.proofs.ByBytes.{alike_in}
use Rattle.laws.proofs.ForEach.{each}
use Rattle.laws.proofs.Lay.{table_even}
use Rattle.laws.proofs.ListTests.{and_right}
use Rattle.laws.proofs.RulesReversed.{marked_steady}
use Rattle.laws.proofs.SameFound.{repaired_is, repaired_of, warn_row}
use Rattle.laws.proofs.SoundMaps.{Sound}
use Rattle.laws.proofs.StaySound.{sound_reversed}
use Rattle.laws.proofs.Valid.{mark_for}
use Rattle.laws.proofs.WarningsReversed.{warnings_reversed}

marked_at : (alike : Span → Span → Bool) (rs : List Road) (set : List ℕ) (n : Span) → mark_for rs set ≡ true
    → eqb (word set (row_named alike rs n)) 1 ≡ marked alike rs set n
marked_at alike [] [] n h = refl
marked_at alike [] (k ∷ ks) n h = absurd (false≢true h)
marked_at alike (r ∷ rs) [] n h = absurd (false≢true h)
marked_at alike (r ∷ rs) (k ∷ ks) n h =
    go (alike r.name n) (marked_at alike rs ks n (and_right (leb k 1) (mark_for rs ks) h))
  where
    go : (b : Bool) → eqb (word ks (row_named alike rs n)) 1 ≡ marked alike rs ks n
        → eqb (word (k ∷ ks) (cond b 0 (suc (row_named alike rs n)))) 1 ≡ cond b (eqb k 1) (marked alike rs ks n)
    go true ih = refl
    go false ih = ih

toggled_bit : (e : Bool) (k : ℕ) → toggled_mark (bit e) k ≡ bit (eqb k 1 ⊕ e)
toggled_bit e k = go (eqb k 1) e
  where
    go : (b e : Bool) → cond b (cond (eqb (bit e) 1) 0 1) (bit e) ≡ bit (b ⊕ e)
    go true true = refl
    go true false = refl
    go false true = refl
    go false false = refl

rows_reversed : (alike : Span → Span → Bool) (s : Span → Bool) (rs : List Road) (n : Span)
    → row_named alike (map (reverse_road s) rs) n ≡ row_named alike rs n
unfolding reverse_road
rows_reversed alike s [] n = refl
rows_reversed alike s (r ∷ rs) n = ap (λ (k : ℕ). cond (alike r.name n) 0 (suc k)) (rows_reversed alike s rs n)

warn_width : (text : List ℕ) (rs : List Road) (w : Warning) → length (warn_row text rs w) ≡ 4
unfolding warn_row
warn_width text rs w = refl

warnings_of : (text : List ℕ) (m : Map) (xs : List EdgedLane) → Sound text m xs
    → table 4 (repair_content (tables_of text m xs)).warnings
    ≡ map (warn_row text m.roads) (warnings (same_in text) m)
warnings_of text m xs h =
    ap (λ c. table 4 c.warnings) (repaired_is text m xs h)
    ∙ (unfold repaired_of in table_even 4 (warn_row text m.roads) (warnings (same_in text) m) (omega arith)
    (each (warn_width text m.roads) (warnings (same_in text) m)))

-- ---- a sound map, reversed by a set of marks
module _ (text : List ℕ) (m : Map) (xs : List EdgedLane) (h : Sound text m xs) (set : List ℕ) where
  abbrev in_set : Span → Bool
  in_set = marked (same_in text) m.roads set

  abbrev turned_map : Map
  turned_map = reverse_map (same_in text) in_set m

  abbrev turned_lanes : List EdgedLane
  turned_lanes = map (reverse_edged (same_in text) in_set m.roads) xs

  -- the row of a warning on the reversed map
  row_reversed : mark_for m.roads set ≡ true → (w : Warning)
      → warn_row text turned_map.roads (reverse_warning in_set w) ≡ reversed_warning set (warn_row text m.roads w)
  unfolding warn_row reverse_warning reversed_warning reverse_map
  row_reversed marks_for w =
      let row = row_named (same_in text) m.roads w.road in
      let row_same = rows_reversed (same_in text) in_set m.roads w.road in
      let mark = marked_at (same_in text) m.roads set w.road marks_for in
      let end = toggled_bit w.at_end (word set row) ∙ ap (λ b. bit (b ⊕ w.at_end)) mark in
      λ i. 3 ∷ w.junction_row ∷ row_same i ∷ sym end i ∷ []

  pub warned_reversed : mark_for m.roads set ≡ true →
      table 4 (repair_content (tables_of text turned_map turned_lanes)).warnings
      ≡ map (reversed_warning set) (table 4 (repair_content (tables_of text m xs)).warnings)
  warned_reversed marks_for =
      let steady = marked_steady (same_in text) (alike_in text) m.roads set in
      let ws = warnings (same_in text) m in
      warnings_of text turned_map turned_lanes (sound_reversed text in_set steady m xs h)
      ∙ ap (map (warn_row text turned_map.roads)) (warnings_reversed (same_in text) (alike_in text) in_set steady m)
      ∙ map-map (warn_row text turned_map.roads) (reverse_warning in_set) ws
      ∙ map_ext (λ w. warn_row text turned_map.roads (reverse_warning in_set w))
      (λ w. reversed_warning set (warn_row text m.roads w)) ws (each (row_reversed marks_for) ws)
      ∙ sym (map-map (reversed_warning set) (warn_row text m.roads) ws)
      ∙ ap (map (reversed_warning set)) (sym (warnings_of text m xs h))

-- the rows that repair writes are those of its warnings
pub warning_rows : (t : Tables) →
    table warning_width (repair_content t).warnings ≡ map (warning_row t) (warnings (same t) (map_of t))
unfolding repair_content
warning_rows t =
    table_even warning_width (warning_row t) (warnings (same t) (map_of t)) (omega arith)
    (each width (warnings (same t) (map_of t)))
  where
    width : (w : Warning) → length (warning_row t w) ≡ warning_width
    width w = unfold warning_row in refl

-- an empty set leaves every warning row
zero_at : (rs : List Road) (k : ℕ) → word (map (λ r. 0) rs) k ≡ 0
zero_at [] k = refl
zero_at (r ∷ rs) zero = refl
zero_at (r ∷ rs) (suc k) = zero_at rs k

pub warned_empty : (t : Tables) (rs : List Road)
    → table 4 (repair_content t).warnings
    ≡ map (reversed_warning (map (λ r. 0) rs)) (table 4 (repair_content t).warnings)
warned_empty t rs =
    warning_rows t ∙ sym (map_id (λ w. w) (map (warning_row t) ws) (each (λ w. refl) (map (warning_row t) ws)))
    ∙ map-map (λ w. w) (warning_row t) ws
    ∙ map_ext (λ w. warning_row t w) (λ w. reversed_warning (map (λ (r : Road). 0) rs) (warning_row t w)) ws
    (each one ws)
    ∙ sym (map-map (reversed_warning (map (λ (r : Road). 0) rs)) (warning_row t) ws)
    ∙ ap (map (reversed_warning (map (λ (r : Road). 0) rs))) (sym (warning_rows t))
  where
    ws : List Warning
    ws = warnings (same t) (map_of t)

    one : (w : Warning) → warning_row t w ≡ reversed_warning (map (λ (r : Road). 0) rs) (warning_row t w)
    one w = unfold warning_row reversed_warning in λ i. 3 ∷ w.junction_row ∷ row_named (same t) (roads_of t) w.road
        ∷ ap (λ (k : ℕ). toggled_mark (bit w.at_end) k)
        (sym (zero_at rs (row_named (same t) (roads_of t) w.road))) i ∷ []

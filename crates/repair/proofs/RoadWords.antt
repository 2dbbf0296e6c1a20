-- The words of the roads now.
use mathlib.Core.Path.{◌≡◌, refl, sym, ap, ap₂, ◌∙◌}
use mathlib.Core.Bool.{Bool, true, false, cond}
use mathlib.Core.Option.{none, some}
use mathlib.Core.List.{List, [], ◌∷◌, ◌++◌, append-nil}
use Prim.Native.Nat.{ℕ, zero, suc, ◌+◌, ◌*◌, ◌/◌, ◌-◌, ◌≤◌, ◌<◌}
use native.Mathlib.Numerals.{add-one}
use native.Mathlib.Omega.{arith}
use lib.ListN.{length, get_or, take, drop, length-append, length-drop}
use lib.Seq.{get_or-drop, length-take-le, take_all}
use lib.Dec.{eqb}
use borrow.Author.Tests.{eqb-true}
use Rattle.model.specs.Lists.{gather}
use Rattle.model.specs.Records.{Road}
use Rattle.model.specs.Rows.{part, rows_from, word}
use Rattle.model.specs.Tables.{is_absent, name_words, road_row, road_words, target_words}
use Rattle.laws.proofs.ListTests.{and_left, and_right}
use Rattle.laws.proofs.WordsReversed.{gather_append}
use Rattle.words.specs.Rows.{from, span, spliced, tab, total}
use Rattle.words.proofs.Laws.{spliced_length, total_more, total_none}
use Rattle.rules.specs.Parts.{Fit, counts}
use Rattle.rules.proofs.Fits.{fit_in}
use Rattle.repair.specs.Now.{road_now, roads_now, target_now}
use Rattle.repair.specs.Along.{road_now_words, roads_now_words}
use Rattle.repair.proofs.Piles.{first_of, put_on}
use Rattle.laws.proofs.RowTests.{rows_from_append}

-- the first four words, and the first two
four : (ws : List ℕ) → 4 ≤ length ws → take 4 ws ≡ get_or ws 0 0 ∷ get_or ws 1 0 ∷ get_or ws 2 0 ∷ get_or ws 3 0 ∷ []
four [] h = absurd (omega arith)
four (a ∷ []) h = absurd (omega arith)
four (a ∷ b ∷ []) h = absurd (omega arith)
four (a ∷ b ∷ c ∷ []) h = absurd (omega arith)
four (a ∷ b ∷ c ∷ d ∷ ws) h = refl

two : (ws : List ℕ) → 2 ≤ length ws → take 2 ws ≡ get_or ws 0 0 ∷ get_or ws 1 0 ∷ []
two [] h = absurd (omega arith)
two (a ∷ []) h = absurd (omega arith)
two (a ∷ b ∷ ws) h = refl

-- a row into which a part is put is as long as before
still_long : (at : ℕ) (part row : List ℕ) {row' : List ℕ} → row' ≡ spliced at part row → at + length part ≤ length row
    → length row ≡ 20 → length row' ≡ 20
still_long at part row put fits long = ap length put ∙ spliced_length at part row fits ∙ long

-- a row of its parts, put one after the other
module _ (roads : List ℕ) (r : ℕ) (inside : r < length roads / 20) where
  front : take (r * 20 + 4 - r * 20) (drop (r * 20) roads)
      ≡ get_or roads (r * 20) 0 ∷ get_or roads (r * 20 + 1) 0 ∷ get_or roads (r * 20 + 2) 0
      ∷ get_or roads (r * 20 + 3) 0 ∷ []
  front =
      let long = length-drop (r * 20) roads in
      let count : r * 20 + 4 - r * 20 ≡ 4 = omega arith in
      ap (λ (n : ℕ). take n (drop (r * 20) roads)) count
      ∙ four (drop (r * 20) roads) (omega arith)
      ∙ (λ i.
      first_of roads (r * 20) i ∷ get_or-drop (r * 20) roads 1 0 i ∷ get_or-drop (r * 20) roads 2 0 i
      ∷ get_or-drop (r * 20) roads 3 0 i ∷ [])

  back : take (r * 20 + 20 - (r * 20 + 18)) (drop (r * 20 + 18) roads)
      ≡ get_or roads (r * 20 + 18) 0 ∷ get_or roads (r * 20 + 19) 0 ∷ []
  back =
      let long = length-drop (r * 20 + 18) roads in
      let count : r * 20 + 20 - (r * 20 + 18) ≡ 2 = omega arith in
      let next : r * 20 + 18 + 1 ≡ r * 20 + 19 = omega arith in
      ap (λ (n : ℕ). take n (drop (r * 20 + 18) roads)) count
      ∙ two (drop (r * 20 + 18) roads) (omega arith)
      ∙ (λ i.
      first_of roads (r * 20 + 18) i
      ∷ (get_or-drop (r * 20 + 18) roads 1 0 ∙ ap (λ (k : ℕ). get_or roads k 0) next) i ∷ [])

  pub row_words_lem : (junctions ends blank : List ℕ) → length blank ≡ 20 → {b₁ b₂ b₃ b₄ p s : List ℕ}
      → b₁ ≡ spliced 0 (take (r * 20 + 4 - r * 20) (drop (r * 20) roads)) blank
      → b₂ ≡ spliced 4 p b₁ → b₃ ≡ spliced 11 s b₂
      → b₄ ≡ spliced 18 (take (r * 20 + 20 - (r * 20 + 18)) (drop (r * 20 + 18) roads)) b₃
      → p ≡ target_words (target_now roads junctions ends r false)
      → s ≡ target_words (target_now roads junctions ends r true) → b₄ ≡ road_now_words roads junctions ends r
  unfolding road_now_words
  row_words_lem junctions ends blank long {b₁} {b₂} {b₃} {b₄} e₁ e₂ e₃ e₄ start end =
      let at_start_lem = target_words (target_now roads junctions ends r false) in
      let at_end_lem = target_words (target_now roads junctions ends r true) in
      let sections = get_or roads (r * 20 + 18) 0 ∷ get_or roads (r * 20 + 19) 0 ∷ [] in
      let p₁ = e₁ ∙ ap (λ (row : List ℕ). spliced 0 row blank) front in
      let p₂ = e₂ ∙ ap (λ (row : List ℕ). spliced 4 row b₁) start in
      let p₃ = e₃ ∙ ap (λ (row : List ℕ). spliced 11 row b₂) end in
      let p₄ = e₄ ∙ ap (λ (row : List ℕ). spliced 18 row b₃) back in
      let l₁ = still_long 0 _ blank p₁ (omega arith) long in
      let l₂ = still_long 4 at_start_lem b₁ p₂ (omega (arith, l₁)) l₁ in
      let l₃ = still_long 11 at_end_lem b₂ p₃ (omega (arith, l₂)) l₂ in
      let l₄ = still_long 18 sections b₃ p₄ (omega (arith, l₃)) l₃ in
      sym (take_all 20 b₄ (omega (arith, l₄)))
      ∙ put_on sections b₃ p₄ (omega (arith, l₃)) refl
      ∙ ap (λ (front : List ℕ). front ++ sections)
      (put_on at_end_lem b₂ p₃ (omega (arith, l₂)) refl
      ∙ ap (λ (front : List ℕ). front ++ at_end_lem)
      (put_on at_start_lem b₁ p₂ (omega (arith, l₁)) refl
      ∙ ap (λ (front : List ℕ). front ++ at_start_lem) (put_on _ blank p₁ (omega arith) refl)))

module _ (roads junctions ends : List ℕ) where
  pub road_width_lem : (r : ℕ) → length (road_now_words roads junctions ends r) ≡ 20
  unfolding road_now_words
  road_width_lem r = refl

  pub roads_width : (i : ℕ) → length (gather (road_now_words roads junctions ends) (tab i (λ r. r))) ≡ i * 20
  unfolding tab
  roads_width zero = refl
  roads_width (suc i) =
      let both =
      ap length (gather_append (road_now_words roads junctions ends) (tab i (λ r. r)) (i ∷ []))
      ∙ length-append (gather (road_now_words roads junctions ends) (tab i (λ r. r)))
      (road_now_words roads junctions ends i ++ []) in
      let before = roads_width i in
      let last = ap length (append-nil (road_now_words roads junctions ends i)) ∙ road_width_lem i in
      omega arith

-- ---- a road's row is its words
name_forth : (s n : ℕ) → name_words (cond (is_absent s n) none (some (span s n))) ≡ s ∷ n ∷ []
name_forth s n = go (is_absent s n) refl
  where
    go : (b : Bool) → is_absent s n ≡ b → name_words (cond b none (some (span s n))) ≡ s ∷ n ∷ []
    go true h =
        λ i.
        sym (eqb-true s 4294967295 (and_left (eqb s 4294967295) (eqb n 0) h)) i
        ∷ sym (eqb-true n 0 (and_right (eqb s 4294967295) (eqb n 0) h)) i ∷ []
    go false h = refl

module _ (ss roads junctions ends : List ℕ) (fit : Fit 20 18 19 roads (length ss)) where
  count_is : (r : ℕ) → r < length roads / 20
      → length (road_now ss roads junctions ends r).sections ≡ get_or roads (r * 20 + 19) 0
  unfolding road_now
  count_is r inside =
      ap₂ (λ (a b : ℕ). length (part a b ss)) (get_or-drop (r * 20) roads 18 0) (get_or-drop (r * 20) roads 19 0)
      ∙ length-take-le (get_or roads (r * 20 + 19) 0) (drop (get_or roads (r * 20 + 18) 0) ss)
      (let rest = length-drop (get_or roads (r * 20 + 18) 0) ss in
      let fits = fit_in 20 18 19 roads (length ss) fit r inside in omega arith)

  row_now : (r : ℕ) → r < length roads / 20
      → road_row (get_or roads (r * 20 + 18) 0) (road_now ss roads junctions ends r)
      ≡ road_now_words roads junctions ends r
  unfolding road_row road_now road_now_words
  row_now r inside =
      let row = from 20 roads r in
      let junction-name =
      name_forth (word row 2) (word row 3)
      ∙ ap₂ (λ (a b : ℕ). a ∷ b ∷ []) (get_or-drop (r * 20) roads 2 0) (get_or-drop (r * 20) roads 3 0) in
      λ i.
      first_of roads (r * 20) i ∷ get_or-drop (r * 20) roads 1 0 i
      ∷ (junction-name i
      ++ (target_words (target_now roads junctions ends r false)
      ++ (target_words (target_now roads junctions ends r true)
      ++ (get_or roads (r * 20 + 18) 0 ∷ count_is r inside i ∷ []))))

  sections_before : (i : ℕ) → i ≤ length roads / 20
      → length (gather (λ (r : Road). r.sections) (tab i (road_now ss roads junctions ends)))
      ≡ total i (counts 20 19 roads)
  unfolding tab
  sections_before zero h = total_none (counts 20 19 roads)
  sections_before (suc i) h =
      let both =
      ap length (gather_append (λ (r : Road). r.sections) (tab i (road_now ss roads junctions ends))
      (road_now ss roads junctions ends i ∷ []))
      ∙ length-append (gather (λ (r : Road). r.sections) (tab i (road_now ss roads junctions ends)))
      ((road_now ss roads junctions ends i).sections ++ []) in
      let before = sections_before i (omega arith) in
      let last = ap length (append-nil (road_now ss roads junctions ends i).sections) ∙ count_is i h in
      let more = ap (λ (k : ℕ). total k (counts 20 19 roads)) (sym (add-one i)) ∙ total_more i (counts 20 19 roads) in
      omega arith

  rows_now : (i : ℕ) → i ≤ length roads / 20
      → rows_from road_row (λ (r : Road). r.sections) 0 (tab i (road_now ss roads junctions ends))
      ≡ gather (road_now_words roads junctions ends) (tab i (λ r. r))
  unfolding tab
  rows_now zero h = refl
  rows_now (suc i) h =
      rows_from_append road_row (λ (r : Road). r.sections) 0 (tab i (road_now ss roads junctions ends))
      (road_now ss roads junctions ends i ∷ [])
      ∙ ap₂ (λ (a b : List ℕ). a ++ b) (rows_now i (omega arith))
      (ap (λ (k : ℕ). road_row k (road_now ss roads junctions ends i) ++ []) (begin ∙ sym (fit.begins i h))
      ∙ ap (λ (l : List ℕ). l ++ []) (row_now i h))
      ∙ sym (gather_append (road_now_words roads junctions ends) (tab i (λ r. r)) (i ∷ []))
    where
      begin : 0 + length (gather (λ (r : Road). r.sections) (tab i (road_now ss roads junctions ends)))
          ≡ total i (counts 20 19 roads)
      begin = let before = sections_before i (omega arith) in omega arith

  pub words_now_lem : road_words (roads_now ss roads junctions ends) ≡ roads_now_words roads junctions ends
  unfolding road_words roads_now
  words_now_lem = rows_now (length roads / 20) (omega arith)

-- Edges by row numbers are the model's.
use Prim.Native.Nat.{ℕ, suc, ◌+◌, ◌*◌, ◌/◌, ◌<◌, ◌≤◌}
use mathlib.Core.Bool.{Bool, true, false, cond}
use mathlib.Core.List.{List, [], ◌∷◌, ◌++◌, map}
use mathlib.Core.Path.{◌≡◌, refl, sym, ap, ap₂, ◌∙◌, subst}
use native.Mathlib.Nat.{add-zero, add_assoc}
use native.Mathlib.Omega.{arith}
use lib.Ieee.{Float, nan}
use lib.ListN.{length, get_or, take, drop, length-drop}
use lib.Seq.{get_or-drop, get_or-take, length-take-le}
use Rattle.geometry.specs.Edges.{ends_at}
use Rattle.geometry.specs.Gap.{end_of, start_of, swapped}
use Rattle.model.specs.Lists.{gather, pick}
use Rattle.model.specs.Records.{Road, Span}
use Rattle.model.specs.Reversal.{reverse_edged}
use Rattle.model.specs.Rows.{table}
use Rattle.model.specs.Tables.{edge_row, edge_words, lane_in, lanes_in, with_edges}
use Rattle.laws.proofs.Basics.{gather_map}
use Rattle.words.specs.Rows.{from, joined, tab}
use Rattle.tables.specs.Found.{edged_at}
use Rattle.tables.proofs.Identities.{lanes_are}
use Rattle.reversal.specs.Turned.{end_floats, floats_of, mark_at, turned_edges}
use Rattle.words.proofs.Joins.{gather_tab, joined_same, row_room}

-- six floats, one by one
six : (l : List Float) → length l ≡ 6
    → get_or l 0 nan ∷ get_or l 1 nan ∷ get_or l 2 nan ∷ get_or l 3 nan ∷ get_or l 4 nan ∷ get_or l 5 nan ∷ [] ≡ l
six [] e = absurd (let z : 0 ≡ 6 = e in omega arith)
six (a ∷ []) e = absurd (let z : 1 ≡ 6 = e in omega arith)
six (a ∷ b ∷ []) e = absurd (let z : 2 ≡ 6 = e in omega arith)
six (a ∷ b ∷ c ∷ []) e = absurd (let z : 3 ≡ 6 = e in omega arith)
six (a ∷ b ∷ c ∷ d ∷ []) e = absurd (let z : 4 ≡ 6 = e in omega arith)
six (a ∷ b ∷ c ∷ d ∷ f ∷ []) e = absurd (let z : 5 ≡ 6 = e in omega arith)
six (a ∷ b ∷ c ∷ d ∷ f ∷ g ∷ []) e = refl
six (a ∷ b ∷ c ∷ d ∷ f ∷ g ∷ h ∷ more) e =
    absurd (let z : suc (suc (suc (suc (suc (suc (suc (length more))))))) ≡ 6 = e in omega arith)

module _ (edges : List Float) (a : ℕ) (room : a + 12 ≤ length edges) where
  at_start_lem : (m : ℕ) → m < 6 → get_or edges (a + m) nan ≡ get_or (take 6 (take 12 (drop a edges))) m nan
  at_start_lem m h =
      sym (get_or-take 6 (take 12 (drop a edges)) m nan h
      ∙ get_or-take 12 (drop a edges) m nan (omega arith)
      ∙ get_or-drop a edges m nan)

  at_end_lem : (m : ℕ) → m < 6 → get_or edges (a + (6 + m)) nan ≡ get_or (drop 6 (take 12 (drop a edges))) m nan
  at_end_lem m h =
      sym (get_or-drop 6 (take 12 (drop a edges)) m nan
      ∙ get_or-take 12 (drop a edges) (6 + m) nan (omega arith)
      ∙ get_or-drop a edges (6 + m) nan)

  twelve : length (take 12 (drop a edges)) ≡ 12
  twelve = length-take-le 12 (drop a edges) (let z = length-drop a edges in omega arith)

  start_is : get_or edges a nan ∷ get_or edges (a + 1) nan ∷ get_or edges (a + 2) nan ∷ get_or edges (a + 3) nan
      ∷ get_or edges (a + 4) nan ∷ get_or edges (a + 5) nan ∷ [] ≡ take 6 (take 12 (drop a edges))
  start_is =
      let p = ap (λ (m : ℕ). get_or edges m nan) (sym (add-zero a)) ∙ at_start_lem 0 (omega arith) in
      let q = at_start_lem 1 (omega arith) in
      let r = at_start_lem 2 (omega arith) in
      let s = at_start_lem 3 (omega arith) in
      let t = at_start_lem 4 (omega arith) in
      let u = at_start_lem 5 (omega arith) in
      (λ i. p i ∷ q i ∷ r i ∷ s i ∷ t i ∷ u i ∷ [])
      ∙ six (take 6 (take 12 (drop a edges)))
      (length-take-le 6 (take 12 (drop a edges)) (let z = twelve in omega arith))

  end_is : get_or edges (a + 6) nan ∷ get_or edges (a + 7) nan ∷ get_or edges (a + 8) nan ∷ get_or edges (a + 9) nan
      ∷ get_or edges (a + 10) nan ∷ get_or edges (a + 11) nan ∷ [] ≡ drop 6 (take 12 (drop a edges))
  end_is =
      let p = at_end_lem 0 (omega arith) in
      let q = at_end_lem 1 (omega arith) in
      let r = at_end_lem 2 (omega arith) in
      let s = at_end_lem 3 (omega arith) in
      let t = at_end_lem 4 (omega arith) in
      let u = at_end_lem 5 (omega arith) in
      (λ i. p i ∷ q i ∷ r i ∷ s i ∷ t i ∷ u i ∷ [])
      ∙ six (drop 6 (take 12 (drop a edges)))
      (length-drop 6 (take 12 (drop a edges)) ∙ (let z = twelve in omega arith))

-- the floats of the ends that the code reads
module _ (edges : List Float) (i : ℕ) where
  ends_last : end_floats (end_of (ends_at edges i))
      ≡ get_or edges (i * 12 + 6) nan ∷ get_or edges (i * 12 + 7) nan ∷ get_or edges (i * 12 + 8) nan
      ∷ get_or edges (i * 12 + 9) nan ∷ get_or edges (i * 12 + 10) nan ∷ get_or edges (i * 12 + 11) nan ∷ []
  ends_last = simp add_assoc

  ends_first : end_floats (start_of (ends_at edges i))
      ≡ get_or edges (i * 12) nan ∷ get_or edges (i * 12 + 1) nan ∷ get_or edges (i * 12 + 2) nan
      ∷ get_or edges (i * 12 + 3) nan ∷ get_or edges (i * 12 + 4) nan ∷ get_or edges (i * 12 + 5) nan ∷ []
  ends_first = simp add_assoc

floats_are : (edges : List Float) (i : ℕ) → i * 12 + 12 ≤ length edges → (m : Bool) →
    floats_of (cond m (swapped (ends_at edges i)) (ends_at edges i))
    ≡ pick m (take 6 (take 12 (drop (i * 12) edges))) (drop 6 (take 12 (drop (i * 12) edges)))
    ++ pick m (drop 6 (take 12 (drop (i * 12) edges))) (take 6 (take 12 (drop (i * 12) edges)))
unfolding floats_of
floats_are edges i room true =
    ap₂ (λ (x y : List Float). x ++ y) (ends_last edges i ∙ end_is edges (i * 12) room)
    (ends_first edges i ∙ start_is edges (i * 12) room)
floats_are edges i room false =
    ap₂ (λ (x y : List Float). x ++ y) (ends_first edges i ∙ start_is edges (i * 12) room)
    (ends_last edges i ∙ end_is edges (i * 12) room)

pub edges_are : (same : Span → Span → Bool) (mk : Span → Bool) (rs : List Road) (lanes owner marks : List ℕ)
    (edges : List Float) → length edges ≡ 12 * (length lanes / 10) →
    ((i : ℕ) → i < length lanes / 10 → mk (lane_in (from 10 lanes i)).road ≡ mark_at marks (get_or owner i 0)) →
    edge_words (map (reverse_edged same mk rs) (with_edges (lanes_in lanes) (table 12 edges)))
    ≡ joined (length edges / 12) (turned_edges owner marks edges)
unfolding edge_words turned_edges
edges_are same mk rs lanes owner marks edges e own =
    let n : length lanes / 10 ≡ length edges / 12 = omega arith in
    ap (λ xs. gather edge_row (map (reverse_edged same mk rs) xs))
    (lanes_are lanes edges e ∙ ap (λ (m : ℕ). tab m (edged_at lanes edges)) n)
    ∙ gather_map (reverse_edged same mk rs) edge_row (tab (length edges / 12) (edged_at lanes edges))
    ∙ gather_tab (λ x. edge_row (reverse_edged same mk rs x)) (length edges / 12) (edged_at lanes edges)
    ∙ joined_same (length edges / 12) (λ i. edge_row (reverse_edged same mk rs (edged_at lanes edges i)))
    (λ i. floats_of (cond (mark_at marks (get_or owner i 0)) (swapped (ends_at edges i)) (ends_at edges i)))
    (λ i h.
    one i (subst (λ (m : ℕ). i < m) (sym n) h)
    (row_room (length edges) 12 i (length edges) h (native.Mathlib.Nat.le_refl (length edges))))
  where
    one : (i : ℕ) → i < length lanes / 10 → i * 12 + 12 ≤ length edges
        → edge_row (reverse_edged same mk rs (edged_at lanes edges i))
        ≡ floats_of (cond (mark_at marks (get_or owner i 0)) (swapped (ends_at edges i)) (ends_at edges i))
    one i h room =
        unfold edge_row reverse_edged edged_at in
        (ap (λ (b : Bool).
        pick b (take 6 (take 12 (drop (i * 12) edges))) (drop 6 (take 12 (drop (i * 12) edges)))
        ++ pick b (drop 6 (take 12 (drop (i * 12) edges))) (take 6 (take 12 (drop (i * 12) edges)))) (own i h)
        ∙ sym (floats_are edges i room (mark_at marks (get_or owner i 0))))

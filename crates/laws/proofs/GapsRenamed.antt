-- The gap rows of a map's copy, renamed and reordered: the same collection by identity.
use mathlib.Core.Path.{◌≡◌, refl, sym, ◌∙◌, ap, ap₂}
use mathlib.Core.Bool.{Bool, true, false, cond}
use mathlib.Core.Option.{Option, none, some}
use mathlib.Core.List.{List, [], ◌∷◌, ◌++◌, map, head-eq_of_cons-eq, map-append, map-map, nil≢cons}
use mathlib.Core.List.{tail-eq_of_cons-eq}
use Prim.Native.Nat.{ℕ, suc}
use native.Mathlib.Omega.{arith}
use lib.Dec.{eqb}
use lib.ListN.{get_or}
use Rattle.geometry.specs.Gap.{closest_ends, decision_of, gap_of, place_bits, row_bits}
use Rattle.model.specs.Calls.{gap_content, gap_width, gap_words, list_content}
use Rattle.model.specs.Claim.{identity_at}
use Rattle.model.specs.Gaps.{GapRow, closest_between, ends_of, gap_between, gap_row, gaps_from, link_gaps, points_of}
use Rattle.model.specs.Gaps.{row_of_identity}
use Rattle.model.specs.Lists.{first, gather, list_o, map_o}
use Rattle.model.specs.Lookup.{lists_in}
use Rattle.model.specs.Orders.{InAnyOrder, SameCollection}
use Rattle.model.specs.Records.{EdgedLane, Lane, Span}
use Rattle.model.specs.Renamed.{EdgedRenamed, gap_by_identity, gaps_by_identity}
use Rattle.model.specs.Rows.{table, word}
use Rattle.model.specs.Rules.{same}
use Rattle.model.specs.Succession.{successor_lists, successors}
use Rattle.model.specs.Tables.{Tables, edged_lanes_of, lane_in, lane_width, lanes_in, lanes_of, map_of}
use Rattle.laws.proofs.AnyOrder.{KeysOnce, any_each, any_gather, any_key, both_list, same_self}
use Rattle.laws.proofs.Basics.{gather_ext, map_gather}
use Rattle.laws.proofs.ForEach.{each}
use Rattle.laws.proofs.Lay.{table_even}
use Rattle.laws.proofs.Packed.{unpack}

abbrev pub identity_of : EdgedLane → ℕ
identity_of x = x.lane.identity

-- the lane of an identity
abbrev bearing : List EdgedLane → ℕ → Option EdgedLane
bearing xs k = first (λ x. eqb (identity_of x) k) xs

-- the words of a link's row with identities i and k for rows, if its gap is wide
abbrev link_row : (i k : ℕ) → EdgedLane → EdgedLane → List (List ℕ)
link_row i k a b =
    let at = closest_between a b in
    map (λ g. i ∷ k ∷ g ∷ place_bits at.u ∷ place_bits at.v ∷ []) (row_bits (decision_of (gap_between a b)))

abbrev wide : EdgedLane → EdgedLane → List (List ℕ)
wide a b = link_row (identity_of a) (identity_of b) a b

-- of all links of some lanes among all lanes
abbrev pub gaps_for : (all : List EdgedLane) → (EdgedLane → List ℕ) → List EdgedLane → List (List ℕ)
gaps_for all f xs = gather (λ a. gather (λ k. list_o (bearing all k) (wide a)) (f a)) xs

-- ---- from rows to identities: ids tells the identity in a row
module _ (ids : ℕ → ℕ) where
  -- it does so of these lanes, from row i on
  abbrev pub Tells : ℕ → List EdgedLane → Type 0
  Tells i [] = Unit {0}
  Tells i (x ∷ xs) = (ids i ≡ identity_of x) × Tells (suc i) xs

  -- a gap row's words with identities for rows
  abbrev pub by_ids : GapRow → List ℕ
  by_ids g = ids g.lane_row ∷ ids g.next_row ∷ g.gap ∷ g.u ∷ g.v ∷ []

  named : ℕ × EdgedLane → ℕ × EdgedLane
  named p = (ids p.0, p.1)

  row_bearing_lem : (k i : ℕ) (xs : List EdgedLane) → Tells i xs →
      map_o named (row_of_identity k i xs) ≡ map_o (λ x. (identity_of x, x)) (bearing xs k)
  unfolding named
  row_bearing_lem k i [] told = refl
  row_bearing_lem k i (x ∷ xs) told = go (eqb (identity_of x) k) (row_bearing_lem k (suc i) xs told.1)
    where
      go : (b : Bool) → map_o named (row_of_identity k (suc i) xs) ≡ map_o (λ x. (identity_of x, x)) (bearing xs k) →
          map_o named (cond b (some (i, x)) (row_of_identity k (suc i) xs))
          ≡ map_o (λ x. (identity_of x, x)) (cond b (some x) (bearing xs k))
      go true later = rw told.0
      go false later = later

  module _ (all : List EdgedLane) (all_told : Tells 0 all) where
    row_named_lem : (a : EdgedLane) (i : ℕ) → ids i ≡ identity_of a → (k : ℕ) →
        map by_ids (list_o (row_of_identity k 0 all) (gap_row i a)) ≡ list_o (bearing all k) (wide a)
    unfolding gap_row named
    row_named_lem a i told k =
        leaf (row_of_identity k 0 all) ∙ ap (λ o. list_o o row) (row_bearing_lem k 0 all all_told)
        ∙ back (bearing all k)
      where
        row : ℕ × EdgedLane → List (List ℕ)
        row b = link_row (identity_of a) b.0 a b.1

        leaf : (o : Option (ℕ × EdgedLane)) → map by_ids (list_o o (gap_row i a)) ≡ list_o (map_o named o) row
        leaf none = refl
        leaf (some b) =
            let at = closest_between a b.1 in
            map-map by_ids
            (λ g. record { lane_row = i; next_row = b.0; gap = g; u = place_bits at.u; v = place_bits at.v })
            (row_bits (decision_of (gap_between a b.1)))
            ∙ ap (λ n. link_row n (ids b.0) a b.1) told

        back : (o : Option EdgedLane) → list_o (map_o (λ x. (identity_of x, x)) o) row ≡ list_o o (wide a)
        back none = refl
        back (some b) = refl

    pub gaps_named : (f : EdgedLane → List ℕ) (i : ℕ) (xs : List EdgedLane) → Tells i xs →
        map by_ids (gaps_from all i xs (map f xs)) ≡ gaps_for all f xs
    gaps_named f i [] told = refl
    gaps_named f i (a ∷ xs) told =
        let row : ℕ → List GapRow = λ k. list_o (row_of_identity k 0 all) (gap_row i a) in
        map-append by_ids (gather row (f a)) (gaps_from all (suc i) xs (map f xs))
        ∙ ap₂ (λ l k. l ++ k)
        (map_gather row by_ids (f a)
        ∙ gather_ext (λ k. map by_ids (row k)) (λ k. list_o (bearing all k) (wide a)) (f a)
        (each (row_named_lem a i told.0) (f a)))
        (gaps_named f (suc i) xs told.1)

-- ---- the words: each lane row tells its identity
lanes_told : (rows : List (List ℕ)) (xs : List EdgedLane) → map (λ x. x.lane) xs ≡ map lane_in rows →
    Tells (λ i. word (get_or rows i []) 0) 0 xs
unfolding lane_in
lanes_told rows [] e = tt
lanes_told [] (x ∷ xs) e = absurd (nil≢cons (sym e))
lanes_told (r ∷ rows) (x ∷ xs) e = (
  sym (ap (λ (l : Lane). l.identity) (head-eq_of_cons-eq e)),
  later 0 xs (lanes_told rows xs (tail-eq_of_cons-eq e)),
)
  where
    later : (i : ℕ) (xs : List EdgedLane) → Tells (λ i. word (get_or rows i []) 0) i xs →
        Tells (λ i. word (get_or (r ∷ rows) i []) 0) (suc i) xs
    later i [] told = tt
    later i (x ∷ xs) told = (told.0, later (suc i) xs told.1)

pub gaps_are : (t : Tables) → map (λ x. x.lane) (edged_lanes_of t) ≡ lanes_of t →
    gaps_by_identity t ≡ gaps_for (edged_lanes_of t) (λ x. successors (same t) (map_of t) x.lane) (edged_lanes_of t)
unfolding gaps_by_identity gap_by_identity gap_content gap_words link_gaps list_content successor_lists lanes_in map_of
gaps_are t match =
    ap (map (gap_by_identity t.lanes)) (table_even gap_width gap_words rows (omega arith) (each (λ g. refl) rows))
    ∙ map-map (gap_by_identity t.lanes) gap_words rows
    ∙ ap (λ ls. map (by_ids ids) (gaps_from xs 0 xs ls)) lists
    ∙ gaps_named ids xs told f 0 xs told
  where
    xs : List EdgedLane
    xs = edged_lanes_of t

    ids : ℕ → ℕ
    ids = identity_at t.lanes

    f : EdgedLane → List ℕ
    f x = successors (same t) (map_of t) x.lane

    rows : List GapRow
    rows = link_gaps xs (lists_in (list_content t).successor_offsets (list_content t).successor_ids)

    lists : lists_in (list_content t).successor_offsets (list_content t).successor_ids ≡ map f xs
    lists =
        unpack (successor_lists (same t) (map_of t)) ∙ ap (map (successors (same t) (map_of t))) (sym match)
        ∙ map-map (successors (same t) (map_of t)) (λ x. x.lane) xs

    told : Tells ids 0 xs
    told = lanes_told (table lane_width t.lanes) xs match

-- ---- lanes and their copies
module _ (road_name : Span → Span → Type 0) where
  abbrev Edged : EdgedLane → EdgedLane → Type 0
  Edged = EdgedRenamed road_name

  same_ends : {x x' : EdgedLane} → Edged x x' → ends_of x' ≡ ends_of x
  same_ends h = λ i. points_of (h.at_start i) ∷ points_of (h.at_end i) ∷ []

  module _ (a a' : EdgedLane) (h : Edged a a') (b b' : EdgedLane) (k : Edged b b') where
    same_gap : gap_between a' b' ≡ gap_between a b
    unfolding gap_between
    same_gap = λ i. gap_of (same_ends h i) (h.lane.direction i) (same_ends k i) (k.lane.direction i)

    same_closest : closest_between a' b' ≡ closest_between a b
    unfolding closest_between
    same_closest = λ i. closest_ends (same_ends h i) (h.lane.direction i) (same_ends k i) (k.lane.direction i)

    same_wide : wide a' b' ≡ wide a b
    same_wide = λ i. map
        (λ g. h.lane.identity i ∷ k.lane.identity i ∷ g ∷ place_bits (same_closest i).u
        ∷ place_bits (same_closest i).v ∷ [])
        (row_bits (decision_of (same_gap i)))

    same_rows : SameCollection (wide a b) (wide a' b')
    same_rows = rw same_wide (same_self (wide a b))

  pub gaps_any : {xs xs' : List EdgedLane} → InAnyOrder Edged xs xs' → KeysOnce identity_of xs
      → (f f' : EdgedLane → List ℕ) → ((x x' : EdgedLane) → Edged x x' → f' x' ≡ f x) →
      SameCollection (gaps_for xs f xs) (gaps_for xs' f' xs')
  gaps_any {xs} {xs'} h once f f' k =
      any_gather (λ a. gather (λ n. list_o (bearing xs n) (wide a)) (f a))
      (λ a. gather (λ n. list_o (bearing xs' n) (wide a)) (f' a)) one h
    where
      one : (a a' : EdgedLane) → Edged a a' → SameCollection (gather (λ n. list_o (bearing xs n) (wide a)) (f a))
          (gather (λ n. list_o (bearing xs' n) (wide a')) (f' a'))
      one a a' q =
          rw (k a a' q)
          (any_each (λ n. list_o (bearing xs n) (wide a)) (λ n. list_o (bearing xs' n) (wide a'))
          (λ n. both_list (same_rows a a' q)
          (any_key identity_of identity_of (λ x x' w. w.lane.identity) h once n))
          (f a))

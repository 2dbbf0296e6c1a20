-- Lanes by row numbers are the model's.
use Prim.Native.Nat.{ℕ, zero, suc, ◌+◌, ◌*◌, ◌-◌, ◌/◌, ◌<◌, ◌≤◌}
use mathlib.Core.Bool.{Bool, true, false, not, ◌||◌, cond, true≢false}
use mathlib.Core.List.{List, [], ◌∷◌, map}
use mathlib.Core.Option.{Option, none, some}
use mathlib.Core.Path.{◌≡◌, refl, sym, ap, ap₂, ◌∙◌, subst}
use native.Mathlib.Nat.{add_assoc, le_of_suc-le-suc, not-suc-le-zero}
use native.Mathlib.Omega.{arith}
use lib.Dec.{eqb, ltb}
use lib.ListN.{length, get_or}
use lib.Seq.{get_or-drop}
use borrow.Author.Tests.{eqb-true, eq-eqb, ne_eqb, le-ltb, ltb-false}
use Rattle.std.proofs.lemmas.Bool.{cond-false, cond-true}
use Rattle.model.specs.Lists.{ascends, bind_o, final, first, gather, head_or, last_or, map_o, member, or_else}
use Rattle.model.specs.Lists.{pick}
use Rattle.model.specs.Records.{Lane, Road, Span, target_at, link_at}
use Rattle.model.specs.Repair.{road_of}
use Rattle.model.specs.Reversal.{leads_by, leads_to, mirror, reverse_direction, reverse_lane}
use Rattle.model.specs.Reversal.{reverse_link, road_named, roadward, signed}
use Rattle.model.specs.Succession.{next_section, sections_from, sections_of}
use Rattle.model.specs.Tables.{lane_in, lane_row, lane_words, lanes_in, road_in, roads_in}
use Rattle.model.specs.Text.{same_in}
use Rattle.laws.proofs.Basics.{gather_map, no_some}
use Rattle.laws.proofs.RowTests.{final_nowhere, first_nowhere}
use Rattle.words.specs.Keys.{bears, name_before}
use Rattle.words.specs.Rows.{all, any, from, joined, last_of, name_at, tab}
use Rattle.words.proofs.Chains.{last_le}
use Rattle.words.proofs.Scans.{all_at}
use Rattle.rules.specs.ByRow.{Owned, known_in, listed_at, numbers_at, road_row_of}
use Rattle.rules.proofs.Forms.{known_none, known_some, lane_in_local, lanes_tab, name_at_lem, numbers_at_lem}
use Rattle.reversal.specs.Turned.{Kept, Within, mark_at, mark_of, names_marked, reversed_on, row, sign_at}
use Rattle.reversal.specs.Turned.{target_marked}
use Rattle.reversal.specs.Turned.{reversed_lane}
use Rattle.words.proofs.Joins.{gather_tab, joined_same}
use Rattle.reversal.proofs.Leaves.{last_is}
use Rattle.reversal.proofs.MarkLaws.{road_some}
use Rattle.reversal.proofs.Places.{between}

-- is the road of that name, if there is one, marked?
abbrev is_marked : (Span → Bool) → Option Span → Bool
is_marked mk name = Rattle.model.specs.Reversal.marks mk name

-- ---- a further section
first_none_at : (p : ℕ → Bool) (xs : List ℕ) → first p xs ≡ none → (k : ℕ) → k < length xs → p (get_or xs k 0) ≡ false
first_none_at p [] e k h = absurd (not-suc-le-zero h)
first_none_at p (x ∷ xs) e k h = go (p x) refl e (first_none_at p xs) k h
  where
    go : (b : Bool) → p x ≡ b → cond b (some x) (first p xs) ≡ none
        → (first p xs ≡ none → (k : ℕ) → k < length xs → p (get_or xs k 0) ≡ false) → (k : ℕ)
        → k < suc (length xs) → p (get_or (x ∷ xs) k 0) ≡ false
    go true q z ih k h = absurd (no_some x (sym z))
    go false q z ih zero h = q
    go false q z ih (suc k) h = ih z k (le_of_suc-le-suc h)

final_none_head : (p : ℕ → Bool) (x : ℕ) (xs : List ℕ) → final p (x ∷ xs) ≡ none → p x ≡ false
final_none_head p x xs e = go (final p xs) (p x) e
  where
    go : (o : Option ℕ) (b : Bool) → or_else o (cond b (some x) none) ≡ none → b ≡ false
    go none true z = absurd (no_some x (sym z))
    go none false z = refl
    go (some y) b z = absurd (no_some y (sym z))

last_low : (s : ℕ) (ss : List ℕ) → first (λ i. ltb s i) ss ≡ none → last_or 0 ss ≤ s
last_low s [] e = omega arith
last_low s (x ∷ xs) e =
    let here : suc (length xs) - 1 < suc (length xs) = omega arith in
    let low = ltb-false s _ (first_none_at (λ i. ltb s i) (x ∷ xs) e (suc (length xs) - 1) here) in
    omega (arith, low, last_is (x ∷ xs))

head_high : (s : ℕ) (ss : List ℕ) → s ≤ last_or 0 ss → final (λ i. ltb i s) ss ≡ none → s ≤ head_or 0 ss
head_high s [] high e = high
head_high s (x ∷ xs) high e = ltb-false x s (final_none_head (λ i. ltb i s) x xs e)

-- the first (false) or the last (true) of a road's sections
abbrev edge : Bool → List ℕ → ℕ
edge e ss = pick e (head_or 0 ss) (last_or 0 ss)

module _ (ss : List ℕ) (s : ℕ) (up : ascends ss ≡ true) (within : Within ss s) where
  -- none lies further than that
  none_further : (e : Bool) → s ≡ edge e ss → next_section ss s e ≡ none
  unfolding next_section
  none_further true at_Edge =
      first_nowhere (λ i. ltb s i) 0 ss (λ k h. le-ltb s (get_or ss k 0) (omega (arith, (between ss k up h).high)))
  none_further false at_Edge =
      final_nowhere (λ i. ltb i s) 0 ss (λ k h. le-ltb (get_or ss k 0) s (omega (arith, (between ss k up h).low)))

  -- and of no other section is this so
  only_edge : (e : Bool) → next_section ss s e ≡ none → s ≡ edge e ss
  unfolding next_section
  only_edge true none-next = omega (arith, within.high, last_low s ss none-next)
  only_edge false none-next = omega (arith, within.low, head_high s ss within.high none-next)

  -- whether a link leads to a marked road
  leads_by_lem : (same : Span → Span → Bool) (mk : Span → Bool) (rs : List Road) (l : Lane) (e : Bool)
      → is_marked mk (leads_by same rs l e (next_section ss s e))
      ≡ cond (eqb s (edge e ss)) (is_marked mk (roadward same rs l.road e)) (mk l.road)
  leads_by_lem same mk rs l e = go (next_section ss s e) refl
    where
      go : (next : Option ℕ) → next_section ss s e ≡ next
          → is_marked mk (leads_by same rs l e next)
          ≡ cond (eqb s (edge e ss)) (is_marked mk (roadward same rs l.road e)) (mk l.road)
      go none is = sym (cond-true _ _ _ (eq-eqb s (edge e ss) (only_edge e is)))
      go (some x) is =
          sym (cond-false _ _ _ (ne_eqb s (edge e ss) (λ at_Edge. no_some x (sym (none_further e at_Edge) ∙ is))))

-- ---- a section that is listed
-- where it stands
member_at : (s : ℕ) (xs : List ℕ) → member s xs ≡ true → (k : ℕ) × (k < length xs) × (get_or xs k 0 ≡ s)
member_at s [] h = absurd (true≢false (sym h))
member_at s (x ∷ xs) h = go (eqb s x) refl h (member_at s xs)
  where
    go : (b : Bool) → eqb s x ≡ b → (b || member s xs) ≡ true
        → (member s xs ≡ true → (k : ℕ) × (k < length xs) × (get_or xs k 0 ≡ s))
        → (k : ℕ) × (k < suc (length xs)) × (get_or (x ∷ xs) k 0 ≡ s)
    go true q z rest = (0, omega arith, sym (eqb-true s x q))
    go false q z rest = let at = rest z in (suc at.0, omega (arith, at.1), at.2)

listed_within : (xs : List ℕ) (s : ℕ) → ascends xs ≡ true → member s xs ≡ true → Within xs s
listed_within xs s up h = let at = member_at s xs h in subst (Within xs) at.2 (between xs at.0 up at.1)

above_zero : (n : ℕ) → (n ≡ 0 → ⊥) → 0 < n
above_zero zero n = absurd (n refl)
above_zero (suc k) n = omega arith

module _ (text roads sections lanes owner : List ℕ)
    (once : any (length roads / 20) (name_before text 20 0 roads) ≡ false)
    (up : all (length roads / 20) (λ i. ascends (numbers_at roads sections i)) ≡ true)
    (listed : all (length lanes / 10) (listed_at text roads sections lanes) ≡ true)
    (owned : Owned text roads lanes (length lanes / 10) owner) where
  pub kept_at : (i : ℕ) → i < length lanes / 10 → Kept roads sections lanes owner i
  unfolding road_row_of
  kept_at i h =
      let o = get_or owner i 0 in
      let n = name_at 10 1 lanes i in
      let s = get_or lanes (i * 10 + 3) 0 in
      let at : o ≡ last_of (length roads / 20) (bears text 20 0 roads n) = owned.at i h in
      let here : known_in text roads sections n s ≡ true =
      all_at (length lanes / 10) i (listed_at text roads sections lanes) listed h in
      let pos : 0 < o = above_zero o (λ z. true≢false (sym here ∙ known_none text roads sections n s (sym at ∙ z))) in
      let le = last_le (length roads / 20) (bears text 20 0 roads n) in
      let below : o ≤ length roads / 20 = omega arith in
      let r : o ≡ suc (o - 1) = omega arith in
      let b =
      listed_within (numbers_at roads sections (o - 1)) s
      (all_at (length roads / 20) (o - 1) (λ i. ascends (numbers_at roads sections i)) up (omega arith))
      (sym (known_some text roads sections n s (o - 1) once (sym at ∙ r)) ∙ here) in
      record { known = pos; below = below; within = b }

-- ---- a road's targets
module _ (text roads sections marks : List ℕ) (r : ℕ) where
  -- the target at either end names a marked road
  toward : (e : Bool) → names_marked (mark_of text roads marks) (target_at e (road_in sections (from 20 roads r)))
      ≡ target_marked text roads marks (r * 20 + pick e 4 11)
  unfolding road_in target_marked
  toward false = simp (get_or-drop (r * 20) roads, add_assoc)
  toward true = simp (get_or-drop (r * 20) roads, add_assoc)

-- ---- lane i
module _ (text roads sections marks lanes owner : List ℕ)
    (once : any (length roads / 20) (name_before text 20 0 roads) ≡ false)
    (up : all (length roads / 20) (λ i. ascends (numbers_at roads sections i)) ≡ true)
    (owned : Owned text roads lanes (length lanes / 10) owner)
    (kept : (i : ℕ) → i < length lanes / 10 → Kept roads sections lanes owner i) where
  -- the mark of its road
  pub lane_mark : (i : ℕ) → i < length lanes / 10
      → mark_of text roads marks (lane_in (from 10 lanes i)).road ≡ mark_at marks (get_or owner i 0)
  unfolding lane_in mark_of
  lane_mark i h =
      ap (λ (n : Span). mark_at marks (road_row_of text roads n)) (name_at_lem 10 1 lanes i)
      ∙ ap (mark_at marks) (sym (owned.at i h))

  turned : Lane → Lane
  turned = reverse_lane (same_in text) (mark_of text roads marks) (roads_in sections roads)

  lane_at_lem : (i : ℕ) → i < length lanes / 10
      → turned (lane_in (from 10 lanes i))
      ≡ reversed_on text roads marks (lane_in (row 10 lanes i)) (get_or owner i 0 - 1)
      (mark_at marks (get_or owner i 0))
      (numbers_at roads sections (get_or owner i 0 - 1))
  unfolding turned reversed_on lane_in leads_to roadward sections_of reverse_lane reverse_link
  lane_at_lem i h =
      let same = same_in text in
      let mk = mark_of text roads marks in
      let rs = roads_in sections roads in
      let x = from 10 lanes i in
      let l = lane_in x in
      let o = get_or owner i 0 in
      let r = o - 1 in
      let ss = numbers_at roads sections r in
      let road = kept i h in
      let plus : o ≡ suc r = omega (arith, road.known) in
      let on : r < length roads / 20 = omega (arith, road.known, road.below) in
      let found : road_of same rs l.road ≡ some (road_in sections (from 20 roads r)) =
      road_some text roads sections once l.road r
      (ap (road_row_of text roads) (name_at_lem 10 1 lanes i) ∙ sym (owned.at i h) ∙ plus) in
      let numbers : sections_of same rs l.road ≡ ss = ap sections_from found ∙ numbers_at_lem roads sections r in
      let within : Within ss l.section = subst (Within ss) (sym (get_or-drop (i * 10) lanes 3 0)) road.within in
      let own : mk l.road ≡ mark_at marks o = lane_mark i h in
      let ascend = all_at (length roads / 20) r (λ i. ascends (numbers_at roads sections i)) up on in
      let target : (e : Bool) → is_marked mk (roadward same rs l.road e)
      ≡ target_marked text roads marks (r * 20 + pick e 4 11) =
      λ e.
      ap (λ q. is_marked mk (bind_o (bind_o q (target_at e)) road_named)) found
      ∙ toward text roads sections marks r e in
      let sign : (e : Bool) → is_marked mk (leads_to same rs l e)
      ≡ sign_at text roads marks l.section r (mark_at marks o) ss e =
      λ e.
      ap (λ (a : List ℕ). is_marked mk (leads_by same rs l e (next_section a l.section e))) numbers
      ∙ leads_by_lem ss l.section ascend within same mk rs l e
      ∙ ap₂ (λ (a b : Bool). cond (eqb l.section (edge e ss)) a b) (target e) own in
      let signs : (f : Bool → Bool) → is_marked mk (leads_to same rs l (f (mk l.road)))
      ≡ sign_at text roads marks l.section r (mark_at marks o) ss (f (mark_at marks o)) =
      λ f. ap (λ e. is_marked mk (leads_to same rs l (f e))) own ∙ sign (f (mark_at marks o)) in
      (λ j.
      record {
        identity = l.identity;
        road = l.road;
        section = cond (own j) (mirror (numbers j) l.section) l.section;
        number = signed (own j) l.number;
        direction = reverse_direction (own j) l.direction;
        predecessor = map_o (signed (signs (λ e. e) j)) (link_at (own j) l);
        successor = map_o (signed (signs not j)) (link_at (not (own j)) l);
      })
      ∙ ap (λ (l : Lane). reversed_on text roads marks l r (mark_at marks o) ss)
      (sym (unfold lane_in in lane_in_local (from 10 lanes i)))

  pub lanes_are : lane_words
      (map (reverse_lane (same_in text) (mark_of text roads marks) (roads_in sections roads)) (lanes_in lanes))
      ≡ joined (length lanes / 10) (reversed_lane text roads sections marks lanes owner)
  unfolding lane_words lanes_in turned reversed_lane
  lanes_are =
      ap (λ ls. gather lane_row (map turned ls)) (lanes_tab lanes)
      ∙ gather_map turned lane_row (tab (length lanes / 10) (λ i. lane_in (from 10 lanes i)))
      ∙ gather_tab (λ l. lane_row (turned l)) (length lanes / 10) (λ i. lane_in (from 10 lanes i))
      ∙ joined_same (length lanes / 10) (λ i. lane_row (turned (lane_in (from 10 lanes i))))
      (reversed_lane text roads sections marks lanes owner) (λ i h. ap lane_row (lane_at_lem i h))

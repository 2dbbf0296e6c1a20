-- The model's searches find what the definitions mean: sections, roads and junctions by name, lanes at a place.
use mathlib.Core.Path.{◌≡◌, refl, sym, ◌∙◌, ap, subst}
use mathlib.Core.Bool.{Bool, true, false, ◌&&◌}
use mathlib.Core.Option.{Option, none, some}
use mathlib.Core.List.Memᴰ
use mathlib.Core.List.{List, [], ◌∷◌}
use mathlib.Core.Logic.{◌⊎◌, inl, inr}
use Prim.Native.Nat.{ℕ, ◌<◌}
use native.Mathlib.Omega.{arith}
use lib.Dec.{eqb, ltb}
use borrow.Author.Tests.{eqb-true, eq-eqb, ltb-true, ltb-false, lt-ltb}
use Rattle.model.specs.Lists.{ascends, distinct, final, keep, last_or, member}
use Rattle.model.specs.Records.{Junction, Lane, Map, Road, Span}
use Rattle.model.specs.Repair.{road_of}
use Rattle.model.specs.Succession.{Entry, end_section, junction_of, lookup, lookup_at_end, next_section, sections_from}
use Rattle.model.specs.Succession.{sections_of, stands_at}
use Rattle.laws.proofs.ListTests.{and_both, and_left, and_right}
use Rattle.laws.proofs.RulesReversed.{Good}
use Rattle.laws.proofs.Valid.{Alike, Ascends}
use Rattle.meaning.specs.Meaning.{◌∈◌, Adjacent, JunctionNamed, LaneAt, Outermost, RoadAmong, RoadNamed}
use Rattle.meaning.specs.Meaning.{SectionAt}
use Rattle.meaning.proofs.Inside.{each_in, every_in, final_in, final_most, final_none, final_split, first_in}
use Rattle.meaning.proofs.Inside.{first_least, first_none, in_keep, in_map, member_in, of_keep, of_map}
use Rattle.meaning.proofs.Inside.{one_alike, split_final}
use Rattle.laws.proofs.RulesReversed.{ascends_fact}

-- ---- sections
pub next_adjacent : (ss : List ℕ) (s t : ℕ) (e : Bool) → Ascends ss → next_section ss s e ≡ some t → Adjacent ss e s t
unfolding next_section
next_adjacent ss s t true ascending found = record {
  listed = (first_in (λ i. ltb s i) ss found).0;
  beyond = ltb-true s t (first_in (λ i. ltb s i) ss found).1;
  nearest = λ u inside past before. let least = first_least (λ i. ltb s i) t u ss ascending found inside
      (lt-ltb s u past) in omega arith;
}
next_adjacent ss s t false ascending found = record {
  listed = (final_in (λ i. ltb i s) ss found).0;
  beyond = ltb-true t s (final_in (λ i. ltb i s) ss found).1;
  nearest = λ u inside past before. let least = final_most (λ i. ltb i s) t u ss ascending found inside
      (lt-ltb u s past) in omega arith;
}

pub next_outermost : (ss : List ℕ) (s : ℕ) (e : Bool) → next_section ss s e ≡ none → Outermost ss e s
unfolding next_section
next_outermost ss s true None-found u inside past = first_none (λ i. ltb s i) ss None-found inside (lt-ltb s u past)
next_outermost ss s false None-found u inside past = final_none (λ i. ltb i s) ss None-found inside (lt-ltb u s past)

-- two sections that are adjacent to one on the same side are one
pub one_adjacent : (ss : List ℕ) (s t u : ℕ) (e : Bool) → Adjacent ss e s t → Adjacent ss e s u → t ≡ u
one_adjacent ss s t u true one other = go (ltb t u) refl (ltb u t) refl
  where
    go : (b : Bool) → ltb t u ≡ b → (c : Bool) → ltb u t ≡ c → t ≡ u
    go true below c above = absurd (other.nearest t one.listed one.beyond (ltb-true t u below))
    go false below true above = absurd (one.nearest u other.listed other.beyond (ltb-true u t above))
    go false below false above = omega (arith, ltb-false t u below, ltb-false u t above)
one_adjacent ss s t u false one other = go (ltb t u) refl (ltb u t) refl
  where
    go : (b : Bool) → ltb t u ≡ b → (c : Bool) → ltb u t ≡ c → t ≡ u
    go true below c above = absurd (one.nearest u other.listed other.beyond (ltb-true t u below))
    go false below true above = absurd (other.nearest t one.listed one.beyond (ltb-true u t above))
    go false below false above = omega (arith, ltb-false t u below, ltb-false u t above)

pub one_section : (ss : List ℕ) (s t : ℕ) (e : Bool) → SectionAt ss e s → SectionAt ss e t → s ≡ t
one_section ss s t true one other = go (ltb s t) refl (ltb t s) refl
  where
    go : (b : Bool) → ltb s t ≡ b → (c : Bool) → ltb t s ≡ c → s ≡ t
    go true below c above = absurd (one.outermost t other.listed (ltb-true s t below))
    go false below true above = absurd (other.outermost s one.listed (ltb-true t s above))
    go false below false above = omega (arith, ltb-false s t below, ltb-false t s above)
one_section ss s t false one other = go (ltb s t) refl (ltb t s) refl
  where
    go : (b : Bool) → ltb s t ≡ b → (c : Bool) → ltb t s ≡ c → s ≡ t
    go true below c above = absurd (other.outermost s one.listed (ltb-true s t below))
    go false below true above = absurd (one.outermost t other.listed (ltb-true t s above))
    go false below false above = omega (arith, ltb-false s t below, ltb-false t s above)

pub next_is : (ss : List ℕ) (s t : ℕ) (e : Bool) → Ascends ss → Adjacent ss e s t → next_section ss s e ≡ some t
next_is ss s t e ascending adjacent = go (next_section ss s e) refl
  where
    go : (o : Option ℕ) → next_section ss s e ≡ o → o ≡ some t
    go none found = absurd (next_outermost ss s e found t adjacent.listed adjacent.beyond)
    go (some u) found =
        ap {B = Option ℕ} some (one_adjacent ss s u t e (next_adjacent ss s u e ascending found) adjacent)

pub next_none : (ss : List ℕ) (s : ℕ) (e : Bool) → Ascends ss → Outermost ss e s → next_section ss s e ≡ none
next_none ss s e ascending outer = go (next_section ss s e) refl
  where
    go : (o : Option ℕ) → next_section ss s e ≡ o → o ≡ none
    go none found = refl
    go (some u) found =
        let next = next_adjacent ss s u e ascending found in absurd (outer u next.listed next.beyond)

-- the section at an end of a road that has sections
pub end_section_lem : (ss : List ℕ) (t : ℕ) (e : Bool) → Ascends ss → t ∈ ss → SectionAt ss e (end_section ss e)
unfolding end_section
end_section_lem [] t e ascending inside = absurd (Memᴰ.not-nil inside)
end_section_lem (x ∷ xs) t false ascending inside = record {
  listed = Memᴰ.head refl;
  outermost = λ u among past. one u (Memᴰ.cases_cons among) past;
}
  where
    one : (u : ℕ) → (u ≡ x) ⊎ (u ∈ xs) → u < x → ⊥
    one u (inl e) past = omega arith
    one u (inr among) past = omega (arith, each_in (λ y. x < y) xs ascending.0 among)
end_section_lem (x ∷ xs) t true ascending inside = record {
  listed = last_in x xs;
  outermost = λ u among past. last_most x xs ascending u among past;
}
  where
    last_in : (x : ℕ) (xs : List ℕ) → last_or x xs ∈ (x ∷ xs)
    last_in x [] = Memᴰ.head refl
    last_in x (y ∷ ys) = Memᴰ.tail (last_in y ys)

    last_most : (x : ℕ) (xs : List ℕ) → Ascends (x ∷ xs) → (u : ℕ) → u ∈ (x ∷ xs) → last_or x xs < u → ⊥
    last_most x [] ascending u among past = one (Memᴰ.cases_cons among)
      where
        one : (u ≡ x) ⊎ (u ∈ []) → ⊥
        one (inl e) = omega arith
        one (inr inside) = Memᴰ.not-nil inside
    last_most x (y ∷ ys) ascending u among past = one (Memᴰ.cases_cons among) (last_most y ys ascending.1 u)
      where
        one : (u ≡ x) ⊎ (u ∈ (y ∷ ys)) → (u ∈ (y ∷ ys) → last_or y ys < u → ⊥) → ⊥
        one (inl e) f = omega (arith, each_in (λ z. x < z) (y ∷ ys) ascending.0 (last_in y ys))
        one (inr inside) f = f inside past

-- ---- names
abbrev pub NamesOnce : (Span → Span → Bool) → List Road → Type 0
NamesOnce same rs = distinct (λ a b. same a.name b.name) rs ≡ true

module _ (same : Span → Span → Bool) (A : Alike same) (rs : List Road) where
  pub among_is : (n : Span) (r : Road) → road_of same rs n ≡ some r → RoadAmong same rs n r
  unfolding road_of
  among_is n r found_first =
      let found = first_in (λ r. same r.name n) rs found_first in
      record { listed = found.0; named = found.1 }

  -- two roads of one name are one
  pub one_among : NamesOnce same rs → (n : Span) (r s : Road) → RoadAmong same rs n r → RoadAmong same rs n s → r ≡ s
  one_among once n r s one other =
      one_alike (λ a b. same a.name b.name) (λ a b. A.same_sym a.name b.name) rs
      once one.listed other.listed
      (A.same_trans r.name n s.name one.named (A.same_sym s.name n other.named))

  pub is_among : NamesOnce same rs → (n : Span) (r : Road) → RoadAmong same rs n r → road_of same rs n ≡ some r
  is_among once n r there = go (road_of same rs n) refl
    where
      go : (o : Option Road) → road_of same rs n ≡ o → o ≡ some r
      go none found =
          absurd (first_none (λ r. same r.name n) rs (unfold road_of in found) there.listed there.named)
      go (some s) found = ap {B = Option Road} some (one_among once n s r (among_is n s found) there)

module _ (same : Span → Span → Bool) (A : Alike same) (m : Map) (G : Good same m) where
  pub road_is : (n : Span) (r : Road) → road_of same m.roads n ≡ some r → RoadNamed same m n r
  road_is = among_is same A m.roads

  pub one_road : (n : Span) (r s : Road) → RoadNamed same m n r → RoadNamed same m n s → r ≡ s
  one_road = one_among same A m.roads G.names_once_lem

  pub is_road : (n : Span) (r : Road) → RoadNamed same m n r → road_of same m.roads n ≡ some r
  is_road = is_among same A m.roads G.names_once_lem

  pub sections_are : (n : Span) (r : Road) → RoadNamed same m n r → sections_of same m.roads n ≡ r.sections
  unfolding sections_of
  sections_are n r there = ap sections_from (is_road n r there)

  pub road_ascends : (n : Span) (r : Road) → RoadNamed same m n r → Ascends r.sections
  road_ascends n r there = ascends_fact r.sections
      (every_in (λ r. ascends r.sections) m.roads G.ascending there.listed)

  -- a lane's road, with its section listed there: rule 7
  pub lane_road : (l : Lane) → l ∈ m.lanes → (r : Road) × RoadNamed same m l.road r × (l.section ∈ r.sections)
  lane_road l lane-listed = go (road_of same m.roads l.road) refl
      (member_in l.section (sections_of same m.roads l.road)
      (every_in (λ l. member l.section (sections_of same m.roads l.road)) m.lanes G.placed lane-listed))
    where
      go : (o : Option Road) → road_of same m.roads l.road ≡ o →
          l.section ∈ sections_of same m.roads l.road →
          (r : Road) × RoadNamed same m l.road r × (l.section ∈ r.sections)
      go none found inside = absurd (Memᴰ.not-nil (rw none_there at inside))
        where
          none_there : sections_of same m.roads l.road ≡ []
          none_there = unfold sections_of in ap sections_from found
      go (some r) found inside =
          (r, road_is l.road r found, rw (sections_are l.road r (road_is l.road r found)) at inside)

  -- names that are the same name the same road
  pub road_same : (a b : Span) (r : Road) → same a b ≡ true → RoadNamed same m a r → RoadNamed same m b r
  road_same a b r alike there =
      record { listed = there.listed; named = A.same_trans r.name a b there.named alike }

  pub junction_is : (n : Span) (j : Junction) → junction_of same m.junctions n ≡ some j → JunctionNamed same m n j
  unfolding junction_of
  junction_is n j found = let cut = final_split (λ j. same j.name n) m.junctions found in
      record { above = cut.0; below = cut.1; listed = cut.2; named = cut.3; last = cut.4 }

  pub is_junction_lem : (n : Span) (j : Junction) → JunctionNamed same m n j → junction_of same m.junctions n ≡ some j
  unfolding junction_of
  is_junction_lem n j there = ap (final (λ j. same j.name n)) there.listed
      ∙ split_final (λ j. same j.name n) there.above there.below there.named there.last

  -- ---- lanes
  pub of_lookup : (ls : List Lane) (n : Span) (s : ℕ) (e : Bool) (k : ℕ) (x : Entry) → x ∈ lookup same ls n s e k →
      (x.lane ∈ ls) × (same x.lane.road n ≡ true) × (x.lane.section ≡ s) × (x.lane.number ≡ k)
      × (x.contact ≡ e)
  unfolding lookup stands_at
  of_lookup ls n s e k x found =
      let made = of_map (λ lane_of. record { lane = lane_of; contact = e }) (keep (stands_at same n s k) ls) found in
      let kept = of_keep (stands_at same n s k) ls made.1 in
      let lane_of = made.0 in
      let both = and_left (same lane_of.road n && eqb lane_of.section s) (eqb lane_of.number k) kept.1 in
      let is : x.lane ≡ lane_of = ap (λ (y : Entry). y.lane) made.2 in (
        rw (sym is) at kept.0,
        ap (λ (y : Lane). same y.road n) is ∙ and_left (same lane_of.road n) (eqb lane_of.section s) both,
        ap (λ (y : Lane). y.section) is ∙ eqb-true lane_of.section s
            (and_right (same lane_of.road n) (eqb lane_of.section s) both),
        ap (λ (y : Lane). y.number) is ∙ eqb-true lane_of.number k
            (and_right (same lane_of.road n && eqb lane_of.section s) (eqb lane_of.number k) kept.1),
        ap (λ (y : Entry). y.contact) made.2,
      )

  pub in_lookup : (ls : List Lane) (n : Span) (s : ℕ) (e : Bool) (k : ℕ) (b : Lane) → b ∈ ls →
      same b.road n ≡ true → b.section ≡ s → b.number ≡ k →
      record { lane = b; contact = e } ∈ lookup same ls n s e k
  unfolding lookup stands_at
  in_lookup ls n s e k b is-listed on-road in-section numbered =
      let place = and_both (same b.road n) (eqb b.section s) on-road (eq-eqb b.section s in-section) in
      let stands = and_both (same b.road n && eqb b.section s) (eqb b.number k) place
      (eq-eqb b.number k numbered) in
      in_map (λ l. record { lane = l; contact = e }) (in_keep (stands_at same n s k) ls is-listed stands)

  pub of_lookup_end : (n : Span) (e : Bool) (k : ℕ) (x : Entry) → x ∈ lookup_at_end same m n e k →
      LaneAt same m n e k x.lane × (x.contact ≡ e)
  unfolding lookup_at_end
  of_lookup_end n e k x found =
      let there = of_lookup m.lanes n (end_section (sections_of same m.roads n) e) e k x found in
      let road_of_lem = lane_road x.lane there.0 in
      let known : RoadNamed same m n road_of_lem.0 =
      road_same x.lane.road n road_of_lem.0 there.1 road_of_lem.1 in
      let is : x.lane.section ≡ end_section road_of_lem.0.sections e = there.2
      ∙ ap (λ ss. end_section ss e) (sections_are n road_of_lem.0 known) in (
        record {
          listed = there.0;
          on = there.1;
          number = there.3;
          road = road_of_lem.0;
          known = known;
          section = subst (SectionAt road_of_lem.0.sections e) (sym is)
              (end_section_lem road_of_lem.0.sections x.lane.section e (road_ascends n road_of_lem.0 known)
              road_of_lem.2);
        },
        there.4,
      )

  pub in_lookup_end : (n : Span) (e : Bool) (k : ℕ) (b : Lane) → LaneAt same m n e k b →
      record { lane = b; contact = e } ∈ lookup_at_end same m n e k
  unfolding lookup_at_end
  in_lookup_end n e k b there =
      in_lookup m.lanes n (end_section (sections_of same m.roads n) e) e k b there.listed
      there.on
      (one_section there.road.sections b.section (end_section there.road.sections e) e
      there.section (end_section_lem there.road.sections b.section e
      (road_ascends n there.road there.known) there.section.listed)
      ∙ ap (λ ss. end_section ss e) (sym (sections_are n there.road there.known))) there.number

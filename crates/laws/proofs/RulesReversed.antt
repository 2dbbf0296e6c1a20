-- The rules of refusal judge a reversed map as the map; and what it means that no rule of a list is broken.
use mathlib.Core.Path.{◌≡◌, refl, sym, ◌∙◌, ap, ap₂, subst, fun_ext}
use mathlib.Core.Bool.{Bool, true, false, not, ◌&&◌, ◌||◌, cond, false≢true, and_comm}
use mathlib.Core.Option.{Option, none, some}
use mathlib.Core.List.{List, [], ◌∷◌, ◌++◌, map, reverse}
use Prim.Native.Nat.{ℕ, ◌+◌, ◌≤◌}
use lib.Dec.{eqb, leb, ltb}
use lib.ListN.{length, length-map, length-reverse}
use borrow.Author.Tests.{ltb-true, lt-ltb}
use Rattle.model.specs.Lists.{◌⊕◌, ascends, distinct, every, gather, head_or, last_or, map_o, member}
use Rattle.model.specs.Records.{Junction, Lane, Map, Pair, Road, Span, link_at, target_at}
use Rattle.model.specs.Repair.{names_junction}
use Rattle.model.specs.Reversal.{leads_to, marked, marks, mirror, mirrored, negated, reverse_connection}
use Rattle.model.specs.Reversal.{reverse_junction, reverse_lane, reverse_link, reverse_map, reverse_pair}
use Rattle.model.specs.Reversal.{reverse_road, signed}
use Rattle.model.specs.Rules.{Rule, first_broken, is_direct, lane_fine, least_number, link_fine, names_twice}
use Rattle.model.specs.Rules.{pair_fine, same_key}
use Rattle.model.specs.Succession.{sections_of}
use Rattle.laws.proofs.Basics.{gather_map, length_gather, no_some}
use Rattle.laws.proofs.Compose.{ascends_mirrored, member_mirrored}
use Rattle.laws.proofs.ForEach.{each, each_both, each_map, each_of_map}
use Rattle.laws.proofs.ListTests.{and_both, and_left, and_right, and_swap, distinct_ext, distinct_map}
use Rattle.laws.proofs.ListTests.{each_every, every_each, every_ext, every_map}
use Rattle.laws.proofs.Mirror.{signed_eqb}
use Rattle.laws.proofs.Names.{placed_bound, same_right, sections_of_ascends, sections_of_same}
use Rattle.laws.proofs.RepairReversed.{names_junction_reversed}
use Rattle.laws.proofs.Reverse.{sections_of_reversed}
use Rattle.laws.proofs.SuccessionReversed.{section_eqb}
use Rattle.laws.proofs.Valid.{Alike, Ascends, Placed, Reversible, Single, Steady, Valid, junction_fine}
use Rattle.laws.proofs.Valid.{mark_for, none_twice, toggled}

-- ascending, as a test and as a fact
pub ascends_fact : (xs : List ℕ) → ascends xs ≡ true → Ascends xs
ascends_fact [] h = tt
ascends_fact (x ∷ xs) h = (
  each_map (λ y q. ltb-true x y q) xs (every_each (ltb x) xs (and_left (every (ltb x) xs) (ascends xs) h)),
  ascends_fact xs (and_right (every (ltb x) xs) (ascends xs) h),
)

pub ascends_test : (xs : List ℕ) → Ascends xs → ascends xs ≡ true
ascends_test [] h = refl
ascends_test (x ∷ xs) h =
    and_both (every (ltb x) xs) (ascends xs) (each_every (ltb x) xs (each_map (λ y q. lt-ltb x y q) xs h.0))
    (ascends_test xs h.1)

-- the first broken rule
pub unbroken : (r : Rule) (rs : List Rule) → first_broken (r ∷ rs) ≡ none
    → (r.passes ≡ true) × (first_broken rs ≡ none)
unbroken r rs h = go r.passes refl h
  where
    go : (b : Bool) → r.passes ≡ b → cond b (first_broken rs) (some r.number) ≡ none
        → (r.passes ≡ true) × (first_broken rs ≡ none)
    go true q h = (q, h)
    go false q h = absurd (no_some r.number (sym h))

pub unbroken_append : (xs ys : List Rule) → first_broken (xs ++ ys) ≡ none
    → (first_broken xs ≡ none) × (first_broken ys ≡ none)
unbroken_append [] ys h = (refl, h)
unbroken_append (x ∷ xs) ys h =
    let u : (x.passes ≡ true) × (first_broken (xs ++ ys) ≡ none) = unbroken x (xs ++ ys) h in
    let w : (first_broken xs ≡ none) × (first_broken ys ≡ none) = unbroken_append xs ys u.1 in
    (ap (λ b. cond b (first_broken xs) (some x.number)) u.0 ∙ w.0, w.1)

pub broken_append : (xs ys : List Rule) → first_broken xs ≡ none → first_broken (xs ++ ys) ≡ first_broken ys
broken_append [] ys h = refl
broken_append (x ∷ xs) ys h =
    let u : (x.passes ≡ true) × (first_broken xs ≡ none) = unbroken x xs h in
    ap (λ b. cond b (first_broken (xs ++ ys)) (some x.number)) u.0 ∙ broken_append xs ys u.1

-- what the rules on a map say
pub record Good (same : Span → Span → Bool) (m : Map) : Type 0 where
  pub names_once_lem : distinct (λ a b. same a.name b.name) m.roads ≡ true
  pub ascending : every (λ r. ascends r.sections) m.roads ≡ true
  pub identities_once_lem : distinct (λ a b. eqb a.identity b.identity) m.lanes ≡ true
  pub placed : every (λ l. member l.section (sections_of same m.roads l.road)) m.lanes ≡ true
  pub keys_once_lem : distinct (same_key same) m.lanes ≡ true

abbrev pub Passes : List Rule → Type 0
Passes [] = Unit {0}
Passes (r ∷ rs) = (r.passes ≡ true) × Passes rs

pub all_pass : (rs : List Rule) → first_broken rs ≡ none → Passes rs
all_pass [] h = tt
all_pass (r ∷ rs) h =
    let u : (r.passes ≡ true) × (first_broken rs ≡ none) = unbroken r rs h in (u.0, all_pass rs u.1)

pub pass_all : (rs : List Rule) → Passes rs → first_broken rs ≡ none
pass_all [] h = refl
pass_all (r ∷ rs) h = ap (λ b. cond b (first_broken rs) (some r.number)) h.0 ∙ pass_all rs h.1

pub good_valid : (same : Span → Span → Bool) (m : Map) → Good same m → Valid same m
good_valid same m g = record {
  ascending = each_map (λ r q. ascends_fact r.sections q) m.roads
      (every_each (λ r. ascends r.sections) m.roads g.ascending);
  placed = every_each (λ l. member l.section (sections_of same m.roads l.road)) m.lanes g.placed;
}

module _ (same : Span → Span → Bool) (A : Alike same) (s : Span → Bool) (S : Steady same s) (m : Map)
    (g : Good same m) where
  v : Valid same m
  v = good_valid same m g

  pub same_key_reversed : (a b : Lane) → Placed same m.roads a → Placed same m.roads b
      → same_key same (reverse_lane same s m.roads a) (reverse_lane same s m.roads b) ≡ same_key same a b
  unfolding same_key reverse_lane
  same_key_reversed a b p q = go (same a.road b.road) refl
    where
      ss : List ℕ
      ss = sections_of same m.roads b.road

      go : (c : Bool) → same a.road b.road ≡ c →
          c
          && eqb (cond (s a.road) (mirror (sections_of same m.roads a.road) a.section) a.section)
          (cond (s b.road) (mirror ss b.section) b.section)
          && eqb (signed (s a.road) a.number) (signed (s b.road) b.number)
          ≡ c && eqb a.section b.section && eqb a.number b.number
      go false w = refl
      go true w = ap₂ (λ x y. x && y)
          (ap₂ (λ x y.
          eqb (cond x (mirror y a.section) a.section)
          (cond (s b.road) (mirror ss b.section) b.section)) (S a.road b.road w)
          (sections_of_same same A m.roads a.road b.road w)
          ∙ section_eqb (s b.road) ss a.section b.section
          (subst (λ x. a.section ≤ head_or 0 x + last_or 0 x)
          (sections_of_same same A m.roads a.road b.road w)
          (placed_bound same m.roads a v.ascending p)) (placed_bound same m.roads b v.ascending q))
          (ap (λ x. eqb (signed x a.number) (signed (s b.road) b.number)) (S a.road b.road w)
          ∙ signed_eqb (s b.road) a.number b.number)

  pub placed_reversed : (l : Lane) → Placed same m.roads l
      → member (reverse_lane same s m.roads l).section
      (sections_of same (map (reverse_road s) m.roads) l.road) ≡ true
  unfolding reverse_lane
  placed_reversed l p =
      ap (member (cond (s l.road) (mirror (sections_of same m.roads l.road) l.section) l.section))
      (sections_of_reversed same s S m.roads l.road)
      ∙ go (s l.road)
    where
      go : (b : Bool)
          → member (cond b (mirror (sections_of same m.roads l.road) l.section) l.section)
          (cond b (mirrored (sections_of same m.roads l.road)) (sections_of same m.roads l.road))
          ≡ true
      go true =
          member_mirrored (sections_of same m.roads l.road) l.section
          (sections_of_ascends same m.roads l.road v.ascending) p
      go false = p

  -- a map that passes goes on passing
  pub good_reversed : Good same (reverse_map same s m)
  unfolding reverse_map reverse_lane
  good_reversed = record {
    names_once_lem = unfold reverse_road in
        (distinct_map (reverse_road s) (λ a b. same a.name b.name) m.roads ∙ g.names_once_lem);
    ascending = each_every (λ r. ascends r.sections) (map (reverse_road s) m.roads)
        (each_of_map (reverse_road s) (λ r. ascends r.sections ≡ true) m.roads
        (each_map road m.roads v.ascending));
    identities_once_lem = distinct_map (reverse_lane same s m.roads) (λ a b. eqb a.identity b.identity)
        m.lanes
        ∙ g.identities_once_lem;
    placed =
        each_every (λ l. member l.section (sections_of same (map (reverse_road s) m.roads) l.road))
        (map (reverse_lane same s m.roads) m.lanes)
        (each_of_map (reverse_lane same s m.roads)
        (λ l. member l.section (sections_of same (map (reverse_road s) m.roads) l.road) ≡ true)
        m.lanes (each_map lane m.lanes v.placed));
    keys_once_lem = distinct_map (reverse_lane same s m.roads) (same_key same) m.lanes
        ∙ distinct_ext (Placed same m.roads)
        (λ a b. same_key same (reverse_lane same s m.roads a) (reverse_lane same s m.roads b)) (same_key same)
        m.lanes v.placed same_key_reversed
        ∙ g.keys_once_lem;
  }
    where
      lane : (l : Lane) → Placed same m.roads l
          → member (reverse_lane same s m.roads l).section
          (sections_of same (map (reverse_road s) m.roads) l.road) ≡ true
      lane l p = placed_reversed l p

      road : (r : Road) → Ascends r.sections → ascends (reverse_road s r).sections ≡ true
      road r h = unfold reverse_road in go (s r.name)
        where
          go : (b : Bool) → ascends (cond b (mirrored r.sections) r.sections) ≡ true
          go true = ascends_test (mirrored r.sections) (ascends_mirrored r.sections h)
          go false = ascends_test r.sections h

-- how many rows each table of a map has
unfoldable pub sizes : Map → List ℕ
sizes m =
    length m.roads ∷ length (gather (λ r. r.sections) m.roads)
    ∷ length (gather (λ j. j.connections) m.junctions)
    ∷ length (gather (λ j. gather (λ c. c.pairs) j.connections) m.junctions) ∷ length m.lanes
    ∷ length m.lanes ∷ []

-- the rules on a call
module _ (same : Span → Span → Bool) (s : Span → Bool) where
  pub mark_for_reversed : (rs : List Road) (ks : List ℕ) → mark_for (map (reverse_road s) rs) ks ≡ mark_for rs ks
  mark_for_reversed [] [] = refl
  mark_for_reversed [] (k ∷ ks) = refl
  mark_for_reversed (r ∷ rs) [] = refl
  mark_for_reversed (r ∷ rs) (k ∷ ks) = ap (λ b. leb k 1 && b) (mark_for_reversed rs ks)

  pub marked_reversed : (rs : List Road) (ks : List ℕ) (n : Span)
      → marked same (map (reverse_road s) rs) ks n ≡ marked same rs ks n
  unfolding reverse_road
  marked_reversed [] ks n = refl
  marked_reversed (r ∷ rs) [] n = refl
  marked_reversed (r ∷ rs) (k ∷ ks) n = ap (cond (same r.name n) (eqb k 1)) (marked_reversed rs ks n)

  pub least_signed : (b : Bool) (n : ℕ) → eqb (signed b n) least_number ≡ eqb n least_number
  unfolding negated
  least_signed false n = refl
  least_signed true n = signed_eqb true n least_number

  pub link_fine_reversed : (b : Bool) (o : Option ℕ) → link_fine (map_o (signed b) o) ≡ link_fine o
  link_fine_reversed b none = refl
  link_fine_reversed b (some n) = ap not (least_signed b n)

  pub lane_fine_reversed : (rs : List Road) (l : Lane) → lane_fine (reverse_lane same s rs l) ≡ lane_fine l
  unfolding lane_fine reverse_lane reverse_link
  lane_fine_reversed rs l =
      ap₂ (λ a b. a && b) (ap₂ (λ a b. not a && b) (least_signed (s l.road) l.number)
      (link_fine_reversed (marks s (leads_to same rs l (s l.road))) (link_at (s l.road) l)))
      (link_fine_reversed (marks s (leads_to same rs l (not (s l.road)))) (link_at (not (s l.road)) l))
      ∙ go (s l.road)
    where
      go : (b : Bool)
          → not (eqb l.number least_number) && link_fine (link_at b l) && link_fine (link_at (not b) l)
          ≡ not (eqb l.number least_number) && link_fine l.predecessor && link_fine l.successor
      go false = refl
      go true = and_swap (not (eqb l.number least_number)) (link_fine l.successor) (link_fine l.predecessor)

  pub junction_fine_reversed : (j : Junction) → junction_fine (reverse_junction s j) ≡ junction_fine j
  unfolding junction_fine reverse_junction reverse_connection
  junction_fine_reversed j = every_map (reverse_connection s) (λ c. every pair_fine c.pairs) j.connections
      ∙ every_ext (λ c. every pair_fine (reverse_connection s c).pairs) (λ c. every pair_fine c.pairs)
      j.connections (each (λ c.
      every_map (reverse_pair s c.incoming c.connecting) pair_fine c.pairs
      ∙ every_ext (λ p. pair_fine (reverse_pair s c.incoming c.connecting p)) pair_fine c.pairs
      (each (pair c.incoming c.connecting) c.pairs)) j.connections)
    where
      pair : (a b : Span) (p : Pair) → pair_fine (reverse_pair s a b p) ≡ pair_fine p
      pair a b p =
          unfold pair_fine reverse_pair in ap₂ (λ x y. not x && not y) (least_signed (s a) p.from)
          (least_signed (s b) p.to)

  pub names_twice_reversed : (j : Span) (r : Road) → names_twice same j (reverse_road s r) ≡ names_twice same j r
  unfolding names_twice reverse_road
  names_twice_reversed j r =
      ap₂ (λ a b. a && b) (names_junction_reversed same s j (target_at (s r.name) r))
      (names_junction_reversed same s j (target_at (not (s r.name)) r))
      ∙ go (s r.name)
    where
      go : (b : Bool)
          → names_junction same j (target_at b r) && names_junction same j (target_at (not b) r)
          ≡ names_junction same j r.predecessor && names_junction same j r.successor
      go false = refl
      go true = and_comm (names_junction same j r.successor) (names_junction same j r.predecessor)

  pub none_twice_reversed : (mk : Span → Bool) (m : Map)
      → none_twice same mk (reverse_map same s m) ≡ none_twice same mk m
  unfolding none_twice reverse_map reverse_junction
  none_twice_reversed mk m =
      every_map (reverse_junction s)
      (λ j.
      not (is_direct j.kind) || every (λ r. not (mk r.name && names_twice same j.name r))
      (map (reverse_road s) m.roads)) m.junctions
      ∙ every_ext _ _ m.junctions
      (each (λ j. ap (λ b. not (is_direct j.kind) || b) (inner j.name)) m.junctions)
    where
      inner : (j : Span)
          → every (λ r. not (mk r.name && names_twice same j r)) (map (reverse_road s) m.roads)
          ≡ every (λ r. not (mk r.name && names_twice same j r)) m.roads
      inner j = every_map (reverse_road s) (λ r. not (mk r.name && names_twice same j r)) m.roads
          ∙ every_ext (λ r. not (mk (reverse_road s r).name && names_twice same j (reverse_road s r)))
          (λ r. not (mk r.name && names_twice same j r)) m.roads (each one m.roads)
        where
          one : (r : Road)
              → not (mk (reverse_road s r).name && names_twice same j (reverse_road s r))
              ≡ not (mk r.name && names_twice same j r)
          one r =
              ap (λ b. not (mk (reverse_road s r).name && b)) (names_twice_reversed j r)
              ∙ (unfold reverse_road in refl)

  pub sections_length : (r : Road) → length (reverse_road s r).sections ≡ length r.sections
  unfolding reverse_road mirrored
  sections_length r = go (s r.name)
    where
      go : (b : Bool)
          → length (cond b (reverse (map (mirror r.sections) r.sections)) r.sections)
          ≡ length r.sections
      go true =
          length-reverse (map (mirror r.sections) r.sections)
          ∙ length-map r.sections (mirror r.sections)
      go false = refl

  pub connections_length : (j : Junction) → length (reverse_junction s j).connections ≡ length j.connections
  unfolding reverse_junction
  connections_length j = length-map j.connections (reverse_connection s)

  pub pairs_length : (j : Junction)
      → length (gather (λ c. c.pairs) (reverse_junction s j).connections)
      ≡ length (gather (λ c. c.pairs) j.connections)
  unfolding reverse_junction reverse_connection
  pairs_length j = ap length (gather_map (reverse_connection s) (λ c. c.pairs) j.connections)
      ∙ length_gather (λ c. (reverse_connection s c).pairs) (λ c. c.pairs) j.connections
      (each (λ c. length-map c.pairs (reverse_pair s c.incoming c.connecting)) j.connections)

  pub sizes_reversed : (m : Map) → sizes (reverse_map same s m) ≡ sizes m
  unfolding sizes reverse_map
  sizes_reversed m = λ i. length-map m.roads (reverse_road s) i
      ∷ (ap length (gather_map (reverse_road s) (λ r. r.sections) m.roads)
      ∙ length_gather (λ r. (reverse_road s r).sections) (λ r. r.sections) m.roads
      (each sections_length m.roads)) i
      ∷ (ap length (gather_map (reverse_junction s) (λ j. j.connections) m.junctions)
      ∙ length_gather (λ j. (reverse_junction s j).connections) (λ j. j.connections) m.junctions
      (each connections_length m.junctions)) i
      ∷ (ap length (gather_map (reverse_junction s) (λ j. gather (λ c. c.pairs) j.connections) m.junctions)
      ∙ length_gather (λ j. gather (λ c. c.pairs) (reverse_junction s j).connections)
      (λ j. gather (λ c. c.pairs) j.connections) m.junctions (each pairs_length m.junctions)) i
      ∷ length-map m.lanes (reverse_lane same s m.roads) i
      ∷ length-map m.lanes (reverse_lane same s m.roads) i ∷ []

  -- rules 12, 13 and 14 judge the reversed map as the map
  pub marks_reversed : (m : Map) (ks : List ℕ) → mark_for (reverse_map same s m).roads ks ≡ mark_for m.roads ks
  unfolding reverse_map
  marks_reversed m ks = mark_for_reversed m.roads ks

  pub numbers_reversed : (m : Map)
      → every lane_fine (reverse_map same s m).lanes && every junction_fine (reverse_map same s m).junctions
      ≡ every lane_fine m.lanes && every junction_fine m.junctions
  unfolding reverse_map
  numbers_reversed m = ap₂ (λ a b. a && b)
      (every_map (reverse_lane same s m.roads) lane_fine m.lanes
      ∙ every_ext _ _ m.lanes (each (lane_fine_reversed m.roads) m.lanes))
      (every_map (reverse_junction s) junction_fine m.junctions
      ∙ every_ext _ _ m.junctions (each junction_fine_reversed m.junctions))

  pub ends_reversed : (m : Map) (ks : List ℕ)
      → none_twice same (marked same (reverse_map same s m).roads ks) (reverse_map same s m)
      ≡ none_twice same (marked same m.roads ks) m
  ends_reversed m ks =
      ap (λ mk. none_twice same mk (reverse_map same s m)) marks_same
      ∙ none_twice_reversed (marked same m.roads ks) m
    where
      marks_same : marked same (reverse_map same s m).roads ks ≡ marked same m.roads ks
      marks_same = unfold reverse_map in fun_ext (marked_reversed m.roads ks)

module _ (same : Span → Span → Bool) (A : Alike same) where
  pub marked_steady : (rs : List Road) (ks : List ℕ) → Steady same (marked same rs ks)
  marked_steady [] ks a b h = refl
  marked_steady (r ∷ rs) [] a b h = refl
  marked_steady (r ∷ rs) (k ∷ ks) a b h =
      ap₂ (λ x y. cond x (eqb k 1) y) (same_right same A a b r.name h) (marked_steady rs ks a b h)

-- rule 14 as a fact: no marked road names one direct junction at both ends
pub reversible : (same : Span → Span → Bool) (mk : Span → Bool) (m : Map) → none_twice same mk m ≡ true
    → Reversible same mk m
unfolding none_twice
reversible same mk m h =
    each_map (λ j q d. single j.name (rest (is_direct j.kind) _ d q)) m.junctions
    (every_each (λ j.
    not (is_direct j.kind) || every (λ r. not (mk r.name && names_twice same j.name r)) m.roads)
    m.junctions h)
  where
    rest : (a b : Bool) → a ≡ true → not a || b ≡ true → b ≡ true
    rest true b d q = q
    rest false b d q = absurd (false≢true d)

    one : (a b : Bool) → not (a && b) ≡ true → a ≡ true → b ≡ false
    one true false q d = refl
    one true true q d = sym q
    one false b q d = absurd (false≢true d)

    single : (j : Span) → every (λ r. not (mk r.name && names_twice same j r)) m.roads ≡ true
        → Single same mk m.roads j
    single j q =
        each_map (λ r w. one (mk r.name) (names_twice same j r) w) m.roads
        (every_each (λ r. not (mk r.name && names_twice same j r)) m.roads q)

pub none_twice_toggled : (same : Span → Span → Bool) (s t : Span → Bool) (m : Map) → none_twice same s m ≡ true
    → none_twice same t m ≡ true → none_twice same (toggled s t) m ≡ true
unfolding none_twice toggled
none_twice_toggled same s t m h k =
    each_every _ m.junctions
    (each_map (λ j q. join (not (is_direct j.kind)) _ _ _ (inner j.name) q.0 q.1) m.junctions
    (each_both _ _ m.junctions (every_each _ m.junctions h) (every_each _ m.junctions k)))
  where
    join : (a b c d : Bool) → (b ≡ true → c ≡ true → d ≡ true) → a || b ≡ true → a || c ≡ true → a || d ≡ true
    join true b c d f p q = refl
    join false b c d f p q = f p q

    one : (a b x : Bool) → not (a && x) ≡ true → not (b && x) ≡ true → not ((a ⊕ b) && x) ≡ true
    one false b x p q = q
    one true false x p q = p
    one true true x p q = refl

    inner : (j : Span) → every (λ r. not (s r.name && names_twice same j r)) m.roads ≡ true
        → every (λ r. not (t r.name && names_twice same j r)) m.roads ≡ true →
        every (λ r. not ((s r.name ⊕ t r.name) && names_twice same j r)) m.roads ≡ true
    inner j p q =
        each_every _ m.roads (each_map
        (λ r w. one (s r.name) (t r.name) (names_twice same j r) w.0 w.1) m.roads
        (each_both _ _ m.roads (every_each (λ r. not (s r.name && names_twice same j r)) m.roads p)
        (every_each (λ r. not (t r.name && names_twice same j r)) m.roads q)))

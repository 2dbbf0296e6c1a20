-- What repair keeps: names, sections, and every target of kind road that is left.
use mathlib.Core.Path.{◌≡◌, refl, sym, ◌∙◌, ap, ap₂}
use mathlib.Core.Bool.{Bool, true, false, cond}
use mathlib.Core.Option.{Option, none, some}
use mathlib.Core.List.{List, [], ◌∷◌, map}
use Prim.Native.Nat.{ℕ}
use Rattle.model.specs.Lists.{amend, bind_o, distinct, first, map_o, pick}
use Rattle.model.specs.Orders.{InOrder, ended, paired}
use Rattle.model.specs.Records.{Connection, Junction, Map, Road, Span, Target, target_at}
use Rattle.model.specs.Repair.{drop_along, link_at_end, linked, missing_end, missing_link, put_target, repair, road_of}
use Rattle.model.specs.Repair.{repair_roads, start_roads, without_along}
use Rattle.model.specs.Reversal.{road_named, roadward}
use Rattle.model.specs.Succession.{sections_from, sections_of}
use Rattle.laws.proofs.Basics.{no_some}
use Rattle.laws.proofs.ForEach.{each}
use Rattle.laws.proofs.ListTests.{distinct_map}
use Rattle.laws.proofs.RepairEach.{cleared, repair_roads_kept, roads_over_kept, without_along_kept}
use Rattle.laws.proofs.RepairReversed.{bare_road, bare_target}

-- what is seen of a road by its name
abbrev seen : (Span → Span → Bool) → List Road → Span → Bool → Option Span
seen same rs n e = bind_o (road_of same rs n) (λ r. bind_o (target_at e r) road_named)

seen_roadward : (same : Span → Span → Bool) (rs : List Road) (n : Span) (e : Bool)
    → roadward same rs n e ≡ seen same rs n e
unfolding roadward
seen_roadward same rs n e = go (road_of same rs n)
  where
    go : (o : Option Road)
        → bind_o (bind_o o (target_at e)) road_named ≡ bind_o o (λ r. bind_o (target_at e r) road_named)
    go none = refl
    go (some r) = refl

abbrev pub names_of : List Road → List Span
names_of rs = map (λ r. r.name) rs

-- no road name twice
abbrev pub NamesOnce : (Span → Span → Bool) → List Road → Type 0
NamesOnce same rs = distinct (λ (a b : Road). same a.name b.name) rs ≡ true

-- roads that came of others: the same names and sections, and no new target of kind road
pub record Came (same : Span → Span → Bool) (rs after : List Road) : Type 0 where
  pub sections_kept : (n : Span) → sections_of same after n ≡ sections_of same rs n
  pub seen_kept : (n x : Span) (e : Bool) → seen same after n e ≡ some x → seen same rs n e ≡ some x
  pub names_kept : names_of after ≡ names_of rs
  pub listed_kept : map (λ r. r.sections) after ≡ map (λ r. r.sections) rs

pub came_trans : (same : Span → Span → Bool) (a b c : List Road) → Came same a b → Came same b c → Came same a c
came_trans same a b c h k = record {
  sections_kept = λ n. k.sections_kept n ∙ h.sections_kept n;
  seen_kept = λ n x e q. h.seen_kept n x e (k.seen_kept n x e q);
  names_kept = k.names_kept ∙ h.names_kept;
  listed_kept = k.listed_kept ∙ h.listed_kept;
}

pub came_once : {same : Span → Span → Bool} {rs after : List Road} → Came same rs after → NamesOnce same rs →
    NamesOnce same after
came_once {same} {rs} {after} came once =
    sym (distinct_map (λ (r : Road). r.name) same after) ∙ ap (distinct same) came.names_kept
    ∙ distinct_map (λ (r : Road). r.name) same rs ∙ once

came_refl : (same : Span → Span → Bool) (a : List Road) → Came same a a
came_refl same a =
    record { sections_kept = λ n. refl; seen_kept = λ n x e q. q; names_kept = refl; listed_kept = refl }

-- one road that came of another
record Came1 (r r-after : Road) : Type 0 where
  name_is : r-after.name ≡ r.name
  sections_is : r-after.sections ≡ r.sections
  seen_is : (e : Bool) (x : Span) → bind_o (target_at e r-after) road_named ≡ some x →
      bind_o (target_at e r) road_named ≡ some x

came1_refl : (r : Road) → Came1 r r
came1_refl r = record { name_is = refl; sections_is = refl; seen_is = λ e x q. q }

-- each road came of its own
abbrev Pointwise : List Road → List Road → Type 0
Pointwise = InOrder Came1

pointwise_refl : (rs : List Road) → Pointwise rs rs
pointwise_refl [] = ended
pointwise_refl (r ∷ rs) = paired (came1_refl r) (pointwise_refl rs)

pointwise_map : (f : Road → Road) → ((r : Road) → Came1 r (f r)) → (rs : List Road) → Pointwise rs (map f rs)
pointwise_map f h [] = ended
pointwise_map f h (r ∷ rs) = paired (h r) (pointwise_map f h rs)

pointwise_amend : (p : Road → Bool) (f : Road → Road) → ((r : Road) → Came1 r (f r)) → (rs : List Road)
    → Pointwise rs (amend p f rs)
pointwise_amend p f h [] = ended
pointwise_amend p f h (r ∷ rs) = go (p r) (pointwise_amend p f h rs)
  where
    go : (b : Bool) → Pointwise rs (amend p f rs) → Pointwise (r ∷ rs) (cond b (f r ∷ rs) (r ∷ amend p f rs))
    go true ih = paired (h r) (pointwise_refl rs)
    go false ih = paired (came1_refl r) ih

names_point : {rs after : List Road} → Pointwise rs after → names_of after ≡ names_of rs
names_point ended = refl
names_point (paired c t) = ap₂ {C = List Span} (λ x y. x ∷ y) c.name_is (names_point t)

listed_point : {rs after : List Road} → Pointwise rs after → map (λ r. r.sections) after ≡ map (λ r. r.sections) rs
listed_point ended = refl
listed_point (paired c t) = ap₂ {C = List (List ℕ)} (λ x y. x ∷ y) c.sections_is (listed_point t)

module _ (same : Span → Span → Bool) where
  sections_point : (n : Span) {rs after : List Road} → Pointwise rs after →
      sections_of same after n ≡ sections_of same rs n
  unfolding sections_of road_of
  sections_point n ended = refl
  sections_point n (paired {x = r} {xs = rs} {y = r-after} {ys = after} c t) =
      ap (λ m. sections_from (cond (same m n) (some r-after) (first (λ r. same r.name n) after))) c.name_is
      ∙ go (same r.name n) (sections_point n t)
    where
      go : (b : Bool)
          → sections_from (first (λ r. same r.name n) after) ≡ sections_from (first (λ r. same r.name n) rs) →
          sections_from (cond b (some r-after) (first (λ r. same r.name n) after))
          ≡ sections_from (cond b (some r) (first (λ r. same r.name n) rs))
      go true ih = c.sections_is
      go false ih = ih

  seen_point : (n x : Span) (e : Bool) {rs after : List Road} → Pointwise rs after → seen same after n e ≡ some x
      → seen same rs n e ≡ some x
  unfolding road_of
  seen_point n x e ended q = q
  seen_point n x e (paired {x = r} {xs = rs} {y = r-after} {ys = after} c t) q =
      go (same r.name n) (seen_point n x e t)
      (sym (ap (λ m.
      bind_o (cond (same m n) (some r-after) (first (λ r. same r.name n) after))
      (λ r. bind_o (target_at e r) road_named)) c.name_is)
      ∙ q)
    where
      obs : Option Road → Option Span
      obs o = bind_o o (λ r. bind_o (target_at e r) road_named)

      go : (b : Bool)
          → (obs (first (λ r. same r.name n) after) ≡ some x → obs (first (λ r. same r.name n) rs) ≡ some x) →
          obs (cond b (some r-after) (first (λ r. same r.name n) after)) ≡ some x
          → obs (cond b (some r) (first (λ r. same r.name n) rs)) ≡ some x
      go true ih w = c.seen_is e x w
      go false ih w = ih w

  came_point : {rs after : List Road} → Pointwise rs after → Came same rs after
  came_point p =
      record {
        sections_kept = λ n. sections_point n p;
        seen_kept = λ n x e. seen_point n x e p;
        names_kept = names_point p;
        listed_kept = listed_point p;
      }

  came_put : (j : Span) (e : Bool) (r : Road) → Came1 r (put_target e (linked j e) r)
  unfolding put_target linked
  came_put j e r = record { name_is = refl; sections_is = refl; seen_is = go e }
    where
      L : Target
      L = record { is_junction = true; name = j; contact = e; given = true; along = false }

      go : (e f : Bool) (x : Span)
          → bind_o (pick f (pick e (some L) r.predecessor) (pick e r.successor (some L))) road_named
          ≡ some x → bind_o (target_at f r) road_named ≡ some x
      go false false x q = absurd (no_some x q)
      go false true x q = q
      go true false x q = q
      go true true x q = absurd (no_some x q)

  came_along : (js : List Junction) (r : Road) → Came1 r (without_along same js r)
  came_along js r =
      without_along_kept same (Came1 r) js r (record { name_is = refl; sections_is = refl; seen_is = ends })
      (came1_refl r)
    where
      less : (o : Option Target) (x : Span) → bind_o (drop_along o) road_named ≡ some x → bind_o o road_named ≡ some x
      less none x q = q
      less (some t) x q = pick_one t.along q
        where
          pick_one : (b : Bool) → bind_o (cond b none (some t)) road_named ≡ some x → road_named t ≡ some x
          pick_one true q = absurd (no_some x q)
          pick_one false q = q

      ends : (e : Bool) (x : Span) → bind_o (target_at e (cleared r)) road_named ≡ some x
          → bind_o (target_at e r) road_named ≡ some x
      ends false x q = less r.predecessor x q
      ends true x q = less r.successor x q

  came_bare : (r : Road) → Came1 r (bare_road r)
  unfolding bare_road bare_target
  came_bare r = record { name_is = refl; sections_is = refl; seen_is = ends }
    where
      less : (o : Option Target) (x : Span) → bind_o (map_o bare_target o) road_named ≡ some x
          → bind_o o road_named ≡ some x
      less none x q = q
      less (some t) x q = q

      ends : (e : Bool) (x : Span) → bind_o (target_at e (bare_road r)) road_named ≡ some x
          → bind_o (target_at e r) road_named ≡ some x
      ends false x q = less r.predecessor x q
      ends true x q = less r.successor x q

  pub came_link : (j : Span) (c : Connection) (rs : List Road) → Came same rs (missing_link same j c rs)
  unfolding missing_link
  came_link j c rs = go (missing_end same rs j c)
    where
      go : (o : Option Bool) → Came same rs (link_at_end same rs j c o)
      go none = came_refl same rs
      go (some e) =
          came_point
          (pointwise_amend (λ r. same r.name c.incoming) (put_target e (linked j e)) (came_put j e) rs)

  pub came_junction : (j : Junction) (rs : List Road) → Came same rs (repair_roads same j rs)
  came_junction j rs =
      repair_roads_kept same (Came same rs) j
      (λ c qs h. came_trans same rs qs (missing_link same j.name c qs) h (came_link j.name c qs)) rs
      (came_refl same rs)

  pub came_start : (m : Map) → Came same m.roads (start_roads same m)
  unfolding start_roads
  came_start m = came_point (pointwise_map (without_along same m.junctions) (came_along m.junctions) m.roads)

  -- after repair, and after that with no contacts of junctions
  pub came_whole : (m : Map) → Came same m.roads (repair same m).roads
  unfolding repair
  came_whole m =
      roads_over_kept same (Came same m.roads) m.junctions
      (each (λ j c rs h.
      came_trans same m.roads rs (missing_link same j.name c rs) h (came_link j.name c rs))
      m.junctions) (start_roads same m) (came_start m)

  pub came_repair : (m : Map) → Came same m.roads (map bare_road (repair same m).roads)
  came_repair m =
      came_trans same m.roads (repair same m).roads (map bare_road (repair same m).roads) (came_whole m)
      (came_point (pointwise_map bare_road came_bare (repair same m).roads))

  pub roadward_repair : (m : Map) (n x : Span) (e : Bool)
      → roadward same (map bare_road (repair same m).roads) n e ≡ some x → roadward same m.roads n e ≡ some x
  roadward_repair m n x e q =
      seen_roadward same m.roads n e
      ∙ (came_repair m).seen_kept n x e (sym (seen_roadward same (map bare_road (repair same m).roads) n e) ∙ q)

  pub bare_sections : (rs : List Road) (n : Span) → sections_of same (map bare_road rs) n ≡ sections_of same rs n
  bare_sections rs n = sections_point n (pointwise_map bare_road came_bare rs)

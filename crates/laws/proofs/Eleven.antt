-- The lists that succession writes pass rule 11.
use mathlib.Core.Path.{◌≡◌, refl, ◌∙◌, ap, ap₂}
use mathlib.Core.Bool.{Bool, true, false, not, ◌&&◌, ◌||◌, cond}
use mathlib.Core.Option.{Option, none, some}
use mathlib.Core.List.{List, [], ◌∷◌, ◌++◌, map}
use Prim.Native.Nat.{ℕ, suc, ◌+◌, ◌/◌, ◌≤◌}
use native.Mathlib.Omega.{arith}
use lib.Dec.{eqb, leb}
use lib.ListN.{length, length-append, length-map}
use borrow.Author.Tests.{eq-eqb, le-leb}
use Rattle.geometry.specs.declared.gap.Direction.{Direction}
use Rattle.geometry.specs.declared.gap.Direction.TheVariants.{Backward, Both, Forward}
use Rattle.model.specs.Calls.{list_content}
use Rattle.model.specs.Lists.{bind_o, every, keep, list_o, sort}
use Rattle.model.specs.Lookup.{offsets_from, packed}
use Rattle.model.specs.Records.{Junction, Lane, Map, Span, Target, link_at, target_at}
use Rattle.model.specs.Repair.{road_of}
use Rattle.model.specs.Rows.{table}
use Rattle.model.specs.Rules.{borne, climbs, climbs_to, lists_fit, same}
use Rattle.model.specs.Succession.{Entry, back_links, cross, end_section, entry_id, exits, exits_by, finds_back}
use Rattle.model.specs.Succession.{is_both, junction_of, lookup, lookup_at_end, next_section, runs_away, sections_of}
use Rattle.model.specs.Succession.{stands_at, successor_lists, successors, successors_by, successors_of}
use Rattle.model.specs.Succession.{through_junction, through_pairs}
use Rattle.model.specs.Tables.{Tables, lane_in, lanes_in, map_of}
use Rattle.laws.proofs.ForEach.{each, each_append, each_gather, each_keep, each_map, each_once}
use Rattle.laws.proofs.ForEach.{each_over, each_sort}
use Rattle.laws.proofs.Lay.{length_table}
use Rattle.laws.proofs.ListTests.{and_both, each_every, either_right}
use Rattle.laws.proofs.Valid.{Each}

-- ---- offsets
pub offsets_count : (k : ℕ) (ls : List (List ℕ)) → length (offsets_from k ls) ≡ suc (length ls)
offsets_count k [] = refl
offsets_count k (l ∷ ls) = ap suc (offsets_count (k + length l) ls)

climb : (end o k : ℕ) (ls : List (List ℕ)) → o ≤ k → k + length (packed ls) ≡ end
    → climbs_to end o (offsets_from k ls) ≡ true
climb end o k [] h e = and_both (leb o k) (eqb k end) (le-leb o k h) (eq-eqb k end (omega arith))
climb end o k (l ∷ ls) h e =
    and_both (leb o k) (climbs_to end k (offsets_from (k + length l) ls)) (le-leb o k h)
    (climb end k (k + length l) ls (omega arith) (omega (arith, length-append l (packed ls))))

climb_all : (ls : List (List ℕ)) → climbs (length (packed ls)) (offsets_from 0 ls) ≡ true
climb_all [] = refl
climb_all (l ∷ ls) =
    climb (length (packed (l ∷ ls))) 0 (0 + length l) ls (omega arith)
    (omega (arith, length-append l (packed ls)))

-- ---- identities
borne_self : (ls : List Lane) → Each (λ l. borne ls l.identity ≡ true) ls
unfolding borne
borne_self [] = tt
borne_self (l ∷ ls) = (
  ap (λ b. b || borne ls l.identity) (eq-eqb l.identity l.identity refl),
  each_map (λ a q. either_right (eqb l.identity a.identity) (borne ls a.identity) q) ls
      (borne_self ls),
)

module _ (alike : Span → Span → Bool) (m : Map) where
  abbrev Known : ℕ → Type 0
  Known i = borne m.lanes i ≡ true

  abbrev Met : Entry → Type 0
  Met x = borne m.lanes x.lane.identity ≡ true

  lookup_met : (n : Span) (s : ℕ) (e : Bool) (k : ℕ) → Each Met (lookup alike m.lanes n s e k)
  unfolding lookup
  lookup_met n s e k =
      each_over entered Met (λ l. borne m.lanes l.identity ≡ true) (λ l q. q)
      (keep (stands_at alike n s k) m.lanes)
      (each_keep (λ l. borne m.lanes l.identity ≡ true) (stands_at alike n s k) m.lanes
      (borne_self m.lanes))
    where
      entered : Lane → Entry
      entered l = record { lane = l; contact = e }

  lookup_at_end_met : (n : Span) (e : Bool) (k : ℕ) → Each Met (lookup_at_end alike m n e k)
  unfolding lookup_at_end
  lookup_at_end_met n e k = lookup_met n (end_section (sections_of alike m.roads n) e) e k

  list_o_met : {A : Type 0} (o : Option A) (f : A → List Entry) → ((a : A) → Each Met (f a)) → Each Met (list_o o f)
  list_o_met none f h = tt
  list_o_met (some a) f h = h a

  through_junction_met : (n : Span) (k : ℕ) (j : Junction) → Each Met (through_junction alike m n k j)
  unfolding through_junction through_pairs
  through_junction_met n k j =
      each_gather (λ c. Unit {0}) Met (λ c. through_pairs alike m c k)
      (λ c u.
      each_gather (λ p. Unit {0}) Met (λ p. lookup_at_end alike m c.connecting c.contact p.to)
      (λ p v. lookup_at_end_met c.connecting c.contact p.to) (keep (λ p. eqb p.from k) c.pairs)
      (each (λ p. tt) (keep (λ p. eqb p.from k) c.pairs)))
      (keep (λ c. alike c.incoming n) j.connections)
      (each (λ c. tt) (keep (λ c. alike c.incoming n) j.connections))

  cross_met : (l : Lane) (o : Option ℕ) (t : Target) → Each Met (cross alike m l o t)
  cross_met l o t = go t.is_junction
    where
      go : (b : Bool)
          → Each Met (cond b
          (list_o (junction_of alike m.junctions t.name) (through_junction alike m l.road l.number))
          (list_o o (lookup_at_end alike m t.name t.contact)))
      go true =
          list_o_met (junction_of alike m.junctions t.name) (through_junction alike m l.road l.number)
          (through_junction_met l.road l.number)
      go false = list_o_met o (lookup_at_end alike m t.name t.contact) (lookup_at_end_met t.name t.contact)

  exits_met : (l : Lane) (e : Bool) → Each Met (exits alike m l e)
  unfolding exits
  exits_met l e = go (next_section (sections_of alike m.roads l.road) l.section e)
    where
      go : (o : Option ℕ) → Each Met (exits_by alike m l e o)
      go (some s) =
          list_o_met (link_at e l) (lookup alike m.lanes l.road s (not e))
          (λ k. lookup_met l.road s (not e) k)
      go none =
          list_o_met (bind_o (road_of alike m.roads l.road) (target_at e)) (cross alike m l (link_at e l))
          (cross_met l (link_at e l))

  ids_known : (xs : List Entry) → Each Met xs → Each Known (map entry_id xs)
  unfolding entry_id
  ids_known xs h = each_over entry_id Known Met (λ x q. q) xs h

  successors_of_known : (l : Lane) → Each Known (successors_of alike m l)
  unfolding successors_of
  successors_of_known l = go l.direction
    where
      go : (d : Direction) → Each Known (successors_by alike m l d)
      go Forward =
          each_sort Known (map entry_id (exits alike m l true))
          (ids_known (exits alike m l true) (exits_met l true))
      go Backward =
          each_sort Known (map entry_id (exits alike m l false))
          (ids_known (exits alike m l false) (exits_met l false))
      go Both =
          each_once Known (sort (map entry_id (keep runs_away (exits alike m l true ++ exits alike m l false))))
          (each_sort Known (map entry_id (keep runs_away (exits alike m l true ++ exits alike m l false)))
          (ids_known (keep runs_away (exits alike m l true ++ exits alike m l false))
          (each_keep Met runs_away (exits alike m l true ++ exits alike m l false)
          (each_append Met (exits alike m l true) (exits alike m l false) (exits_met l true)
          (exits_met l false)))))

  back_links_known : (l : Lane) → Each Known (back_links alike m l)
  unfolding back_links
  back_links_known l = go (is_both l.direction)
    where
      go : (b : Bool)
          → Each Known (cond b (map (λ (b : Lane). b.identity) (keep (finds_back alike m l) m.lanes)) [])
      go true =
          each_over (λ (b : Lane). b.identity) Known (λ l. borne m.lanes l.identity ≡ true) (λ l q. q)
          (keep (finds_back alike m l) m.lanes)
          (each_keep (λ l. borne m.lanes l.identity ≡ true) (finds_back alike m l) m.lanes
          (borne_self m.lanes))
      go false = tt

  pub lists_known : every (borne m.lanes) (packed (successor_lists alike m)) ≡ true
  unfolding successor_lists successors
  lists_known =
      each_every (borne m.lanes) (packed (successor_lists alike m))
      (each_gather (Each Known) Known (λ l. l) (λ l q. q) (map (successors alike m) m.lanes)
      (each_over (successors alike m) (Each Known) (λ l. Unit {0})
      (λ l u.
      each_sort Known (successors_of alike m l ++ back_links alike m l)
      (each_append Known (successors_of alike m l) (back_links alike m l) (successors_of_known l)
      (back_links_known l))) m.lanes (each (λ l. tt) m.lanes)))

-- what succession writes passes rule 11
pub eleven : (t : Tables) → lists_fit t (list_content t).successor_offsets (list_content t).successor_ids ≡ true
unfolding lists_fit list_content map_of
eleven t =
    ap₂ (λ a b. a && b) (ap₂ (λ a b. a && b)
    (eq-eqb (length (offsets_from 0 L)) (suc (length t.lanes / 10)) (offsets_count 0 L ∙ ap suc rows))
    (climb_all L)) (lists_known (same t) (map_of t))
  where
    L : List (List ℕ)
    L = successor_lists (same t) (map_of t)

    rows : length (successor_lists (same t) (map_of t)) ≡ length t.lanes / 10
    rows =
        unfold successor_lists map_of lanes_in in
        (length-map (map lane_in (table 10 t.lanes)) (successors (same t) (map_of t))
        ∙ length-map (table 10 t.lanes) lane_in
        ∙ length_table 10 t.lanes)

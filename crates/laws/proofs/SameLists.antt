-- On a map reversed and then repaired, every lane has the lists that it has on the map repaired.
use mathlib.Core.Path.{◌≡◌, refl, sym, ◌∙◌, ap, ap₂, subst}
use mathlib.Core.Bool.{Bool, true, false, cond}
use mathlib.Core.Option.{Option, none, some}
use mathlib.Core.List.{List, ◌++◌, map}
use Prim.Native.Nat.{ℕ}
use lib.Dec.{eqb}
use Rattle.geometry.specs.declared.gap.Direction.{Direction}
use Rattle.geometry.specs.declared.gap.Direction.TheVariants.{Backward, Both, Forward}
use Rattle.model.specs.Lists.{bind_o, keep, list_o, map_o, once, sort}
use Rattle.model.specs.Records.{Connection, Junction, Lane, Map, Road, Span, Target, link_at, target_at}
use Rattle.model.specs.Repair.{repair, road_of}
use Rattle.model.specs.Reversal.{reverse_lane, reverse_map}
use Rattle.model.specs.Succession.{cross, end_section, entry_id, exits, exits_by, is_both, junction_of, lookup}
use Rattle.model.specs.Succession.{lookup_at_end, next_section, predecessors, runs_away, sections_of, successors}
use Rattle.model.specs.Succession.{successors_by, successors_of, through_junction, through_pairs}
use Rattle.laws.proofs.Basics.{gather_ext}
use Rattle.laws.proofs.ForEach.{each, each_map}
use Rattle.laws.proofs.JunctionsReversed.{repair_junctions}
use Rattle.laws.proofs.Mirror.{reverse_direction_both}
use Rattle.laws.proofs.RepairKeeps.{bare_sections, came_repair, roadward_repair}
use Rattle.laws.proofs.RepairReversed.{bare_road, bare_target, repair_roads_lem, road_of_bare, target_at_bare}
use Rattle.laws.proofs.SuccessionReversed.{over, plain, predecessors_same, successors_same}
use Rattle.laws.proofs.SuccessionReversed.{successors_of_reversed}
use Rattle.laws.proofs.Valid.{Alike, Each, Placed, Reversible, Steady, Valid}

module _ (same : Span → Span → Bool) (J : List Junction) (L : List Lane) (Q : List Road) where
  whole : Map
  whole = record { roads = Q; junctions = J; lanes = L }

  bared : Map
  bared = record { roads = map bare_road Q; junctions = J; lanes = L }

  lookup_at_end_bare : (n : Span) (e : Bool) (k : ℕ) → lookup_at_end same bared n e k ≡ lookup_at_end same whole n e k
  unfolding lookup_at_end bared whole
  lookup_at_end_bare n e k = ap (λ ss. lookup same L n (end_section ss e) e k) (bare_sections same Q n)

  through_junction_bare : (n : Span) (k : ℕ) (j : Junction)
      → through_junction same bared n k j ≡ through_junction same whole n k j
  unfolding through_junction through_pairs
  through_junction_bare n k j =
      gather_ext _ _ (keep (λ c. same c.incoming n) j.connections)
      (each pairs (keep (λ c. same c.incoming n) j.connections))
    where
      pairs : (c : Connection) → through_pairs same bared c k ≡ through_pairs same whole c k
      pairs c =
          gather_ext _ _ (keep (λ p. eqb p.from k) c.pairs)
          (each (λ p. lookup_at_end_bare c.connecting c.contact p.to)
          (keep (λ p. eqb p.from k) c.pairs))

  cross_bare : (l : Lane) (o : Option ℕ) (t : Target) → cross same bared l o (bare_target t) ≡ cross same whole l o t
  unfolding bare_target bared whole
  cross_bare l o t = go t.is_junction
    where
      through : (x : Option Junction)
          → list_o x (through_junction same bared l.road l.number)
          ≡ list_o x (through_junction same whole l.road l.number)
      through none = refl
      through (some j) = through_junction_bare l.road l.number j

      straight : (x : Option ℕ)
          → list_o x (lookup_at_end same bared t.name t.contact)
          ≡ list_o x (lookup_at_end same whole t.name t.contact)
      straight none = refl
      straight (some k) = lookup_at_end_bare t.name t.contact k

      go : (b : Bool)
          → cond b (list_o (junction_of same J t.name) (through_junction same bared l.road l.number))
          (list_o o (lookup_at_end same bared t.name (cond b false t.contact)))
          ≡ cond b (list_o (junction_of same J t.name) (through_junction same whole l.road l.number))
          (list_o o (lookup_at_end same whole t.name t.contact))
      go true = through (junction_of same J t.name)
      go false = straight o

  exits_bare : (l : Lane) (e : Bool) → exits same bared l e ≡ exits same whole l e
  unfolding exits bared whole
  exits_bare l e =
      ap (λ ss. exits_by same bared l e (next_section ss l.section e)) (bare_sections same Q l.road)
      ∙ go (next_section (sections_of same Q l.road) l.section e)
    where
      leaf : (t : Option Target)
          → list_o (map_o bare_target t) (cross same bared l (link_at e l))
          ≡ list_o t (cross same whole l (link_at e l))
      leaf none = refl
      leaf (some t) = cross_bare l (link_at e l) t

      outer : (o : Option Road)
          → list_o (bind_o (map_o bare_road o) (target_at e)) (cross same bared l (link_at e l))
          ≡ list_o (bind_o o (target_at e)) (cross same whole l (link_at e l))
      outer none = refl
      outer (some r) = ap (λ t. list_o t (cross same bared l (link_at e l))) (target_at_bare e r) ∙ leaf (target_at e r)

      go : (o : Option ℕ) → exits_by same bared l e o ≡ exits_by same whole l e o
      go (some s) = refl
      go none =
          ap (λ x. list_o (bind_o x (target_at e)) (cross same bared l (link_at e l)))
          (road_of_bare same Q l.road)
          ∙ outer (road_of same Q l.road)

  successors_of_bare : (l : Lane) → successors_of same bared l ≡ successors_of same whole l
  unfolding successors_of
  successors_of_bare l = go l.direction
    where
      go : (d : Direction) → successors_by same bared l d ≡ successors_by same whole l d
      go Forward = ap (λ x. sort (map entry_id x)) (exits_bare l true)
      go Backward = ap (λ x. sort (map entry_id x)) (exits_bare l false)
      go Both =
          ap₂ (λ x y. once (sort (map entry_id (keep runs_away (x ++ y))))) (exits_bare l true)
          (exits_bare l false)

module _ (same : Span → Span → Bool) (A : Alike same) (mk : Span → Bool) (S : Steady same mk) (m : Map)
    (v : Valid same m) (h : Reversible same mk m) where
  reversed_lane : Lane → Lane
  reversed_lane = reverse_lane same mk m.roads

  lanes_repaired : (repair same (reverse_map same mk m)).lanes ≡ map reversed_lane (repair same m).lanes
  unfolding repair reverse_map reversed_lane
  lanes_repaired = refl

  repaired_lanes : (repair same m).lanes ≡ m.lanes
  unfolding repair
  repaired_lanes = refl

  successors_of_repaired : (l : Lane) → Placed same m.roads l
      → successors_of same (repair same (reverse_map same mk m)) (reversed_lane l)
      ≡ successors_of same (repair same m) l
  unfolding plain over bared whole reversed_lane
  successors_of_repaired l p =
      sym (successors_of_bare same (repair same (reverse_map same mk m)).junctions
      (repair same (reverse_map same mk m)).lanes (repair same (reverse_map same mk m)).roads (reversed_lane l))
      ∙ (λ i.
      successors_of same (record {
        roads = repair_roads_lem same A mk S m i;
        junctions = repair_junctions same A mk S m h i;
        lanes = lanes_repaired i;
      }) (reversed_lane l))
      ∙ successors_of_reversed same A mk S m.roads v.ascending (map bare_road (repair same m).roads)
      (came_repair same m).sections_kept (roadward_repair same m) (repair same m).junctions
      (repair same m).lanes (subst (Each (Placed same m.roads)) (sym repaired_lanes) v.placed) l p
      ∙ successors_of_bare same (repair same m).junctions (repair same m).lanes (repair same m).roads l

  ids : (l : Lane) → (reversed_lane l).identity ≡ l.identity
  unfolding reversed_lane reverse_lane
  ids l = refl

  ways : (l : Lane) → is_both (reversed_lane l).direction ≡ is_both l.direction
  unfolding reversed_lane reverse_lane
  ways l = reverse_direction_both (mk l.road) l.direction

  all_alike : Each (λ l.
      successors_of same (repair same (reverse_map same mk m)) (reversed_lane l)
      ≡ successors_of same (repair same m) l) (repair same m).lanes
  unfolding repair
  all_alike = each_map successors_of_repaired m.lanes v.placed

  -- every lane's lists, successors and predecessors
  pub successors_reversed : Each (λ l.
      successors same (repair same (reverse_map same mk m)) (reverse_lane same mk m.roads l)
      ≡ successors same (repair same m) l) (repair same m).lanes
  unfolding reversed_lane
  successors_reversed =
      successors_same same (repair same m) (repair same (reverse_map same mk m)) reversed_lane ids ways
      lanes_repaired all_alike

  pub predecessors_reversed : (l : Lane)
      → predecessors same (repair same (reverse_map same mk m)) (reverse_lane same mk m.roads l)
      ≡ predecessors same (repair same m) l
  unfolding reversed_lane
  predecessors_reversed l =
      predecessors_same same (repair same m) (repair same (reverse_map same mk m)) reversed_lane ids ways
      lanes_repaired all_alike l

-- Repair and reversal may be done in either order: the junctions, where no marked road names one direct
-- junction at both ends.
use mathlib.Core.Path.{◌≡◌, refl, sym, ◌∙◌, ap, ap₂}
use mathlib.Core.Bool.{Bool, true, false, not, ◌&&◌, cond, true≢false, and-false}
use mathlib.Core.Option.{Option, none, some}
use mathlib.Core.List.{List, [], ◌∷◌, ◌++◌, map, map-append, map-map}
use mathlib.Core.Logic.{◌⊎◌, inl, inr}
use Rattle.model.specs.Lists.{◌⊕◌, bind_o, gather, keep, list_o, map_o, some?}
use Rattle.model.specs.Records.{Connection, Junction, JunctionKind, Map, Pair, Road, Span, Target, common}
use Rattle.model.specs.Records.{direct, target_at, virtual}
use Rattle.model.specs.Repair.{back_at, back_end, back_of, connections_after, drop_along, junctions_over, link_at_end}
use Rattle.model.specs.Repair.{linked, meeting_end, meets, missing_end, missing_link, names_junction, put_target}
use Rattle.model.specs.Repair.{repair, repair_junction, repair_roads, reversed, road_of, runs_back, start_roads}
use Rattle.model.specs.Repair.{swapped, vacant_end, without_along}
use Rattle.model.specs.Reversal.{reverse_connection, reverse_junction, reverse_map, reverse_pair, reverse_road}
use Rattle.model.specs.Rules.{is_direct, names_twice}
use Rattle.laws.proofs.Basics.{gather_ext, gather_map, keep_ext, keep_map, map_ext, map_gather, no_some}
use Rattle.laws.proofs.Basics.{some?_map}
use Rattle.laws.proofs.ForEach.{each, each_amend, each_map, each_of_map, first_each}
use Rattle.laws.proofs.ListTests.{or_left, or_right}
use Rattle.laws.proofs.Names.{road_of_name, same_right}
use Rattle.laws.proofs.RepairEach.{repair_roads_kept, without_along_kept}
use Rattle.laws.proofs.RepairReversed.{AsReversed, bare_road, meet_at, meet_at_bare, names_junction_reversed}
use Rattle.laws.proofs.RepairReversed.{repair_roads_both, reverse_road_bare, start_roads_both}
use Rattle.laws.proofs.Reverse.{road_of_reversed}
use Rattle.laws.proofs.Valid.{Alike, Each, Reversible, Single, Steady}

-- a road that names a junction at one end at most goes on doing so
module _ (same : Span → Span → Bool) (A : Alike same) (mk : Span → Bool) where
  names_junction_same : (i j : Span) (o : Option Target) → same i j ≡ true → names_junction same i o ≡ false
      → names_junction same j o ≡ false
  names_junction_same i j none q h = refl
  names_junction_same i j (some t) q h = ap (λ b. t.is_junction && b) (sym (same_right same A i j t.name q)) ∙ h

  twice_put : (i j : Span) (e : Bool) (r : Road) → meets same i r ≡ false
      → names_twice same j (put_target e (linked i e) r) ≡ false
  unfolding names_twice put_target linked meets
  twice_put i j false r h = go (same i j) refl
    where
      go : (b : Bool) → same i j ≡ b → b && names_junction same j r.successor ≡ false
      go true q =
          names_junction_same i j r.successor q
          (or_right (names_junction same i r.predecessor) (names_junction same i r.successor) h)
      go false q = refl
  twice_put i j true r h = go (same i j) refl
    where
      go : (b : Bool) → same i j ≡ b → names_junction same j r.predecessor && b ≡ false
      go true q =
          ap (λ x. x && true) (names_junction_same i j r.predecessor q
          (or_left (names_junction same i r.predecessor) (names_junction same i r.successor) h))
      go false q = and-false (names_junction same j r.predecessor)

  missing_meets : (rs : List Road) (i : Span) (c : Connection) (e : Bool) (r : Road)
      → missing_end same rs i c ≡ some e → road_of same rs c.incoming ≡ some r → meets same i r ≡ false
  unfolding missing_end
  missing_meets rs i c e r q k =
      go (meets same i r) refl (sym (ap (λ o.
      bind_o o λ r. cond (meets same i r) none
      (bind_o
      (bind_o (bind_o (road_of same rs c.connecting) (target_at c.contact)) (back_end same c.incoming))
      (vacant_end r))) k)
      ∙ q)
    where
      go : (b : Bool) → meets same i r ≡ b
          → cond b none (bind_o
          (bind_o (bind_o (road_of same rs c.connecting) (target_at c.contact)) (back_end same c.incoming))
          (vacant_end r)) ≡ some e → meets same i r ≡ false
      go true w q = absurd (no_some e q)
      go false w q = w

  single_link : (rs : List Road) (i j : Span) (c : Connection) → Single same mk rs j
      → Single same mk (missing_link same i c rs) j
  unfolding missing_link
  single_link rs i j c h = go (missing_end same rs i c) refl
    where
      go : (o : Option Bool) → missing_end same rs i c ≡ o → Single same mk (link_at_end same rs i c o) j
      go none q = h
      go (some e) q =
          each_amend (λ r. mk r.name ≡ true → names_twice same j r ≡ false)
          (λ r. same r.name c.incoming) (put_target e (linked i e)) rs h
          (λ r f old m. twice_put i j e r (missing_meets rs i c e r q (unfold road_of in f)))

  single_junction : (i : Junction) (rs : List Road) (j : Span) → Single same mk rs j
      → Single same mk (repair_roads same i rs) j
  single_junction i rs j h =
      repair_roads_kept same (λ rs. Single same mk rs j) i (λ c rs k. single_link rs i.name j c k) rs h

  twice_along : (js : List Junction) (j : Span) (r : Road) → names_twice same j r ≡ false
      → names_twice same j (without_along same js r) ≡ false
  unfolding names_twice
  twice_along js j r h = without_along_kept same (λ x. names_twice same j x ≡ false) js r
      (join (names_junction same j (drop_along r.predecessor))
      (names_junction same j (drop_along r.successor)) (names_junction same j r.predecessor)
      (names_junction same j r.successor) (less r.predecessor) (less r.successor) h) h
    where
      less : (o : Option Target)
          → (names_junction same j (drop_along o) ≡ false)
          ⊎ (names_junction same j (drop_along o) ≡ names_junction same j o)
      less none = inl refl
      less (some t) = pick_one t.along
        where
          pick_one : (b : Bool)
              → (names_junction same j (cond b none (some t)) ≡ false)
              ⊎ (names_junction same j (cond b none (some t)) ≡ names_junction same j (some t))
          pick_one true = inl refl
          pick_one false = inr refl

      join : (a b c d : Bool) → (a ≡ false) ⊎ (a ≡ c) → (b ≡ false) ⊎ (b ≡ d) → c && d ≡ false → a && b ≡ false
      join a b c d (inl p) q h = ap (λ x. x && b) p
      join a b c d (inr p) (inl q) h = ap (λ x. a && x) q ∙ and-false a
      join a b c d (inr p) (inr q) h = ap₂ (λ x y. x && y) p q ∙ h

-- a direct junction's connections the other way
swap_pairs : (mk : Span → Bool) (i c : Span) (ps : List Pair)
    → map swapped (map (reverse_pair mk i c) ps) ≡ map (reverse_pair mk c i) (map swapped ps)
unfolding swapped reverse_pair
swap_pairs mk i c [] = refl
swap_pairs mk i c (p ∷ ps) = ap {B = List Pair} (λ x. swapped (reverse_pair mk i c p) ∷ x) (swap_pairs mk i c ps)

back_at_reversed : (mk : Span → Bool) (c : Connection) (e : Bool)
    → back_at (reverse_connection mk c) (mk c.incoming ⊕ e) ≡ reverse_connection mk (back_at c e)
unfolding back_at reverse_connection
back_at_reversed mk c e =
    λ i.
    record {
      incoming = c.connecting;
      connecting = c.incoming;
      contact = mk c.incoming ⊕ e;
      pairs = swap_pairs mk c.incoming c.connecting c.pairs i;
    }

module _ (same : Span → Span → Bool) (A : Alike same) (mk : Span → Bool) (S : Steady same mk) where
  meeting_end_reversed : (j : Span) (r : Road) → (mk r.name ≡ true → names_twice same j r ≡ false)
      → meeting_end same j (reverse_road mk r) ≡ map_o (λ e. mk r.name ⊕ e) (meeting_end same j r)
  unfolding meeting_end reverse_road names_twice
  meeting_end_reversed j r h =
      rw (
        names_junction_reversed same mk j (target_at (mk r.name) r),
        names_junction_reversed same mk j (target_at (not (mk r.name)) r),
      ) (go (mk r.name) refl)
    where
      plain : (a b : Bool)
          → cond a (some true) (cond b (some false) none)
          ≡ map_o (λ (e : Bool). e) (cond a (some true) (cond b (some false) none))
      plain true b = refl
      plain false true = refl
      plain false false = refl

      crossed : (a b : Bool) → b && a ≡ false
          → cond b (some true) (cond a (some false) none)
          ≡ map_o not (cond a (some true) (cond b (some false) none))
      crossed true true q = absurd (true≢false q)
      crossed true false q = refl
      crossed false true q = refl
      crossed false false q = refl

      go : (m : Bool) → mk r.name ≡ m
          → cond (names_junction same j (target_at (not m) r)) (some true)
          (cond (names_junction same j (target_at m r)) (some false) none)
          ≡ map_o (λ e. m ⊕ e) (cond (names_junction same j r.successor) (some true)
          (cond (names_junction same j r.predecessor) (some false) none))
      go false q = plain (names_junction same j r.successor) (names_junction same j r.predecessor)
      go true q = crossed (names_junction same j r.successor) (names_junction same j r.predecessor) (h q)

  meet_at_reversed : (rs : List Road) (n j : Span) → Single same mk rs j
      → meet_at same (map (reverse_road mk) rs) n j ≡ map_o (λ e. mk n ⊕ e) (meet_at same rs n j)
  unfolding meet_at
  meet_at_reversed rs n j h = rw (road_of_reversed same mk S rs n) (go (road_of same rs n) refl)
    where
      go : (o : Option Road) → road_of same rs n ≡ o
          → bind_o (map_o (reverse_road mk) o) (meeting_end same j)
          ≡ map_o (λ e. mk n ⊕ e) (bind_o o (meeting_end same j))
      go none q = refl
      go (some r) q =
          meeting_end_reversed j r (first_each (λ r. mk r.name ≡ true → names_twice same j r ≡ false)
          (λ r. same r.name n) rs r h (unfold road_of in q))
          ∙ ap (λ m. map_o (λ e. m ⊕ e) (meeting_end same j r)) (S r.name n (road_of_name same rs n r q))

  meet_at_both : (rs turned : List Road) (n j : Span) → AsReversed same A mk S rs turned → Single same mk rs j
      → meet_at same turned n j ≡ map_o (λ e. mk n ⊕ e) (meet_at same rs n j)
  meet_at_both rs turned n j T h =
      sym (meet_at_bare same turned n j)
      ∙ ap (λ x. meet_at same x n j)
      (T
      ∙ map-map (reverse_road mk) bare_road rs
      ∙ sym (map_ext _ _ rs (each (reverse_road_bare same mk) rs))
      ∙ sym (map-map bare_road (reverse_road mk) rs))
      ∙ meet_at_bare same (map (reverse_road mk) rs) n j
      ∙ meet_at_reversed rs n j h

  back_of_both : (rs turned : List Road) (j : Span) (c : Connection) → AsReversed same A mk S rs turned
      → Single same mk rs j
      → back_of same turned j (reverse_connection mk c) ≡ map (reverse_connection mk) (back_of same rs j c)
  unfolding back_of meet_at
  back_of_both rs turned j c T h =
      unfold reverse_connection in ap (λ o. list_o o (λ e. back_at (reverse_connection mk c) e ∷ []))
      (meet_at_both rs turned c.incoming j T h)
      ∙ go (meet_at same rs c.incoming j)
    where
      go : (o : Option Bool)
          → list_o (map_o (λ e. mk c.incoming ⊕ e) o) (λ e. back_at (reverse_connection mk c) e ∷ [])
          ≡ map (reverse_connection mk) (list_o o (λ e. back_at c e ∷ []))
      go none = refl
      go (some e) = ap {B = List Connection} (λ x. x ∷ []) (back_at_reversed mk c e)

  reversed_both : (rs turned : List Road) (j : Span) (cs : List Connection) → AsReversed same A mk S rs turned
      → Single same mk rs j
      → reversed same turned j (map (reverse_connection mk) cs) ≡ map (reverse_connection mk) (reversed same rs j cs)
  unfolding reversed
  reversed_both rs turned j cs T h =
      ap (gather (back_of same turned j))
      (keep_map (reverse_connection mk) (λ c. not (some? (runs_back same c) (map (reverse_connection mk) cs))) cs
      ∙ ap (map (reverse_connection mk))
      (keep_ext (λ c. not (some? (runs_back same (reverse_connection mk c)) (map (reverse_connection mk) cs)))
      (λ c. not (some? (runs_back same c) cs)) cs (each (λ c. ap not (runs c)) cs)))
      ∙ gather_map (reverse_connection mk) (back_of same turned j) kept
      ∙ gather_ext (λ c. back_of same turned j (reverse_connection mk c))
      (λ c. map (reverse_connection mk) (back_of same rs j c)) kept (each (λ c. back_of_both rs turned j c T h) kept)
      ∙ sym (map_gather (back_of same rs j) (reverse_connection mk) kept)
    where
      kept : List Connection
      kept = keep (λ c. not (some? (runs_back same c) cs)) cs

      runs : (c : Connection)
          → some? (runs_back same (reverse_connection mk c)) (map (reverse_connection mk) cs)
          ≡ some? (runs_back same c) cs
      runs c =
          unfold runs_back reverse_connection in some?_map (reverse_connection mk)
          (runs_back same (reverse_connection mk c)) cs

  repair_junction_both : (rs turned : List Road) (j : Junction) → AsReversed same A mk S rs turned
      → (is_direct j.kind ≡ true → Single same mk rs j.name) →
      repair_junction same turned (reverse_junction mk j) ≡ reverse_junction mk (repair_junction same rs j)
  unfolding repair_junction reverse_junction
  repair_junction_both rs turned j T h = λ i. record { name = j.name; kind = j.kind; connections = go j.kind h i }
    where
      go : (k : JunctionKind) → (is_direct k ≡ true → Single same mk rs j.name) →
          connections_after same k j.name (map (reverse_connection mk) j.connections) turned
          ≡ map (reverse_connection mk) (connections_after same k j.name j.connections rs)
      go common h = refl
      go direct h =
          ap (λ x. map (reverse_connection mk) j.connections ++ x)
          (reversed_both rs turned j.name j.connections T (h refl))
          ∙ sym (map-append (reverse_connection mk) j.connections (reversed same rs j.name j.connections))
      go virtual h = refl

  junctions_over_both : (js : List Junction) (rs turned : List Road) → AsReversed same A mk S rs turned
      → Each (λ j. is_direct j.kind ≡ true → Single same mk rs j.name) js →
      junctions_over same (map (reverse_junction mk) js) turned ≡ map (reverse_junction mk) (junctions_over same js rs)
  junctions_over_both [] rs turned T h = refl
  junctions_over_both (j ∷ js) rs turned T h =
      ap₂ {C = List Junction} (λ x y. x ∷ y) (repair_junction_both rs turned j T h.0)
      (junctions_over_both js (repair_roads same j rs) (repair_roads same (reverse_junction mk j) turned)
      (repair_roads_both same A mk S j rs turned T)
      (each_map (λ i f d. single_junction same A mk j rs i.name (f d)) js h.1))

  -- reversed and repaired, and repaired and reversed: the junctions
  pub repair_junctions : (m : Map) → Reversible same mk m
      → (repair same (reverse_map same mk m)).junctions ≡ map (reverse_junction mk) (repair same m).junctions
  unfolding repair
  repair_junctions m h =
      unfold reverse_map in junctions_over_both m.junctions (start_roads same m)
      (start_roads same (reverse_map same mk m)) (start_roads_both same A mk S m)
      (each_map (λ j f d. started j.name (f d)) m.junctions h)
    where
      started : (j : Span) → Single same mk m.roads j → Single same mk (start_roads same m) j
      started j k =
          unfold start_roads in each_of_map (without_along same m.junctions)
          (λ r. mk r.name ≡ true → names_twice same j r ≡ false) m.roads
          (each_map (λ r f q. twice_along same A mk m.junctions j r (f (sym (ap mk (name_along r)) ∙ q)))
          m.roads k)
        where
          name_along : (r : Road) → (without_along same m.junctions r).name ≡ r.name
          name_along r = without_along_kept same (λ x. x.name ≡ r.name) m.junctions r refl refl

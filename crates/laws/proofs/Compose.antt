-- Two reversals are one, by the roads that just one of them marks; a reversal that marks no road changes
-- nothing; mirrored sections still ascend.
use mathlib.Core.Path.{◌≡◌, refl, sym, ◌∙◌, ap, ap₂}
use mathlib.Core.Bool.{Bool, true, false, not, cond}
use mathlib.Core.Option.{Option, none, some}
use mathlib.Core.List.{List, [], ◌∷◌, ◌++◌, map, reverse, reverse-cons, map-map}
use Prim.Native.Nat.{ℕ, ◌+◌, ◌<◌, ◌≤◌}
use native.Mathlib.Omega.{arith}
use lib.Dec.{eqb}
use Rattle.model.specs.Lists.{◌⊕◌, head_or, last_or, map_o, member}
use Rattle.model.specs.Records.{Connection, Junction, Lane, Map, Pair, Road, Span, Target, link_at, target_at}
use Rattle.model.specs.Reversal.{leads_to, marks, mirror, mirrored, reverse_connection, reverse_junction}
use Rattle.model.specs.Reversal.{reverse_lane, reverse_link, reverse_map, reverse_pair, reverse_road, reverse_target}
use Rattle.model.specs.Reversal.{signed}
use Rattle.model.specs.Succession.{sections_of}
use Rattle.laws.proofs.Basics.{map_ext, map_id, some?_ext, some?_map, ⊕-assoc, ⊕-comm, ⊕-not, ⊕-self}
use Rattle.laws.proofs.ForEach.{each, each_append, each_both, each_map, each_member, each_of_map}
use Rattle.laws.proofs.ForEach.{each_reverse}
use Rattle.laws.proofs.ListTests.{some?_reverse}
use Rattle.laws.proofs.Mirror.{bounded, mirror_eqb, mirror_mirror, mirror_mirrored, mirrored_mirrored}
use Rattle.laws.proofs.Mirror.{reverseDirection-⊕, signed-⊕}
use Rattle.laws.proofs.Names.{placed_bound}
use Rattle.laws.proofs.Reverse.{leads_to_reversed, link_at_reversed, sections_of_reversed, target_at_reversed}
use Rattle.laws.proofs.Valid.{Ascends, Each, Placed, Steady, Valid, nobody, toggled}

⊕-twice : (a b c : Bool) → b ⊕ (a ⊕ c) ≡ (a ⊕ b) ⊕ c
⊕-twice a b c = ⊕-assoc b a c ∙ ap (λ x. x ⊕ c) (⊕-comm b a)

module _ (s t : Span → Bool) where
  compose_target : (x : Target) → reverse_target t (reverse_target s x) ≡ reverse_target (toggled s t) x
  unfolding reverse_target toggled
  compose_target x =
      λ i.
      record {
        is_junction = x.is_junction;
        name = x.name;
        contact = go x.is_junction i;
        given = x.given;
        along = x.along;
      }
    where
      go : (j : Bool)
          → cond j (cond j x.contact (s x.name ⊕ x.contact))
          (t x.name ⊕ cond j x.contact (s x.name ⊕ x.contact))
          ≡ cond j x.contact ((s x.name ⊕ t x.name) ⊕ x.contact)
      go true = refl
      go false = ⊕-twice (s x.name) (t x.name) x.contact

  compose_targets : (o : Option Target)
      → map_o (reverse_target t) (map_o (reverse_target s) o) ≡ map_o (reverse_target (toggled s t)) o
  compose_targets none = refl
  compose_targets (some x) = ap {B = Option Target} some (compose_target x)

  compose_sections : (a b : Bool) (ss : List ℕ) → Ascends ss
      → cond b (mirrored (cond a (mirrored ss) ss)) (cond a (mirrored ss) ss) ≡ cond (a ⊕ b) (mirrored ss) ss
  compose_sections false false ss h = refl
  compose_sections false true ss h = refl
  compose_sections true false ss h = refl
  compose_sections true true ss h = mirrored_mirrored ss (bounded ss h)

  pub compose_road : (r : Road) → Ascends r.sections
      → reverse_road t (reverse_road s r) ≡ reverse_road (toggled s t) r
  unfolding reverse_road toggled
  compose_road r h = λ i. record {
    name = r.name;
    junction = r.junction;
    predecessor = at (t r.name) i;
    successor = (at (not (t r.name))
        ∙ ap (λ b. map_o (reverse_target (toggled s t)) (target_at b r)) (⊕-not (s r.name) (t r.name))) i;
    sections = compose_sections (s r.name) (t r.name) r.sections h i;
  }
    where
      at : (e : Bool)
          → map_o (reverse_target t) (target_at e (reverse_road s r))
          ≡ map_o (reverse_target (toggled s t)) (target_at (s r.name ⊕ e) r)
      at e = ap (map_o (reverse_target t)) (target_at_reversed s e r) ∙ compose_targets (target_at (s r.name ⊕ e) r)

  compose_pair : (a b : Span) (p : Pair) → reverse_pair t a b (reverse_pair s a b p) ≡ reverse_pair (toggled s t) a b p
  unfolding reverse_pair toggled
  compose_pair a b p = λ i. record { from = signed-⊕ (t a) (s a) p.from i; to = signed-⊕ (t b) (s b) p.to i }

  pub compose_connection : (c : Connection)
      → reverse_connection t (reverse_connection s c) ≡ reverse_connection (toggled s t) c
  unfolding reverse_connection toggled
  compose_connection c = λ i. record {
    incoming = c.incoming;
    connecting = c.connecting;
    contact = ⊕-twice (s c.connecting) (t c.connecting) c.contact i;
    pairs = (map-map (reverse_pair t c.incoming c.connecting)
        (reverse_pair s c.incoming c.connecting) c.pairs
        ∙ map_ext _ _ c.pairs (each (compose_pair c.incoming c.connecting) c.pairs)) i;
  }

  pub compose_junction : (j : Junction) → reverse_junction t (reverse_junction s j) ≡ reverse_junction (toggled s t) j
  unfolding reverse_junction
  compose_junction j = λ i. record {
    name = j.name;
    kind = j.kind;
    connections = (map-map (reverse_connection t) (reverse_connection s) j.connections
        ∙ map_ext _ _ j.connections (each compose_connection j.connections)) i;
  }

  compose_marks : (o : Option Span) → marks s o ⊕ marks t o ≡ marks (toggled s t) o
  unfolding toggled
  compose_marks none = refl
  compose_marks (some n) = refl

  compose_number : (a b : Bool) (o : Option ℕ) → map_o (signed b) (map_o (signed a) o) ≡ map_o (signed (a ⊕ b)) o
  compose_number a b none = refl
  compose_number a b (some n) = ap {B = Option ℕ} some (signed-⊕ b a n)

module _ (same : Span → Span → Bool) (s t : Span → Bool) (S : Steady same s) (rs : List Road)
    (asc : Each (λ r. Ascends r.sections) rs) where
  compose_link : (l : Lane) (e : Bool) → Placed same rs l
      → reverse_link same t (map (reverse_road s) rs) (reverse_lane same s rs l) e
      ≡ reverse_link same (toggled s t) rs l (s l.road ⊕ e)
  unfolding reverse_link
  compose_link l e placed =
      let end = s l.road ⊕ e in
      let leads = leads_to same rs l end in
      let leads-reversed =
      ap (leads_to same (map (reverse_road s) rs) (reverse_lane same s rs l)) (sym (⊕-self (s l.road) e))
      ∙ leads_to_reversed same s S rs asc l end placed in
      ap₂ (λ n o. map_o (signed (marks t n)) o) leads-reversed (link_at_reversed same s S rs asc l e)
      ∙ compose_number s t (marks s leads) (marks t leads) (link_at end l)
      ∙ ap (λ b. map_o (signed b) (link_at end l)) (compose_marks s t leads)

  compose_section : (a b : Bool) (ss : List ℕ) (i : ℕ) → i ≤ head_or 0 ss + last_or 0 ss →
      cond b (mirror (cond a (mirrored ss) ss) (cond a (mirror ss i) i)) (cond a (mirror ss i) i)
      ≡ cond (a ⊕ b) (mirror ss i) i
  compose_section false false ss i h = refl
  compose_section false true ss i h = refl
  compose_section true false ss i h = refl
  compose_section true true ss i h = mirror_mirrored ss (mirror ss i) ∙ mirror_mirror ss i h

  pub compose_lane : (l : Lane) → Placed same rs l
      → reverse_lane same t (map (reverse_road s) rs) (reverse_lane same s rs l)
      ≡ reverse_lane same (toggled s t) rs l
  unfolding reverse_lane toggled
  compose_lane l placed =
      let bys = s l.road in
      let byt = t l.road in
      let sections = sections_of same rs l.road in
      let once = cond bys (mirror sections l.section) l.section in
      λ i. record {
        identity = l.identity;
        road = l.road;
        section = (ap (λ ss. cond byt (mirror ss once) once) (sections_of_reversed same s S rs l.road)
            ∙ compose_section bys byt sections l.section (placed_bound same rs l asc placed)) i;
        number = signed-⊕ byt bys l.number i;
        direction = reverseDirection-⊕ byt bys l.direction i;
        predecessor = compose_link l byt placed i;
        successor = (compose_link l (not byt) placed
            ∙ ap (reverse_link same (toggled s t) rs l) (⊕-not bys byt)) i;
      }

module _ (same : Span → Span → Bool) (s t : Span → Bool) (S : Steady same s) where
  -- two reversals are one
  pub compose : (m : Map) → Valid same m → reverse_map same t (reverse_map same s m) ≡ reverse_map same (toggled s t) m
  unfolding reverse_map
  compose m v = λ i. record {
    roads = (map-map (reverse_road t) (reverse_road s) m.roads
        ∙ map_ext _ _ m.roads (each_map (compose_road s t) m.roads v.ascending)) i;
    junctions = (map-map (reverse_junction t) (reverse_junction s) m.junctions
        ∙ map_ext _ _ m.junctions (each (compose_junction s t) m.junctions)) i;
    lanes = (map-map (reverse_lane same t (map (reverse_road s) m.roads)) (reverse_lane same s m.roads)
        m.lanes
        ∙ map_ext _ _ m.lanes
        (each_map (compose_lane same s t S m.roads v.ascending) m.lanes v.placed)) i;
  }

-- a reversal that marks no road
module _ (same : Span → Span → Bool) where
  idle_targets : (o : Option Target) → map_o (reverse_target nobody) o ≡ o
  unfolding reverse_target nobody
  idle_targets none = refl
  idle_targets (some t) =
      ap {B = Option Target} some
      (λ i.
      record {
        is_junction = t.is_junction;
        name = t.name;
        contact = go t.is_junction t.contact i;
        given = t.given;
        along = t.along;
      })
    where
      go : (j c : Bool) → cond j c c ≡ c
      go true c = refl
      go false c = refl

  idle_number : (o : Option Span) (k : Option ℕ) → map_o (signed (marks nobody o)) k ≡ k
  unfolding nobody
  idle_number none none = refl
  idle_number none (some k) = refl
  idle_number (some n) none = refl
  idle_number (some n) (some k) = refl

  idle_road : (r : Road) → reverse_road nobody r ≡ r
  unfolding reverse_road nobody
  idle_road r =
      λ i.
      record {
        name = r.name;
        junction = r.junction;
        predecessor = idle_targets r.predecessor i;
        successor = idle_targets r.successor i;
        sections = r.sections;
      }

  idle_connection : (c : Connection) → reverse_connection nobody c ≡ c
  unfolding reverse_connection reverse_pair nobody
  idle_connection c =
      λ i.
      record {
        incoming = c.incoming;
        connecting = c.connecting;
        contact = c.contact;
        pairs = map_id _ c.pairs (each (λ p. refl) c.pairs) i;
      }

  idle_junction : (j : Junction) → reverse_junction nobody j ≡ j
  unfolding reverse_junction
  idle_junction j =
      λ i.
      record {
        name = j.name;
        kind = j.kind;
        connections = map_id _ j.connections (each idle_connection j.connections) i;
      }

  pub idle_lane : (rs : List Road) (l : Lane) → reverse_lane same nobody rs l ≡ l
  unfolding reverse_lane reverse_link nobody
  idle_lane rs l = λ i. record {
    identity = l.identity;
    road = l.road;
    section = l.section;
    number = l.number;
    direction = l.direction;
    predecessor = idle_number (leads_to same rs l false) l.predecessor i;
    successor = idle_number (leads_to same rs l true) l.successor i;
  }

  pub idle : (m : Map) → reverse_map same nobody m ≡ m
  unfolding reverse_map
  idle m = λ i. record {
    roads = map_id _ m.roads (each idle_road m.roads) i;
    junctions = map_id _ m.junctions (each idle_junction m.junctions) i;
    lanes = map_id _ m.lanes (each (idle_lane m.roads) m.lanes) i;
  }

-- ---- mirrored sections ascend, and have the members mirrored
ascends_snoc : (xs : List ℕ) (x : ℕ) → Ascends xs → Each (λ y. y < x) xs → Ascends (xs ++ (x ∷ []))
ascends_snoc [] x h k = (tt, tt)
ascends_snoc (y ∷ ys) x h k =
    (each_append (λ z. y < z) ys (x ∷ []) h.0 (k.0, tt), ascends_snoc ys x h.1 k.1)

mirror_lt : (ss : List ℕ) (a b : ℕ) → a ≤ head_or 0 ss + last_or 0 ss → b ≤ head_or 0 ss + last_or 0 ss → a < b
    → mirror ss b < mirror ss a
unfolding mirror
mirror_lt ss a b h k l = omega arith

ascends_part : (ss xs : List ℕ) → Each (λ i. i ≤ head_or 0 ss + last_or 0 ss) xs → Ascends xs
    → Ascends (reverse (map (mirror ss) xs))
ascends_part ss [] h k = tt
ascends_part ss (x ∷ xs) h k = rw (reverse-cons (mirror ss x) (map (mirror ss) xs))
    (ascends_snoc (reverse (map (mirror ss) xs)) (mirror ss x) (ascends_part ss xs h.1 k.1)
    (each_reverse (λ y. y < mirror ss x) (map (mirror ss) xs) (each_of_map (mirror ss) (λ y. y < mirror ss x) xs
    (each_map (λ y q. mirror_lt ss x y h.0 q.0 q.1) xs (each_both _ _ xs h.1 k.0)))))

pub ascends_mirrored : (ss : List ℕ) → Ascends ss → Ascends (mirrored ss)
unfolding mirrored
ascends_mirrored ss h = ascends_part ss ss (bounded ss h) h

pub member_mirrored : (ss : List ℕ) (i : ℕ) → Ascends ss → member i ss ≡ true
    → member (mirror ss i) (mirrored ss) ≡ true
unfolding mirrored
member_mirrored ss i h k =
    some?_reverse (eqb (mirror ss i)) (map (mirror ss) ss)
    ∙ some?_map (mirror ss) (eqb (mirror ss i)) ss
    ∙ some?_ext (λ x. eqb (mirror ss i) (mirror ss x)) (eqb i) ss
    (each_map
    (λ x q. mirror_eqb ss i x (each_member (λ j. j ≤ head_or 0 ss + last_or 0 ss) i ss (bounded ss h) k) q) ss
    (bounded ss h))
    ∙ k

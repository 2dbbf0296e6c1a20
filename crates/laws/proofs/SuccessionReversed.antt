-- Succession on a reversed map: a lane's exits are the same entries reversed, so it finds the same successors;
-- and where all lanes do, the finished lists are the same.
use mathlib.Core.Path.{◌≡◌, refl, sym, ◌∙◌, ap, ap₂, subst}
use mathlib.Core.Bool.{Bool, true, false, not, ◌&&◌, cond}
use mathlib.Core.Option.{Option, none, some}
use mathlib.Core.List.{List, [], ◌∷◌, ◌++◌, map, map-append, map-map}
use Prim.Native.Nat.{ℕ, ◌+◌, ◌≤◌}
use lib.Dec.{eqb}
use Rattle.geometry.specs.declared.gap.Direction.{Direction}
use Rattle.geometry.specs.declared.gap.Direction.TheVariants.{Backward, Both, Forward}
use Rattle.model.specs.Lists.{◌⊕◌, bind_o, gather, head_or, keep, last_or, list_o, map_o, member, once, sort}
use Rattle.model.specs.Records.{Connection, Junction, Lane, Map, Pair, Road, Span, Target, link_at, target_at}
use Rattle.model.specs.Repair.{road_of}
use Rattle.model.specs.Reversal.{leads_by, leads_to, marks, mirror, mirrored, reverse_connection, reverse_direction}
use Rattle.model.specs.Reversal.{reverse_junction, reverse_lane, reverse_link, reverse_pair, reverse_road}
use Rattle.model.specs.Reversal.{reverse_target, road_named, roadward, signed}
use Rattle.model.specs.Succession.{Entry, back_links, cross, end_section, entry_id, exits, exits_by, finds_back}
use Rattle.model.specs.Succession.{is_both, junction_of, lookup, lookup_at_end, next_section, predecessors, runs_away}
use Rattle.model.specs.Succession.{sections_of, stands_at, successors, successors_by, successors_of}
use Rattle.model.specs.Succession.{through_junction, through_pairs}
use Rattle.laws.proofs.Basics.{final_map, gather_ext, gather_map, keep_append, keep_ext, keep_map}
use Rattle.laws.proofs.Basics.{map_ext, map_gather, ⊕-not, ⊕-self}
use Rattle.laws.proofs.ForEach.{each, each_map}
use Rattle.laws.proofs.ListTests.{and_left}
use Rattle.laws.proofs.Mirror.{end_section_bound, end_section_mirrored, mirror_eqb, next_section_bound}
use Rattle.laws.proofs.Mirror.{reverse_direction_away, signed_eqb}
use Rattle.laws.proofs.Names.{placed_bound, road_of_name, sections_of_ascend, sections_of_same}
use Rattle.laws.proofs.Reverse.{link_at_reversed, next_section_reversed, road_of_reversed}
use Rattle.laws.proofs.Reverse.{sections_of_reversed, target_at_reversed}
use Rattle.laws.proofs.Sorting.{sort_swap}
use Rattle.laws.proofs.Valid.{Alike, Ascends, Each, Placed, Steady}

keep_each : {A : Type 0} (p : A → Bool) (xs : List A) → Each (λ x. p x ≡ true) (keep p xs)
keep_each p [] = tt
keep_each {A} p (x ∷ xs) = go (p x) refl (keep_each p xs)
  where
    go : (b : Bool) → p x ≡ b → Each (λ x. p x ≡ true) (keep p xs)
        → Each (λ x. p x ≡ true) (cond b (x ∷ keep p xs) (keep p xs))
    go true q h = (q, h)
    go false q h = h

-- a section number on the reversed road
pub section_eqb : (b : Bool) (ss : List ℕ) (i s : ℕ) → i ≤ head_or 0 ss + last_or 0 ss
    → s ≤ head_or 0 ss + last_or 0 ss → eqb (cond b (mirror ss i) i) (cond b (mirror ss s) s) ≡ eqb i s
section_eqb true ss i s h k = mirror_eqb ss i s h k
section_eqb false ss i s h k = refl

section_end : (b : Bool) (ss : List ℕ) (i : ℕ) (e : Bool) → member i ss ≡ true
    → end_section (cond b (mirrored ss) ss) (b ⊕ e) ≡ cond b (mirror ss (end_section ss e)) (end_section ss e)
section_end true ss i e m = end_section_mirrored ss i e m
section_end false ss i e m = refl

module _ (same : Span → Span → Bool) (A : Alike same) (mk : Span → Bool) (S : Steady same mk)
    (R : List Road) (asc : Each (λ r. Ascends r.sections) R) where
  unfoldable pub reverse_entry : Entry → Entry
  reverse_entry x = record { lane = reverse_lane same mk R x.lane; contact = mk x.lane.road ⊕ x.contact }

  stands_at_reversed : (n : Span) (s there k : ℕ) (l : Lane)
      → (same l.road n ≡ true → eqb (reverse_lane same mk R l).section there ≡ eqb l.section s) →
      stands_at same n there (signed (mk n) k) (reverse_lane same mk R l) ≡ stands_at same n s k l
  unfolding stands_at reverse_lane
  stands_at_reversed n s there k l h = go (same l.road n) refl
    where
      go : (b : Bool) → same l.road n ≡ b
          → b && eqb (reverse_lane same mk R l).section there && eqb (signed (mk l.road) l.number)
          (signed (mk n) k) ≡ b && eqb l.section s && eqb l.number k
      go false q = refl
      go true q =
          ap₂ (λ x y. x && y) (h q)
          (ap (λ b. eqb (signed b l.number) (signed (mk n) k)) (S l.road n q)
          ∙ signed_eqb (mk n) l.number k)

  lookup_reversed : (L : List Lane) (n : Span) (s there : ℕ) (e : Bool) (k : ℕ)
      → Each (λ l. same l.road n ≡ true → eqb (reverse_lane same mk R l).section there ≡ eqb l.section s) L →
      lookup same (map (reverse_lane same mk R) L) n there (mk n ⊕ e) (signed (mk n) k)
      ≡ map reverse_entry (lookup same L n s e k)
  unfolding lookup reverse_entry
  lookup_reversed L n s there e k h =
      ap (map (λ l. record { lane = l; contact = mk n ⊕ e }))
      (keep_map (reverse_lane same mk R) (stands_at same n there (signed (mk n) k)) L
      ∙ ap (map (reverse_lane same mk R))
      (keep_ext (λ l. stands_at same n there (signed (mk n) k) (reverse_lane same mk R l)) (stands_at same n s k) L
      (each_map (stands_at_reversed n s there k) L h)))
      ∙ map-map (λ l. record { lane = l; contact = mk n ⊕ e }) (reverse_lane same mk R) (keep (stands_at same n s k) L)
      ∙ map_ext _ _ (keep (stands_at same n s k) L)
      (each_map
      (λ l q. λ i. record { lane = reverse_lane same mk R l; contact = sym (S l.road n (stands l q)) i ⊕ e })
      (keep (stands_at same n s k) L) (keep_each (stands_at same n s k) L))
      ∙ sym (map-map reverse_entry (λ l. record { lane = l; contact = e }) (keep (stands_at same n s k) L))
    where
      stands : (l : Lane) → stands_at same n s k l ≡ true → same l.road n ≡ true
      stands l q =
          unfold stands_at in and_left (same l.road n) (eqb l.section s)
          (and_left (same l.road n && eqb l.section s) (eqb l.number k) q)

  -- the section of a lane of road n
  lane_section : (n : Span) (l : Lane) → same l.road n ≡ true
      → (reverse_lane same mk R l).section ≡ cond (mk n) (mirror (sections_of same R n) l.section) l.section
  unfolding reverse_lane
  lane_section n l q =
      ap₂ (λ b ss. cond b (mirror ss l.section) l.section) (S l.road n q)
      (sections_of_same same A R l.road n q)

  bound_at : (n : Span) (l : Lane) → Placed same R l → same l.road n ≡ true
      → l.section ≤ head_or 0 (sections_of same R n) + last_or 0 (sections_of same R n)
  bound_at n l p q =
      subst (λ ss. l.section ≤ head_or 0 ss + last_or 0 ss) (sections_of_same same A R l.road n q)
      (placed_bound same R l asc p)

  member_at : (n : Span) (l : Lane) → Placed same R l → same l.road n ≡ true
      → member l.section (sections_of same R n) ≡ true
  member_at n l p q = ap (member l.section) (sym (sections_of_same same A R l.road n q)) ∙ p

  module _ (Q : List Road) (sections_kept : (n : Span) → sections_of same Q n ≡ sections_of same R n)
      (roadward-kept : (n x : Span) (e : Bool) → roadward same Q n e ≡ some x → roadward same R n e ≡ some x)
      (J : List Junction) (L : List Lane) (placed : Each (Placed same R) L) where
    unfoldable pub plain : Map
    plain = record { roads = Q; junctions = J; lanes = L }

    unfoldable pub over : Map
    over =
        record {
          roads = map (reverse_road mk) Q;
          junctions = map (reverse_junction mk) J;
          lanes = map (reverse_lane same mk R) L;
        }

    sections_over : (n : Span)
        → sections_of same (map (reverse_road mk) Q) n
        ≡ cond (mk n) (mirrored (sections_of same R n)) (sections_of same R n)
    sections_over n = sections_of_reversed same mk S Q n ∙ ap (λ ss. cond (mk n) (mirrored ss) ss) (sections_kept n)

    lookup_at_end_reversed : (n : Span) (e : Bool) (k : ℕ)
        → lookup_at_end same over n (mk n ⊕ e) (signed (mk n) k) ≡ map reverse_entry (lookup_at_end same plain n e k)
    unfolding lookup_at_end plain over
    lookup_at_end_reversed n e k =
        lookup_reversed L n (end_section (sections_of same Q n) e)
        (end_section (sections_of same (map (reverse_road mk) Q) n) (mk n ⊕ e)) e k
        (each_map (λ l p q.
        ap₂ eqb (lane_section n l q)
        (ap (λ ss. end_section ss (mk n ⊕ e)) (sections_over n)
        ∙ section_end (mk n) (sections_of same R n) l.section e (member_at n l p q))
        ∙ section_eqb (mk n) (sections_of same R n) l.section (end_section (sections_of same R n) e)
        (bound_at n l p q) (end_section_bound (sections_of same R n) e)
        ∙ ap (λ ss. eqb l.section (end_section ss e)) (sym (sections_kept n))) L placed)

    through_pairs_reversed : (c : Connection) (k : ℕ)
        → through_pairs same over (reverse_connection mk c) (signed (mk c.incoming) k)
        ≡ map reverse_entry (through_pairs same plain c k)
    unfolding through_pairs reverse_connection reverse_pair
    through_pairs_reversed c k =
        ap (gather (λ p. lookup_at_end same over c.connecting (mk c.connecting ⊕ c.contact) p.to))
        (keep_map (reverse_pair mk c.incoming c.connecting)
        (λ p. eqb p.from (signed (mk c.incoming) k)) c.pairs
        ∙ ap (map (reverse_pair mk c.incoming c.connecting))
        (keep_ext _ (λ p. eqb p.from k) c.pairs
        (each (λ p. signed_eqb (mk c.incoming) p.from k) c.pairs)))
        ∙ gather_map (reverse_pair mk c.incoming c.connecting)
        (λ p. lookup_at_end same over c.connecting (mk c.connecting ⊕ c.contact) p.to) kept
        ∙ gather_ext _ (λ p. map reverse_entry (lookup_at_end same plain c.connecting c.contact p.to))
        kept (each (λ p. lookup_at_end_reversed c.connecting c.contact p.to) kept)
        ∙ sym (map_gather (λ p. lookup_at_end same plain c.connecting c.contact p.to) reverse_entry kept)
      where
        kept : List Pair
        kept = keep (λ p. eqb p.from k) c.pairs

    through_junction_reversed : (n : Span) (k : ℕ) (j : Junction)
        → through_junction same over n (signed (mk n) k) (reverse_junction mk j)
        ≡ map reverse_entry (through_junction same plain n k j)
    unfolding through_junction reverse_junction reverse_connection
    through_junction_reversed n k j =
        ap (gather (λ c. through_pairs same over c (signed (mk n) k)))
        (keep_map (reverse_connection mk) (λ c. same c.incoming n) j.connections)
        ∙ gather_map (reverse_connection mk) (λ c. through_pairs same over c (signed (mk n) k)) kept
        ∙ gather_ext _ (λ c. map reverse_entry (through_pairs same plain c k)) kept
        (each_map (λ c q.
        ap (λ b. through_pairs same over (reverse_connection mk c) (signed b k)) (sym (S c.incoming n q))
        ∙ through_pairs_reversed c k) kept (keep_each (λ c. same c.incoming n) j.connections))
        ∙ sym (map_gather (λ c. through_pairs same plain c k) reverse_entry kept)
      where
        kept : List Connection
        kept = keep (λ c. same c.incoming n) j.connections

    junction_of_reversed : (n : Span)
        → junction_of same (map (reverse_junction mk) J) n ≡ map_o (reverse_junction mk) (junction_of same J n)
    unfolding junction_of reverse_junction
    junction_of_reversed n = final_map (reverse_junction mk) (λ j. same j.name n) J

    cross_reversed : (l : Lane) (o turned-link : Option ℕ) (t : Target)
        → (t.is_junction ≡ false → turned-link ≡ map_o (signed (mk t.name)) o) →
        cross same over (reverse_lane same mk R l) turned-link (reverse_target mk t)
        ≡ map reverse_entry (cross same plain l o t)
    unfolding reverse_target reverse_lane over plain
    cross_reversed l o turned-link t h = go t.is_junction refl
      where
        through : (x : Option Junction)
            → list_o (map_o (reverse_junction mk) x)
            (through_junction same over l.road (signed (mk l.road) l.number))
            ≡ map reverse_entry (list_o x (through_junction same plain l.road l.number))
        through none = refl
        through (some j) = through_junction_reversed l.road l.number j

        along : (x : Option ℕ)
            → list_o (map_o (signed (mk t.name)) x)
            (lookup_at_end same over t.name (mk t.name ⊕ t.contact))
            ≡ map reverse_entry (list_o x (lookup_at_end same plain t.name t.contact))
        along none = refl
        along (some k) = lookup_at_end_reversed t.name t.contact k

        go : (b : Bool) → t.is_junction ≡ b →
            cond b (list_o (junction_of same (map (reverse_junction mk) J) t.name)
            (through_junction same over l.road (signed (mk l.road) l.number)))
            (list_o turned-link (lookup_at_end same over t.name (cond b t.contact (mk t.name ⊕ t.contact))))
            ≡ map reverse_entry (cond b
            (list_o (junction_of same J t.name) (through_junction same plain l.road l.number))
            (list_o o (lookup_at_end same plain t.name t.contact)))
        go true q =
            ap (λ x. list_o x (through_junction same over l.road (signed (mk l.road) l.number)))
            (junction_of_reversed t.name)
            ∙ through (junction_of same J t.name)
        go false q = ap (λ x. list_o x (lookup_at_end same over t.name (mk t.name ⊕ t.contact))) (h q) ∙ along o

    link_reversed : (l : Lane) (e : Bool)
        → link_at (mk l.road ⊕ e) (reverse_lane same mk R l) ≡ reverse_link same mk R l e
    link_reversed l e =
        link_at_reversed same mk S R asc l (mk l.road ⊕ e)
        ∙ ap (reverse_link same mk R l) (⊕-self (mk l.road) e)

    -- the exits of a lane of the reversed map
    pub exits_reversed : (l : Lane) (e : Bool) → Placed same R l
        → exits same over (reverse_lane same mk R l) (mk l.road ⊕ e) ≡ map reverse_entry (exits same plain l e)
    unfolding exits over plain
    exits_reversed l e p =
        ap (exits_by same over (reverse_lane same mk R l) (mk l.road ⊕ e)) next
        ∙ go (next_section (sections_of same Q l.road) l.section e) refl
      where
        n : Span
        n = l.road

        next : next_section (sections_of same (map (reverse_road mk) Q) (reverse_lane same mk R l).road)
            (reverse_lane same mk R l).section (mk l.road ⊕ e)
            ≡ map_o (λ i. cond (mk l.road) (mirror (sections_of same R l.road) i) i)
            (next_section (sections_of same Q l.road) l.section e)
        next = unfold reverse_lane in
            (ap (λ ss.
            next_section ss
            (cond (mk l.road) (mirror (sections_of same R l.road) l.section) l.section)
            (mk l.road ⊕ e)) (sections_over l.road)
            ∙ next_section_reversed (mk l.road) (sections_of same R l.road) l.section e
            (sections_of_ascend same R l.road asc) (placed_bound same R l asc p)
            ∙ ap (λ ss.
            map_o (λ i. cond (mk l.road) (mirror (sections_of same R l.road) i) i)
            (next_section ss l.section e)) (sym (sections_kept l.road)))

        kept : (o : Option ℕ) → next_section (sections_of same Q l.road) l.section e ≡ o
            → leads_to same R l e ≡ leads_by same R l e o
        kept o q =
            unfold leads_to in ap (leads_by same R l e)
            (ap (λ ss. next_section ss l.section e) (sym (sections_kept l.road)) ∙ q)

        linked : (x : Option Span) → leads_to same R l e ≡ x
            → link_at (mk l.road ⊕ e) (reverse_lane same mk R l) ≡ map_o (signed (marks mk x)) (link_at e l)
        linked x q = link_reversed l e ∙ (unfold reverse_link in ap (λ y. map_o (signed (marks mk y)) (link_at e l)) q)

        inner : (s : ℕ) → next_section (sections_of same Q l.road) l.section e ≡ some s → (o : Option ℕ) →
            list_o (map_o (signed (mk l.road)) o)
            (lookup same (map (reverse_lane same mk R) L) l.road
            (cond (mk l.road) (mirror (sections_of same R l.road) s) s) (mk l.road ⊕ not e))
            ≡ map reverse_entry (list_o o (lookup same L l.road s (not e)))
        inner s q none = refl
        inner s q (some k) =
            lookup_reversed L l.road s (cond (mk l.road) (mirror (sections_of same R l.road) s) s)
            (not e) k
            (each_map (λ a pa qa.
            ap (λ x. eqb x (cond (mk l.road) (mirror (sections_of same R l.road) s) s))
            (lane_section l.road a qa)
            ∙ section_eqb (mk l.road) (sections_of same R l.road) a.section s
            (bound_at l.road a pa qa)
            (next_section_bound (sections_of same R l.road) l.section e s
            (sections_of_ascend same R l.road asc)
            (ap (λ ss. next_section ss l.section e) (sym (sections_kept l.road)) ∙ q))) L placed)

        outer : (o : Option Road) → road_of same Q l.road ≡ o
            → next_section (sections_of same Q l.road) l.section e ≡ none →
            list_o (bind_o (map_o (reverse_road mk) o) (target_at (mk l.road ⊕ e)))
            (cross same over (reverse_lane same mk R l) (link_at (mk l.road ⊕ e) (reverse_lane same mk R l)))
            ≡ map reverse_entry (list_o (bind_o o (target_at e)) (cross same plain l (link_at e l)))
        outer none q w = refl
        outer (some r) q w =
            ap (λ x.
            list_o x
            (cross same over (reverse_lane same mk R l) (link_at (mk l.road ⊕ e) (reverse_lane same mk R l))))
            (target_at_reversed mk (mk l.road ⊕ e) r
            ∙ ap (λ b. map_o (reverse_target mk) (target_at b r))
            (ap (λ x. x ⊕ (mk l.road ⊕ e)) (S r.name l.road (road_of_name same Q l.road r q))
            ∙ ⊕-self (mk l.road) e))
            ∙ leaf (target_at e r) refl
          where
            leaf : (t : Option Target) → target_at e r ≡ t →
                list_o (map_o (reverse_target mk) t)
                (cross same over (reverse_lane same mk R l)
                (link_at (mk l.road ⊕ e) (reverse_lane same mk R l)))
                ≡ map reverse_entry (list_o t (cross same plain l (link_at e l)))
            leaf none v = refl
            leaf (some t) v = cross_reversed l (link_at e l) (link_at (mk l.road ⊕ e) (reverse_lane same mk R l)) t
                (λ z.
                linked (some t.name) (kept none w
                ∙ roadward-kept l.road t.name e
                (unfold roadward in (ap (λ o. bind_o (bind_o o (target_at e)) road_named) q
                ∙ ap (λ o. bind_o o road_named) v
                ∙ ap {B = Option Span} (λ b. cond b none (some t.name)) z))))

        go : (o : Option ℕ) → next_section (sections_of same Q l.road) l.section e ≡ o →
            exits_by same over (reverse_lane same mk R l) (mk l.road ⊕ e)
            (map_o (λ i. cond (mk l.road) (mirror (sections_of same R l.road) i) i) o)
            ≡ map reverse_entry (exits_by same plain l e o)
        go (some s) q = unfold reverse_lane in
            (ap₂ (λ x b.
            list_o x (lookup same (map (reverse_lane same mk R) L) l.road
            (cond (mk l.road) (mirror (sections_of same R l.road) s) s) b))
            (linked (some l.road) (kept (some s) q)) (sym (⊕-not (mk l.road) e))
            ∙ inner s q (link_at e l))
        go none q = unfold reverse_lane in
            (ap (λ x.
            list_o (bind_o x (target_at (mk l.road ⊕ e)))
            (cross same over (reverse_lane same mk R l) (link_at (mk l.road ⊕ e) (reverse_lane same mk R l))))
            (road_of_reversed same mk S Q l.road)
            ∙ outer (road_of same Q l.road) refl q)

    entry_id_reversed : (xs : List Entry) → map entry_id (map reverse_entry xs) ≡ map entry_id xs
    unfolding entry_id reverse_entry reverse_lane
    entry_id_reversed xs = map-map entry_id reverse_entry xs

    runs_away_reversed : (x : Entry) → runs_away (reverse_entry x) ≡ runs_away x
    unfolding runs_away reverse_entry reverse_lane
    runs_away_reversed x = reverse_direction_away (mk x.lane.road) x.lane.direction x.contact

    -- the successors that it finds by its own links
    pub successors_of_reversed : (l : Lane) → Placed same R l
        → successors_of same over (reverse_lane same mk R l) ≡ successors_of same plain l
    unfolding successors_of
    successors_of_reversed l p =
        unfold reverse_lane in go (mk l.road) l.direction
        (λ e.
        ap (exits same over (reverse_lane same mk R l)) (sym (⊕-self (mk l.road) e))
        ∙ exits_reversed l (mk l.road ⊕ e) p)
      where
        X : Bool → List Entry
        X e = exits same plain l e

        ids : (e : Bool) → map entry_id (map reverse_entry (X e)) ≡ map entry_id (X e)
        ids e = entry_id_reversed (X e)

        kept : (xs : List Entry)
            → map entry_id (keep runs_away (map reverse_entry xs)) ≡ map entry_id (keep runs_away xs)
        kept xs =
            ap (map entry_id) (keep_map reverse_entry runs_away xs
            ∙ ap (map reverse_entry)
            (keep_ext (λ x. runs_away (reverse_entry x)) runs_away xs (each runs_away_reversed xs)))
            ∙ entry_id_reversed (keep runs_away xs)

        split : (xs ys : List Entry)
            → map entry_id (keep runs_away (xs ++ ys))
            ≡ map entry_id (keep runs_away xs) ++ map entry_id (keep runs_away ys)
        split xs ys =
            ap (map entry_id) (keep_append runs_away xs ys)
            ∙ map-append entry_id (keep runs_away xs) (keep runs_away ys)

        go : (b : Bool) (d : Direction)
            → ((e : Bool) → exits same over (reverse_lane same mk R l) e ≡ map reverse_entry (X (b ⊕ e)))
            → successors_by same over (reverse_lane same mk R l) (reverse_direction b d)
            ≡ successors_by same plain l d
        go false Forward h = ap sort (ap (map entry_id) (h true) ∙ ids true)
        go false Backward h = ap sort (ap (map entry_id) (h false) ∙ ids false)
        go false Both h =
            ap (λ x. once (sort x)) (ap₂ (λ x y. map entry_id (keep runs_away (x ++ y))) (h true) (h false)
            ∙ split (map reverse_entry (X true)) (map reverse_entry (X false))
            ∙ ap₂ (λ x y. x ++ y) (kept (X true)) (kept (X false))
            ∙ sym (split (X true) (X false)))
        go true Forward h = ap sort (ap (map entry_id) (h false) ∙ ids true)
        go true Backward h = ap sort (ap (map entry_id) (h true) ∙ ids false)
        go true Both h =
            ap once (ap sort (ap₂ (λ x y. map entry_id (keep runs_away (x ++ y))) (h true) (h false)
            ∙ split (map reverse_entry (X false)) (map reverse_entry (X true))
            ∙ ap₂ (λ x y. x ++ y) (kept (X false)) (kept (X true)))
            ∙ sort_swap (map entry_id (keep runs_away (X false))) (map entry_id (keep runs_away (X true)))
            ∙ ap sort (sym (split (X true) (X false))))

-- the finished lists follow from the successors that each lane finds
module _ (same : Span → Span → Bool) (m other : Map) (f : Lane → Lane)
    (ids : (l : Lane) → (f l).identity ≡ l.identity)
    (ways : (l : Lane) → is_both (f l).direction ≡ is_both l.direction)
    (lanes : other.lanes ≡ map f m.lanes)
    (all_alike : Each (λ l. successors_of same other (f l) ≡ successors_of same m l) m.lanes) where
  finds_back_same : (l b : Lane) → successors_of same other (f l) ≡ successors_of same m l
      → successors_of same other (f b) ≡ successors_of same m b
      → finds_back same other (f l) (f b) ≡ finds_back same m l b
  unfolding finds_back
  finds_back_same l b p q =
      ap₂ (λ x y. x && y) (ap₂ (λ x y. x && y) (ways b) (ap₂ member (ids l) q)) (ap not (ap₂ member (ids b) p))

  back_links_same : (l : Lane) → successors_of same other (f l) ≡ successors_of same m l
      → back_links same other (f l) ≡ back_links same m l
  unfolding back_links
  back_links_same l p = ap₂ (λ b xs. cond b xs []) (ways l)
      (ap (λ x. map (λ b. b.identity) (keep (finds_back same other (f l)) x)) lanes
      ∙ ap (map (λ b. b.identity))
      (keep_map f (finds_back same other (f l)) m.lanes
      ∙ ap (map f) (keep_ext (λ b. finds_back same other (f l) (f b)) (finds_back same m l) m.lanes
      (each_map (λ b q. finds_back_same l b p q) m.lanes all_alike)))
      ∙ map-map (λ b. b.identity) f (keep (finds_back same m l) m.lanes)
      ∙ map_ext _ _ (keep (finds_back same m l) m.lanes) (each ids (keep (finds_back same m l) m.lanes)))

  pub successors_same : Each (λ l. successors same other (f l) ≡ successors same m l) m.lanes
  unfolding successors
  successors_same = each_map (λ l p. ap₂ (λ x y. sort (x ++ y)) p (back_links_same l p)) m.lanes all_alike

  pub predecessors_same : (l : Lane) → predecessors same other (f l) ≡ predecessors same m l
  unfolding predecessors
  predecessors_same l =
      ap sort (ap (gather (λ a. map (λ i. a.identity) (keep (eqb (f l).identity) (successors same other a))))
      lanes
      ∙ gather_map f (λ a. map (λ i. a.identity) (keep (eqb (f l).identity) (successors same other a)))
      m.lanes
      ∙ gather_ext _ (λ a. map (λ i. a.identity) (keep (eqb l.identity) (successors same m a))) m.lanes
      (each_map (λ a q. ap₂ (λ x y. map (λ i. x) y) (ids a) (ap₂ (λ x y. keep (eqb x) y) (ids l) q))
      m.lanes successors_same))

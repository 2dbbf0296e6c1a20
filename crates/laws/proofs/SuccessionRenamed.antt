-- Succession on a map's copy, renamed and reordered: a lane of the copy has the lists of the lane that it was.
use mathlib.Core.Path.{◌≡◌, refl, sym, ◌∙◌, ap, ap₂}
use mathlib.Core.Bool.{Bool, true, false, not, ◌&&◌, cond}
use mathlib.Core.Option.{Option, none, some}
use mathlib.Core.List.{List, [], map}
use Prim.Native.Nat.{ℕ}
use lib.Dec.{eqb}
use Rattle.geometry.specs.declared.gap.Direction.{Direction}
use Rattle.geometry.specs.declared.gap.Direction.TheVariants.{Backward, Both, Forward}
use Rattle.model.specs.Lists.{keep, list_o, member, once, sort}
use Rattle.model.specs.Orders.{BothOrNone, neither, both, InAnyOrder, emptied, SameCollection}
use Rattle.model.specs.Records.{Connection, Junction, Lane, Map, Road, Span, Target, link_at}
use Rattle.model.specs.Renamed.{LaneRenamed, TargetName}
use Rattle.model.specs.Succession.{Entry, away, back_links, cross, end_section, entry_id, exits, exits_by, finds_back}
use Rattle.model.specs.Succession.{is_both, junction_of, lookup, lookup_at_end, next_section, predecessors, runs_away}
use Rattle.model.specs.Succession.{sections_from, sections_of, stands_at, successors, successors_by, successors_of}
use Rattle.model.specs.Succession.{through_junction, through_pairs}
use Rattle.laws.proofs.AnyOrder.{any_append, any_each, any_gather, any_keep, any_map, any_sort, both_both}
use Rattle.laws.proofs.AnyOrder.{both_list, order_any, order_final, order_keep, same_self}
use Rattle.laws.proofs.RepairRenamed.{Junctions, Links, MapRenamed, Names, Roads, Targets, road_of_lem, target_at_lem}

module _ (N : Names) {m m' : Map} (h : MapRenamed N m m') where
  abbrev Lanes : Lane → Lane → Type 0
  Lanes = LaneRenamed N.road_name

  -- an entry and its copy: the lane that it was, entered at the same end
  record Entries (x x' : Entry) : Type 0 where
    lane : Lanes x.lane x'.lane
    contact : x'.contact ≡ x.contact

  -- ---- lanes that are looked up
  sections_of_lem : (n n' : Span) → N.road_name n n' →
      sections_of N.same' m'.roads n' ≡ sections_of N.same m.roads n
  unfolding sections_of
  sections_of_lem n n' k = go (road_of_lem N h.roads n n' k)
    where
      go : {o o' : Option Road} → BothOrNone (Roads N) o o' → sections_from o' ≡ sections_from o
      go neither = refl
      go (both r) = r.sections

  looked_up : (n n' : Span) → N.road_name n n' → (s : ℕ) (e : Bool) (k : ℕ) →
      InAnyOrder Entries (lookup N.same m.lanes n s e k) (lookup N.same' m'.lanes n' s e k)
  unfolding lookup stands_at
  looked_up n n' name s e k =
      any_map (λ l. record { lane = l; contact = e }) (λ l. record { lane = l; contact = e })
      (λ l l' w. record { lane = w; contact = refl })
      (any_keep (stands_at N.same n s k) (stands_at N.same' n' s k) stands h.lanes)
    where
      stands : (l l' : Lane) → Lanes l l' → stands_at N.same' n' s k l' ≡ stands_at N.same n s k l
      stands l l' w =
          λ i. N.road_kept l.road l'.road n n' w.road name i && eqb (w.section i) s && eqb (w.number i) k

  looked_at_end : (n n' : Span) → N.road_name n n' → (e : Bool) (k : ℕ) →
      InAnyOrder Entries (lookup_at_end N.same m n e k) (lookup_at_end N.same' m' n' e k)
  unfolding lookup_at_end
  looked_at_end n n' name e k =
      rw (sections_of_lem n n' name) (looked_up n n' name (end_section (sections_of N.same m.roads n) e) e k)

  -- ---- lanes that are driven into
  through_pairs_lem : (c c' : Connection) → Links N c c' → (k : ℕ) →
      InAnyOrder Entries (through_pairs N.same m c k) (through_pairs N.same' m' c' k)
  unfolding through_pairs
  through_pairs_lem c c' l k =
      rw (l.pairs, l.contact)
      (any_each (λ p. lookup_at_end N.same m c.connecting c.contact p.to)
      (λ p. lookup_at_end N.same' m' c'.connecting c.contact p.to)
      (λ p. looked_at_end c.connecting c'.connecting l.connecting c.contact p.to)
      (keep (λ p. eqb p.from k) c.pairs))

  through_junction_lem : (n n' : Span) → N.road_name n n' → (k : ℕ) (j j' : Junction) → Junctions N j j' →
      InAnyOrder Entries (through_junction N.same m n k j) (through_junction N.same' m' n' k j')
  unfolding through_junction
  through_junction_lem n n' name k j j' w =
      any_gather (λ c. through_pairs N.same m c k) (λ c. through_pairs N.same' m' c k)
      (λ c c' l. through_pairs_lem c c' l k)
      (order_any (order_keep (λ c. N.same c.incoming n) (λ c. N.same' c.incoming n')
      (λ c c' l. N.road_kept c.incoming c'.incoming n n' l.incoming name) w.connections))

  junction_of_lem : (n n' : Span) → N.junction_name n n' →
      BothOrNone (Junctions N) (junction_of N.same m.junctions n) (junction_of N.same' m'.junctions n')
  unfolding junction_of
  junction_of_lem n n' name =
      order_final (λ j. N.same j.name n) (λ j. N.same' j.name n')
      (λ j j' w. N.junction_kept j.name j'.name n n' w.name name) h.junctions

  crossed : (l l' : Lane) → Lanes l l' → (o : Option ℕ) (t t' : Target) → Targets N t t' →
      InAnyOrder Entries (cross N.same m l o t) (cross N.same' m' l' o t')
  crossed l l' q o t t' w = rw (w.is_junction, w.contact, q.number) (go t.is_junction w.name)
    where
      straight : N.road_name t.name t'.name → (o : Option ℕ) →
          InAnyOrder Entries (list_o o (lookup_at_end N.same m t.name t.contact))
          (list_o o (lookup_at_end N.same' m' t'.name t.contact))
      straight name none = emptied
      straight name (some k) = looked_at_end t.name t'.name name t.contact k

      through : Junction → List Entry
      through = through_junction N.same m l.road l.number

      through' : Junction → List Entry
      through' = through_junction N.same' m' l'.road l.number

      go : (b : Bool) → TargetName N.road_name N.junction_name b t.name t'.name →
          InAnyOrder Entries
          (cond b (list_o (junction_of N.same m.junctions t.name) through)
          (list_o o (lookup_at_end N.same m t.name t.contact)))
          (cond b (list_o (junction_of N.same' m'.junctions t'.name) through')
          (list_o o (lookup_at_end N.same' m' t'.name t.contact)))
      go true name =
          both_list (through_junction_lem l.road l'.road q.road l.number)
          (junction_of_lem t.name t'.name name)
      go false name = straight name o

  link_at_lem : (e : Bool) (l l' : Lane) → Lanes l l' → link_at e l' ≡ link_at e l
  link_at_lem false l l' q = q.predecessor
  link_at_lem true l l' q = q.successor

  all_exits : (l l' : Lane) → Lanes l l' → (e : Bool) →
      InAnyOrder Entries (exits N.same m l e) (exits N.same' m' l' e)
  unfolding exits
  all_exits l l' q e =
      rw next (go (next_section (sections_of N.same m.roads l.road) l.section e))
    where
      next : next_section (sections_of N.same' m'.roads l'.road) l'.section e
          ≡ next_section (sections_of N.same m.roads l.road) l.section e
      next = ap₂ (λ ss s. next_section ss s e) (sections_of_lem l.road l'.road q.road) q.section

      within : (s : ℕ) (o : Option ℕ) →
          InAnyOrder Entries (list_o o (lookup N.same m.lanes l.road s (not e)))
          (list_o o (lookup N.same' m'.lanes l'.road s (not e)))
      within s none = emptied
      within s (some k) = looked_up l.road l'.road q.road s (not e) k

      go : (o : Option ℕ) → InAnyOrder Entries (exits_by N.same m l e o) (exits_by N.same' m' l' e o)
      go (some s) = rw (link_at_lem e l l' q) (within s (link_at e l))
      go none =
          rw (link_at_lem e l l' q)
          (both_list (crossed l l' q (link_at e l))
          (both_both (target_at_lem N e) (road_of_lem N h.roads l.road l'.road q.road)))

  -- ---- the lists
  entry_ids : {xs xs' : List Entry} → InAnyOrder Entries xs xs' → sort (map entry_id xs') ≡ sort (map entry_id xs)
  unfolding entry_id
  entry_ids k = any_sort (any_map entry_id entry_id (λ x x' w. sym w.lane.identity) k)

  runs_away_lem : (x x' : Entry) → Entries x x' → runs_away x' ≡ runs_away x
  unfolding runs_away
  runs_away_lem x x' w = ap₂ away w.lane.direction w.contact

  own_renamed : (l l' : Lane) → Lanes l l' → successors_of N.same' m' l' ≡ successors_of N.same m l
  unfolding successors_of
  own_renamed l l' q = ap (successors_by N.same' m' l') q.direction ∙ go l.direction
    where
      go : (d : Direction) → successors_by N.same' m' l' d ≡ successors_by N.same m l d
      go Forward = entry_ids (all_exits l l' q true)
      go Backward = entry_ids (all_exits l l' q false)
      go Both =
          ap once (entry_ids (any_keep runs_away runs_away runs_away_lem
          (any_append (all_exits l l' q true) (all_exits l l' q false))))

  finds_back_lem : (l l' : Lane) → Lanes l l' → (b b' : Lane) → Lanes b b' →
      finds_back N.same' m' l' b' ≡ finds_back N.same m l b
  unfolding finds_back
  finds_back_lem l l' q b b' w =
      λ i. is_both (w.direction i) && member (q.identity i) (own_renamed b b' w i)
      && not (member (w.identity i) (own_renamed l l' q i))

  back_links_lem : (l l' : Lane) → Lanes l l' → SameCollection (back_links N.same m l) (back_links N.same' m' l')
  unfolding back_links
  back_links_lem l l' q = rw (ap is_both q.direction) (go (is_both l.direction))
    where
      go : (b : Bool) →
          SameCollection (cond b (map (λ b. b.identity) (keep (finds_back N.same m l) m.lanes)) [])
          (cond b (map (λ b. b.identity) (keep (finds_back N.same' m' l') m'.lanes)) [])
      go true =
          any_map (λ (b : Lane). b.identity) (λ (b : Lane). b.identity) (λ b b' w. sym w.identity)
          (any_keep (finds_back N.same m l) (finds_back N.same' m' l') (finds_back_lem l l' q) h.lanes)
      go false = emptied

  pub successors_renamed : (l l' : Lane) → Lanes l l' → successors N.same' m' l' ≡ successors N.same m l
  unfolding successors
  successors_renamed l l' q =
      rw (own_renamed l l' q) (any_sort (any_append (same_self (successors_of N.same m l)) (back_links_lem l l' q)))

  pub predecessors_renamed : (l l' : Lane) → Lanes l l' → predecessors N.same' m' l' ≡ predecessors N.same m l
  unfolding predecessors
  predecessors_renamed l l' q =
      any_sort (any_gather (λ a. map (λ i. a.identity) (keep (eqb l.identity) (successors N.same m a)))
      (λ a. map (λ i. a.identity) (keep (eqb l'.identity) (successors N.same' m' a))) one h.lanes)
    where
      one : (a a' : Lane) → Lanes a a' →
          SameCollection (map (λ i. a.identity) (keep (eqb l.identity) (successors N.same m a)))
          (map (λ i. a'.identity) (keep (eqb l'.identity) (successors N.same' m' a')))
      one a a' w =
          rw (successors_renamed a a' w, w.identity, q.identity)
          (same_self (map (λ i. a.identity) (keep (eqb l.identity) (successors N.same m a))))

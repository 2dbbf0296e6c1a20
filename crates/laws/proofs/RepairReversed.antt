-- Repair and reversal may be done in either order: the roads. They are the same but for the contact of a target
-- that is a junction's, which nothing reads.
use mathlib.Core.Path.{◌≡◌, refl, sym, ◌∙◌, ap, ap₂}
use mathlib.Core.Bool.{Bool, true, false, not, ◌&&◌, ◌||◌, cond, or_comm}
use mathlib.Core.Option.{Option, none, some}
use mathlib.Core.List.{List, [], ◌∷◌, map, map-map}
use Rattle.model.specs.Lists.{◌⊕◌, amend, bind_o, first, is_some, map_o, pick}
use Rattle.model.specs.Records.{Connection, Junction, JunctionKind, Map, Road, Span, Target, common, direct}
use Rattle.model.specs.Records.{target_at, virtual}
use Rattle.model.specs.Repair.{back_end, drop_along, in_virtual, is_virtual, link_at_end, linked, meeting_end, meets}
use Rattle.model.specs.Repair.{missing_end, missing_link, missing_links, names_junction, put_target, repair}
use Rattle.model.specs.Repair.{repair_roads, road_of, roads_after, roads_over, start_roads, vacant_end, without_along}
use Rattle.model.specs.Reversal.{mirrored, reverse_connection, reverse_junction, reverse_map, reverse_road}
use Rattle.model.specs.Reversal.{reverse_target}
use Rattle.laws.proofs.Basics.{first_map_lem, map_ext, map_o_is_some, ⊕-self}
use Rattle.laws.proofs.ForEach.{each}
use Rattle.laws.proofs.Names.{road_of_name}
use Rattle.laws.proofs.RepairEach.{cleared}
use Rattle.laws.proofs.Reverse.{road_of_reversed, target_at_reversed}
use Rattle.laws.proofs.Valid.{Alike, Steady}

-- a target with no contact where it is a junction's
unfoldable pub bare_target : Target → Target
bare_target t =
    record {
      is_junction = t.is_junction;
      name = t.name;
      contact = cond t.is_junction false t.contact;
      given = t.given;
      along = t.along;
    }

unfoldable pub bare_road : Road → Road
bare_road r =
    record {
      name = r.name;
      junction = r.junction;
      predecessor = map_o bare_target r.predecessor;
      successor = map_o bare_target r.successor;
      sections = r.sections;
    }

module _ {A B : Type 0} where
  amend_map : (f : A → B) (p : A → Bool) (q : B → Bool) (g : A → A) (h : B → B) (xs : List A)
      → ((x : A) → q (f x) ≡ p x) → ((x : A) → p x ≡ true → f (g x) ≡ h (f x)) →
      map f (amend p g xs) ≡ amend q h (map f xs)
  amend_map f p q g h [] e k = refl
  amend_map f p q g h (x ∷ xs) e k = rw (e x) (go (p x) refl (amend_map f p q g h xs e k))
    where
      go : (b : Bool) → p x ≡ b → map f (amend p g xs) ≡ amend q h (map f xs)
          → map f (cond b (g x ∷ xs) (x ∷ amend p g xs))
          ≡ cond b (h (f x) ∷ map f xs) (f x ∷ amend q h (map f xs))
      go true w ih = ap {B = List B} (λ y. y ∷ map f xs) (k x w)
      go false w ih = ap {B = List B} (λ ys. f x ∷ ys) ih

-- what repair reads of a road does not change with such contacts
pub target_at_bare : (e : Bool) (r : Road) → target_at e (bare_road r) ≡ map_o bare_target (target_at e r)
unfolding bare_road
target_at_bare false r = refl
target_at_bare true r = refl

module _ (same : Span → Span → Bool) where
  pub road_of_bare : (rs : List Road) (n : Span)
      → road_of same (map bare_road rs) n ≡ map_o bare_road (road_of same rs n)
  unfolding road_of bare_road
  road_of_bare rs n = first_map_lem bare_road (λ r. same r.name n) rs

  names_junction_bare : (j : Span) (o : Option Target)
      → names_junction same j (map_o bare_target o) ≡ names_junction same j o
  unfolding bare_target
  names_junction_bare j none = refl
  names_junction_bare j (some t) = refl

  meets_bare : (j : Span) (r : Road) → meets same j (bare_road r) ≡ meets same j r
  unfolding meets bare_road
  meets_bare j r = rw (names_junction_bare j r.predecessor, names_junction_bare j r.successor)

  back_end_bare : (n : Span) (t : Target) → back_end same n (bare_target t) ≡ back_end same n t
  unfolding back_end bare_target
  back_end_bare n t = go t.is_junction
    where
      go : (b : Bool)
          → cond (not b && same t.name n && t.given) (some (cond b false t.contact)) none
          ≡ cond (not b && same t.name n && t.given) (some t.contact) none
      go true = refl
      go false = refl

  vacant_end_bare : (r : Road) (e : Bool) → vacant_end (bare_road r) e ≡ vacant_end r e
  unfolding vacant_end
  vacant_end_bare r e =
      ap {B = Option Bool} (λ o. cond (is_some o) none (some e)) (target_at_bare e r)
      ∙ ap {B = Option Bool} (λ b. cond b none (some e)) (map_o_is_some bare_target (target_at e r))

  backs : List Road → Connection → Option Bool
  backs rs c = bind_o (bind_o (road_of same rs c.connecting) (target_at c.contact)) (back_end same c.incoming)

  backs_bare : (rs : List Road) (c : Connection) → backs (map bare_road rs) c ≡ backs rs c
  unfolding backs
  backs_bare rs c = rw (road_of_bare rs c.connecting) (go (road_of same rs c.connecting))
    where
      leaf : (o : Option Target)
          → bind_o (map_o bare_target o) (back_end same c.incoming) ≡ bind_o o (back_end same c.incoming)
      leaf none = refl
      leaf (some t) = back_end_bare c.incoming t

      go : (o : Option Road)
          → bind_o (bind_o (map_o bare_road o) (target_at c.contact)) (back_end same c.incoming)
          ≡ bind_o (bind_o o (target_at c.contact)) (back_end same c.incoming)
      go none = refl
      go (some r) =
          ap {B = Option Bool} (λ o. bind_o o (back_end same c.incoming)) (target_at_bare c.contact r)
          ∙ leaf (target_at c.contact r)

  missing_end_bare : (rs : List Road) (j : Span) (c : Connection)
      → missing_end same (map bare_road rs) j c ≡ missing_end same rs j c
  unfolding missing_end backs
  missing_end_bare rs j c = rw (road_of_bare rs c.incoming, backs_bare rs c) (go (road_of same rs c.incoming))
    where
      leaf : (r : Road) (o : Option Bool) → bind_o o (vacant_end (bare_road r)) ≡ bind_o o (vacant_end r)
      leaf r none = refl
      leaf r (some e) = vacant_end_bare r e

      go : (o : Option Road)
          → bind_o (map_o bare_road o) (λ r. cond (meets same j r) none (bind_o (backs rs c) (vacant_end r)))
          ≡ bind_o o (λ r. cond (meets same j r) none (bind_o (backs rs c) (vacant_end r)))
      go none = refl
      go (some r) = ap₂ (λ b o. cond b none o) (meets_bare j r) (leaf r (backs rs c))

  meeting_end_bare : (j : Span) (r : Road) → meeting_end same j (bare_road r) ≡ meeting_end same j r
  unfolding meeting_end bare_road
  meeting_end_bare j r = rw (names_junction_bare j r.predecessor, names_junction_bare j r.successor)

  unfoldable pub meet_at : List Road → Span → Span → Option Bool
  meet_at rs n j = bind_o (road_of same rs n) (meeting_end same j)

  pub meet_at_bare : (rs : List Road) (n j : Span) → meet_at (map bare_road rs) n j ≡ meet_at rs n j
  unfolding meet_at
  meet_at_bare rs n j = rw (road_of_bare rs n) (go (road_of same rs n))
    where
      go : (o : Option Road) → bind_o (map_o bare_road o) (meeting_end same j) ≡ bind_o o (meeting_end same j)
      go none = refl
      go (some r) = meeting_end_bare j r

-- what repair reads of a road, reversed
module _ (same : Span → Span → Bool) (mk : Span → Bool) where
  pub reverse_road_bare : (r : Road) → bare_road (reverse_road mk r) ≡ reverse_road mk (bare_road r)
  unfolding bare_road reverse_road
  reverse_road_bare r =
      λ i.
      record {
        name = r.name;
        junction = r.junction;
        predecessor = at (mk r.name) i;
        successor = at (not (mk r.name)) i;
        sections = cond (mk r.name) (mirrored r.sections) r.sections;
      }
    where
      one : (t : Target) → bare_target (reverse_target mk t) ≡ reverse_target mk (bare_target t)
      one t =
          unfold bare_target reverse_target in λ i. record {
            is_junction = t.is_junction;
            name = t.name;
            contact = go t.is_junction i;
            given = t.given;
            along = t.along;
          }
        where
          go : (b : Bool)
              → cond b false (cond b t.contact (mk t.name ⊕ t.contact))
              ≡ cond b (cond b false t.contact) (mk t.name ⊕ cond b false t.contact)
          go true = refl
          go false = refl

      leaf : (o : Option Target)
          → map_o bare_target (map_o (reverse_target mk) o) ≡ map_o (reverse_target mk) (map_o bare_target o)
      leaf none = refl
      leaf (some t) = ap {B = Option Target} some (one t)

      at : (e : Bool)
          → map_o bare_target (map_o (reverse_target mk) (target_at e r))
          ≡ map_o (reverse_target mk) (target_at e (bare_road r))
      at e = leaf (target_at e r) ∙ ap (map_o (reverse_target mk)) (sym (target_at_bare e r))

  pub names_junction_reversed : (j : Span) (o : Option Target)
      → names_junction same j (map_o (reverse_target mk) o) ≡ names_junction same j o
  unfolding reverse_target
  names_junction_reversed j none = refl
  names_junction_reversed j (some t) = refl

  meets_reversed : (j : Span) (r : Road) → meets same j (reverse_road mk r) ≡ meets same j r
  unfolding meets reverse_road
  meets_reversed j r =
      rw (
        names_junction_reversed j (target_at (mk r.name) r),
        names_junction_reversed j (target_at (not (mk r.name)) r),
      ) (go (mk r.name))
    where
      go : (m : Bool)
          → names_junction same j (target_at m r) || names_junction same j (target_at (not m) r)
          ≡ names_junction same j r.predecessor || names_junction same j r.successor
      go false = refl
      go true = or_comm (names_junction same j r.successor) (names_junction same j r.predecessor)

  drop_along_reversed : (o : Option Target)
      → drop_along (map_o (reverse_target mk) o) ≡ map_o (reverse_target mk) (drop_along o)
  drop_along_reversed none = refl
  drop_along_reversed (some t) = unfold reverse_target in go t.along
    where
      go : (b : Bool) → cond b none (some (reverse_target mk t)) ≡ map_o (reverse_target mk) (cond b none (some t))
      go true = refl
      go false = refl

  in_virtual_reversed : (js : List Junction) (r : Road)
      → in_virtual same (map (reverse_junction mk) js) (reverse_road mk r) ≡ in_virtual same js r
  unfolding in_virtual reverse_road reverse_junction
  in_virtual_reversed js r = go r.junction
    where
      one : (n : Span)
          → is_some (first (λ j. is_virtual j.kind && same j.name n) (map (reverse_junction mk) js))
          ≡ is_some (first (λ j. is_virtual j.kind && same j.name n) js)
      one n =
          ap is_some (first_map_lem (reverse_junction mk) (λ j. is_virtual j.kind && same j.name n) js)
          ∙ map_o_is_some (reverse_junction mk) (first (λ j. is_virtual j.kind && same j.name n) js)

      go : (o : Option Span)
          → is_some
          (bind_o o (λ n. first (λ j. is_virtual j.kind && same j.name n) (map (reverse_junction mk) js)))
          ≡ is_some (bind_o o (λ n. first (λ j. is_virtual j.kind && same j.name n) js))
      go none = refl
      go (some n) = one n

  without_along_reversed : (js : List Junction) (r : Road)
      → without_along same (map (reverse_junction mk) js) (reverse_road mk r)
      ≡ reverse_road mk (without_along same js r)
  unfolding without_along
  without_along_reversed js r = rw (in_virtual_reversed js r) (go (in_virtual same js r))
    where
      at : (e : Bool)
          → drop_along (map_o (reverse_target mk) (target_at e r))
          ≡ map_o (reverse_target mk) (target_at e (cleared r))
      at false = drop_along_reversed r.predecessor
      at true = drop_along_reversed r.successor

      clear : cleared (reverse_road mk r) ≡ reverse_road mk (cleared r)
      clear =
          unfold reverse_road in λ i. record {
            name = r.name;
            junction = r.junction;
            predecessor = at (mk r.name) i;
            successor = at (not (mk r.name)) i;
            sections = cond (mk r.name) (mirrored r.sections) r.sections;
          }

      go : (b : Bool) → cond b (cleared (reverse_road mk r)) (reverse_road mk r)
          ≡ reverse_road mk (cond b (cleared r) r)
      go true = clear
      go false = refl

  reverse_road_put : (j : Span) (e : Bool) (r : Road)
      → reverse_road mk (put_target e (bare_target (linked j e)) r)
      ≡ put_target (mk r.name ⊕ e) (bare_target (linked j (mk r.name ⊕ e))) (reverse_road mk r)
  unfolding reverse_road put_target bare_target linked reverse_target
  reverse_road_put j e r =
      λ i.
      record {
        name = r.name;
        junction = r.junction;
        predecessor = go_p (mk r.name) e i;
        successor = go_s (mk r.name) e i;
        sections = cond (mk r.name) (mirrored r.sections) r.sections;
      }
    where
      L : Target
      L = record { is_junction = true; name = j; contact = false; given = true; along = false }

      go_p : (m e : Bool)
          → map_o (reverse_target mk) (pick m (pick e (some L) r.predecessor) (pick e r.successor (some L)))
          ≡ pick (m ⊕ e) (some L) (map_o (reverse_target mk) (target_at m r))
      go_p false false = refl
      go_p false true = refl
      go_p true false = refl
      go_p true true = refl

      go_s : (m e : Bool)
          → map_o (reverse_target mk)
          (pick (not m) (pick e (some L) r.predecessor) (pick e r.successor (some L)))
          ≡ pick (m ⊕ e) (map_o (reverse_target mk) (target_at (not m) r)) (some L)
      go_s false false = refl
      go_s false true = refl
      go_s true false = refl
      go_s true true = refl

bare_road_put : (e : Bool) (t : Target) (r : Road)
    → bare_road (put_target e t r) ≡ put_target e (bare_target t) (bare_road r)
unfolding bare_road put_target
bare_road_put false t r = refl
bare_road_put true t r = refl

-- one step of repair, in both orders
module _ (same : Span → Span → Bool) (A : Alike same) (mk : Span → Bool) (S : Steady same mk) where
  back_end_reversed : (n : Span) (t : Target)
      → back_end same n (reverse_target mk t) ≡ map_o (λ e. mk n ⊕ e) (back_end same n t)
  unfolding back_end reverse_target
  back_end_reversed n t = go t.is_junction (same t.name n) refl t.given
    where
      go : (b s : Bool) → same t.name n ≡ s → (g : Bool) →
          cond (not b && s && g) (some (cond b t.contact (mk t.name ⊕ t.contact))) none
          ≡ map_o (λ e. mk n ⊕ e) (cond (not b && s && g) (some t.contact) none)
      go true s q g = refl
      go false false q g = refl
      go false true q false = refl
      go false true q true = ap {B = Option Bool} (λ m. some (m ⊕ t.contact)) (S t.name n q)

  vacant_end_reversed : (r : Road) (m e : Bool) → mk r.name ≡ m
      → vacant_end (reverse_road mk r) (m ⊕ e) ≡ map_o (λ e. m ⊕ e) (vacant_end r e)
  unfolding vacant_end
  vacant_end_reversed r m e q =
      ap {B = Option Bool} (λ b. cond b none (some (m ⊕ e))) vacant ∙ go (is_some (target_at e r))
    where
      vacant : is_some (target_at (m ⊕ e) (reverse_road mk r)) ≡ is_some (target_at e r)
      vacant =
          ap is_some (target_at_reversed mk (m ⊕ e) r)
          ∙ map_o_is_some (reverse_target mk) (target_at (mk r.name ⊕ (m ⊕ e)) r)
          ∙ ap (λ b. is_some (target_at b r)) (ap (λ x. x ⊕ (m ⊕ e)) q ∙ ⊕-self m e)

      go : (b : Bool) → cond b none (some (m ⊕ e)) ≡ map_o (λ e. m ⊕ e) (cond b none (some e))
      go true = refl
      go false = refl

  backs_reversed : (rs : List Road) (c : Connection)
      → backs same (map (reverse_road mk) rs) (reverse_connection mk c)
      ≡ map_o (λ e. mk c.incoming ⊕ e) (backs same rs c)
  unfolding backs reverse_connection
  backs_reversed rs c = rw (road_of_reversed same mk S rs c.connecting) (go (road_of same rs c.connecting) refl)
    where
      leaf : (o : Option Target)
          → bind_o (map_o (reverse_target mk) o) (back_end same c.incoming)
          ≡ map_o (λ e. mk c.incoming ⊕ e) (bind_o o (back_end same c.incoming))
      leaf none = refl
      leaf (some t) = back_end_reversed c.incoming t

      go : (o : Option Road) → road_of same rs c.connecting ≡ o
          → bind_o (bind_o (map_o (reverse_road mk) o) (target_at (mk c.connecting ⊕ c.contact)))
          (back_end same c.incoming)
          ≡ map_o (λ e. mk c.incoming ⊕ e) (bind_o (bind_o o (target_at c.contact)) (back_end same c.incoming))
      go none q = refl
      go (some r) q = ap {B = Option Bool} (λ o. bind_o o (back_end same c.incoming))
          (target_at_reversed mk (mk c.connecting ⊕ c.contact) r
          ∙ ap (λ b. map_o (reverse_target mk) (target_at b r))
          (ap (λ x. x ⊕ (mk c.connecting ⊕ c.contact))
          (S r.name c.connecting (road_of_name same rs c.connecting r q))
          ∙ ⊕-self (mk c.connecting) c.contact))
          ∙ leaf (target_at c.contact r)

  missing_end_reversed : (rs : List Road) (j : Span) (c : Connection)
      → missing_end same (map (reverse_road mk) rs) j (reverse_connection mk c)
      ≡ map_o (λ e. mk c.incoming ⊕ e) (missing_end same rs j c)
  unfolding missing_end backs
  missing_end_reversed rs j c = begin ∙ go (road_of same rs c.incoming) refl
    where
      begin : missing_end same (map (reverse_road mk) rs) j (reverse_connection mk c)
          ≡ bind_o (map_o (reverse_road mk) (road_of same rs c.incoming))
          (λ r.
          cond (meets same j r) none (bind_o (map_o (λ e. mk c.incoming ⊕ e) (backs same rs c)) (vacant_end r)))
      begin =
          unfold reverse_connection in ap₂
          (λ o b. bind_o o (λ r. cond (meets same j r) none (bind_o b (vacant_end r))))
          (road_of_reversed same mk S rs c.incoming) (backs_reversed rs c)

      leaf : (r : Road) → mk r.name ≡ mk c.incoming → (o : Option Bool)
          → bind_o (map_o (λ e. mk c.incoming ⊕ e) o) (vacant_end (reverse_road mk r))
          ≡ map_o (λ e. mk c.incoming ⊕ e) (bind_o o (vacant_end r))
      leaf r q none = refl
      leaf r q (some e) = vacant_end_reversed r (mk c.incoming) e q

      under : (b : Bool) (o : Option Bool)
          → cond b none (map_o (λ e. mk c.incoming ⊕ e) o) ≡ map_o (λ e. mk c.incoming ⊕ e) (cond b none o)
      under true o = refl
      under false o = refl

      go : (o : Option Road) → road_of same rs c.incoming ≡ o →
          bind_o (map_o (reverse_road mk) o)
          (λ r.
          cond (meets same j r) none (bind_o (map_o (λ e. mk c.incoming ⊕ e) (backs same rs c)) (vacant_end r)))
          ≡ map_o (λ e. mk c.incoming ⊕ e)
          (bind_o o (λ r. cond (meets same j r) none (bind_o (backs same rs c) (vacant_end r))))
      go none q = refl
      go (some r) q =
          ap₂ (λ b o. cond b none o) (meets_reversed same mk j r)
          (leaf r (S r.name c.incoming (road_of_name same rs c.incoming r q)) (backs same rs c))
          ∙ under (meets same j r) (bind_o (backs same rs c) (vacant_end r))

  -- the roads of two maps, the second reversed, but for such contacts
  abbrev pub AsReversed : List Road → List Road → Type 0
  AsReversed rs turned = map bare_road turned ≡ map (reverse_road mk) (map bare_road rs)

  pub missing_end_both : (rs turned : List Road) (j : Span) (c : Connection) → AsReversed rs turned
      → missing_end same turned j (reverse_connection mk c)
      ≡ map_o (λ e. mk c.incoming ⊕ e) (missing_end same rs j c)
  missing_end_both rs turned j c T =
      sym (missing_end_bare same turned j (reverse_connection mk c))
      ∙ ap (λ x. missing_end same x j (reverse_connection mk c)) T
      ∙ missing_end_reversed (map bare_road rs) j c
      ∙ ap (map_o (λ e. mk c.incoming ⊕ e)) (missing_end_bare same rs j c)

  put_bare : (rs : List Road) (n j : Span) (e : Bool)
      → map bare_road (amend (λ r. same r.name n) (put_target e (linked j e)) rs)
      ≡ amend (λ r. same r.name n) (put_target e (bare_target (linked j e))) (map bare_road rs)
  unfolding bare_road
  put_bare rs n j e =
      amend_map bare_road (λ r. same r.name n) (λ r. same r.name n) (put_target e (linked j e))
      (put_target e (bare_target (linked j e))) rs (λ r. refl) (λ r q. bare_road_put e (linked j e) r)

  put_reversed_lem : (rs : List Road) (n j : Span) (e : Bool) →
      map (reverse_road mk) (amend (λ r. same r.name n) (put_target e (bare_target (linked j e))) rs)
      ≡ amend (λ r. same r.name n) (put_target (mk n ⊕ e) (bare_target (linked j (mk n ⊕ e))))
      (map (reverse_road mk) rs)
  unfolding reverse_road
  put_reversed_lem rs n j e =
      amend_map (reverse_road mk) (λ r. same r.name n) (λ r. same r.name n)
      (put_target e (bare_target (linked j e))) (put_target (mk n ⊕ e) (bare_target (linked j (mk n ⊕ e)))) rs
      (λ r. refl) (λ r q.
      reverse_road_put same mk j e r
      ∙ ap (λ b. put_target (b ⊕ e) (bare_target (linked j (b ⊕ e))) (reverse_road mk r)) (S r.name n q))

  pub missing_link_both : (rs turned : List Road) (j : Span) (c : Connection) → AsReversed rs turned
      → AsReversed (missing_link same j c rs) (missing_link same j (reverse_connection mk c) turned)
  unfolding missing_link
  missing_link_both rs turned j c T = rw (missing_end_both rs turned j c T) (go (missing_end same rs j c))
    where
      go : (o : Option Bool)
          → AsReversed (link_at_end same rs j c o)
          (link_at_end same turned j (reverse_connection mk c) (map_o (λ e. mk c.incoming ⊕ e) o))
      go none = T
      go (some e) = unfold reverse_connection in
          (put_bare turned c.incoming j (mk c.incoming ⊕ e)
          ∙ ap (amend (λ r. same r.name c.incoming)
          (put_target (mk c.incoming ⊕ e) (bare_target (linked j (mk c.incoming ⊕ e))))) T
          ∙ sym (put_reversed_lem (map bare_road rs) c.incoming j e)
          ∙ ap (map (reverse_road mk)) (sym (put_bare rs c.incoming j e)))

  missing_links_both : (cs : List Connection) (rs turned : List Road) (j : Span) → AsReversed rs turned
      → AsReversed (missing_links same j cs rs) (missing_links same j (map (reverse_connection mk) cs) turned)
  missing_links_both [] rs turned j T = T
  missing_links_both (c ∷ cs) rs turned j T =
      missing_links_both cs (missing_link same j c rs) (missing_link same j (reverse_connection mk c) turned) j
      (missing_link_both rs turned j c T)

  pub repair_roads_both : (j : Junction) (rs turned : List Road) → AsReversed rs turned
      → AsReversed (repair_roads same j rs) (repair_roads same (reverse_junction mk j) turned)
  unfolding repair_roads reverse_junction
  repair_roads_both j rs turned T = go j.kind
    where
      go : (k : JunctionKind)
          → AsReversed (roads_after same k j.name j.connections rs)
          (roads_after same k j.name (map (reverse_connection mk) j.connections) turned)
      go common = missing_links_both j.connections rs turned j.name T
      go direct = T
      go virtual = T

  roads_over_both : (js : List Junction) (rs turned : List Road) → AsReversed rs turned
      → AsReversed (roads_over same js rs) (roads_over same (map (reverse_junction mk) js) turned)
  roads_over_both [] rs turned T = T
  roads_over_both (j ∷ js) rs turned T =
      roads_over_both js (repair_roads same j rs) (repair_roads same (reverse_junction mk j) turned)
      (repair_roads_both j rs turned T)

  pub start_roads_both : (m : Map) → AsReversed (start_roads same m) (start_roads same (reverse_map same mk m))
  unfolding start_roads reverse_map
  start_roads_both m =
      ap (map bare_road) (map-map (without_along same (map (reverse_junction mk) m.junctions)) (reverse_road mk)
      m.roads
      ∙ map_ext _ _ m.roads (each (without_along_reversed same mk m.junctions) m.roads)
      ∙ sym (map-map (reverse_road mk) (without_along same m.junctions) m.roads))
      ∙ map-map bare_road (reverse_road mk) (map (without_along same m.junctions) m.roads)
      ∙ map_ext _ _ (map (without_along same m.junctions) m.roads)
      (each (reverse_road_bare same mk) (map (without_along same m.junctions) m.roads))
      ∙ sym (map-map (reverse_road mk) bare_road (map (without_along same m.junctions) m.roads))

  -- reversed and repaired, and repaired and reversed: the roads
  pub repair_roads_lem : (m : Map) → AsReversed (repair same m).roads (repair same (reverse_map same mk m)).roads
  unfolding repair
  repair_roads_lem m =
      unfold reverse_map in roads_over_both m.junctions (start_roads same m)
      (start_roads same (reverse_map same mk m)) (start_roads_both m)

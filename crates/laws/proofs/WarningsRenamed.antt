-- Repair's warnings on a map's copy, renamed and reordered: the same in the same order, of the renamed roads.
use mathlib.Core.Path.{◌≡◌, refl, ◌∙◌}
use mathlib.Core.Bool.{Bool, true, false, ◌||◌, cond, false≢true}
use mathlib.Core.Option.{Option, none, some}
use mathlib.Core.List.{List, [], ◌∷◌}
use Prim.Native.Nat.{ℕ, suc}
use lib.ListN.{get_or}
use Rattle.model.specs.Calls.{row_named}
use Rattle.model.specs.Lists.{bind_o, list_o, some?}
use Rattle.model.specs.Orders.{InOrder, ended, paired}
use Rattle.model.specs.Records.{Connection, Junction, JunctionKind, Map, Road, Span, common, direct, virtual}
use Rattle.model.specs.Repair.{Warning, missing_end, missing_link, repair_roads, road_of, warn_after, warn_all}
use Rattle.model.specs.Repair.{warn_one, warn_over, warnings}
use Rattle.laws.proofs.AnyOrder.{order_append}
use Rattle.laws.proofs.Basics.{no_some}
use Rattle.laws.proofs.RepairKeeps.{came_junction, came_link, came_start, names_of}
use Rattle.laws.proofs.RepairRenamed.{Junctions, Links, MapRenamed, Names, RoadsRenamed, missing_end_lem}
use Rattle.laws.proofs.RepairRenamed.{missing_link_lem, repair_roads_lem, start_renamed}

-- ---- the row of a road by its name
module _ (same : Span → Span → Bool) where
  -- is the name among those?
  abbrev pub knows : List Span → Span → Bool
  knows names n = some? (λ m. same m n) names

  pub row_name : (rs : List Road) (n d : Span) → knows (names_of rs) n ≡ true →
      same (get_or (names_of rs) (row_named same rs n) d) n ≡ true
  row_name [] n d known = absurd (false≢true known)
  row_name (r ∷ rs) n d known = go (same r.name n) refl known (row_name rs n d)
    where
      go : (b : Bool) → same r.name n ≡ b → b || knows (names_of rs) n ≡ true
          → (knows (names_of rs) n ≡ true → same (get_or (names_of rs) (row_named same rs n) d) n ≡ true) →
          same (get_or (r.name ∷ names_of rs) (cond b 0 (suc (row_named same rs n))) d) n ≡ true
      go true e known later = e
      go false e known later = later known

  -- a road that is given a link is known
  known_end : (rs : List Road) (j : Span) (c : Connection) (e : Bool) → missing_end same rs j c ≡ some e →
      knows (names_of rs) c.incoming ≡ true
  unfolding missing_end road_of
  known_end rs j c e found = go rs _ found
    where
      go : (qs : List Road) (f : Road → Option Bool) → bind_o (road_of same qs c.incoming) f ≡ some e →
          knows (names_of qs) c.incoming ≡ true
      go [] f found = absurd (no_some e found)
      go (r ∷ qs) f found = one (same r.name c.incoming) (go qs f) found
        where
          one : (b : Bool)
              → (bind_o (road_of same qs c.incoming) f ≡ some e → knows (names_of qs) c.incoming ≡ true)
              → bind_o (cond b (some r) (road_of same qs c.incoming)) f ≡ some e →
              b || knows (names_of qs) c.incoming ≡ true
          one true later found = refl
          one false later found = later found

-- ---- names: those of the roads of the map, and of its copy
module _ (N : Names) (names names' : List Span) where
  pub record Warned (w w' : Warning) : Type 0 where
    pub junction_row : w'.junction_row ≡ w.junction_row
    pub road : N.road_name w.road w'.road
    pub at_end : w'.at_end ≡ w.at_end
    pub known : knows N.same names w.road ≡ true
    pub known' : knows N.same' names' w'.road ≡ true

  -- the roads so far
  record SoFar (rs rs' : List Road) : Type 0 where
    renamed : RoadsRenamed N rs rs'
    named : names_of rs ≡ names
    named' : names_of rs' ≡ names'

  warn_one_lem : (i : ℕ) (j j' : Span) → N.junction_name j j' → {rs rs' : List Road} → SoFar rs rs'
      → (c c' : Connection) → Links N c c' →
      InOrder Warned (warn_one N.same i j c rs) (warn_one N.same' i j' c' rs')
  unfolding warn_one
  warn_one_lem i j j' k {rs} {rs'} h c c' l = rw same_end (go (missing_end N.same rs j c) refl same_end)
    where
      same_end : missing_end N.same' rs' j' c' ≡ missing_end N.same rs j c
      same_end = missing_end_lem N j j' k h.renamed c c' l

      row : Connection → Bool → List Warning
      row c e = record { junction_row = i; road = c.incoming; at_end = e } ∷ []

      go : (o : Option Bool) → missing_end N.same rs j c ≡ o → missing_end N.same' rs' j' c' ≡ o →
          InOrder Warned (list_o o (row c)) (list_o o (row c'))
      go none found found' = ended
      go (some e) found found' = paired (record {
        junction_row = refl;
        road = l.incoming;
        at_end = refl;
        known = rw h.named at (known_end N.same rs j c e found);
        known' = rw h.named' at (known_end N.same' rs' j' c' e found');
      }) ended

  warn_all_lem : (i : ℕ) (j j' : Span) → N.junction_name j j' → {rs rs' : List Road} → SoFar rs rs'
      → {cs cs' : List Connection} → InOrder (Links N) cs cs' →
      InOrder Warned (warn_all N.same i j cs rs) (warn_all N.same' i j' cs' rs')
  warn_all_lem i j j' k h ended = ended
  warn_all_lem i j j' k {rs} {rs'} h (paired {x = c} {y = c'} l rest) =
      order_append (warn_one_lem i j j' k h c c' l) (warn_all_lem i j j' k
      {rs = missing_link N.same j c rs} {rs' = missing_link N.same' j' c' rs'} next rest)
    where
      next : SoFar (missing_link N.same j c rs) (missing_link N.same' j' c' rs')
      next = record {
        renamed = missing_link_lem N j j' k h.renamed c c' l;
        named = (came_link N.same j c rs).names_kept ∙ h.named;
        named' = (came_link N.same' j' c' rs').names_kept ∙ h.named';
      }

  warn_junction : (i : ℕ) (j j' : Junction) → Junctions N j j' → {rs rs' : List Road} → SoFar rs rs' →
      InOrder Warned (warn_after N.same i j.kind j.name j.connections rs)
      (warn_after N.same' i j'.kind j'.name j'.connections rs')
  warn_junction i j j' k {rs} {rs'} h = rw k.kind (go j.kind)
    where
      go : (kind : JunctionKind) →
          InOrder Warned (warn_after N.same i kind j.name j.connections rs)
          (warn_after N.same' i kind j'.name j'.connections rs')
      go common = warn_all_lem i j.name j'.name k.name h k.connections
      go direct = ended
      go virtual = ended

  warn_over_lem : (i : ℕ) {js js' : List Junction} → InOrder (Junctions N) js js' → {rs rs' : List Road}
      → SoFar rs rs' →
      InOrder Warned (warn_over N.same i js rs) (warn_over N.same' i js' rs')
  warn_over_lem i ended h = ended
  warn_over_lem i (paired {x = j} {y = j'} k rest) {rs} {rs'} h =
      order_append (warn_junction i j j' k h) (warn_over_lem (suc i) rest next)
    where
      next : SoFar (repair_roads N.same j rs) (repair_roads N.same' j' rs')
      next = record {
        renamed = repair_roads_lem N h.renamed j j' k;
        named = (came_junction N.same j rs).names_kept ∙ h.named;
        named' = (came_junction N.same' j' rs').names_kept ∙ h.named';
      }

-- THE WARNINGS
pub warnings_renamed : (N : Names) (m m' : Map) → MapRenamed N m m' →
    InOrder (Warned N (names_of m.roads) (names_of m'.roads)) (warnings N.same m) (warnings N.same' m')
unfolding warnings
warnings_renamed N m m' h = warn_over_lem N (names_of m.roads) (names_of m'.roads) 0 h.junctions (record {
  renamed = start_renamed N h;
  named = (came_start N.same m).names_kept;
  named' = (came_start N.same' m').names_kept;
})

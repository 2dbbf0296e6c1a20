-- Direct junctions: repair adds just their connections the other way.
use mathlib.Core.Path.{◌≡◌, refl, sym, ◌∙◌, ap, ap₂, subst}
use mathlib.Core.Bool.{Bool, true, false, not, ◌||◌, cond, true≢false, false≢true}
use mathlib.Core.Option.{none, some}
use mathlib.Core.List.Memᴰ
use mathlib.Core.List.{List, [], ◌∷◌, ◌++◌, map}
use mathlib.Core.Logic.{◌↔◌}
use borrow.Author.Tests.{not-true}
use Rattle.model.specs.Lists.{bind_o, keep, some?}
use Rattle.model.specs.Records.{Connection, Junction, JunctionKind, Pair, Road, Span, common, direct, virtual}
use Rattle.model.specs.Repair.{back_at, back_of, connections_after, meeting_end, names_junction, repair_junction}
use Rattle.model.specs.Repair.{reversed}
use Rattle.model.specs.Repair.{road_of, runs_back, swapped}
use Rattle.model.specs.Rules.{is_direct}
use Rattle.laws.proofs.Basics.{no_some}
use Rattle.laws.proofs.ListTests.{and_both, and_left, and_right}
use Rattle.laws.proofs.Valid.{Alike}
use Rattle.meaning.specs.Meaning.{◌∈◌}
use Rattle.meaning.specs.Implied.{JunctionAfter, NamesAt, OneWay, OtherWay, Pairwise, Swapped, Turned}
use Rattle.meaning.proofs.Inside.{in_gather, in_keep, in_list_o, of_gather, of_keep, of_list_o, some_in}
use Rattle.meaning.proofs.Lacking.{at_names, names_at, of_bind_o}
use Rattle.meaning.proofs.Pairings.{pairs_map}
use Rattle.meaning.proofs.Places.{NamesOnce, among_is, is_among}

-- ---- pairs
pair_swapped : (p : Pair) → Swapped p (swapped p)
unfolding swapped
pair_swapped p = record { from = refl; to = refl }

swapped_pairs : (ps qs : List Pair) → Pairwise Swapped ps qs → qs ≡ map swapped ps
unfolding swapped
swapped_pairs [] [] turned_pairs_lem = refl
swapped_pairs [] (q ∷ qs) turned_pairs_lem = absurd turned_pairs_lem
swapped_pairs (p ∷ ps) [] turned_pairs_lem = absurd turned_pairs_lem
swapped_pairs (p ∷ ps) (q ∷ qs) turned_pairs_lem =
    ap₂ {C = List Pair} (λ x xs. x ∷ xs) one (swapped_pairs ps qs turned_pairs_lem.1)
  where
    one : q ≡ swapped p
    one = λ i. record { from = turned_pairs_lem.0.from i; to = turned_pairs_lem.0.to i }

some_none : {A : Type 0} (p : A → Bool) (xs : List A) → ((x : A) → x ∈ xs → p x ≡ true → ⊥) → some? p xs ≡ false
some_none p [] None-passes = refl
some_none p (x ∷ xs) None-passes = go (p x) refl (some_none p xs (λ y inside. None-passes y (Memᴰ.tail inside)))
  where
    go : (b : Bool) → p x ≡ b → some? p xs ≡ false → b || some? p xs ≡ false
    go true test none-later = absurd (None-passes x (Memᴰ.head refl) test)
    go false test none-later = none-later

module _ (same : Span → Span → Bool) (A : Alike same) (rs : List Road) (once : NamesOnce same rs) where
  -- ---- the end at which a road is linked to the junction
  meeting_is : (n : Span) (r : Road) (e : Bool) → meeting_end same n r ≡ some e →
      NamesAt same n e r × (e ≡ false → NamesAt same n true r → ⊥)
  unfolding meeting_end
  meeting_is n r e found =
      go (names_junction same n r.successor) refl (names_junction same n r.predecessor) refl found
    where
      go : (s : Bool) → names_junction same n r.successor ≡ s → (p : Bool) →
          names_junction same n r.predecessor ≡ p → cond s (some true) (cond p (some false) none) ≡ some e →
          NamesAt same n e r × (e ≡ false → NamesAt same n true r → ⊥)
      go true successor-test p predecessor-test found = let is : true ≡ e = cc in (
        subst (λ e. NamesAt same n e r) is (names_at same n true r successor-test),
        λ start there. true≢false (is ∙ start),
      )
      go false successor-test true predecessor-test found = let is : false ≡ e = cc in (
        subst (λ e. NamesAt same n e r) is (names_at same n false r predecessor-test),
        λ start there. true≢false (sym (at_names same n true r there) ∙ successor-test),
      )
      go false successor-test false predecessor-test found = absurd (no_some e found)

  is_meeting : (n : Span) (r : Road) (e : Bool) → NamesAt same n e r → (e ≡ false → NamesAt same n true r → ⊥) →
      meeting_end same n r ≡ some e
  unfolding meeting_end
  is_meeting n r true there not-successor =
      ap (λ b. cond b (some true) (cond (names_junction same n r.predecessor) (some false) none))
      (at_names same n true r there)
  is_meeting n r false there not-successor =
      ap (λ b. cond b (some true) (cond (names_junction same n r.predecessor) (some false) none)) not_there
      ∙ ap (λ b. cond b (some false) none) (at_names same n false r there)
    where
      not_there : names_junction same n r.successor ≡ false
      not_there = bit (names_junction same n r.successor) refl
        where
          bit : (b : Bool) → names_junction same n r.successor ≡ b → b ≡ false
          bit true test = absurd (not-successor refl (names_at same n true r test))
          bit false test = refl

  -- ---- one connection the other way
  turned_of : (n : Span) (k k' : Connection) → k' ∈ back_of same rs n k → OtherWay same rs n k k'
  unfolding back_of back_at
  turned_of n k k' added =
      let found = of_list_o (λ e. back_at k e ∷ []) (bind_o (road_of same rs k.incoming) (meeting_end same n)) added in
      let e = found.0 in
      let is : k' ≡ back_at k e = Memᴰ.eq_of_singleton found.2 in
      let road = of_bind_o (road_of same rs k.incoming) (meeting_end same n) found.1 in
      let met = meeting_is n road.0 e road.2 in
      subst (OtherWay same rs n k) (sym is) (record {
        incoming = refl;
        connecting = refl;
        pairs = pairs_map Swapped swapped pair_swapped k.pairs;
        road = road.0;
        known = among_is same A rs k.incoming road.0 road.1;
        contact = met.0;
        successor = met.1;
      })

  of_turned : (n : Span) (k k' : Connection) → OtherWay same rs n k k' → k' ∈ back_of same rs n k
  unfolding back_of back_at
  of_turned n k k' other_way =
      in_list_o (λ e. back_at k e ∷ []) (bind_o (road_of same rs k.incoming) (meeting_end same n))
      (ap (λ o. bind_o o (meeting_end same n))
      (is_among same A rs once k.incoming other_way.road other_way.known)
      ∙ is_meeting n other_way.road k'.contact other_way.contact other_way.successor)
      (Memᴰ.head is)
    where
      listed_pairs : k'.pairs ≡ map swapped k.pairs
      listed_pairs = swapped_pairs k.pairs k'.pairs other_way.pairs

      is : k' ≡ back_at k k'.contact
      is = λ i. record {
        incoming = other_way.incoming i;
        connecting = other_way.connecting i;
        contact = k'.contact;
        pairs = listed_pairs i;
      }

  -- ---- all of them
  one_way_of : (ks : List Connection) (k : Connection) → not (some? (runs_back same k) ks) ≡ true → OneWay same ks k
  unfolding runs_back
  one_way_of ks k test o listed from-there into-here = true≢false (sym (some_in (runs_back same k) ks listed
      (and_both (same o.incoming k.connecting) (same o.connecting k.incoming) from-there into-here))
      ∙ not-true (some? (runs_back same k) ks) test)

  of_one_way : (ks : List Connection) (k : Connection) → OneWay same ks k → not (some? (runs_back same k) ks) ≡ true
  unfolding runs_back
  of_one_way ks k no_other = ap not (some_none (runs_back same k) ks (λ o listed runs. no_other o listed
      (and_left (same o.incoming k.connecting) (same o.connecting k.incoming) runs)
      (and_right (same o.incoming k.connecting) (same o.connecting k.incoming) runs)))

  abbrev alone : List Connection → Connection → Bool
  alone ks k = not (some? (runs_back same k) ks)

  pub reversed_means : (j : Junction) (k' : Connection) →
      k' ∈ reversed same rs j.name j.connections ↔ Turned same rs j k'
  unfolding reversed
  reversed_means j k' = (there, back)
    where
      ks : List Connection
      ks = j.connections

      there : k' ∈ reversed same rs j.name ks → Turned same rs j k'
      there added =
          let found = of_gather (back_of same rs j.name) (keep (alone ks) ks) added in
          let kept = of_keep (alone ks) ks found.1 in
          record {
            own = found.0;
            among = kept.0;
            one_way = one_way_of ks found.0 kept.1;
            turned = turned_of j.name found.0 k' found.2;
          }

      back : Turned same rs j k' → k' ∈ reversed same rs j.name ks
      back added = in_gather (back_of same rs j.name) (keep (alone ks) ks)
          (in_keep (alone ks) ks added.among (of_one_way ks added.own added.one_way))
          (of_turned j.name added.own k' added.turned)

  -- ---- a junction after repair
  nothing : (j : Junction) → (j.kind ≡ direct → ⊥) → (k' : Connection) →
      k' ∈ [] ↔ ((j.kind ≡ direct) × Turned same rs j k')
  nothing j other k' = (λ added. absurd (Memᴰ.not-nil added), λ added. absurd (other added.0))

  append_nil : {A : Type 0} (xs : List A) → xs ++ [] ≡ xs
  append_nil [] = refl
  append_nil {A} (x ∷ xs) = ap {B = List A} (λ l. x ∷ l) (append_nil xs)

  pub junction_means : (j : Junction) → JunctionAfter same rs j (repair_junction same rs j)
  unfolding repair_junction
  junction_means j = go j.kind refl
    where
      go : (x : JunctionKind) → j.kind ≡ x →
          JunctionAfter same rs j (record {
            name = j.name;
            kind = j.kind;
            connections = connections_after same x j.name j.connections rs;
          })
      go common is = record {
        name = refl;
        kind = refl;
        added = [];
        connections = sym (append_nil j.connections);
        just = nothing j (λ is-direct. false≢true (ap is_direct (sym is ∙ is-direct)));
      }
      go direct is = record {
        name = refl;
        kind = refl;
        added = reversed same rs j.name j.connections;
        connections = refl;
        just = λ k'. (λ added. (is, (reversed_means j k').0 added), λ added. (reversed_means j k').1 added.1);
      }
      go virtual is = record {
        name = refl;
        kind = refl;
        added = [];
        connections = sym (append_nil j.connections);
        just = nothing j (λ is-direct. false≢true (ap is_direct (sym is ∙ is-direct)));
      }

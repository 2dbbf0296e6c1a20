-- All of repair: every target that it adds is one that a connection implies and the roads lacked, and none lacks
-- after it.
use mathlib.Core.Path.{◌≡◌, refl, sym, ◌∙◌, ap, ap₂, subst}
use mathlib.Core.Bool.{Bool, true, false, not, ◌&&◌, ◌||◌, cond, true≢false, false≢true}
use mathlib.Core.Option.{Option, none, some}
use mathlib.Core.List.Memᴰ
use mathlib.Core.List.{List, [], ◌∷◌}
use mathlib.Core.Logic.{◌⊎◌, inl, inr}
use Rattle.model.specs.Lists.{bind_o, distinct, first, is_some, some?}
use Rattle.model.specs.Records.{Connection, Junction, JunctionKind, Map, Road, Span, Target, common, direct, virtual}
use Rattle.model.specs.Records.{target_at}
use Rattle.model.specs.Repair.{drop_along, in_virtual, is_virtual, junctions_over, missing_link, missing_links}
use Rattle.model.specs.Repair.{repair_roads}
use Rattle.model.specs.Repair.{roads_after, roads_over, start_roads, without_along}
use Rattle.laws.proofs.Basics.{no_some}
use Rattle.laws.proofs.ListTests.{and_both, and_left, and_right}
use Rattle.laws.proofs.RepairEach.{cleared}
use Rattle.laws.proofs.Valid.{Alike}
use Rattle.meaning.specs.Meaning.{◌∈◌, RoadAmong}
use Rattle.meaning.specs.Implied.{After, Cleared, Complete, EndAfter, Implies, InVirtual, Lacks, Left, Mended}
use Rattle.meaning.specs.Implied.{NamesAt, OfCommon, Pairwise, RowAfter, to_junction}
use Rattle.meaning.specs.Implied.EndAfter.{as_was, implied}
use Rattle.meaning.specs.Implied.Left.{absent, dropped, stays}
use Rattle.meaning.specs.Implied.Mended.{given, kept}
use Rattle.meaning.proofs.Inside.{first_in, first_none}
use Rattle.meaning.proofs.Lacking.{step_means}
use Rattle.meaning.proofs.Pairings.{pair_left, pairs_map, pairs_same, pairs_trans, pairs_weaken}
use Rattle.meaning.proofs.Places.{NamesOnce}
use Rattle.meaning.proofs.Turns.{junction_means}

abbrev SameName : Road → Road → Type 0
SameName r r' = r'.name ≡ r.name

-- ---- a road that may have got links to junctions, and lost none
record Grew (r r' : Road) : Type 0 where
  name : r'.name ≡ r.name
  kept_target : (e : Bool) (t : Target) → target_at e r ≡ some t → target_at e r' ≡ some t
  no_new_road : (e : Bool) (t : Target) → target_at e r' ≡ some t → t.is_junction ≡ false → target_at e r ≡ some t

grew_refl : (r : Road) → Grew r r
grew_refl r = record { name = refl; kept_target = λ e t there. there; no_new_road = λ e t there kind. there }

grew_trans : (a b c : Road) → Grew a b → Grew b c → Grew a c
grew_trans a b c one other = record {
  name = other.name ∙ one.name;
  kept_target = λ e t there. other.kept_target e t (one.kept_target e t there);
  no_new_road = λ e t there kind. one.no_new_road e t (other.no_new_road e t there kind) kind;
}

-- either end is this one or the other
at_end_lem : (P : Bool → Type 0) (e d : Bool) → P e → P (not e) → P d
at_end_lem P true true here there = here
at_end_lem P true false here there = there
at_end_lem P false true here there = there
at_end_lem P false false here there = here

vacant_before : (r r' : Road) (e : Bool) → Grew r r' → target_at e r' ≡ none → target_at e r ≡ none
vacant_before r r' e grew vacant = go (target_at e r) refl
  where
    go : (o : Option Target) → target_at e r ≡ o → o ≡ none
    go none there = refl
    go (some t) there = absurd (no_some t (sym vacant ∙ grew.kept_target e t there))

module _ (same : Span → Span → Bool) where
  names_grow : (n : Span) (e : Bool) (r r' : Road) → Grew r r' → NamesAt same n e r → NamesAt same n e r'
  names_grow n e r r' grew names = record {
    target = names.target;
    linked = grew.kept_target e names.target names.linked;
    junction = names.junction;
    named = names.named;
  }

  among_grew : (rs rs' : List Road) (n : Span) (r r' : Road) → r ∈ rs → Grew r r' → RoadAmong same rs' n r' →
      RoadAmong same rs n r
  among_grew rs rs' n r r' listed grew there =
      record { listed = listed; named = ap (λ x. same x n) (sym grew.name) ∙ there.named }

  -- ---- what lacks later lacked before
  implies_before : (rs rs' : List Road) (k : Connection) (e : Bool) → Pairwise Grew rs rs' → Implies same rs' k e →
      Implies same rs k e
  implies_before rs rs' k e grown later =
      let before = pair_left Grew rs rs' grown later.known.listed in
      record {
        connecting = before.0;
        known = among_grew rs rs' k.connecting before.0 later.connecting before.1 before.2
            later.known;
        link = later.link;
        linked = before.2.no_new_road k.contact later.link later.linked later.to_road;
        to_road = later.to_road;
        to_incoming = later.to_incoming;
        stated = later.stated;
        meets = later.meets;
      }

  lacks_before : (rs rs' : List Road) (n : Span) (k : Connection) (r r' : Road) (e : Bool) → Pairwise Grew rs rs' →
      r ∈ rs → Grew r r' → Lacks same rs' n k r' e → Lacks same rs n k r e
  lacks_before rs rs' n k r r' e grown listed grew later = record {
    incoming = among_grew rs rs' k.incoming r r' listed grew later.incoming;
    nowhere = λ d named. later.nowhere d (names_grow n d r r' grew named);
    implied = implies_before rs rs' k e grown later.implied;
    vacant = vacant_before r r' e grew later.vacant;
  }

  -- ---- one step
  mended_grew : (rs : List Road) (n : Span) (k : Connection) (r r' : Road) → Mended same rs n k r r' → Grew r r'
  mended_grew rs n k r r' (kept none-lacks there) = subst (Grew r) (sym there) (grew_refl r)
  mended_grew rs n k r r' (given e lacks made) = record {
    name = made.name;
    kept_target = λ d. at_end_lem (λ d. (t : Target) → target_at d r ≡ some t → target_at d r' ≡ some t) e d here other;
    no_new_road = new;
  }
    where
      here : (t : Target) → target_at e r ≡ some t → target_at e r' ≡ some t
      here t there = absurd (no_some t (sym lacks.vacant ∙ there))

      other : (t : Target) → target_at (not e) r ≡ some t → target_at (not e) r' ≡ some t
      other t there = made.other ∙ there

      new : (d : Bool) (t : Target) → target_at d r' ≡ some t → t.is_junction ≡ false → target_at d r ≡ some t
      new d =
          at_end_lem (λ d. (t : Target) → target_at d r' ≡ some t → t.is_junction ≡ false → target_at d r ≡ some t) e d
          (λ t there kind. let same_target : some (to_junction n e) ≡ some t = sym made.target ∙ there in
          let is : to_junction n e ≡ t = cc in absurd (true≢false (ap (λ (x : Target). x.is_junction) is ∙ kind)))
          (λ t there kind. sym made.other ∙ there)

  -- after it, the connection's link is lacking no more
  step_complete : (A : Alike same) (rs : List Road) → NamesOnce same rs → (n : Span) (k : Connection) (r' : Road)
      (e : Bool) → Lacks same (missing_link same n k rs) n k r' e → ⊥
  step_complete A rs once n k r' e lacking = go before.2
    where
      step : Pairwise (Mended same rs n k) rs (missing_link same n k rs)
      step = step_means same A rs once n k

      before : (r : Road) × (r ∈ rs) × Mended same rs n k r r'
      before = pair_left (Mended same rs n k) rs (missing_link same n k rs) step lacking.incoming.listed

      go : Mended same rs n k before.0 r' → ⊥
      go (kept none-lacks is) = none-lacks e (lacks_before rs (missing_link same n k rs) n k before.0 r' e
          (pairs_weaken (Mended same rs n k) Grew (mended_grew rs n k) rs (missing_link same n k rs) step) before.1
          (mended_grew rs n k before.0 r' before.2) lacking)
      go (given d lacks made) = lacking.nowhere d (record {
        target = to_junction n d;
        linked = made.target;
        junction = refl;
        named = A.same_refl n;
      })

  -- ---- names stay
  abbrev alike_names : Road → Road → Bool
  alike_names a b = same a.name b.name

  some_named : (r r' : Road) → SameName r r' → (rs rs' : List Road) → Pairwise SameName rs rs' →
      some? (alike_names r') rs' ≡ some? (alike_names r) rs
  some_named r r' name-kept [] [] kept-names = refl
  some_named r r' name-kept [] (x ∷ xs) kept-names = absurd kept-names
  some_named r r' name-kept (x ∷ xs) [] kept-names = absurd kept-names
  some_named r r' name-kept (x ∷ xs) (y ∷ ys) kept-names =
      let both : alike_names r' y ≡ alike_names r x = ap₂ same name-kept kept-names.0 in
      ap₂ (λ a b. a || b) both (some_named r r' name-kept xs ys kept-names.1)

  once_named : (rs rs' : List Road) → Pairwise SameName rs rs' → distinct alike_names rs' ≡ distinct alike_names rs
  once_named [] [] kept-names = refl
  once_named [] (x ∷ xs) kept-names = absurd kept-names
  once_named (x ∷ xs) [] kept-names = absurd kept-names
  once_named (x ∷ xs) (y ∷ ys) kept-names =
      ap₂ (λ a b. not a && b) (some_named x y kept-names.0 xs ys kept-names.1)
      (once_named xs ys kept-names.1)

  once_grew : (rs rs' : List Road) → Pairwise Grew rs rs' → NamesOnce same rs → NamesOnce same rs'
  once_grew rs rs' grown once =
      once_named rs rs' (pairs_weaken Grew SameName (λ r r' grew. grew.name) rs rs' grown) ∙ once

  -- ---- all connections, and all junctions, from the roads base on
  module _ (A : Alike same) (m : Map) (base : List Road) (once : NamesOnce same base) where
    record Came (r r' : Road) : Type 0 where
      grew : Grew r r'
      after : After same m base r r'

    came_grew : (rs : List Road) → Pairwise Came base rs → Pairwise Grew base rs
    came_grew rs came = pairs_weaken Came Grew (λ r r' one. one.grew) base rs came

    now_once : (rs : List Road) → Pairwise Came base rs → NamesOnce same rs
    now_once rs came = once_grew base rs (came_grew rs came) once

    came_step : (rs : List Road) → Pairwise Grew base rs → (n : Span) (k : Connection) → OfCommon m n k →
        (r r' r'' : Road) → r ∈ base → Came r r' → Mended same rs n k r' r'' → Came r r''
    came_step rs grown n k own r r' r'' listed came (kept none-lacks is) = subst (Came r) (sym is) came
    came_step rs grown n k own r r' r'' listed came (given e lacks made) = record {
      grew = grew_trans r r' r'' came.grew (mended_grew rs n k r' r'' (given e lacks made));
      after = record {
        ends = λ d. at_end_lem (EndAfter same m base r r'') e d
            (implied n k own (lacks_before base rs n k r r' e grown listed came.grew lacks) made.target)
            (other (came.after.ends (not e)));
        name = made.name ∙ came.after.name;
        junction = made.junction ∙ came.after.junction;
        sections = made.sections ∙ came.after.sections;
      };
    }
      where
        other : EndAfter same m base r r' (not e) → EndAfter same m base r r'' (not e)
        other (as_was is) = as_was (made.other ∙ is)
        other (implied x y own lacks is) = implied x y own lacks (made.other ∙ is)

    came_links : (n : Span) (ks : List Connection) → ((k : Connection) → k ∈ ks → OfCommon m n k) →
        (rs : List Road) → Pairwise Came base rs → Pairwise Came base (missing_links same n ks rs)
    came_links n [] own rs came = came
    came_links n (k ∷ ks) own rs came =
        came_links n ks (λ x later. own x (Memᴰ.tail later)) (missing_link same n k rs)
        (pairs_trans Came (Mended same rs n k) Came base rs (missing_link same n k rs)
        (came_step rs (came_grew rs came) n k (own k (Memᴰ.head refl))) came
        (step_means same A rs (now_once rs came) n k))

    -- a common junction's connections, and those of the others
    came_junction : (j : Junction) → j ∈ m.junctions → (rs : List Road) → Pairwise Came base rs →
        Pairwise Came base (repair_roads same j rs)
    unfolding repair_roads
    came_junction j listed rs came = go j.kind refl
      where
        go : (x : JunctionKind) → j.kind ≡ x →
            Pairwise Came base (roads_after same x j.name j.connections rs)
        go common kind = came_links j.name j.connections
            (λ k among. record { junction = j; listed = listed; kind = kind; named = refl; among = among }) rs came
        go direct kind = came
        go virtual kind = came

    came_over : (js : List Junction) → ((j : Junction) → j ∈ js → j ∈ m.junctions) → (rs : List Road) →
        Pairwise Came base rs → Pairwise Came base (roads_over same js rs)
    came_over [] inside rs came = came
    came_over (j ∷ js) inside rs came =
        came_over js (λ x later. inside x (Memᴰ.tail later)) (repair_roads same j rs)
        (came_junction j (inside j (Memᴰ.head refl)) rs came)

    came_start : Pairwise Came base base
    came_start = pairs_same Came (λ r. record {
      grew = grew_refl r;
      after = record { ends = λ e. as_was refl; name = refl; junction = refl; sections = refl };
    }) base

    -- the junctions, each with the roads as repaired so far
    came_rows : (js : List Junction) → ((j : Junction) → j ∈ js → j ∈ m.junctions) → (rs : List Road) →
        Pairwise Came base rs → Pairwise (RowAfter same m base) js (junctions_over same js rs)
    came_rows [] inside rs came = tt
    came_rows (j ∷ js) inside rs came = (
      record {
        now = rs;
        so_far = pairs_weaken Came (After same m base) (λ r r' one. one.after) base rs came;
        after = junction_means same A rs (now_once rs came) j;
      },
      came_rows js (λ x later. inside x (Memᴰ.tail later)) (repair_roads same j rs)
          (came_junction j (inside j (Memᴰ.head refl)) rs came),
    )

    pub rows_mean : Pairwise (RowAfter same m base) m.junctions (junctions_over same m.junctions base)
    rows_mean = came_rows m.junctions (λ j listed. listed) base came_start

    pub over_means : Pairwise (After same m base) base (roads_over same m.junctions base)
    over_means =
        pairs_weaken Came (After same m base) (λ r r' came. came.after) base
        (roads_over same m.junctions base)
        (came_over m.junctions (λ j listed. listed) base came_start)

  -- ---- none lacks after
  module _ (A : Alike same) where
    grew_step : (rs : List Road) → NamesOnce same rs → (n : Span) (k : Connection) →
        Pairwise Grew rs (missing_link same n k rs)
    grew_step rs once n k = pairs_weaken (Mended same rs n k) Grew (mended_grew rs n k) rs (missing_link same n k rs)
        (step_means same A rs once n k)

    grew_links : (n : Span) (ks : List Connection) (rs : List Road) → NamesOnce same rs →
        Pairwise Grew rs (missing_links same n ks rs)
    grew_links n [] rs once = pairs_same Grew grew_refl rs
    grew_links n (k ∷ ks) rs once =
        pairs_trans Grew Grew Grew rs (missing_link same n k rs) (missing_links same n ks (missing_link same n k rs))
        (λ a b c l. grew_trans a b c) (grew_step rs once n k)
        (grew_links n ks (missing_link same n k rs)
        (once_grew rs (missing_link same n k rs) (grew_step rs once n k) once))

    grew_junction : (j : Junction) (rs : List Road) → NamesOnce same rs → Pairwise Grew rs (repair_roads same j rs)
    unfolding repair_roads
    grew_junction j rs once = go j.kind
      where
        go : (x : JunctionKind) → Pairwise Grew rs (roads_after same x j.name j.connections rs)
        go common = grew_links j.name j.connections rs once
        go direct = pairs_same Grew grew_refl rs
        go virtual = pairs_same Grew grew_refl rs

    grew_over : (js : List Junction) (rs : List Road) → NamesOnce same rs → Pairwise Grew rs (roads_over same js rs)
    grew_over [] rs once = pairs_same Grew grew_refl rs
    grew_over (j ∷ js) rs once =
        pairs_trans Grew Grew Grew rs (repair_roads same j rs) (roads_over same js (repair_roads same j rs))
        (λ a b c l. grew_trans a b c) (grew_junction j rs once)
        (grew_over js (repair_roads same j rs) (once_grew rs (repair_roads same j rs) (grew_junction j rs once) once))

    -- what lacks among roads that grew from these lacks among these, for some road
    lacked : (rs rs' : List Road) (n : Span) (k : Connection) (r' : Road) (e : Bool) → Pairwise Grew rs rs' →
        Lacks same rs' n k r' e → (r : Road) × Lacks same rs n k r e
    lacked rs rs' n k r' e grown lacking =
        let before = pair_left Grew rs rs' grown lacking.incoming.listed in
        (before.0, lacks_before rs rs' n k before.0 r' e grown before.1 before.2 lacking)

    links_complete : (n : Span) (ks : List Connection) (rs : List Road) → NamesOnce same rs → (k : Connection) →
        k ∈ ks → (r : Road) (e : Bool) → Lacks same (missing_links same n ks rs) n k r e → ⊥
    links_complete n [] rs once k among r e lacking = Memᴰ.not-nil among
    links_complete n (c ∷ cs) rs once k among r e lacking = go (Memᴰ.cases_cons among)
        (λ later. links_complete n cs mid mid_once k later r e lacking)
      where
        mid : List Road
        mid = missing_link same n c rs

        mid_once : NamesOnce same mid
        mid_once = once_grew rs mid (grew_step rs once n c) once

        go : (k ≡ c) ⊎ (k ∈ cs) → (k ∈ cs → ⊥) → ⊥
        go (inr later) rest = rest later
        go (inl is) rest =
            let before = lacked mid (missing_links same n cs mid) n c r e (grew_links n cs mid mid_once)
            (subst (λ x. Lacks same (missing_links same n cs mid) n x r e) is lacking) in
            step_complete A rs once n c before.0 e before.1

    over_complete : (js : List Junction) (rs : List Road) → NamesOnce same rs → (j : Junction) → j ∈ js →
        j.kind ≡ common → (k : Connection) → k ∈ j.connections → (r : Road) (e : Bool) →
        Lacks same (roads_over same js rs) j.name k r e → ⊥
    over_complete [] rs once j listed kind k among r e lacking = Memᴰ.not-nil listed
    over_complete (i ∷ js) rs once j listed kind k among r e lacking =
        go (Memᴰ.cases_cons listed) (λ later. over_complete js mid mid_once j later kind k among r e lacking)
      where
        mid : List Road
        mid = repair_roads same i rs

        mid_once : NamesOnce same mid
        mid_once = once_grew rs mid (grew_junction i rs once) once

        its : j ≡ i → repair_roads same j rs ≡ missing_links same j.name j.connections rs
        its is = unfold repair_roads in ap (λ x. roads_after same x j.name j.connections rs) kind

        go : (j ≡ i) ⊎ (j ∈ js) → (j ∈ js → ⊥) → ⊥
        go (inr later) rest = rest later
        go (inl is) rest =
            let before = lacked mid (roads_over same js mid) j.name k r e (grew_over js mid mid_once) lacking in
            links_complete j.name j.connections rs once k among before.0 e
            (subst (λ rs. Lacks same rs j.name k before.0 e) (ap (λ x. repair_roads same x rs) (sym is) ∙ its is)
            before.1)

    pub complete : (m : Map) (rs : List Road) → NamesOnce same rs → Complete same m (roads_over same m.junctions rs)
    complete m rs once n k own r e lacking =
        over_complete m.junctions rs once own.junction own.listed own.kind k
        own.among r e
        (subst (λ x. Lacks same (roads_over same m.junctions rs) x k r e) (sym own.named) lacking)

  -- ---- before the first junction
  module _ (m : Map) (r : Road) where
    virtual_is : (x : JunctionKind) → is_virtual x ≡ true → x ≡ virtual
    virtual_is common test-passed = absurd (false≢true test-passed)
    virtual_is direct test-passed = absurd (false≢true test-passed)
    virtual_is virtual test-passed = refl

    is_virtual_lem : (x : JunctionKind) → x ≡ virtual → is_virtual x ≡ true
    is_virtual_lem x q = ap is_virtual q

    abbrev test : Span → Junction → Bool
    test n j = is_virtual j.kind && same j.name n

    in_virtual_lem : in_virtual same m.junctions r ≡ true → InVirtual same m r
    unfolding in_virtual
    in_virtual_lem test-passed = go r.junction refl test-passed
      where
        go : (o : Option Span) → r.junction ≡ o → is_some (bind_o o (λ n. first (test n) m.junctions)) ≡ true →
            InVirtual same m r
        go none belongs-to test-passed = absurd (false≢true test-passed)
        go (some n) belongs-to test-passed = found (first (test n) m.junctions) refl test-passed
          where
            found : (o : Option Junction) → first (test n) m.junctions ≡ o → is_some o ≡ true → InVirtual same m r
            found none first_found test-passed = absurd (false≢true test-passed)
            found (some j) first_found test-passed =
                let there = first_in (test n) m.junctions first_found in
                record {
                  of = n;
                  belongs = belongs-to;
                  junction = j;
                  listed = there.0;
                  kind = virtual_is j.kind (and_left (is_virtual j.kind) (same j.name n) there.1);
                  named = and_right (is_virtual j.kind) (same j.name n) there.1;
                }

    not_in_virtual : in_virtual same m.junctions r ≡ false → InVirtual same m r → ⊥
    unfolding in_virtual
    not_in_virtual test-failed inside = go (first (test inside.of) m.junctions) refl
        (sym (ap (λ o. is_some (bind_o o (λ n. first (test n) m.junctions))) inside.belongs) ∙ test-failed)
      where
        go : (o : Option Junction) → first (test inside.of) m.junctions ≡ o → is_some o ≡ false → ⊥
        go (some j) first_found None-found = true≢false None-found
        go none first_found None-found = first_none (test inside.of) m.junctions first_found inside.listed
            (and_both (is_virtual inside.junction.kind) (same inside.junction.name inside.of)
            (is_virtual_lem inside.junction.kind inside.kind) inside.named)

    left_inside : InVirtual same m r → (o : Option Target) → Left same m r o (drop_along o)
    left_inside inside none = absent
    left_inside inside (some t) = go t.along refl
      where
        go : (b : Bool) → t.along ≡ b → Left same m r (some t) (cond b none (some t))
        go true is = dropped t is inside
        go false is = stays t (λ along x. true≢false (sym along ∙ is))

    left_outside : (InVirtual same m r → ⊥) → (o : Option Target) → Left same m r o o
    left_outside outside none = absent
    left_outside outside (some t) = stays t (λ along x. outside x)

    pub start_cleared : Cleared same m r (without_along same m.junctions r)
    unfolding without_along
    start_cleared = go (in_virtual same m.junctions r) refl
      where
        inside : InVirtual same m r → (e : Bool) → Left same m r (target_at e r) (target_at e (cleared r))
        inside in_one true = left_inside in_one r.successor
        inside in_one false = left_inside in_one r.predecessor

        go : (b : Bool) → in_virtual same m.junctions r ≡ b → Cleared same m r (cond b (cleared r) r)
        go true is = record { left = inside (in_virtual_lem is); name = refl; junction = refl; sections = refl }
        go false is = record {
          left = λ e. left_outside (not_in_virtual is) (target_at e r);
          name = refl;
          junction = refl;
          sections = refl;
        }

  -- ---- the whole
  pub start_means : (m : Map) → Pairwise (Cleared same m) m.roads (start_roads same m)
  unfolding start_roads
  start_means m = pairs_map (Cleared same m) (without_along same m.junctions) (start_cleared m) m.roads

  pub start_once : (m : Map) → NamesOnce same m.roads → NamesOnce same (start_roads same m)
  start_once m once = once_named m.roads (start_roads same m)
      (pairs_weaken (Cleared same m) SameName (λ r r' clear. clear.name) m.roads (start_roads same m)
      (start_means m))
      ∙ once

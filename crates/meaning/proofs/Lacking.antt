-- One connection of a common junction: repair's step gives the roads just the link that it implies and they lack.
use mathlib.Core.Path.{◌≡◌, refl, sym, ◌∙◌, ap, subst}
use mathlib.Core.Bool.{Bool, true, false, not, ◌&&◌, ◌||◌, cond, true≢false, false≢true}
use mathlib.Core.Option.{Option, none, some}
use mathlib.Core.List.Memᴰ
use mathlib.Core.List.{List, [], ◌∷◌}
use borrow.Author.Tests.{not-true}
use Rattle.model.specs.Lists.{amend, bind_o, distinct, is_some, some?}
use Rattle.model.specs.Records.{Connection, Road, Span, Target, target_at}
use Rattle.model.specs.Repair.{back_end, link_at_end, linked, meets, missing_end, missing_link, names_junction}
use Rattle.model.specs.Repair.{put_target}
use Rattle.model.specs.Repair.{road_of, vacant_end}
use Rattle.laws.proofs.Basics.{no_some}
use Rattle.laws.proofs.ListTests.{and_both, and_left, and_right, or_left, or_right}
use Rattle.laws.proofs.Valid.{Alike}
use Rattle.meaning.specs.Meaning.{◌∈◌}
use Rattle.meaning.specs.Implied.{Implies, Lacks, Mended, NamesAt, Pairwise, WithTarget, to_junction}
use Rattle.meaning.specs.Implied.Mended.{given, kept}
use Rattle.meaning.proofs.Inside.{some_in}
use Rattle.meaning.proofs.Places.{NamesOnce, among_is, is_among, one_among}

-- ---- what an optional value was found by
pub of_bind_o : {A B : Type 0} (o : Option A) (f : A → Option B) {y : B} → bind_o o f ≡ some y →
    (x : A) × (o ≡ some x) × (f x ≡ some y)
of_bind_o none f {y} found = absurd (no_some y found)
of_bind_o (some x) f found = (x, refl, found)

of_unless : {A : Type 0} (b : Bool) (o : Option A) {y : A} → cond b none o ≡ some y → (b ≡ false) × (o ≡ some y)
of_unless true o {y} found = absurd (no_some y found)
of_unless false o found = (refl, found)

of_where : {A : Type 0} (b : Bool) (x : A) {y : A} → cond b (some x) none ≡ some y → (b ≡ true) × (x ≡ y)
of_where true x found = (refl, cc)
of_where false x {y} found = absurd (no_some y found)

-- ---- a road's ends
pub vacant_end_lem : (r : Road) (e d : Bool) → vacant_end r e ≡ some d → (target_at e r ≡ none) × (e ≡ d)
unfolding vacant_end
vacant_end_lem r e d found = go (target_at e r) (of_unless (is_some (target_at e r)) (some e) found)
  where
    go : (o : Option Target) → (is_some o ≡ false) × (some e ≡ some d) → (o ≡ none) × (e ≡ d)
    go none facts = let there = facts.1 in (refl, cc)
    go (some t) facts = absurd (true≢false facts.0)

pub end_vacant : (r : Road) (e : Bool) → target_at e r ≡ none → vacant_end r e ≡ some e
unfolding vacant_end
end_vacant r e vacant = ap (λ o. cond (is_some o) none (some e)) vacant

module _ (same : Span → Span → Bool) where
  pub names_at : (n : Span) (e : Bool) (r : Road) → names_junction same n (target_at e r) ≡ true → NamesAt same n e r
  names_at n e r names = go (target_at e r) refl names
    where
      go : (o : Option Target) → target_at e r ≡ o → names_junction same n o ≡ true → NamesAt same n e r
      go none is names = absurd (false≢true names)
      go (some t) is names = record {
        target = t;
        linked = is;
        junction = and_left t.is_junction (same t.name n) names;
        named = and_right t.is_junction (same t.name n) names;
      }

  pub at_names : (n : Span) (e : Bool) (r : Road) → NamesAt same n e r → names_junction same n (target_at e r) ≡ true
  at_names n e r there = ap (names_junction same n) there.linked
      ∙ and_both there.target.is_junction (same there.target.name n) there.junction there.named

  -- linked to it at neither end
  nowhere_of : (n : Span) (r : Road) → meets same n r ≡ false → (d : Bool) → NamesAt same n d r → ⊥
  unfolding meets
  nowhere_of n r meets-none false there = true≢false (sym (at_names n false r there)
      ∙ or_left (names_junction same n r.predecessor) (names_junction same n r.successor) meets-none)
  nowhere_of n r meets-none true there = true≢false (sym (at_names n true r there)
      ∙ or_right (names_junction same n r.predecessor) (names_junction same n r.successor) meets-none)

  of_nowhere : (n : Span) (r : Road) → ((d : Bool) → NamesAt same n d r → ⊥) → meets same n r ≡ false
  unfolding meets
  of_nowhere n r nowhere = go (names_junction same n r.predecessor) refl (names_junction same n r.successor) refl
    where
      go : (p : Bool) → names_junction same n r.predecessor ≡ p → (s : Bool) →
          names_junction same n r.successor ≡ s → p || s ≡ false
      go true start s end = absurd (nowhere false (names_at n false r start))
      go false start true end = absurd (nowhere true (names_at n true r end))
      go false start false end = refl

  -- ---- the end that a connection implies, and the road that lacks it
  module _ (A : Alike same) (rs : List Road) (once : NamesOnce same rs) (n : Span) (k : Connection) where
    implies_of : (t : Target) (e : Bool) → back_end same k.incoming t ≡ some e →
        (t.is_junction ≡ false) × (same t.name k.incoming ≡ true) × (t.given ≡ true) × (t.contact ≡ e)
    unfolding back_end
    implies_of t e shown =
        let found = of_where (not t.is_junction && same t.name k.incoming && t.given) t.contact shown in
        let front = and_left (not t.is_junction && same t.name k.incoming) t.given found.0 in (
          not-true t.is_junction (and_left (not t.is_junction) (same t.name k.incoming) front),
          and_right (not t.is_junction) (same t.name k.incoming) front,
          and_right (not t.is_junction && same t.name k.incoming) t.given found.0,
          found.1,
        )

    of_implies : (e : Bool) (implied : Implies same rs k e) → back_end same k.incoming implied.link ≡ some e
    unfolding back_end
    of_implies e implied =
        ap (λ b. cond b (some implied.link.contact) none) test ∙ ap {B = Option Bool} some implied.meets
      where
        test : not implied.link.is_junction && same implied.link.name k.incoming &&
            implied.link.given ≡ true
        test =
            and_both (not implied.link.is_junction && same implied.link.name k.incoming)
            implied.link.given
            (and_both (not implied.link.is_junction) (same implied.link.name k.incoming)
            (ap not implied.to_road) implied.to_incoming)
            implied.stated

    pub lacks_of : (e : Bool) → missing_end same rs n k ≡ some e → (r : Road) × Lacks same rs n k r e
    unfolding missing_end
    lacks_of e found-end =
        let shown =
        bind_o (bind_o (road_of same rs k.connecting) (target_at k.contact)) (back_end same k.incoming) in
        let incoming = of_bind_o (road_of same rs k.incoming) _ found-end in
        let r = incoming.0 in
        let free = of_unless (meets same n r) (bind_o shown (vacant_end r)) incoming.2 in
        let end = of_bind_o shown (vacant_end r) free.1 in
        let vacant = vacant_end_lem r end.0 e end.2 in
        let back = of_bind_o (bind_o (road_of same rs k.connecting) (target_at k.contact)) _ end.1 in
        let link = of_bind_o (road_of same rs k.connecting) _ back.1 in
        let facts = implies_of back.0 end.0 back.2 in (
          r,
          record {
            incoming = among_is same A rs k.incoming r incoming.1;
            nowhere = nowhere_of n r free.0;
            implied = record {
              connecting = link.0;
              known = among_is same A rs k.connecting link.0 link.1;
              link = back.0;
              linked = link.2;
              to_road = facts.0;
              to_incoming = facts.1;
              stated = facts.2;
              meets = facts.3 ∙ vacant.1;
            };
            vacant = subst (λ d. target_at d r ≡ none) vacant.1 vacant.0;
          },
        )

    pub of_lacks : (r : Road) (e : Bool) → Lacks same rs n k r e → missing_end same rs n k ≡ some e
    unfolding missing_end
    of_lacks r e lacking =
        ap (λ o. bind_o o λ r. cond (meets same n r) none (bind_o shown (vacant_end r)))
        (is_among same A rs once k.incoming r lacking.incoming)
        ∙ ap (λ b. cond b none (bind_o shown (vacant_end r))) (of_nowhere n r lacking.nowhere)
        ∙ ap (λ o. bind_o o (vacant_end r)) shows
        ∙ end_vacant r e lacking.vacant
      where
        shown : Option Bool
        shown = bind_o (bind_o (road_of same rs k.connecting) (target_at k.contact)) (back_end same k.incoming)

        shows : shown ≡ some e
        shows = ap (λ o. bind_o (bind_o o (target_at k.contact)) (back_end same k.incoming))
            (is_among same A rs once k.connecting lacking.implied.connecting lacking.implied.known)
            ∙ ap (λ o. bind_o o (back_end same k.incoming)) lacking.implied.linked
            ∙ of_implies e lacking.implied

    -- ---- the roads after it
    put_target_lem : (e : Bool) (r : Road) → WithTarget e (some (to_junction n e)) r (put_target e (linked n e) r)
    unfolding put_target linked
    put_target_lem true r = record { target = refl; other = refl; name = refl; junction = refl; sections = refl }
    put_target_lem false r = record { target = refl; other = refl; name = refl; junction = refl; sections = refl }

    pub step_means : Pairwise (Mended same rs n k) rs (missing_link same n k rs)
    unfolding missing_link
    step_means = go (missing_end same rs n k) refl
      where
        all_kept : ((r : Road) → r ∈ rs → (e : Bool) → Lacks same rs n k r e → ⊥) → (ys : List Road) →
            ((r : Road) → r ∈ ys → r ∈ rs) → Pairwise (Mended same rs n k) ys ys
        all_kept none-lacks [] inside = tt
        all_kept none-lacks (y ∷ ys) inside = (
          kept (none-lacks y (inside y (Memᴰ.head refl))) refl,
          all_kept none-lacks ys (λ r listed-there. inside r (Memᴰ.tail listed-there)),
        )

        go : (o : Option Bool) → missing_end same rs n k ≡ o
            → Pairwise (Mended same rs n k) rs (link_at_end same rs n k o)
        go none found-end =
            all_kept (λ r listed-there e lacking. no_some e (sym found-end ∙ of_lacks r e lacking)) rs
            (λ r listed-there. listed-there)
        go (some e) found-end = one rs once (λ r listed-there. listed-there)
          where
            incoming : Road → Bool
            incoming r = same r.name k.incoming

            lacks : (r : Road) → r ∈ rs → incoming r ≡ true → Lacks same rs n k r e
            lacks r listed named =
                let found = lacks_of e found-end in
                subst (λ x. Lacks same rs n k x e)
                (one_among same A rs once k.incoming found.0 r found.1.incoming
                (record { listed = listed; named = named }))
                found.1

            -- no other road has that name
            others : (y : Road) (ys : List Road) → incoming y ≡ true →
                distinct (λ a b. same a.name b.name) (y ∷ ys) ≡ true → (zs : List Road) →
                ((z : Road) → z ∈ zs → z ∈ ys) → Pairwise (Mended same rs n k) zs zs
            others y ys named apart [] inside = tt
            others y ys named apart (z ∷ zs) inside = (
              kept (λ d lacking.
                  true≢false (sym (some_in (λ b. same y.name b.name) ys
                  (inside z (Memᴰ.head refl))
                  (A.same_trans y.name k.incoming z.name named
                  (A.same_sym z.name k.incoming lacking.incoming.named)))
                  ∙ not-true (some? (λ b. same y.name b.name) ys)
                  (and_left (not (some? (λ b. same y.name b.name) ys))
                  (distinct (λ a b. same a.name b.name) ys) apart))) refl,
              others y ys named apart zs (λ x listed-there. inside x (Memᴰ.tail listed-there)),
            )

            one : (ys : List Road) → distinct (λ a b. same a.name b.name) ys ≡ true →
                ((r : Road) → r ∈ ys → r ∈ rs) →
                Pairwise (Mended same rs n k) ys (amend incoming (put_target e (linked n e)) ys)
            one [] apart inside = tt
            one (y ∷ ys) apart inside = bit (incoming y) refl (one ys
                (and_right (not (some? (λ b. same y.name b.name) ys))
                (distinct (λ a b. same a.name b.name) ys) apart)
                (λ r listed-there. inside r (Memᴰ.tail listed-there)))
              where
                bit : (b : Bool) → incoming y ≡ b →
                    Pairwise (Mended same rs n k) ys (amend incoming (put_target e (linked n e)) ys) →
                    Pairwise (Mended same rs n k) (y ∷ ys)
                    (cond b (put_target e (linked n e) y ∷ ys) (y ∷ amend incoming (put_target e (linked n e)) ys))
                bit true named rest = (
                  given e (lacks y (inside y (Memᴰ.head refl)) named) (put_target_lem e y),
                  others y ys named apart ys (λ z listed-there. listed-there),
                )
                bit false named rest =
                    (kept (λ d lacking. true≢false (sym lacking.incoming.named ∙ named)) refl, rest)

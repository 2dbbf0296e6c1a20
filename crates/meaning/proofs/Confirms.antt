-- Where both sides of every joint have their link, the Rust adds nothing but lanes entered against their travel.
use mathlib.Core.Path.{◌≡◌, refl, sym, ◌∙◌, subst}
use mathlib.Core.Bool.{Bool, false, true≢false}
use mathlib.Core.List.Memᴰ
use mathlib.Core.Logic.{◌⊎◌, inl, inr, ◌↔◌}
use Rattle.geometry.specs.declared.gap.Direction.{Direction}
use Rattle.geometry.specs.declared.gap.Direction.TheVariants.{Both}
use Rattle.model.specs.Records.{Junction, JunctionKind, Lane, Map, Span, Target, common, direct, virtual}
use Rattle.meaning.specs.Meaning.{◌∈◌, AgainstTravel, AtSomeEnds, EnteredAt, Follows, JunctionNamed, LeadsTo}
use Rattle.meaning.specs.Meaning.{LeftAt, LinkedTo, OpenDriveFollows, Stated}
use Rattle.meaning.specs.Meaning.LeadsTo.{onto, through, within}
use Rattle.meaning.specs.Confirmed.{AllConfirmed, Confirmed, ConfirmedIn, NoneDirect}
use Rattle.meaning.proofs.Differs.{both_entered, entered_or_not, included}

both_left : (d : Direction) (e : Bool) → d ≡ Both → LeftAt d e
both_left d e two = subst (λ d. LeftAt d e) (sym two) tt

module _ (same : Span → Span → Bool) (m : Map) where
  -- lane a, left at end e, leads to lane b, entered at end c, by a link that states its contact point
  abbrev pub LeadsStated : Lane → Bool → Lane → Bool → Type 0
  LeadsStated a e b c = (l : LeadsTo same m a e b c) × Stated same m l

  junction_listed : (n : Span) (j : Junction) → JunctionNamed same m n j → j ∈ m.junctions
  junction_listed n j there =
      subst (λ js. j ∈ js) (sym there.listed) (Memᴰ.append_right there.above (Memᴰ.head refl))

  module _ (C : AllConfirmed same m) (N : NoneDirect same m) where
    -- what leads there leads back
    pub leads_back : (a : Lane) (e : Bool) (b : Lane) (c : Bool) → a ∈ m.lanes → LeadsTo same m a e b c →
        LeadsStated b c a e
    leads_back a e b c listed (within way) = (within (C a e b c listed (within way)), tt)
    leads_back a e b c listed (onto way) =
        let back_link = C a e b c listed (onto way) in (onto back_link.back, back_link.stated)
    leads_back a e b c listed (through way) = go way.junction.kind refl (C a e b c listed (through way))
      where
        go : (x : JunctionKind) → way.junction.kind ≡ x → ConfirmedIn same m x way → LeadsStated b c a e
        go common is back_link = (onto back_link.1.back, back_link.1.stated)
        go virtual is back_link = (onto back_link.1.back, back_link.1.stated)
        go direct is back_link =
            absurd (N way.junction (junction_listed way.target.name way.junction way.known) is)

    leads_again : (a : Lane) (e : Bool) (b : Lane) (c : Bool) → a ∈ m.lanes → b ∈ m.lanes →
        LeadsTo same m a e b c → LeadsStated a e b c
    leads_again a e b c a_listed b-listed way = leads_back b c a e b-listed (leads_back a e b c a_listed way).0

    pub confirmed_split : (a b : Lane) → a ∈ m.lanes → b ∈ m.lanes →
        Follows same m a b ↔ (OpenDriveFollows same m a b ⊎ AtSomeEnds (AgainstTravel same m) a b)
    confirmed_split a b a_listed b-listed = (there, back)
      where
        there : Follows same m a b → OpenDriveFollows same m a b ⊎ AtSomeEnds (AgainstTravel same m) a b
        there (inl (e, c, drives)) = go (entered_or_not b.direction c)
          where
            go : EnteredAt b.direction c ⊎ (EnteredAt b.direction c → ⊥) →
                OpenDriveFollows same m a b ⊎ AtSomeEnds (AgainstTravel same m) a b
            go (inl into) =
                let again = leads_again a e b c a_listed b-listed drives.leads in
                inl (e, c, record { left = drives.left; leads = again.0; into = into; stated = again.1 })
            go (inr against) = inr (
              e,
              c,
              record {
                left = drives.left;
                leads = drives.leads;
                one_way = λ two. against (drives.into two);
                against = against;
              },
            )
        there (inr (two, two-b, (e, c, drives))) =
            let back = leads_back b e a c b-listed drives.leads in
            inl (
              c,
              e,
              record {
                left = both_left a.direction c two;
                leads = back.0;
                into = both_entered b.direction e two-b;
                stated = back.1;
              },
            )

        back : OpenDriveFollows same m a b ⊎ AtSomeEnds (AgainstTravel same m) a b → Follows same m a b
        back (inl drives) = included same m a b drives
        back (inr (e, c, drives)) =
            inl (
              e,
              c,
              record { left = drives.left; leads = drives.leads; into = λ two. absurd (drives.one_way two) },
            )

    -- both sides tell of every lane that follows
    pub both_sides : (a b : Lane) → a ∈ m.lanes → b ∈ m.lanes → Follows same m a b →
        AtSomeEnds (λ a e b c. LeadsTo same m a e b c × LeadsTo same m b c a e) a b
    both_sides a b a_listed b-listed (inl (e, c, drives)) =
        (e, c, (drives.leads, (leads_back a e b c a_listed drives.leads).0))
    both_sides a b a_listed b-listed (inr (two, two-b, (e, c, drives))) =
        (c, e, ((leads_back b e a c b-listed drives.leads).0, drives.leads))

  -- a lane whose road is linked to nothing confirms no joint with another road
  pub unconfirmed : (a b : Lane) → ((c : Bool) (t : Target) → LinkedTo same m b c t → ⊥) →
      same a.road b.road ≡ false → (e c : Bool) (l : LeadsTo same m a e b c) → Confirmed same m l → ⊥
  unconfirmed a b unlinked other e c (within way) confirmed = true≢false (sym confirmed.on ∙ other)
  unconfirmed a b unlinked other e c (onto way) confirmed =
      unlinked c confirmed.back.target confirmed.back.linked
  unconfirmed a b unlinked other e c (through way) confirmed = go way.junction.kind confirmed
    where
      go : (x : JunctionKind) → ConfirmedIn same m x way → ⊥
      go common confirmed = unlinked c confirmed.1.back.target confirmed.1.back.linked
      go virtual confirmed = unlinked c confirmed.1.back.target confirmed.1.back.linked
      go direct confirmed = unlinked c confirmed.target confirmed.linked

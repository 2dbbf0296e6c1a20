-- Names that are the same find the same road and the same sections; a listed section lies between the first and
-- the last.
use mathlib.Core.Path.{◌≡◌, refl, ap, fun_ext}
use mathlib.Core.Bool.{Bool, true}
use mathlib.Core.Option.{Option, none, some}
use mathlib.Core.List.{List}
use Prim.Native.Nat.{◌+◌, ◌≤◌}
use Rattle.model.specs.Lists.{first, head_or, last_or}
use Rattle.model.specs.Records.{Lane, Road, Span}
use Rattle.model.specs.Repair.{road_of}
use Rattle.model.specs.Succession.{sections_from, sections_of}
use Rattle.laws.proofs.Basics.{bool_ext, first_holds}
use Rattle.laws.proofs.ForEach.{each_member, first_each}
use Rattle.laws.proofs.Mirror.{Bounded, bounded}
use Rattle.laws.proofs.Valid.{Alike, Ascends, Each, Placed}

module _ (same : Span → Span → Bool) (A : Alike same) where
  pub same_comm : (a b : Span) → same a b ≡ same b a
  same_comm a b = bool_ext (same a b) (same b a) (A.same_sym a b) (A.same_sym b a)

  -- what is the same as one of two same names is the same as the other
  pub same_right : (a b x : Span) → same a b ≡ true → same x a ≡ same x b
  same_right a b x h =
      bool_ext (same x a) (same x b) (λ e. A.same_trans x a b e h)
      (λ e. A.same_trans x b a e (A.same_sym a b h))

  pub road_of_same : (rs : List Road) (a b : Span) → same a b ≡ true → road_of same rs a ≡ road_of same rs b
  unfolding road_of
  road_of_same rs a b h =
      ap {B = Option Road} (λ (p : Road → Bool). first p rs) (fun_ext (λ r. same_right a b r.name h))

  pub sections_of_same : (rs : List Road) (a b : Span) → same a b ≡ true → sections_of same rs a ≡ sections_of same rs b
  unfolding sections_of
  sections_of_same rs a b h = ap sections_from (road_of_same rs a b h)

module _ (same : Span → Span → Bool) where
  pub road_of_name : (rs : List Road) (n : Span) (r : Road) → road_of same rs n ≡ some r → same r.name n ≡ true
  unfolding road_of
  road_of_name rs n r q = first_holds (λ r. same r.name n) rs r q

  pub sections_of_ascends : (rs : List Road) (n : Span) → Each (λ r. Ascends r.sections) rs
      → Ascends (sections_of same rs n)
  unfolding sections_of road_of
  sections_of_ascends rs n h = go (first (λ r. same r.name n) rs) refl
    where
      go : (o : Option Road) → first (λ r. same r.name n) rs ≡ o → Ascends (sections_from o)
      go none q = tt
      go (some r) q = first_each (λ r. Ascends r.sections) (λ r. same r.name n) rs r h q

  pub sections_of_ascend : (rs : List Road) (n : Span) → Each (λ r. Ascends r.sections) rs
      → Bounded (sections_of same rs n)
  sections_of_ascend rs n h = bounded (sections_of same rs n) (sections_of_ascends rs n h)

  pub placed_bound : (rs : List Road) (l : Lane) → Each (λ r. Ascends r.sections) rs → Placed same rs l →
      l.section ≤ head_or 0 (sections_of same rs l.road) + last_or 0 (sections_of same rs l.road)
  placed_bound rs l h k =
      each_member (λ i. i ≤ head_or 0 (sections_of same rs l.road) + last_or 0 (sections_of same rs l.road))
      l.section (sections_of same rs l.road)
      (sections_of_ascend rs l.road h) k
